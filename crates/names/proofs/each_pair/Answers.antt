use Rattle.std.proofs.Common.{rules, ap, sym, ◌∙◌}
use native.Mathlib.Omega.{arith}
use Rattle.std.proofs.lemmas.Iterator.{YieldsList-from_slice, YieldsList-from_zip}
use Rattle.std.proofs.lemmas.Iterator.Consumers.{YieldsList-from_first, YieldsList-at}
use Rattle.std.proofs.lemmas.Iterator.Search.{all_from_yields_List}
use Rattle.slices.specs.Bytes.{pairwise}
use Rattle.names.specs.Name.{units}
use Rattle.names.proofs.NameLaws.{pair_blocks_yes, pair_blocks_no, all_pairs, pairs_behind}
use Rattle.names.proofs.each_pair.Goals as goal
use Rattle.names.proofs.each_pair.Goals.{then-all, else-all}

pub returns : goal.returns
returns g c t h =
    let p = c.args.p.now in
    let v = c.args.v.now in
    let blocks = all_from_yields_List (λ b. pairwise t (units b.0) (units b.1)) c.all.new.self _ _ c.all.ensures.ran (YieldsList-from_zip (YieldsList-at c.zip.ensures.first (YieldsList-from_slice _ (c.iter.ensures.rest ∙ c.as_chunks.ensures.front))) (YieldsList-from_slice _ (c.zip.ensures.second.0 ∙ c.as_chunks-2.ensures.front))) (λ x b q k. search rules) in
    elim c.if-all.branch [
      | then-all w ↦ w.result-is
          ∙ all_from_yields_List (λ b. t b.0 b.1) w.all-then-all.new.self _ _ w.all-then-all.ensures.ran
          (YieldsList-from_zip (YieldsList-at w.zip-then-all.ensures.first (YieldsList-from_first (λ u. u) (λ s. units s.0.now) _ (ap units c.as_chunks.ensures.back)))
          (YieldsList-at w.zip-then-all.ensures.second (YieldsList-from_first (λ u. u) (λ s. units s.0.now) _ (ap units c.as_chunks-2.ensures.back)))) (λ x b q k. search rules)
          ∙ all_pairs t _ _ (pairs_behind p v c.requires.as_many) ∙ sym (pair_blocks_yes t _ _ p v c.requires.as_many (omega (arith, c.requires.as_many)) blocks w.if-all.true)
      | else-all w ↦ w.result-is ∙ pair_blocks_no t _ _ p v c.requires.as_many (omega (arith, c.requires.as_many)) blocks w.if-all.false
    ]
