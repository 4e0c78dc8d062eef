use Rattle.std.proofs.Common.{rules, sym, ap, ◌∙◌}
use Rattle.std.proofs.lemmas.Iterator.{YieldsList-from_slice}
use Rattle.std.proofs.lemmas.Iterator.Consumers.{YieldsList-from_first}
use Rattle.std.proofs.lemmas.Iterator.Search.{all_from_yields_List}
use Rattle.names.specs.Name.{units, each}
use Rattle.names.proofs.NameLaws.{blocks_yes, blocks_no, all_each}
use Rattle.names.proofs.each_unit.Goals as goal
use Rattle.names.proofs.each_unit.Goals.{then-all, else-all}

pub returns : goal.returns
returns g c t h =
    let blocks = all_from_yields_List (λ b. each t (units b)) _ _ _ c.all.ensures.ran (YieldsList-from_slice _ (c.iter.ensures.rest ∙ c.as_chunks.ensures.front)) (λ x b q k. search rules) in
    elim c.if-all.branch [
      | then-all w ↦ w.result-is
          ∙ all_from_yields_List t w.all-then-all.new.self _ _ w.all-then-all.ensures.ran (YieldsList-from_first (λ u. u) (λ s. units s.0.now) _ (ap units c.as_chunks.ensures.back)) (λ x b q k. search rules)
          ∙ all_each _ _ ∙ sym (blocks_yes 8 _ _ _ blocks w.if-all.true)
      | else-all w ↦ w.result-is ∙ blocks_no 8 _ _ _ blocks w.if-all.false
    ]
