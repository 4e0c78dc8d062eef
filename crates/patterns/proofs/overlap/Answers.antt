use Rattle.std.proofs.Common.{rules, sym, ◌∙◌, refl}
use native.Mathlib.Omega.{arith}
use Rattle.std.proofs.lemmas.Iterator.{YieldsList-from_zip}
use Rattle.std.proofs.lemmas.Iterator.Consumers.{YieldsList-from_first, YieldsList-at}
use Rattle.std.proofs.lemmas.Iterator.Search.{all_from_yields_List}
use Rattle.names.specs.Name.{units}
use Rattle.names.proofs.NameLaws.{all_pairs, units_length}
use Rattle.patterns.specs.Common.{units_overlap}
use Rattle.patterns.proofs.CommonLaws.{overlap_pairs}
use Rattle.patterns.proofs.overlap.Goals as goal

pub returns : goal.returns
returns c =
    let p = c.args.p.now in
    let q = c.args.q.now in
    all_from_yields_List (λ b. units_overlap b.0 b.1) c.all.new.self _ _ c.all.ensures.ran
    (YieldsList-from_zip (YieldsList-at c.zip.ensures.first (YieldsList-from_first (λ u. u) (λ s. units s.0.now) _ refl))
    (YieldsList-at c.zip.ensures.second (YieldsList-from_first (λ u. u) (λ s. units s.0.now) _ refl))) (λ x b q k. search rules)
    ∙ all_pairs units_overlap _ _ (omega (arith, c.requires, units_length p, units_length q)) ∙ sym (overlap_pairs p q)
