use Rattle.std.proofs.Common.{rules, refl, ◌∙◌, ◌&&◌, true}
use native.Mathlib.Omega.{arith}
use Rattle.std.proofs.lemmas.Iterator.{YieldsList-from_zip}
use Rattle.std.proofs.lemmas.Iterator.Consumers.{fold_from_yields_List, YieldsList-from_first, YieldsList-at}
use Rattle.names.specs.Name.{units}
use Rattle.names.proofs.NameLaws.{fold_pairs, units_length}
use Rattle.names.proofs.eight_pairs.Goals as goal

pub returns : goal.returns
returns g c t h =
    fold_from_yields_List _ (λ ok p. ok && t p.0 p.1) true _ c.fold.ensures.ran
    (YieldsList-from_zip (YieldsList-at c.zip.ensures.first (YieldsList-from_first (λ u. u) (λ s. units s.0.now) _ refl))
    (YieldsList-at c.zip.ensures.second (YieldsList-from_first (λ u. u) (λ s. units s.0.now) _ refl)))
    (λ ok u b q k. search rules)
    ∙ fold_pairs t (units c.args.p.now) (units c.args.v.now) (search (rules, arith, units_length))
