use Rattle.std.proofs.Common.{rules, refl, ◌∙◌, eqb}
use Rattle.std.proofs.lemmas.Iterator.{YieldsList-from_map}
use Rattle.std.proofs.lemmas.Iterator.Consumers.{YieldsList-from_first, YieldsList-at, sum_by_from_yields_List, fits_by_from_yields_list}
use native.Mathlib.Omega.{arith}
use Rattle.names.specs.Name.{units, one_if}
use Rattle.names.proofs.NameLaws.{sum_wildcards, wildcards_le, units_length}
use Rattle.names.proofs.signs.Goals as goal

pub sum-requires-clause-fits : goal.sum-requires-clause-fits
sum-requires-clause-fits c =
    fits_by_from_yields_list (λ u. one_if (eqb u 0x23)) _ _ _
    (YieldsList-from_map _ (λ u. one_if (eqb u 0x23)) (YieldsList-at c.map.ensures.source (YieldsList-from_first (λ u. u) (λ s. units s.0.now) _ refl)) c.map.ensures.closure (λ x r q k. search rules))
    (omega (arith, sum_wildcards (units c.args.s.now), wildcards_le (units c.args.s.now), units_length c.args.s.now))

pub returns : goal.returns
returns c =
    sum_by_from_yields_List (λ u. one_if (eqb u 0x23)) _ _ _ c.sum.ensures.ran
    (YieldsList-from_map _ (λ u. one_if (eqb u 0x23)) (YieldsList-at c.map.ensures.source (YieldsList-from_first (λ u. u) (λ s. units s.0.now) _ refl)) c.map.ensures.closure (λ x r q k. search rules))
    ∙ sum_wildcards _
