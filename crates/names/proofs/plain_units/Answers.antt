use Rattle.std.proofs.Common.{rules, sym, ap, ◌∙◌}
use Rattle.std.proofs.lemmas.Iterator.Consumers.{YieldsList-from_first}
use Rattle.std.proofs.lemmas.Iterator.Search.{all_from_yields_List}
use native.Mathlib.Nat.{le_refl}
use Rattle.slices.proofs.PartLaws.{part_rest}
use Rattle.names.specs.Name.{units, plain_unit}
use Rattle.names.proofs.NameLaws.{all_each}
use Rattle.names.proofs.plain_units.Goals as goal

pub returns : goal.returns
returns c =
    all_from_yields_List plain_unit c.all.new.self _ _ c.all.ensures.ran (YieldsList-from_first (λ u. u) (λ s. units s.0.now) _ (ap units (part_rest c.clear_length.result _ c.args.s.now (le_refl _)))) (λ x b q k. search rules)
    ∙ all_each _ _ ∙ sym c.clear_length.ensures.behind
