use mathlib.Core.Path.{◌∙◌}
use mathlib.Core.Bool.{true, ◌&&◌}
use lib.Dec.{eqb}
use Rattle.std.proofs.Common.{rules, tests}
use Rattle.std.proofs.lemmas.Iterator.{YieldsList-from_slice}
use Rattle.std.proofs.lemmas.Iterator.Consumers.{fold_from_yields_List}
use Rattle.slices.specs.Test.{◌and◌}
use Rattle.slices.proofs.BytesLaws.{all_are-fold}
use Rattle.slices.proofs.all_are.Goals as goal

pub returns : goal.returns
unfolding ◌and◌
returns c =
    let a = c.args in
    fold_from_yields_List _ (λ ok b. ok && eqb b a.v) true _ c.fold.ensures.ran (YieldsList-from_slice a.s.now cc) (λ ok x b q k. search (rules, tests))
    ∙ all_are-fold true a.v a.s.now
