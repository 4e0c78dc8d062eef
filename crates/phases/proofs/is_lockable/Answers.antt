use mathlib.Core.Path.{refl, ap}
use lib.Dec.{eqb}
use Rattle.slices.proofs.TestLaws.{first_fails, first_holds}
use mathlib.Core.Bool.{not}
use Rattle.phases.proofs.is_lockable.Goals as goal

pub returns-then-not-is_name : goal.returns-then-not-is_name
returns-then-not-is_name c = first_fails _ refl c.is_name.ensures (ap not c.if-not-is_name.true)

pub returns : goal.returns
returns c = first_holds _ refl c.is_name.ensures (ap not c.if-not-is_name.false) (ap (λ n. eqb n 0) c.wildcards.ensures)
