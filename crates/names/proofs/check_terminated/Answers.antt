use mathlib.Core.Path.{sym, ◌∙◌}
use Rattle.slices.proofs.TestLaws.{first_fails, first_holds}
use Rattle.names.proofs.NameLaws.{terminated_tests, closed_least}
use mathlib.Core.Bool.{not}
use mathlib.Core.Path.{ap}
use Rattle.names.proofs.check_terminated.Goals as goal

pub returns-then-not-is_closed : goal.returns-then-not-is_closed
returns-then-not-is_closed c =
    let a = c.args in
    first_fails _ (terminated_tests a.s.now a.signs) c.is_closed.ensures (ap not c.if-not-is_closed.true)

pub slice_bounds-check_name-count : goal.slice_bounds-check_name-count
slice_bounds-check_name-count c = closed_least c.args.s.now (sym c.is_closed.ensures ∙ c.if-not-is_closed.false)

pub returns : goal.returns
returns c =
    let a = c.args in
    first_holds _ (terminated_tests a.s.now a.signs) c.is_closed.ensures (ap not c.if-not-is_closed.false) c.check_name.ensures
