use Rattle.slices.specs.Test.{◌and◌}
use borrow.Author.Tests.{eq-eqb, ne_eqb, le-leb, lt-leb}
use Rattle.entry.specs.Entry.{name_ok}
use Rattle.entry.proofs.name_ok.Goals as goal

pub returns-then-offset-e-2 : goal.returns-then-offset-e-2
unfolding ◌and◌ name_ok
returns-then-offset-e-2 c = simp (← c.requires, le-leb _ _ c.if-offset-e.true, eq-eqb _ _ c.if-offset-e-2.true)

pub returns-else-offset-e-2 : goal.returns-else-offset-e-2
unfolding ◌and◌ name_ok
returns-else-offset-e-2 c = simp (← c.requires, le-leb _ _ c.if-offset-e.true, ne_eqb _ _ c.if-offset-e-2.false) c.is_terminated.ensures

pub returns-else-offset-e : goal.returns-else-offset-e
unfolding ◌and◌ name_ok
returns-else-offset-e c = simp (← c.requires, lt-leb _ _ c.if-offset-e.false)
