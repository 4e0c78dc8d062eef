use Rattle.slices.specs.Test.{◌and◌}
use borrow.Author.Tests.{eq-eqb, ne_eqb, le-leb, lt-leb}
use Rattle.entry.specs.Entry.{lock_ok}
use Rattle.entry.proofs.lock_ok.Goals as goal

pub returns-then-kind-le2 : goal.returns-then-kind-le2
unfolding ◌and◌ lock_ok
returns-then-kind-le2 c = simp (← c.byte-kind.ensures, ← c.requires, le-leb _ _ c.if-kind-le2.true)

pub returns-then-kind-ne3 : goal.returns-then-kind-ne3
unfolding ◌and◌ lock_ok
returns-then-kind-ne3 c = simp (← c.byte-kind.ensures, ← c.requires, lt-leb _ _ c.if-kind-le2.false, ne_eqb _ _ c.if-kind-ne3.true)

pub returns-then-offset-lt-TRIGGER_NAME_AT : goal.returns-then-offset-lt-TRIGGER_NAME_AT
unfolding ◌and◌ lock_ok
returns-then-offset-lt-TRIGGER_NAME_AT c = simp (← c.byte-kind.ensures, ← c.requires, lt-leb _ _ c.if-kind-le2.false, eq-eqb _ _ c.if-kind-ne3.false, lt-leb _ _ c.if-offset-lt-TRIGGER_NAME_AT.true)

pub returns-then-e-offset : goal.returns-then-e-offset
unfolding ◌and◌ lock_ok
returns-then-e-offset c = simp (← c.byte-kind.ensures, ← c.requires, lt-leb _ _ c.if-kind-le2.false, eq-eqb _ _ c.if-kind-ne3.false, le-leb _ _ c.if-offset-lt-TRIGGER_NAME_AT.false, lt-leb _ _ c.if-e-offset.true)

pub returns : goal.returns
unfolding ◌and◌ lock_ok
returns c = simp (← c.byte-kind.ensures, ← c.requires, lt-leb _ _ c.if-kind-le2.false, eq-eqb _ _ c.if-kind-ne3.false, le-leb _ _ c.if-offset-lt-TRIGGER_NAME_AT.false, le-leb _ _ c.if-e-offset.false) c.is_plain_terminated.ensures
