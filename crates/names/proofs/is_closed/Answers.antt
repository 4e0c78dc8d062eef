use Rattle.slices.specs.Test.{◌and◌}
use borrow.Author.Tests.{eq-eqb, ne_eqb, le-leb, lt-leb}
use Rattle.names.proofs.is_closed.Goals as goal

pub returns-then-n-lt2 : goal.returns-then-n-lt2
unfolding ◌and◌
returns-then-n-lt2 c = simp (lt-leb _ _ c.if-n-lt2.true)

pub returns-then-s-n-ne0 : goal.returns-then-s-n-ne0
unfolding ◌and◌
returns-then-s-n-ne0 c = simp (le-leb _ _ c.if-n-lt2.false, ne_eqb _ _ c.if-s-n-ne0.true)

pub returns : goal.returns
unfolding ◌and◌
returns c = simp (le-leb _ _ c.if-n-lt2.false, eq-eqb _ _ c.if-s-n-ne0.false)
