use Rattle.slices.specs.Test.{◌and◌}
use borrow.Author.Tests.{lt-leb, le-leb}
use Rattle.set.proofs.size_allowed.Goals as goal

pub returns-then-length-min : goal.returns-then-length-min
unfolding ◌and◌
returns-then-length-min c = simp (lt-leb _ _ c.if-length-min.true)

pub returns : goal.returns
unfolding ◌and◌
returns c = simp (le-leb _ _ c.if-length-min.false)
