use Rattle.slices.specs.Test.{◌and◌}
use borrow.Author.Tests.{eq-eqb, ne_eqb}
use Rattle.set.proofs.attributes_allowed.Goals as goal

pub returns-then-must-attributes : goal.returns-then-must-attributes
unfolding ◌and◌
returns-then-must-attributes c = simp (ne_eqb _ _ c.if-must-attributes.true)

pub returns : goal.returns
unfolding ◌and◌
returns c = simp (eq-eqb _ _ c.if-must-attributes.false)
