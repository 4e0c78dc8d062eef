use borrow.Author.Tests.{eq-eqb, ne_eqb}
use Rattle.names.specs.Name.{number_sign}
use Rattle.patterns.specs.Literals.{literal_mask}
use Rattle.patterns.proofs.literal_mask.Goals as goal

pub returns-then-u-eq35 : goal.returns-then-u-eq35
unfolding literal_mask
returns-then-u-eq35 c = rw (eq-eqb _ number_sign c.if-u-eq35.true)

pub returns-else-u-eq35 : goal.returns-else-u-eq35
unfolding literal_mask
returns-else-u-eq35 c = rw (ne_eqb _ number_sign c.if-u-eq35.false)
