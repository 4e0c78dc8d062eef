use mathlib.Core.Path.{◌∙◌}
use Rattle.slices.specs.Test.{◌and◌}
use borrow.Author.Tests.{eq-eqb, ne_eqb}
use Rattle.reader.proofs.repeats.Goals as goal

pub returns-then-seen-eq255 : goal.returns-then-seen-eq255
unfolding ◌and◌
returns-then-seen-eq255 c = c.has_target.ensures ∙ rw (eq-eqb _ _ c.if-seen-eq255.true)

pub returns-then-seen-fingerprint : goal.returns-then-seen-fingerprint
unfolding ◌and◌
returns-then-seen-fingerprint c = c.has_target-then-seen-fingerprint.ensures ∙ rw (ne_eqb _ _ c.if-seen-eq255.false, eq-eqb _ _ c.if-seen-fingerprint.true)

pub returns : goal.returns
unfolding ◌and◌
returns c = rw (ne_eqb _ _ c.if-seen-eq255.false, ne_eqb _ _ c.if-seen-fingerprint.false)
