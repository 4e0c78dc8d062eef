use mathlib.Core.Path.{sym, ap, ◌∙◌}
use Rattle.slices.specs.Hash.{mixed}
use Rattle.slices.proofs.Hashed.{two, none}
use Rattle.slices.proofs.few_mixed.Goals as goal

pub returns-then-s-ge2 : goal.returns-then-s-ge2
returns-then-s-ge2 c = c.mixed.ensures ∙ ap (mixed c.args.h) c.get16.ensures.is ∙ sym (two c.args.h c.args.s.now c.requires c.if-s-ge2.true)

pub returns-else-s-ge2 : goal.returns-else-s-ge2
returns-else-s-ge2 c = sym (none c.args.h c.args.s.now c.if-s-ge2.false)
