use Rattle.rules.specs.Set.{exists}
use Rattle.set.proofs.LockRules.{exists_at}
use mathlib.Core.Path.{sym, ap, ◌∙◌}
use Rattle.settled.proofs.variable_exists.Goals as goal

pub returns : goal.returns
returns c = c.is_somewhere.ensures ∙ sym (exists_at _ _ c.locate.result) ∙ ap exists c.locate.ensures.is
