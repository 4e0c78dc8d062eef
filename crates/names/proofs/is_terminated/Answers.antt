use mathlib.Core.Path.{◌∙◌}
use Rattle.slices.proofs.TestLaws.{and_yes}
use Rattle.names.proofs.is_terminated.Goals as goal

pub returns : goal.returns
returns c = c.check_terminated.ensures ∙ and_yes _
