use mathlib.Core.Path.{◌∙◌}
use Rattle.slices.proofs.TestLaws.{and_yes}
use Rattle.names.proofs.is_name.Goals as goal

pub returns : goal.returns
returns c = c.check_name.ensures ∙ and_yes _
