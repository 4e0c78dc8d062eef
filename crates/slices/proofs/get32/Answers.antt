use mathlib.Core.Path.{sym, ◌∙◌}
use Rattle.slices.proofs.NumberLaws.{le32_four}
use Rattle.slices.proofs.get32.Goals as goal

pub returns-clause-is : goal.returns-clause-is
returns-clause-is c = c.from_le_bytes.ensures ∙ sym (le32_four c.args.s.now c.args.at)
