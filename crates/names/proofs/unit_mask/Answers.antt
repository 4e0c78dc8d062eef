use mathlib.Core.Path.{sym, ◌∙◌}
use Rattle.names.specs.Tail.{unit_mask}
use Rattle.names.proofs.unit_mask.Goals as goal

pub returns-then-is_hex_digit : goal.returns-then-is_hex_digit
unfolding unit_mask
returns-then-is_hex_digit c = rw (sym c.is_hex_digit.ensures ∙ c.if-is_hex_digit.true)

pub returns : goal.returns
unfolding unit_mask
returns c = rw (sym c.is_hex_digit.ensures ∙ c.if-is_hex_digit.false)
