-- The choice as the three numbers that the code holds while it walks, the rank `no_rank` standing for none.
-- Assumes nothing: this is a definition.
use Rattle.std.specs.Prelude.{ℕ, not, Option, eqb}
use Rattle.std.specs.Bool.{then_some}
use Rattle.limits.specs.Limits.{no_rank}
use Rattle.policy.specs.declared.Chosen.{Chosen}

unfoldable pub as_choice : ℕ → ℕ → ℕ → Option Chosen
as_choice rank index at = then_some (not (eqb rank no_rank)) (record { index = index; at = at; rank = rank })
