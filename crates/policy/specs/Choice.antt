-- Which policy speaks: of the entries that target a variable the one of lowest rank, the first registered among equals.
-- Assumes nothing: these are definitions.
use Rattle.std.specs.Prelude.{ℕ, suc, ◌+◌, List, [], ◌∷◌, Bool, true, cond, length, ltb, Option, Some, None}
use Rattle.std.proofs.Math.Option as maybe
use Rattle.lists.specs.Lists as lists
use Rattle.slices.specs.Test.{◌and◌}
use Rattle.slices.specs.Bytes.{Bytes, same}
use Rattle.names.specs.Name.{Variable}
use Rattle.entry.specs.Entry.{targets, rank}
use Rattle.policy.specs.declared.Chosen.{Chosen}

-- the chosen entry of a list, or none
unfoldable pub chosen : List Bytes → Variable → maybe.Option Bytes
chosen es v = lists.chosen rank (λ e. targets e v) es

-- the place of an entry in a list, counted from 0; the length where it does not stand there
unfoldable pub place_of : List Bytes → Bytes → ℕ
place_of [] e = 0
place_of (x ∷ es) e = cond {A = ℕ} (same x e) 0 (suc (place_of es e))

-- The choice with its place in the list, its first byte and its rank, as the code answers it.
abbrev pub chosen_at : ℕ → ℕ → ℕ → Option Chosen
chosen_at index at rank = Some (record { index = index; at = at; rank = rank })

-- a rank is better than the best so far: lower
abbrev pub beats : ℕ → Option Chosen → Bool
beats r None = true
beats r (Some best) = ltb r best.rank

unfoldable pub better : Option Chosen → ℕ → ℕ → Bytes → Variable → Option Chosen
better best index at e v = cond (targets e v and beats (rank e) best) (chosen_at index at (rank e)) best

-- the best of the entries from the index-th on, the first of which starts at the byte at
unfoldable pub choice_from : Option Chosen → ℕ → ℕ → List Bytes → Variable → Option Chosen
choice_from best index at [] v = best
choice_from best index at (e ∷ es) v = choice_from (better best index at e v) (index + 1) (at + length e) es v

abbrev pub choice_of : List Bytes → Variable → Option Chosen
choice_of es v = choice_from None 0 0 es v
