-- Lists of entries: tests of each and of each two, bytes end to end, and the entry that is chosen
use Rattle.std.specs.Prelude.{◌≡◌, List, [], ◌∷◌, ◌++◌, Bool, true, false, ◌||◌, ◌⊎◌, ℕ, length, drop, ltb}
use Rattle.std.proofs.Math.Option.{Option, none, some}

-- of each
pub data All {A : Type 0} (P : A → Type 0) : List A → Type 0 where
  nil : All P []
  more : {a : A} {l : List A} → P a → All P l → All P (a ∷ l)

module _ {A : Type 0} where
  -- a stands in the list
  abbrev pub Among : A → List A → Type 0
  Among a [] = ⊥
  Among a (x ∷ l) = (a ≡ x) ⊎ Among a l

  -- of each two, the earlier first
  abbrev pub Pairs : (A → A → Type 0) → List A → Type 0
  Pairs R [] = Unit
  Pairs R (a ∷ l) = All (R a) l × Pairs R l

  abbrev pub any : (A → Bool) → List A → Bool
  any p [] = false
  any p (a ∷ l) = p a || any p l

  -- lists end to end
  unfoldable pub flat : List (List A) → List A
  flat [] = []
  flat (e ∷ es) = e ++ flat es

  -- the entries end to end over the first bytes of a buffer, its later bytes as they were
  abbrev pub over : List (List A) → List A → List A
  over es b = flat es ++ drop (length (flat es)) b

-- The choice (RULES.md, 4.3): of those that target, one of lowest rank, and of these the first in the list
module _ {A : Type 0} (rank : A → ℕ) (targets : A → Bool) where
  -- of the best so far and the next one, by whether the next ranks lower
  abbrev pub lower : A → A → Bool → Option A
  lower b a true = some a
  lower b a false = some b

  -- and by whether it targets
  abbrev pub better : Option A → A → Bool → Option A
  better b a false = b
  better none a true = some a
  better (some b) a true = lower b a (ltb (rank a) (rank b))

  abbrev pub best : Option A → List A → Option A
  best b [] = b
  best b (a ∷ l) = best (better b a (targets a)) l

  abbrev pub chosen : List A → Option A
  chosen = best none

  -- two that do not both target at one rank
  abbrev pub RanksDiffer : A → A → Type 0
  RanksDiffer a b = targets a ≡ true → targets b ≡ true → rank a ≡ rank b → ⊥
