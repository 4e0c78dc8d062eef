-- Where a walk over the entries of a policy record stands, and what it may leave out. Assumes nothing: these are definitions.
use Rattle.std.specs.Prelude.{ℕ, ◌+◌, ◌≤◌, ◌<◌, ◌≡◌, List, Option, length, get_or, take, drop}
use Rattle.limits.specs.Limits.{max_entries}
use Rattle.slices.specs.Bytes.{Bytes}
use Rattle.slices.specs.Chunks.{flat}
use Rattle.names.specs.Name.{Variable}
use Rattle.policy.specs.declared.Chosen.{Chosen}
use Rattle.policy.specs.Policy.{entries_of}
use Rattle.policy.specs.Choice.{choice_from}

-- the walk has come to the entry at index i, whose first byte is at
pub record At (p : Bytes) (i at : ℕ) : Type 0 where
  pub within : at ≤ length p
  pub met : i ≤ length (entries_of p)
  pub rest : drop i (entries_of p) ≡ entries_of (drop at p)
  pub sum : length (flat (take i (entries_of p))) ≡ at

-- where each of the entries ends, no more of them than a record may have
pub record EntryEnds (ends : List ℕ) (p : Bytes) : Type 0 where
  pub few : length (entries_of p) ≤ max_entries
  pub end : (k : ℕ) → k < length (entries_of p) → get_or ends k 0 ≡ length (flat (take (k + 1) (entries_of p)))

-- the first byte of the entry at index i
abbrev pub start_of : Bytes → ℕ → ℕ
start_of p i = length (flat (take i (entries_of p)))

-- whatever is the best so far at index i, the choice is what it becomes from index j on
abbrev pub Passed : Bytes → Variable → ℕ → ℕ → ℕ → ℕ → Type 0
Passed p v i at j to = (best : Option Chosen) → choice_from best i at (drop i (entries_of p)) v ≡ choice_from best j to (drop j (entries_of p)) v

-- so from one entry to another, or behind the last, where no more is chosen
abbrev pub PassedTo : Bytes → Variable → ℕ → ℕ → Type 0
PassedTo p v i j = Passed p v i (start_of p i) j (start_of p j)

abbrev pub PassedAll : Bytes → Variable → ℕ → Type 0
PassedAll p v i = (best : Option Chosen) → choice_from best i (start_of p i) (drop i (entries_of p)) v ≡ best
