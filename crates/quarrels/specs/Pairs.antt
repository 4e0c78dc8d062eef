-- The first pair of places i < j < n, in the order of i and then of j, for which a test holds. Assumes nothing: these are definitions.
use Rattle.std.specs.Prelude.{Bool, cond, ℕ, zero, suc, ◌+◌, Option, Some, None}
use Rattle.quarrels.specs.declared.Pair.{Pair}

-- two places
abbrev pub pair : ℕ → ℕ → Pair
pair i j = record { earlier = i; later = j }

-- of the pairs of i with the k places from j on, or else what `later` says
unfoldable pub row_from : (ℕ → ℕ → Bool) → ℕ → ℕ → ℕ → Option Pair → Option Pair
row_from f i j zero later = later
row_from f i j (suc k) later = cond (f i j) (Some (pair i j)) (row_from f i (j + 1) k later)

-- of the pairs of the k places from i on
unfoldable pub pair_from : (ℕ → ℕ → Bool) → ℕ → ℕ → Option Pair
pair_from f i zero = None
pair_from f i (suc k) = row_from f i (i + 1) k (pair_from f (i + 1) k)

abbrev pub first_pair : (ℕ → ℕ → Bool) → ℕ → Option Pair
first_pair f n = pair_from f 0 n
