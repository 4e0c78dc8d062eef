-- Items that stand end to end at the front of a list of bytes: the entries of a policy record, the records of a store.
-- An item is its bytes. `first` tells the length of the item that begins a list, and 0 where none does.
-- Assumes nothing: these are definitions.
use Rattle.std.specs.Prelude.{ℕ, zero, suc, List, [], ◌∷◌, ◌++◌, Bool, true, false, not, ◌||◌, cond, length, take}
use Rattle.std.proofs.Math.Option.{Option, none, some}
use Rattle.slices.specs.Test.{◌and◌}
use Rattle.slices.specs.Bytes.{Bytes, padded}
-- the items' bytes end to end
unfoldable pub use Rattle.lists.specs.Lists.{flat}

-- the item of n bytes that begins l, and those behind it; none where n is 0
abbrev pub next : ℕ → Bytes → (ℕ → List Bytes) → List Bytes
next zero l behind = []
next (suc n) l behind = take (suc n) l ∷ behind n

-- the items of the list after its first k bytes, up to the first place where none begins
unfoldable pub chunks_from : (Bytes → ℕ) → ℕ → Bytes → List Bytes
chunks_from first k [] = []
chunks_from first zero (b ∷ l) = next (first (b ∷ l)) (b ∷ l) (λ n. chunks_from first n l)
chunks_from first (suc k) (b ∷ l) = chunks_from first k l

unfoldable pub chunks : (Bytes → ℕ) → Bytes → List Bytes
chunks first l = chunks_from first 0 l

-- how many bytes the items take
unfoldable pub used : (Bytes → ℕ) → Bytes → ℕ
used first l = length (flat (chunks first l))

-- the items, then the byte v up to a length of n
unfoldable pub packed : ℕ → ℕ → List Bytes → Bytes
packed n v cs = padded n v (flat cs)

-- whether the test takes one of the items
unfoldable pub contains : (Bytes → Bool) → List Bytes → Bool
contains p [] = false
contains p (c ∷ cs) = p c || contains p cs

-- no item is like a later one
unfoldable pub distinct : (Bytes → Bytes → Bool) → List Bytes → Bool
distinct like [] = true
distinct like (c ∷ cs) = not (contains (like c) cs) and distinct like cs

-- the first item that the test takes
unfoldable pub find : (Bytes → Bool) → List Bytes → Option Bytes
find p [] = none
find p (c ∷ cs) = cond (p c) (some c) (find p cs)

-- the items without the first that the test takes
unfoldable pub remove : (Bytes → Bool) → List Bytes → List Bytes
remove p [] = []
remove p (c ∷ cs) = cond (p c) cs (c ∷ remove p cs)

-- the items with q in place of the first that the test takes
unfoldable pub replace : (Bytes → Bool) → Bytes → List Bytes → List Bytes
replace p q [] = []
replace p q (c ∷ cs) = cond (p c) (q ∷ cs) (c ∷ replace p q cs)

-- the items with q in place of the first that the test takes, or behind the last where it takes none
unfoldable pub replace_or_append : (Bytes → Bool) → Bytes → List Bytes → List Bytes
replace_or_append p q cs = cond (contains p cs) (replace p q cs) (cs ++ (q ∷ []))
