-- Lists of bytes: little-endian numbers, parts, equality, and a copy over part of a list.
-- Assumes nothing: these are definitions.
use Rattle.std.specs.Prelude.{ℕ, ◌+◌, ◌-◌, ◌*◌, ◌/◌, ◌%◌, ◌<◌, List, [], ◌∷◌, ◌++◌, Bool, true, false, length, get_or, take, drop, replicate, eqb}
use Rattle.lists.specs.Lists.{All}
use Rattle.slices.specs.Test.{◌and◌}

abbrev pub Bytes : Type 0
Bytes = List ℕ

-- each number is a byte
abbrev pub AreBytes : Bytes → Type 0
AreBytes = All (λ b. b < 256)

-- the number that the two, four or eight bytes from a place on spell, the lowest first; a byte past the end counts as 0
unfoldable pub le16 : Bytes → ℕ → ℕ
le16 s at = get_or s at 0 + 256 * get_or s (at + 1) 0

unfoldable pub le32 : Bytes → ℕ → ℕ
le32 s at = le16 s at + 65536 * le16 s (at + 2)

unfoldable pub le64 : Bytes → ℕ → ℕ
le64 s at = le32 s at + 4294967296 * le32 s (at + 4)

-- the two, or four, bytes of a number, the lowest first
unfoldable pub le16_bytes : ℕ → Bytes
le16_bytes n = (n % 256) ∷ (n / 256 % 256) ∷ []

unfoldable pub le32_bytes : ℕ → Bytes
le32_bytes n = (n % 256) ∷ (n / 256 % 256) ∷ (n / 65536 % 256) ∷ (n / 16777216 % 256) ∷ []

-- the bytes from a up to, not including, e
abbrev pub part : ℕ → ℕ → Bytes → Bytes
part a e s = take (e - a) (drop a s)

-- as many in both, and the test holds of each pair
unfoldable pub pairwise : (ℕ → ℕ → Bool) → Bytes → Bytes → Bool
pairwise f [] [] = true
pairwise f [] (y ∷ ys) = false
pairwise f (x ∷ xs) [] = false
pairwise f (x ∷ xs) (y ∷ ys) = f x y and pairwise f xs ys

-- the two lists are equal
abbrev pub same : Bytes → Bytes → Bool
same = pairwise eqb

-- every byte is v
unfoldable pub all_are : ℕ → Bytes → Bool
all_are v [] = true
all_are v (b ∷ l) = eqb b v and all_are v l

-- l with the bytes of v in place of its own from index at on
unfoldable pub overwrite : Bytes → ℕ → Bytes → Bytes
overwrite l at v = take at l ++ v ++ drop (at + length v) l

-- l, then the byte v up to a length of n
unfoldable pub padded : ℕ → ℕ → Bytes → Bytes
padded n v l = l ++ replicate (n - length l) v
