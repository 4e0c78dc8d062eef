-- A hash of bytes, for the filters that find repeated names. Any function of the bytes would do.
-- Assumes nothing: these are definitions.
use Rattle.std.specs.Prelude.{ℕ, ◌+◌, ◌*◌, ◌%◌, [], ◌∷◌}
use Rattle.slices.specs.Bytes.{Bytes}

-- a hash and a number more
abbrev pub mixed : ℕ → ℕ → ℕ
mixed h n = h % 4294967296 * 2654435761 + n

-- a hash of h and a list of bytes, four at a time and then two; an odd last byte does not count
unfoldable pub hash_from : ℕ → Bytes → ℕ
hash_from h [] = h
hash_from h (a ∷ []) = h
hash_from h (a ∷ b ∷ []) = mixed h (a + 256 * b)
hash_from h (a ∷ b ∷ c ∷ []) = mixed h (a + 256 * b)
hash_from h (a ∷ b ∷ c ∷ d ∷ l) = hash_from (mixed h (a + 256 * b + 65536 * (c + 256 * d))) l
