-- '#' in the bytes of a pattern or of a whole dump. Assumes nothing: these are definitions.
use Rattle.std.specs.Prelude.{ℕ, ◌+◌, ◌≡◌, Bool, true, false, not, ◌||◌, drop, eqb}
use Rattle.slices.specs.Bytes.{Bytes}
use Rattle.names.specs.Name.{units, wildcards}

-- a unit of the bytes is '#'
abbrev pub has_sign : Bytes → Bool
has_sign s = not (eqb (wildcards (units s)) 0)

-- of two blocks, the first j bytes from i on and from k on: a '#' was met in one, or what is behind decides in both
abbrev pub EitherSign : Bytes → ℕ → ℕ → ℕ → Bool → Type 0
EitherSign s i k j met =
    (met ≡ true → (has_sign (drop i s) || has_sign (drop k s)) ≡ true)
    × (met ≡ false → (has_sign (drop i s) ≡ has_sign (drop (i + j) s)) × (has_sign (drop k s) ≡ has_sign (drop (k + j) s)))
