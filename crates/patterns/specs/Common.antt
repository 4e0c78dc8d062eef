-- The names that two patterns both match (RULES.md, 10.11): the least of them, and whether there is one. Assumes nothing: these are definitions.
use Rattle.std.specs.Prelude.{ℕ, ◌+◌, ◌*◌, ◌<◌, ◌≡◌, List, [], ◌∷◌, ◌++◌, Bool, not, cond, ◌⊎◌, eqb}
use Rattle.slices.specs.Test.{◌and◌}
use Rattle.slices.specs.Bytes.{Bytes, pairwise}
use Rattle.names.specs.Name.{number_sign, units, unit_matches, matches}

-- the least hex digit, '0'
abbrev pub least_digit : ℕ
least_digit = 0x30

-- of two patterns' units, each given by its two bytes, the bytes of the least that both match, if any does: of '#' twice the least hex digit, of '#' and
-- another unit the other one, and else the first's own
abbrev pub least_unit : ℕ → ℕ → ℕ → ℕ → Bytes
least_unit a b c d = cond (eqb (a + 256 * b) number_sign) (cond (eqb (c + 256 * d) number_sign) (least_digit ∷ 0 ∷ []) (c ∷ d ∷ [])) (a ∷ b ∷ [])

-- the same unit by unit, as far as both have units
unfoldable pub least_name : Bytes → Bytes → Bytes
least_name [] q = []
least_name (a ∷ []) q = []
least_name (a ∷ b ∷ p) [] = []
least_name (a ∷ b ∷ p) (c ∷ []) = []
least_name (a ∷ b ∷ p) (c ∷ d ∷ q) = least_unit a b c d ++ least_name p q

-- both patterns match that name, and so some name
unfoldable pub overlap : Bytes → Bytes → Bool
overlap p q = matches (units p) (units (least_name p q)) and matches (units q) (units (least_name p q))

-- of names, as units, the first that differs decides
abbrev pub Smaller : List ℕ → List ℕ → Type 0
Smaller us [] = ⊥
Smaller [] (y ∷ ys) = Unit
Smaller (x ∷ xs) (y ∷ ys) = (x < y) ⊎ ((x ≡ y) × Smaller xs ys)

-- ---- the same of two units, as the code asks; CommonLaws.antt joins it to the above

-- the least unit that both match, if any does
abbrev pub least_of : ℕ → ℕ → ℕ
least_of x y = cond (eqb x number_sign) (cond (eqb y number_sign) least_digit y) x

-- both match it, and so some unit
unfoldable pub units_overlap : ℕ → ℕ → Bool
units_overlap x y = unit_matches x (least_of x y) and unit_matches y (least_of x y)

-- ---- patterns with '#' at the same places; of these CommonLaws.antt shows that two which overlap are the same bytes

-- both units are '#', or neither is
unfoldable pub sign_alike : ℕ → ℕ → Bool
sign_alike x y = cond (eqb x number_sign) (eqb y number_sign) (not (eqb y number_sign))

-- two patterns have as many units, and '#' at the same places
abbrev pub same_signs : Bytes → Bytes → Bool
same_signs p q = pairwise sign_alike (units p) (units q)
