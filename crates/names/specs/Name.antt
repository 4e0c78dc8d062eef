-- Names: 16-bit little-endian units; what a valid name is; how an entry's name is compared with a variable's.
-- Assumes nothing: these are definitions.
use Rattle.std.specs.Prelude.{◌≡◌, ℕ, ◌+◌, ◌-◌, ◌*◌, ◌%◌, List, [], ◌∷◌, Bool, true, false, not, ◌&&◌, ◌||◌, cond, length, get_or, take, eqb, leb}
use Rattle.limits.specs.Limits.{max_name_bytes, namespace_bytes}
use Rattle.slices.specs.Test.{◌and◌}
use Rattle.slices.specs.Bytes.{Bytes, pairwise}

-- the units of bytes, two bytes each, the low one first; an odd last byte is dropped
unfoldable pub units : Bytes → List ℕ
units [] = []
units (a ∷ []) = []
units (a ∷ b ∷ rest) = (a + 256 * b) ∷ units rest

-- every unit passes the test
unfoldable pub each : (ℕ → Bool) → List ℕ → Bool
each test [] = true
each test (u ∷ rest) = test u and each test rest

-- no unit is zero
abbrev pub no_zero : List ℕ → Bool
no_zero = each (λ u. not (eqb u 0))

-- so many bytes are 1 to 64 whole units
abbrev pub name_length : ℕ → Bool
name_length n = eqb (n % 2) 0 and leb 2 n and leb n max_name_bytes

-- a name (RULES.md, 2.1): 1 to 64 whole units, none zero, without the closing zero unit
unfoldable pub is_name : Bytes → Bool
is_name s = name_length (length s) and no_zero (units s)

-- the last unit is zero
abbrev pub closed : Bytes → Bool
closed s = leb 2 (length s) and eqb (get_or s (length s - 2) 0) 0 and eqb (get_or s (length s - 1) 0) 0

-- a name and then one zero unit: how entries and stored variables carry it; a trigger's is `is_plain_terminated`
unfoldable pub is_terminated : Bytes → Bool
is_terminated s = closed s and is_name (take (length s - 2) s)

-- a variable (RULES.md, 2.2), as a request or a trigger names it: a namespace, and a name without its closing zero unit
pub record Variable : Type 0 where
  pub namespace : Bytes
  pub name : Bytes

-- the variable of this namespace and name
abbrev pub variable : Bytes → Bytes → Variable
variable namespace name = record { namespace = namespace; name = name }

-- a namespace of 16 bytes (all that a call can be given) with a name that step 1 takes
unfoldable pub named : Variable → Bool
named v = eqb (length v.namespace) namespace_bytes and is_name v.name

-- '#'
abbrev pub number_sign : ℕ
number_sign = 0x23

-- a hex digit (RULES.md, 4.1): 0 to 9, A to F, a to f
unfoldable pub is_hex_digit : ℕ → Bool
is_hex_digit u = leb 0x30 u and leb u 0x39 || (leb 0x41 u and leb u 0x46 || leb 0x61 u and leb u 0x66)

-- the same as a list: these 22 and no others (NameLaws.antt)
abbrev pub hex_digits : List ℕ
hex_digits =
    0x30 ∷ 0x31 ∷ 0x32 ∷ 0x33 ∷ 0x34 ∷ 0x35 ∷ 0x36 ∷ 0x37 ∷ 0x38 ∷ 0x39
    ∷ 0x41 ∷ 0x42 ∷ 0x43 ∷ 0x44 ∷ 0x45 ∷ 0x46
    ∷ 0x61 ∷ 0x62 ∷ 0x63 ∷ 0x64 ∷ 0x65 ∷ 0x66 ∷ []

-- one unit of an entry's name against one of a variable's: '#' matches a hex digit and nothing else, any other unit itself
unfoldable pub unit_matches : ℕ → ℕ → Bool
unit_matches p u = cond (eqb p number_sign) (is_hex_digit u) (eqb p u)

-- an entry's name against a variable's: as many units, each matching
abbrev pub matches : List ℕ → List ℕ → Bool
matches = pairwise unit_matches

abbrev pub one_if : Bool → ℕ
one_if true = 1
one_if false = 0

-- the number of '#' among the units
unfoldable pub wildcards : List ℕ → ℕ
wildcards [] = 0
wildcards (u ∷ rest) = one_if (eqb u number_sign) + wildcards rest

-- a name that has no '#', and then one zero unit: how an entry carries its trigger's (RULES.md, 3.2)
unfoldable pub is_plain_terminated : Bytes → Bool
is_plain_terminated s = is_terminated s and eqb (wildcards (units (take (length s - 2) s))) 0

-- ---- what the code's checker is told and asks; NameLaws.antt joins it to the above

-- '#' may be in the name, or there is none
abbrev pub signs_in : Bool → Bytes → Bool
signs_in signs s = signs || eqb (wildcards (units s)) 0

-- a unit of a trigger's name: neither zero nor '#'
abbrev pub plain_unit : ℕ → Bool
plain_unit u = not (eqb u 0) && not (eqb u number_sign)

-- the units are equal, or the entry's is '#', whatever it stands over
abbrev pub unit_near : ℕ → ℕ → Bool
unit_near p u = eqb p u || eqb p number_sign

-- what a test of units that may be called says of a result: where it computes t, the result is what t makes of the units
abbrev pub OfTest : {F : Type 0} → (F → ℕ → Bool → Type 0) → F → Bool → ((ℕ → Bool) → Bool) → Type 0
OfTest post f r all = (t : ℕ → Bool) → ((u : ℕ) (b : Bool) → post f u b → b ≡ t u) → r ≡ all t

-- the same of a test of two units
abbrev pub OfPairTest : {F : Type 0} → (F → ℕ → ℕ → Bool → Type 0) → F → Bool → ((ℕ → ℕ → Bool) → Bool) → Type 0
OfPairTest post f r all = (t : ℕ → ℕ → Bool) → ((p u : ℕ) (b : Bool) → post f p u b → b ≡ t p u) → r ≡ all t
