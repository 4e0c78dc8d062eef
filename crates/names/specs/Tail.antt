-- The last four units of a variable's name, as a walk over many entries compares them with those of each: by one word and a mask.
-- Assumes nothing: these are definitions.
use Rattle.std.specs.Prelude.{ℕ, ◌+◌, ◌-◌, ◌*◌, ◌/◌, ◌≤◌, ◌<◌, ◌≡◌, cond, length, take}
use Rattle.std.specs.Int.Bits.{bit_and, bit_xor}
use Rattle.slices.specs.Bytes.{Bytes, le16, le64}
use Rattle.names.specs.Name.{number_sign, is_hex_digit}

-- the bits in which an entry's unit must agree with u to match it: of a hex digit those in which '#' agrees with it, of another unit all
unfoldable pub unit_mask : ℕ → ℕ
unit_mask u = cond (is_hex_digit u) (65535 - bit_xor u number_sign) 65535

-- four units as one word
abbrev pub word : ℕ → ℕ → ℕ → ℕ → ℕ
word a b c d = a + 65536 * (b + 65536 * (c + 65536 * d))

-- what t makes of the four units from byte i on
abbrev pub masks_at : (ℕ → ℕ) → Bytes → ℕ → ℕ
masks_at t v i = word (t (le16 v i)) (t (le16 v (i + 2))) (t (le16 v (i + 4))) (t (le16 v (i + 6)))

-- the masks of the four units from byte i on
abbrev pub mask_at : Bytes → ℕ → ℕ
mask_at = masks_at unit_mask

-- the bytes of the whole units
abbrev pub whole_units : Bytes → Bytes
whole_units s = take (2 * (length s / 2)) s

-- of a name of four units and more: what t makes of the last four, and the bits that count of these; of a shorter one none count
pub record TailBy (t : ℕ → ℕ) (v : Bytes) (mask shown : ℕ) : Type 0 where
  pub long : 8 ≤ length v → (mask ≡ masks_at t v (length v - 8)) × (shown ≡ bit_and (le64 v (length v - 8)) (masks_at t v (length v - 8)))
  pub short : length v < 8 → (mask ≡ 0) × (shown ≡ 0)

-- the same by the masks of a variable's units
abbrev pub TailOf : Bytes → ℕ → ℕ → Type 0
TailOf = TailBy unit_mask

-- what a function of units that may be called gives: where it computes t, P holds of t
abbrev pub OfMask : {F : Type 0} → (F → ℕ → ℕ → Type 0) → F → ((ℕ → ℕ) → Type 0) → Type 0
OfMask post f P = (t : ℕ → ℕ) → ((u m : ℕ) → post f u m → m ≡ t u) → P t
