-- The last four units of a pattern, as a walk over many pairs of patterns compares them: by one word and a mask. Assumes nothing: these are definitions.
use Rattle.std.specs.Prelude.{ℕ, ◌-◌, cond, length, eqb, leb}
use Rattle.std.specs.Int.Bits.{bit_and}
use Rattle.slices.specs.Bytes.{Bytes, le64}
use Rattle.names.specs.Name.{number_sign}
use Rattle.names.specs.Tail.{masks_at}

-- the bits of a pattern's unit that count: of '#' none, of another unit all
unfoldable pub literal_mask : ℕ → ℕ
literal_mask u = cond (eqb u number_sign) 0 65535

-- the masks of the four units from byte i on
abbrev pub literal_mask_at : Bytes → ℕ → ℕ
literal_mask_at = masks_at literal_mask

-- of a pattern of four units and more the masks of the last four; of a shorter one no bits count
unfoldable pub literal_mask_of : Bytes → ℕ
literal_mask_of p = cond (leb 8 (length p)) (literal_mask_at p (length p - 8)) 0

-- the bits that count of these four units
unfoldable pub literals_of : Bytes → ℕ
literals_of p = bit_and (le64 p (length p - 8)) (literal_mask_of p)
