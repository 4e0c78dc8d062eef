-- A filter over items that were met: one byte to a slot, which is 0 where none was met, the fingerprint of the one that was, or 255 for several.
-- Assumes nothing: these are definitions.
use Rattle.std.specs.Prelude.{ℕ, ◌≡◌, cond, get_or, eqb}
use Rattle.slices.specs.Bytes.{Bytes}

-- what a slot that held v holds after an item with this fingerprint
abbrev pub joined : ℕ → ℕ → ℕ
joined v fingerprint = cond (eqb v 0) fingerprint 255

-- the slot says that an item with this fingerprint, or several, were met
pub data Marked (t : Bytes) (slot fingerprint : ℕ) : Type 0 where
  several : get_or t slot 0 ≡ 255 → Marked t slot fingerprint
  this : get_or t slot 0 ≡ fingerprint → Marked t slot fingerprint
