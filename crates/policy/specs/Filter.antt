-- The filter over the entries that were met (`slices`' Filter.antt): the slot and the fingerprint of an entry.
-- Assumes nothing: these are definitions.
use Rattle.std.specs.Prelude.{ℕ, ◌+◌, ◌*◌, ◌/◌, ◌%◌, ◌≡◌, List, length, get_or, set}
use Rattle.slices.specs.Bytes.{Bytes, le32}
use Rattle.slices.specs.Hash.{hash_from}
use Rattle.slices.specs.Filter.{joined, Marked}
use Rattle.lists.specs.Lists.{All}
use Rattle.entry.specs.Entry.{namespace_of, name_of}

abbrev pub slots : ℕ
slots = 2048

-- the key of a hash: both halves of a product count
abbrev pub key_at : ℕ → ℕ
key_at h = h % 4294967296 * 2654435761 % 4294967296 + h % 4294967296 * 2654435761 / 4294967296

-- the key of an entry, by the first four bytes of its namespace and by its name
unfoldable pub key_of : Bytes → ℕ
key_of e = key_at (hash_from (le32 (namespace_of e) 0) (name_of e))

abbrev pub slot_of : Bytes → ℕ
slot_of e = key_of e / 2097152 % slots

abbrev pub fingerprint_of : Bytes → ℕ
fingerprint_of e = key_of e / 8192 % 128 + 1

-- the filter has every entry of the list
pub record Marks (t : Bytes) (es : List Bytes) : Type 0 where
  pub room : length t ≡ slots
  pub marks : All (λ e. Marked t (slot_of e) (fingerprint_of e)) es

-- the filter after e was met
abbrev pub marks_with : Bytes → Bytes → Bytes
marks_with t e = set t (slot_of e) (joined (get_or t (slot_of e) 0) (fingerprint_of e))
