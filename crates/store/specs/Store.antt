-- A store (RULES.md, 6.2): its records from byte 0 on, then only 0xFF.
-- Assumes nothing: these are definitions.
use Rattle.std.specs.Prelude.{ℕ, ◌+◌, List, [], ◌∷◌, Bool, cond, length, drop, leb, Option, Some, None}
use Rattle.limits.specs.Limits.{max_store}
use Rattle.slices.specs.Test.{◌and◌}
use Rattle.slices.specs.Bytes.{Bytes, all_are}
use Rattle.slices.specs.Chunks.{flat, chunks, used, packed, remove, replace_or_append}
use Rattle.names.specs.Name.{Variable}
use Rattle.store.specs.Record.{record_length, is_of}
use Rattle.store.specs.declared.Found.{Found}

-- the records of a store, each as its bytes
abbrev pub records_of : Bool → Bytes → List Bytes
records_of non_volatile s = chunks (record_length non_volatile) s

-- where the records end
abbrev pub end_of : Bool → Bytes → ℕ
end_of non_volatile s = used (record_length non_volatile) s

-- a store of n bytes with these records
abbrev pub pack_store : ℕ → List Bytes → Bytes
pack_store n rs = packed n 255 rs

-- a store by itself, whatever variables it holds: at most 32,768 bytes, records and then only 0xFF
unfoldable pub store_ok : Bool → Bytes → Bool
store_ok non_volatile s = leb (length s) max_store and all_are 255 (drop (end_of non_volatile s) s)

-- records with where each begins, the first at the byte at
unfoldable pub placed : ℕ → List Bytes → List (ℕ × Bytes)
placed at [] = []
placed at (r ∷ rs) = (at, r) ∷ placed (at + length r) rs

-- the records that stand in a store from the byte at on, with where each begins
abbrev pub standing : Bool → ℕ → Bytes → List (ℕ × Bytes)
standing non_volatile at s = placed at (records_of non_volatile (drop at s))

-- where the first record that the test takes stands, among records that begin at the byte at
unfoldable pub place_from : (Bytes → Bool) → ℕ → List Bytes → Option Found
place_from p at [] = None
place_from p at (r ∷ rs) = cond (p r) (Some (record { at = at; len = length r })) (place_from p (at + length r) rs)

-- where the variable's record stands
abbrev pub place_of : Bool → Bytes → Variable → Option Found
place_of non_volatile s v = place_from (is_of v) 0 (records_of non_volatile s)

-- the store without the variable: the gap closed
unfoldable pub without_variable : Bool → Bytes → Variable → Bytes
without_variable non_volatile s v = pack_store (length s) (remove (is_of v) (records_of non_volatile s))

-- the records with q for the variable's record: in its place, or behind the last
abbrev pub records_with : Bool → Bytes → Variable → Bytes → List Bytes
records_with non_volatile s v q = replace_or_append (is_of v) q (records_of non_volatile s)

-- step 9: the records, as they would be afterwards, are not longer than their store
unfoldable pub has_room : Bool → Bytes → Variable → Bytes → Bool
has_room non_volatile s v q = leb (length (flat (records_with non_volatile s v q))) (length s)

-- the store with q for the variable's record
unfoldable pub with_record : Bool → Bytes → Variable → Bytes → Bytes
with_record non_volatile s v q = pack_store (length s) (records_with non_volatile s v q)
