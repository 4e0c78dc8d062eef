-- What the functions on records ask of what they are given, and what the edits leave.
-- Assumes nothing: these are definitions.
use Rattle.std.specs.Prelude.{ℕ, ◌+◌, ◌-◌, ◌≤◌, ◌≡◌, [], ◌++◌, Bool, true, Option, Some, None, is_some, length, take, drop}
use Rattle.std.proofs.Math.Option.{none, some}
use Rattle.std.proofs.Math.Option as maybe
use Rattle.limits.specs.Limits.{max_payload, record_header}
use Rattle.slices.specs.Bytes.{Bytes, part, padded}
use Rattle.slices.specs.Chunks.{find}
use Rattle.names.specs.Name.{Variable, named}
use Rattle.store.specs.Record.{attributes_of, name_size, data_size, payload_of, is_of, attributes_ok}
use Rattle.store.specs.Store.{records_of}
use Rattle.store.specs.declared.Found.{Found}
use Rattle.store.specs.declared.Bounds.{Bounds}
pub use Rattle.names.specs.Name.{variable}

-- the fields that the header tells lie within the bytes
pub record HeaderFits (r : Bytes) : Type 0 where
  pub head : record_header ≤ length r
  pub low : 4 ≤ name_size r
  pub fits : record_header + name_size r + data_size r ≤ length r

-- what makes a well-formed record of the store: stored attributes of its kind, a namespace with a name, 1 to 1,024 bytes
pub record Storable (non_volatile : Bool) (attributes : ℕ) (v : Variable) (payload : Bytes) : Type 0 where
  pub kind : attributes_ok non_volatile attributes ≡ true
  pub called : named v ≡ true
  pub some : 1 ≤ length payload
  pub most : length payload ≤ max_payload

-- what a found record says: its attributes and its payload; zero and nothing where there is none
abbrev pub attributes_in : maybe.Option Bytes → ℕ
attributes_in none = 0
attributes_in (some r) = attributes_of r

abbrev pub payload_in : maybe.Option Bytes → Bytes
payload_in none = []
payload_in (some r) = payload_of r

-- whether a record was found, and the record
abbrev pub is_found : Option Found → Bool
is_found = is_some

abbrev pub record_in : Bytes → Option Found → maybe.Option Bytes
record_in s (Some f) = some (part f.at (f.at + f.len) s)
record_in s None = none

-- where its payload stands in the store, behind the header and the name; 0 and 0 where there is none
abbrev pub bounds_in : Bytes → Option Found → Bounds
bounds_in s (Some f) = record {
  from = f.at + record_header + name_size (part f.at (f.at + f.len) s);
  to = f.at + record_header + name_size (part f.at (f.at + f.len) s) + data_size (part f.at (f.at + f.len) s);
}
bounds_in s None = record { from = 0; to = 0 }

-- what was found lies within the store, and so do the fields that its header tells
abbrev pub Held : Bytes → Option Found → Type 0
Held s (Some f) = (f.at + f.len ≤ length s) × HeaderFits (part f.at (f.at + f.len) s)
Held s None = Unit

-- a payload joined to what the variable's record in the store holds
abbrev pub joined : Bool → Bytes → Variable → Bytes → Bytes
joined non_volatile s v payload = payload_in (find (is_of v) (records_of non_volatile s)) ++ payload

-- s with room for new bytes in place of the old ones from index at on: the room holds what stood there, what was behind the old
-- ones, up to end, stands behind the room, and the rest is 0xFF
unfoldable pub resized : Bytes → ℕ → ℕ → ℕ → ℕ → Bytes
resized s at old new end = padded (length s) 255 (take (at + new) s ++ take (end - (at + old)) (drop (at + old) s))
