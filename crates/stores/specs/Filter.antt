-- A filter over the records seen: a slot for each hash.
-- Assumes nothing: these are definitions.
use Rattle.std.specs.Prelude.{ℕ, ◌+◌, ◌*◌, ◌/◌, ◌%◌, ◌≡◌, List, ◌++◌, Bool, cond, length, Option, Some, None}
use Rattle.slices.specs.Bytes.{Bytes}
use Rattle.slices.specs.Hash.{hash_from}
use Rattle.slices.specs.Filter.{Marked}
use Rattle.slices.specs.Chunks.{distinct}
use Rattle.slices.proofs.ChunksLaws.{All}
use Rattle.names.specs.Name.{Variable}
use Rattle.store.specs.Record.{variable_of, same_variable}
use Rattle.store.specs.Store.{records_of, end_of}

-- the hash of a variable
unfoldable pub hash_of : Variable → ℕ
hash_of v = hash_from (hash_from 0 v.namespace) v.name % 4294967296 * 2654435761

abbrev pub slots : ℕ
slots = 8192

abbrev pub slot_of : ℕ → ℕ
slot_of h = h / 524288 % slots

abbrev pub fingerprint_of : ℕ → ℕ
fingerprint_of h = h / 4294967296 % 254 + 1

-- the hash of a record
unfoldable pub key_of : Bytes → ℕ
key_of r = hash_of (variable_of r)

-- a filter that has every record of the list
pub record Filter (t : Bytes) (rs : List Bytes) : Type 0 where
  pub room : length t ≡ slots
  pub marks : All (λ r. Marked t (slot_of (key_of r)) (fingerprint_of (key_of r))) rs

-- what a scan of a store behind the records os finds: where its records end, or none where a variable stands twice
unfoldable pub scanned : Bool → Bytes → List Bytes → Option ℕ
scanned non_volatile s os = cond (distinct same_variable (os ++ records_of non_volatile s)) (Some (end_of non_volatile s)) None
