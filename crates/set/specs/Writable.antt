-- What step 10 asks of the one store that it writes. Assumes nothing: these are definitions.
use Rattle.std.specs.Prelude.{◌≤◌, ◌≡◌, Bool, true, length}
use Rattle.std.proofs.Math.Option.{Option}
use Rattle.limits.specs.Limits.{max_payload}
use Rattle.slices.specs.Bytes.{Bytes}
use Rattle.slices.specs.Chunks.{find}
use Rattle.names.specs.Name.{Variable, named}
use Rattle.store.specs.Record.{has_nv, has_bs, is_of}
use Rattle.store.specs.Store.{records_of, store_ok, has_room}
use Rattle.rules.specs.Set.{Request, payload_after, record_after}

-- the variable's record in one store
abbrev pub found_in : Bool → Bytes → Variable → Option Bytes
found_in non_volatile s v = find (is_of v) (records_of non_volatile s)

-- a sound store of the attributes' kind, BS, a variable with a name, a payload that is then of 1 to 1,024 bytes, and room for it
pub record Writable (non_volatile : Bool) (s : Bytes) (r : Request) : Type 0 where
  pub ok : store_ok non_volatile s ≡ true
  pub kind : non_volatile ≡ has_nv r.attributes
  pub bs : has_bs r.attributes ≡ true
  pub called : named r.variable ≡ true
  pub some : 1 ≤ length r.payload
  pub most : length (payload_after (found_in non_volatile s r.variable) r.attributes r.payload) ≤ max_payload
  pub room : has_room non_volatile s r.variable (record_after (found_in non_volatile s r.variable) r) ≡ true
