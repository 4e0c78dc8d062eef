-- What a set that stores has: a fact that the code hands from one function to another. Assumes nothing: this is a definition.
use Rattle.std.specs.Prelude.{◌≡◌, ◌≤◌, true, false, length}
use Rattle.std.proofs.Math.Option.{Option}
use Rattle.limits.specs.Limits.{max_payload}
use Rattle.slices.specs.Bytes.{Bytes}
use Rattle.names.specs.Name.{named}
use Rattle.store.specs.Record.{has_nv, has_bs}
use Rattle.store.specs.Store.{has_room}
use Rattle.rules.specs.Set.{Request, is_deletion, is_empty_append, other_attributes, payload_after, record_after, store_of}

-- a set that stores
pub record Stored (nv vol : Bytes) (found : Option Bytes) (r : Request) : Type 0 where
  pub writes : is_deletion r.attributes r.payload ≡ false
  pub joins : is_empty_append r.attributes r.payload ≡ false
  pub called : named r.variable ≡ true
  pub bs : has_bs r.attributes ≡ true
  pub some : 1 ≤ length r.payload
  pub most : length r.payload ≤ max_payload
  pub alike : other_attributes found r.attributes ≡ false
  pub within : length (payload_after found r.attributes r.payload) ≤ max_payload
  pub room : has_room (has_nv r.attributes) (store_of r.attributes nv vol) r.variable (record_after found r) ≡ true
