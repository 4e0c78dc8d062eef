-- Where a variable's record stands in the pair of stores.
-- Assumes nothing: these are definitions.
use Rattle.std.specs.Prelude.{ℕ, Bool, true, false, cond, Option, Some, None}
use Rattle.std.proofs.Math.Option as maybe
use Rattle.slices.specs.Bytes.{Bytes}
use Rattle.names.specs.Name.{Variable}
use Rattle.store.specs.declared.Found.{Found}
use Rattle.store.specs.declared.Bounds.{Bounds}
use Rattle.store.specs.Store.{place_of}
use Rattle.store.specs.Parts.{is_found, record_in, attributes_in, payload_in, bounds_in, Held}
use Rattle.stores.specs.declared.Place.{Place}

-- the place in the non-volatile store, or else that in the volatile one
abbrev pub either_place : Option Found → Option Found → Place
either_place (Some f) vol = record { nonvolatile = true; found = Some f }
either_place None vol = record { nonvolatile = false; found = vol }

unfoldable pub place_in : Bytes → Bytes → Variable → Place
place_in nv vol v = either_place (place_of true nv v) (place_of false vol v)

-- whether a place holds a record
abbrev pub is_somewhere : Place → Bool
is_somewhere p = is_found p.found

-- the store that a place is in
abbrev pub store_at : Bytes → Bytes → Place → Bytes
store_at nv vol p = cond p.nonvolatile nv vol

-- the record at a place, what it says, and where its payload stands in that store
abbrev pub record_at : Bytes → Bytes → Place → maybe.Option Bytes
record_at nv vol p = record_in (store_at nv vol p) p.found

abbrev pub attributes_at : Bytes → Bytes → Place → ℕ
attributes_at nv vol p = attributes_in (record_at nv vol p)

abbrev pub payload_at : Bytes → Bytes → Place → Bytes
payload_at nv vol p = payload_in (record_at nv vol p)

abbrev pub bounds_at : Bytes → Bytes → Place → Bounds
bounds_at nv vol p = bounds_in (store_at nv vol p) p.found

-- the store of a place holds what was found there: it lies within, and so do the fields that its header tells
abbrev pub Within : Bytes → Bytes → Place → Type 0
Within nv vol p = Held (store_at nv vol p) p.found
