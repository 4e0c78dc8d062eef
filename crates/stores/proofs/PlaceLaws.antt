-- A variable's place: the record there is what looking the variable up finds, it lies within the store that the place names, and the other
-- store has none. Assumes nothing.
use Rattle.std.specs.Prelude.{ℕ, ◌+◌, ◌%◌, ◌≤◌, ◌≡◌, Bool, cond, length, Option, Some, None}
use Rattle.std.proofs.Math.Path.{refl, sym}
use Rattle.std.proofs.Common.{ap, ◌∙◌, true≢false}
use Rattle.std.proofs.Math.Bool.{true, false}
use Rattle.std.proofs.Math.Option.{none, some}
use Rattle.std.proofs.Math.Option as maybe
use Rattle.slices.specs.Bytes.{Bytes, part}
use Rattle.slices.specs.Chunks.{contains}
use Rattle.slices.proofs.ItemsLaws.{or_else}
use Rattle.names.specs.Name.{Variable}
use Rattle.store.specs.Record.{has_nv, attributes_of, is_of}
use Rattle.store.proofs.AttributeLaws.{nv_stored}
use Rattle.store.specs.Store.{place_of, records_of}
use Rattle.store.proofs.PlaceLaws.{find_place, place_held, split_at, contains_place, absent_place, bounds_payload}
use Rattle.store.specs.Parts.{is_found, record_in, Held}
use Rattle.store.specs.declared.Found.{Found}
use Rattle.store.specs.declared.Bounds.{Bounds}
use Rattle.stores.specs.Pair.{sound, lookup}
use Rattle.stores.proofs.PairLaws.{lookup_either, lookup_nv, looked, looked_nv, none_nv, none_vol}
use Rattle.stores.specs.declared.Place.{Place}
use Rattle.stores.specs.Place.{either_place, place_in, is_somewhere, store_at, record_at, payload_at, bounds_at, Within}

module _ (nv vol : Bytes) (v : Variable) where
  -- ---- the record at a variable's place
  either_record : (f g : Option Found) → or_else (record_in nv f) (record_in vol g) ≡ record_at nv vol (either_place f g)
  either_record (Some f) g = refl
  either_record None g = refl

  pub lookup_place : lookup nv vol v ≡ record_at nv vol (place_in nv vol v)
  unfolding place_in
  lookup_place = lookup_either nv vol v ∙ rw (find_place true nv v, find_place false vol v) (either_record (place_of true nv v) (place_of false vol v))

  pub place_within_stores : Within nv vol (place_in nv vol v)
  unfolding place_in
  place_within_stores = go (place_of true nv v) (place_held true nv v)
    where
      go : (o : Option Found) → Held nv o → Within nv vol (either_place o (place_of false vol v))
      go (Some f) h = h
      go None h = place_held false vol v

  -- ---- a place and the two stores
  -- what is found at a variable's place is what the search of its store finds
  pub place_of_store : (b : Bool) → (place_in nv vol v).nonvolatile ≡ b → (place_in nv vol v).found ≡ place_of b (cond b nv vol) v
  unfolding place_in
  place_of_store b k = go (place_of true nv v) refl b k
    where
      go : (o : Option Found) → place_of true nv v ≡ o → (b : Bool) → (either_place o (place_of false vol v)).nonvolatile ≡ b
          → (either_place o (place_of false vol v)).found ≡ place_of b (cond b nv vol) v
      go (Some f) e true k = sym e
      go (Some f) e false k = absurd (true≢false k)
      go None e true k = absurd (true≢false (sym k))
      go None e false k = refl

  -- a place is in the non-volatile store exactly if that holds the variable
  held_nv : (place_in nv vol v).nonvolatile ≡ contains (is_of v) (records_of true nv)
  unfolding place_in
  held_nv = go (place_of true nv v) ∙ sym (contains_place true nv v)
    where
      go : (o : Option Found) → (either_place o (place_of false vol v)).nonvolatile ≡ is_found o
      go (Some f) = refl
      go None = refl

  pub place_without_nv : (place_in nv vol v).nonvolatile ≡ false → place_of true nv v ≡ None
  place_without_nv k = absent_place (is_of v) (records_of true nv) 0 (sym held_nv ∙ k)

  -- in a sound pair the volatile store then does not hold it
  pub place_without_vol : sound nv vol ≡ true → (place_in nv vol v).nonvolatile ≡ true → place_of false vol v ≡ None
  unfolding place_in
  place_without_vol s k = go (place_of true nv v) refl k
    where
      go : (o : Option Found) → place_of true nv v ≡ o → (either_place o (place_of false vol v)).nonvolatile ≡ true → place_of false vol v ≡ None
      go (Some f) e k =
          let l = lookup_nv nv vol v f e in
          let h = sym (looked nv vol v (part f.at (f.at + f.len) nv) l).in_nv ∙ (split_at true nv v f e).held in
          absent_place (is_of v) (records_of false vol) 0 (looked_nv nv vol v (part f.at (f.at + f.len) nv) l s h)
      go None e k = absurd (true≢false (sym k))

  -- ---- the store that attributes ask for
  -- it is that of the record's attributes
  pub place_nv : (r : Bytes) → lookup nv vol v ≡ some r → (place_in nv vol v).nonvolatile ≡ has_nv (attributes_of r)
  place_nv r e = held_nv ∙ (looked nv vol v r e).in_nv

  -- an absent variable is found in neither store
  pub place_of_kind_absent : (a : ℕ) → lookup nv vol v ≡ none → (place_in nv vol v).found ≡ place_of (has_nv a) (cond (has_nv a) nv vol) v
  unfolding place_in
  place_of_kind_absent a e = rw (f, g) (sym (go (has_nv a)))
    where
      f : place_of true nv v ≡ None
      f = absent_place (is_of v) (records_of true nv) 0 (none_nv nv vol v e)

      g : place_of false vol v ≡ None
      g = absent_place (is_of v) (records_of false vol) 0 (none_vol nv vol v e)

      go : (b : Bool) → place_of b (cond b nv vol) v ≡ None
      go true = f
      go false = g

  -- a record of the attributes asked for is found in their store
  pub place_of_kind : (a : ℕ) (r : Bytes) → lookup nv vol v ≡ some r → attributes_of r ≡ a % 8 → (place_in nv vol v).found ≡ place_of (has_nv a) (cond (has_nv a) nv vol) v
  place_of_kind a r e k = place_of_store (has_nv a) (place_nv r e ∙ ap has_nv k ∙ nv_stored a)

module _ (nv vol : Bytes) (p : Place) where
  -- a place holds a record exactly if there is one, by any test for that
  pub exists_place : (exists : maybe.Option Bytes → Bool) → exists none ≡ false → ((r : Bytes) → exists (some r) ≡ true) → is_somewhere p ≡ exists (record_at nv vol p)
  exists_place exists none_is some_is = go p.found
    where
      go : (o : Option Found) → is_found o ≡ exists (record_in (store_at nv vol p) o)
      go (Some f) = sym (some_is (part f.at (f.at + f.len) (store_at nv vol p)))
      go None = sym none_is

  -- the store that it is in
  pub at_nv : p.nonvolatile ≡ true → nv ≡ store_at nv vol p
  at_nv e = rw e

  pub at_vol : p.nonvolatile ≡ false → vol ≡ store_at nv vol p
  at_vol e = rw e

  -- where its payload stands
  pub payload_bounds : {b : Bounds} → b ≡ bounds_at nv vol p → Within nv vol p
      → (b.from ≤ b.to) × (b.to ≤ length (store_at nv vol p)) × (part b.from b.to (store_at nv vol p) ≡ payload_at nv vol p)
  payload_bounds e w = bounds_payload (store_at nv vol p) p.found e w
