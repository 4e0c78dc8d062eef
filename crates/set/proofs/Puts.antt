-- What is written, by what is decided. Assumes nothing.
use Prim.Native.Nat.{ℕ, ◌%◌, ◌≤◌}
use mathlib.Core.Path.{◌≡◌, refl, sym, ap, ◌∙◌, subst}
use mathlib.Core.Bool.{Bool, true, false, not, cond, true≢false}
use mathlib.Core.Option.{Option, none, some}
use lib.ListN.{length, length-append}
use native.Mathlib.Omega.{arith}
use borrow.Author.Tests.{eqb-true}
use Rattle.limits.specs.Limits.{max_payload, namespace_bytes, max_name_bytes}
use Rattle.slices.specs.Bytes.{Bytes}
use Rattle.slices.specs.Chunks.{find}
use Rattle.slices.proofs.ItemsLaws.{or_else, find_none}
use Rattle.names.specs.Name.{Variable, named}
use Rattle.names.proofs.NameLaws.{is_name-length, named_namespace, named_name}
use Rattle.store.specs.Record.{has_nv, attributes_ok, is_of, encode_record}
use Rattle.store.proofs.AttributeLaws.{attributes_ok-stored}
use Rattle.store.specs.Store.{records_of, store_ok, end_of, place_of, has_room, without_variable, with_record}
use Rattle.store.specs.Parts.{Storable, payload_in, joined}
use Rattle.stores.specs.Pair.{sound, lookup}
use Rattle.stores.proofs.PairLaws.{sound_nv, sound_vol, lookup_either}
use Rattle.store.proofs.StoreLaws.{without_absent}
use Rattle.store.proofs.PlaceLaws.{place_absent}
use Rattle.stores.specs.Place.{place_in}
use Rattle.stores.proofs.PlaceLaws.{place_of_store, place_without_nv, place_without_vol, place_of_kind_absent, place_of_kind}
use Rattle.std.specs.Prelude.{Err}
use Rattle.rules.specs.declared.Refusal.{Refusal}
use Rattle.rules.specs.declared.Refusal.TheVariants.{ByStatus, ByGround}
use Rattle.rules.specs.Decision.{Decision}
use Rattle.rules.specs.Decision.{Delete, Keep, Store}
use Rattle.rules.specs.Set.{Request, other_attributes, stored_attributes, payload_after, record_after, store_of, decision_store}
use Rattle.rules.proofs.SetLaws.{not_first, not_second}
use Rattle.rules.specs.Stored.{Stored}
use Rattle.set.specs.declared.Known.{Known}
use Rattle.set.specs.declared.located.Located.{Located}
use Rattle.set.specs.Asked.{asked}
use Rattle.set.specs.Known.{Knows}
use Rattle.set.specs.Writable.{found_in, Writable}

-- ---- what makes the new record well formed

pub namespace_length : (v : Variable) → named v ≡ true → length v.namespace ≡ namespace_bytes
namespace_length v h = named_namespace v h

pub name_most : (v : Variable) → named v ≡ true → length v.name ≤ max_name_bytes
name_most v h = (is_name-length v.name (named_name v h)).1

-- ---- the one store

module _ (k : Bool) (s : Bytes) (r : Request) (w : Writable k s r) where
  storable : (p : Bytes) → 1 ≤ length p → length p ≤ max_payload → Storable k (stored_attributes r.attributes) r.variable p
  storable p h l =
      record {
        kind = subst (λ b. attributes_ok b (r.attributes % 8) ≡ true) (sym w.kind) (attributes_ok-stored r.attributes w.bs);
        called = w.called;
        some = h;
        most = l;
      }

  -- p is the payload afterwards
  module _ (p : Bytes) (e : payload_after (found_in k s r.variable) r.attributes r.payload ≡ p) (some : 1 ≤ length p) where
    pub put_storable : Storable k (stored_attributes r.attributes) r.variable p
    put_storable = storable p some (subst (λ x. length x ≤ max_payload) e w.most)

    pub put_room : has_room k s r.variable (encode_record (stored_attributes r.attributes) r.variable p) ≡ true
    put_room = subst (λ x. has_room k s r.variable (encode_record (stored_attributes r.attributes) r.variable x) ≡ true) e w.room

    pub put_is : {t : Bytes} → t ≡ with_record k s r.variable (encode_record (stored_attributes r.attributes) r.variable p)
        → t ≡ with_record k s r.variable (record_after (found_in k s r.variable) r)
    put_is h = h ∙ ap (λ x. with_record k s r.variable (encode_record (stored_attributes r.attributes) r.variable x)) (sym e)

  pub joined_some : 1 ≤ length (joined k s r.variable r.payload)
  joined_some = let l = length-append (payload_in (found_in k s r.variable)) r.payload in let m = w.some in omega arith

-- ---- the pair

module _ (nv vol : Bytes) (r : Request) (ok : sound nv vol ≡ true) where
  -- what is found in the pair is what the store that the attributes name holds
  found_in_lem : (b : Bool) → has_nv r.attributes ≡ b → other_attributes (lookup nv vol r.variable) r.attributes ≡ false
      → lookup nv vol r.variable ≡ found_in b (cond b nv vol) r.variable
  found_in_lem true h k =
      lookup_either nv vol r.variable
      ∙ ap (or_else (find (is_of r.variable) (records_of true nv))) (find_none (is_of r.variable) (records_of false vol) (not_second nv vol r.variable r.attributes k ok h))
      ∙ alone (find (is_of r.variable) (records_of true nv))
    where
      alone : (x : Option Bytes) → or_else x none ≡ x
      alone none = refl
      alone (some c) = refl
  found_in_lem false h k =
      lookup_either nv vol r.variable
      ∙ ap (λ x. or_else x (find (is_of r.variable) (records_of false vol))) (find_none (is_of r.variable) (records_of true nv) (not_first nv vol r.variable r.attributes k h))

  store_ok_lem : (b : Bool) → store_ok b (cond b nv vol) ≡ true
  store_ok_lem true = sound_nv nv vol ok
  store_ok_lem false = sound_vol nv vol ok

  module _ (f : Stored nv vol (lookup nv vol r.variable) r) (b : Bool) (h : has_nv r.attributes ≡ b) where
    pub writable : Writable b (cond b nv vol) r
    writable =
        let e = found_in_lem b h f.alike in
        let room = subst (λ x. has_room x (cond x nv vol) r.variable (record_after (lookup nv vol r.variable) r) ≡ true) h f.room in
        record {
          ok = store_ok_lem b;
          kind = sym h;
          bs = f.bs;
          called = f.called;
          some = f.some;
          most = subst (λ o. length (payload_after o r.attributes r.payload) ≤ max_payload) e f.within;
          room = subst (λ o. has_room b (cond b nv vol) r.variable (record_after o r) ≡ true) e room;
        }

  -- the stores afterwards, where t is the one that was written
  module _ (f : Stored nv vol (lookup nv vol r.variable) r) where
    pub stored_nv : {t : Bytes} → has_nv r.attributes ≡ true → t ≡ with_record true nv r.variable (record_after (found_in true nv r.variable) r)
        → (t ≡ decision_store Store true nv (lookup nv vol r.variable) r) × (vol ≡ decision_store Store false vol (lookup nv vol r.variable) r)
    unfolding decision_store
    stored_nv h e = (rw h (e ∙ ap (λ o. with_record true nv r.variable (record_after o r)) (sym (found_in_lem true h f.alike))), rw h)

    pub stored_vol_lem : {t : Bytes} → has_nv r.attributes ≡ false → t ≡ with_record false vol r.variable (record_after (found_in false vol r.variable) r)
        → (nv ≡ decision_store Store true nv (lookup nv vol r.variable) r) × (t ≡ decision_store Store false vol (lookup nv vol r.variable) r)
    unfolding decision_store
    stored_vol_lem h e = (rw h, rw h (e ∙ ap (λ o. with_record false vol r.variable (record_after o r)) (sym (found_in_lem false h f.alike))))

-- ---- what is known of the variable, in the one store

pub knows : (l : Located) → Knows (record { ends = l.stores.ends; place = l.place }) l.stores.nv.now l.stores.vol.now (asked l.request).variable
knows l = record { ends = l.stores.ended; place = l.stands }

module _ (k : Known) (nv vol : Bytes) (v : Variable) (w : Knows k nv vol v) where
  pub end_nv : k.ends.nv ≡ end_of true nv
  end_nv = ap (λ e. e.nv) w.ends

  pub end_vol : k.ends.vol ≡ end_of false vol
  end_vol = ap (λ e. e.vol) w.ends

  in_store : {b : Bool} → k.place.nonvolatile ≡ b → (place_in nv vol v).nonvolatile ≡ b
  in_store h = sym (ap (λ p. p.nonvolatile) w.place) ∙ h

  -- where it stands: in the store that holds it
  pub found_there : (b : Bool) → k.place.nonvolatile ≡ b → k.place.found ≡ place_of b (cond b nv vol) v
  found_there b h = ap (λ p. p.found) w.place ∙ place_of_store nv vol v b (in_store h)

  -- in the store that attributes name, if it has no other attributes
  pub found_alike : (a : ℕ) (b : Bool) → has_nv a ≡ b → other_attributes (lookup nv vol v) a ≡ false → k.place.found ≡ place_of b (cond b nv vol) v
  unfolding other_attributes
  found_alike a b h o = ap (λ p. p.found) w.place ∙ go (lookup nv vol v) refl o ∙ ap (λ x. place_of x (cond x nv vol) v) h
    where
      go : (x : Option Bytes) → lookup nv vol v ≡ x → other_attributes x a ≡ false → (place_in nv vol v).found ≡ place_of (has_nv a) (cond (has_nv a) nv vol) v
      go none e k = place_of_kind_absent nv vol v a e
      go (some r) e k = place_of_kind nv vol v a r e (eqb-true _ _ (not_off _ k))
        where
          not_off : (b : Bool) → not b ≡ false → b ≡ true
          not_off true h = refl
          not_off false h = absurd (true≢false h)

  module _ (ok : sound nv vol ≡ true) where
    -- the stores after a deletion, where t is the one that held the variable
    pub deleted_nv : {t : Bytes} → k.place.nonvolatile ≡ true → t ≡ without_variable true nv v → (t ≡ without_variable true nv v) × (vol ≡ without_variable false vol v)
    deleted_nv h e = (e, sym (without_absent false vol v (sound_vol nv vol ok) (place_absent (is_of v) (records_of false vol) 0 (place_without_vol nv vol v ok (in_store h)))))

    pub deleted_vol : {t : Bytes} → k.place.nonvolatile ≡ false → t ≡ without_variable false vol v → (nv ≡ without_variable true nv v) × (t ≡ without_variable false vol v)
    deleted_vol h e = (sym (without_absent true nv v (sound_nv nv vol ok) (place_absent (is_of v) (records_of true nv) 0 (place_without_nv nv vol v (in_store h)))), e)

-- room in the store that attributes name
pub room_alike : {x : Bool} (nv vol : Bytes) (v : Variable) (a : ℕ) (q : Bytes) (b : Bool) → has_nv a ≡ b → x ≡ has_room b (cond b nv vol) v q
    → x ≡ has_room (has_nv a) (store_of a nv vol) v q
room_alike nv vol v a q b h e = e ∙ sym (ap (λ y. has_room y (cond y nv vol) v q) h)

-- ---- what is carried out, once the decision is known to be d

module _ (nv vol : Bytes) (o : Option Bytes) (r : Request) {x : Decision} (d : Decision) (e : x ≡ d) where
  pub carried : {nv' vol' : Bytes} → (nv' ≡ decision_store d true nv o r) × (vol' ≡ decision_store d false vol o r)
      → (nv' ≡ decision_store x true nv o r) × (vol' ≡ decision_store x false vol o r)
  carried h = (h.0 ∙ ap (λ y. decision_store y true nv o r) (sym e), h.1 ∙ ap (λ y. decision_store y false vol o r) (sym e))

-- nothing is written where it refuses or keeps
pub refused_left : (nv vol : Bytes) (o : Option Bytes) (r : Request) (f : Refusal) → (nv ≡ decision_store (Err f) true nv o r) × (vol ≡ decision_store (Err f) false vol o r)
unfolding decision_store
refused_left nv vol o r (ByStatus n) = (refl, refl)
refused_left nv vol o r (ByGround g) = (refl, refl)

pub kept_left : (nv vol : Bytes) (o : Option Bytes) (r : Request) → (nv ≡ decision_store Keep true nv o r) × (vol ≡ decision_store Keep false vol o r)
unfolding decision_store
kept_left nv vol o r = (refl, refl)

pub deleted_left : {nv' vol' : Bytes} (nv vol : Bytes) (o : Option Bytes) (r : Request) → nv' ≡ without_variable true nv r.variable → vol' ≡ without_variable false vol r.variable
    → (nv' ≡ decision_store Delete true nv o r) × (vol' ≡ decision_store Delete false vol o r)
unfolding decision_store
deleted_left nv vol o r h k = (h, k)
