-- What steps 5 to 9 decide, by the tests that the code makes. Assumes nothing.
use Prim.Native.Nat.{ℕ, ◌+◌, ◌%◌, ◌≤◌, ◌<◌}
use mathlib.Core.Path.{◌≡◌, refl, sym, ap, ap₂, ◌∙◌}
use mathlib.Core.List.{◌++◌}
use mathlib.Core.Bool.{Bool, true, false, not, ◌&&◌, cond}
use mathlib.Core.Option.{Option, none, some}
use lib.ListN.{length, length-append}
use lib.Dec.{eqb}
use borrow.Author.Tests.{lt-ltb, le-ltb}
use Rattle.limits.specs.Limits.{max_payload}
use Rattle.slices.specs.Bytes.{Bytes}
use Rattle.names.specs.Name.{Variable}
use Rattle.store.specs.Record.{has_nv, has_append}
use Rattle.store.specs.Store.{has_room}
use Rattle.store.specs.Parts.{payload_in}
use Rattle.store.specs.declared.Found.{Found}
use Rattle.std.specs.Prelude as std
use Rattle.status.specs.declared.Status.TheVariants.{InvalidParameter, OutOfResources}
use Rattle.stores.specs.Pair.{lookup}
use Rattle.stores.specs.declared.Place.{Place}
use Rattle.stores.specs.Place.{place_in, is_somewhere, record_at, attributes_at}
use Rattle.stores.proofs.PlaceLaws.{lookup_place}
use Rattle.rules.specs.Decision.{Decision}
use Rattle.rules.specs.Decision.{Refuse, Keep, Store}
use Rattle.rules.specs.Set.{Request, is_deletion, is_empty_append, delete_decision, other_attributes, payload_after, store_of, record_after, store_decision, write_decision}

-- ---- steps 5 to 7

-- step 6 on what the code read: f whether the variable stands somewhere, n its attributes
other_at : (nv vol : Bytes) (p : Place) (a : ℕ) → other_attributes (record_at nv vol p) a ≡ (is_somewhere p && not (eqb (attributes_at nv vol p) (a % 8)))
unfolding other_attributes
other_at nv vol p a = go p.found
  where
    go : (x : std.Option Found) → other_attributes (record_at nv vol (record { nonvolatile = p.nonvolatile; found = x })) a
        ≡ (is_somewhere (record { nonvolatile = p.nonvolatile; found = x }) && not (eqb (attributes_at nv vol (record { nonvolatile = p.nonvolatile; found = x })) (a % 8)))
    go (std.Some f) = refl
    go std.None = refl

pub other_by : {f : Bool} {n : ℕ} (nv vol : Bytes) (v : Variable) (p : Place) (a : ℕ) → p ≡ place_in nv vol v → f ≡ is_somewhere p → n ≡ attributes_at nv vol p
    → other_attributes (lookup nv vol v) a ≡ (f && not (eqb n (a % 8)))
other_by nv vol v p a e h k =
    ap (λ o. other_attributes o a) (lookup_place nv vol v ∙ ap (record_at nv vol) (sym e)) ∙ other_at nv vol p a
    ∙ ap₂ (λ g m. g && not (eqb m (a % 8))) (sym h) (sym k)

-- step 5 on the record at the variable's place
pub delete_place : {d : Decision} (x : Bool) (nv vol : Bytes) (v : Variable) (p : Place) → p ≡ place_in nv vol v → d ≡ delete_decision x (record_at nv vol p)
    → d ≡ delete_decision x (lookup nv vol v)
delete_place x nv vol v p e h = h ∙ ap (delete_decision x) (ap (record_at nv vol) e ∙ sym (lookup_place nv vol v))

module _ (x : Bool) (nv vol : Bytes) (o : Option Bytes) (r : Request) where
  pub deletes : {d : Decision} → is_deletion r.attributes r.payload ≡ true → d ≡ delete_decision x o → d ≡ write_decision x nv vol o r
  unfolding write_decision
  deletes h e = e ∙ rw h

  module _ (h : is_deletion r.attributes r.payload ≡ false) where
    pub differs : other_attributes o r.attributes ≡ true → Refuse InvalidParameter ≡ write_decision x nv vol o r
    unfolding write_decision
    differs l = simp (h, l)

    module _ (l : other_attributes o r.attributes ≡ false) where
      pub keeps : is_empty_append r.attributes r.payload ≡ true → Keep ≡ write_decision x nv vol o r
      unfolding write_decision
      keeps m = simp (h, l, m)

      pub stores : is_empty_append r.attributes r.payload ≡ false → {d : Decision} → d ≡ store_decision nv vol o r → d ≡ write_decision x nv vol o r
      unfolding write_decision
      stores m e = e ∙ simp (h, l, m)

-- ---- the payload afterwards

pub after_plain : (o : Option Bytes) (a : ℕ) (payload : Bytes) → has_append a ≡ false → payload_after o a payload ≡ payload
unfolding payload_after
after_plain none a payload h = refl
after_plain (some r) a payload h = rw h

pub after_append : (o : Option Bytes) (a : ℕ) (payload : Bytes) → has_append a ≡ true → payload_after o a payload ≡ payload_in o ++ payload
unfolding payload_after
after_append none a payload h = refl
after_append (some r) a payload h = rw h

pub plain_length : (o : Option Bytes) (a : ℕ) (payload : Bytes) → has_append a ≡ false → length payload ≡ length (payload_after o a payload)
plain_length o a payload h = ap length (sym (after_plain o a payload h))

-- where d is what is stored
pub append_length : {d : Bytes} (o : Option Bytes) (a : ℕ) (payload : Bytes) → has_append a ≡ true → d ≡ payload_in o
    → length d + length payload ≡ length (payload_after o a payload)
append_length o a payload h e =
    ap (λ x. length x + length payload) e ∙ sym (length-append (payload_in o) payload) ∙ ap length (sym (after_append o a payload h))

-- the same of a record at the variable's place
pub after_place : {n : ℕ} (nv vol : Bytes) (v : Variable) (p : Place) (a : ℕ) (payload : Bytes) → p ≡ place_in nv vol v
    → n ≡ length (payload_after (record_at nv vol p) a payload) → n ≡ length (payload_after (lookup nv vol v) a payload)
after_place nv vol v p a payload e h = h ∙ ap (λ o. length (payload_after o a payload)) (ap (record_at nv vol) e ∙ sym (lookup_place nv vol v))

-- ---- steps 8 and 9, where n is the length of the payload afterwards

module _ (nv vol : Bytes) (o : Option Bytes) (r : Request) {n : ℕ} (e : n ≡ length (payload_after o r.attributes r.payload)) where
  pub too_long_lem : max_payload < n → Refuse OutOfResources ≡ store_decision nv vol o r
  too_long_lem h = rw (← e, lt-ltb max_payload n h)

  module _ {x : Bool} (h : n ≤ max_payload) (k : x ≡ has_room (has_nv r.attributes) (store_of r.attributes nv vol) r.variable (record_after o r)) where
    by_room : cond x Store (Refuse OutOfResources) ≡ store_decision nv vol o r
    by_room = rw (← e, le-ltb max_payload n h) (ap (λ b. cond b Store (Refuse OutOfResources)) k)

    pub no_room_lem : x ≡ false → Refuse OutOfResources ≡ store_decision nv vol o r
    no_room_lem z = sym (ap (λ b. cond b Store (Refuse OutOfResources)) z) ∙ by_room

    pub stored : x ≡ true → Store ≡ store_decision nv vol o r
    stored z = sym (ap (λ b. cond b Store (Refuse OutOfResources)) z) ∙ by_room
