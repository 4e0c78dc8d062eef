-- Laws of a set that answers 0 over sound stores: it leaves sound stores, changes no variable but its own, and what it
-- stored or deleted is what is found afterwards. Assumes nothing.
use Rattle.std.specs.Prelude.{ℕ, ◌≤◌, ◌≡◌, ◌++◌, Bool, not, cond, length, eqb}
use Rattle.std.proofs.Math.Path.{refl}
use Rattle.std.proofs.Common.{ap, ◌∙◌, true≢false, arith, length-append, eqb-true}
use Rattle.std.proofs.Math.Bool.{true, false}
use Rattle.std.proofs.Math.Option.{Option, none, some}
use Rattle.slices.specs.Bytes.{Bytes}
use Rattle.slices.specs.Chunks.{contains}
use Rattle.names.specs.Name.{Variable}
use Rattle.names.proofs.NameLaws.{is_name-length, named_namespace, named_name}
use Rattle.store.specs.Record.{has_nv, has_append, attributes_of, payload_of, record_ok, is_of}
use Rattle.store.proofs.AttributeLaws.{nv_stored, attributes_ok-stored}
use Rattle.store.proofs.EncodeLaws.{attributes_encode, payload_encode, is_of-encode, encode_ok}
use Rattle.store.specs.Store.{records_of, without_variable, has_room, with_record}
use Rattle.stores.specs.Pair.{sound, lookup}
use Rattle.stores.proofs.PairLaws.{sound_with_nv, sound_with_vol, sound_without, looked_nv, looked_vol, none_nv, none_vol, lookup_with_nv, lookup_with_vol, lookup_with_nv_other, lookup_with_vol_other, lookup_without, lookup_without_other}
use Rattle.rules.specs.Decision.{Decision}
use Rattle.rules.specs.Decision.{Refuse, Block, Delete, Keep, Store}
use Rattle.rules.specs.Set.{Request, stored_attributes, other_attributes, payload_after, record_after, decision, decision_store}
use Rattle.rules.specs.Stored.{Stored}
use Rattle.rules.proofs.DecisionLaws.{Facts, facts, stored_facts}

-- ---- what is written into a sound pair

-- a record of the variable v that a store has room for
record Fits (non_volatile : Bool) (s : Bytes) (v : Variable) (q : Bytes) : Type 0 where
  formed : record_ok non_volatile q ≡ true
  own : is_of v q ≡ true
  room : has_room non_volatile s v q ≡ true

-- the record q of the variable v put into the one store or the other; the variable does not stand in the other one
data Put (nv vol : Bytes) (v : Variable) (q nv' vol' : Bytes) : Type 0 where
  stored : nv' ≡ with_record true nv v q → vol' ≡ vol → Fits true nv v q → contains (is_of v) (records_of false vol) ≡ false → Put nv vol v q nv' vol'
  stored_volatile : nv' ≡ nv → vol' ≡ with_record false vol v q → Fits false vol v q → contains (is_of v) (records_of true nv) ≡ false
      → Put nv vol v q nv' vol'

-- what a set that answers 0 does to the stores
data Change (nv vol : Bytes) (v : Variable) (q nv' vol' : Bytes) : Type 0 where
  deleted : nv' ≡ without_variable true nv v → vol' ≡ without_variable false vol v → Change nv vol v q nv' vol'
  kept : nv' ≡ nv → vol' ≡ vol → Change nv vol v q nv' vol'
  put : Put nv vol v q nv' vol' → Change nv vol v q nv' vol'

module _ (nv vol : Bytes) (v : Variable) (q nv' vol' : Bytes) where
  change_sound : sound nv vol ≡ true → Change nv vol v q nv' vol' → sound nv' vol' ≡ true
  change_sound ok (deleted e f) = rw (e, f) (sound_without nv vol v ok)
  change_sound ok (kept e f) = rw (e, f) ok
  change_sound ok (put (stored e f k h)) = rw (e, f) (sound_with_nv v q k.own nv vol ok k.formed h k.room)
  change_sound ok (put (stored_volatile e f k h)) = rw (e, f) (sound_with_vol v q k.own nv vol ok k.formed h k.room)

  change_other : (w : Variable) → (v ≡ w → ⊥) → Change nv vol v q nv' vol' → lookup nv' vol' w ≡ lookup nv vol w
  change_other w other (deleted e f) = rw (e, f) (lookup_without_other nv vol v w other)
  change_other w other (kept e f) = rw (e, f)
  change_other w other (put (stored e f k h)) = rw (e, f) (lookup_with_nv_other nv vol v q k.own w other k.formed)
  change_other w other (put (stored_volatile e f k h)) = rw (e, f) (lookup_with_vol_other nv vol v q k.own w other k.formed)

  put_own : Put nv vol v q nv' vol' → lookup nv' vol' v ≡ some q
  put_own (stored e f k h) = rw (e, f) (lookup_with_nv nv vol v q k.own k.formed)
  put_own (stored_volatile e f k h) = rw (e, f) (lookup_with_vol nv vol v q k.own k.formed h)

-- ---- the record that is stored

payload_after_some : (found : Option Bytes) (a : ℕ) (payload : Bytes) → 1 ≤ length payload → 1 ≤ length (payload_after found a payload)
unfolding payload_after
payload_after_some none a payload h = h
payload_after_some (some old) a payload h = go (has_append a)
  where
    go : (p : Bool) → 1 ≤ length (cond p (payload_of old ++ payload) payload)
    go true = rw length-append (omega arith)
    go false = h

-- ---- the store that a variable stands in

-- what exists and not with other attributes has the request's NV bit
same_nv : (c : Bytes) (a : ℕ) → other_attributes (some c) a ≡ false → has_nv (attributes_of c) ≡ has_nv a
unfolding other_attributes
same_nv c a h = go (eqb (attributes_of c) (stored_attributes a)) refl h
  where
    go : (b : Bool) → eqb (attributes_of c) (stored_attributes a) ≡ b → not b ≡ false → has_nv (attributes_of c) ≡ has_nv a
    go true e k = ap has_nv (eqb-true (attributes_of c) (stored_attributes a) e) ∙ nv_stored a
    go false e k = absurd (true≢false k)

-- so the variable does not stand in the store that the request does not name
module _ (nv vol : Bytes) (v : Variable) (a : ℕ) (o : other_attributes (lookup nv vol v) a ≡ false) where
  pub not_first : has_nv a ≡ false → contains (is_of v) (records_of true nv) ≡ false
  not_first n = go (lookup nv vol v) refl o
    where
      go : (x : Option Bytes) → lookup nv vol v ≡ x → other_attributes x a ≡ false → contains (is_of v) (records_of true nv) ≡ false
      go none e k = none_nv nv vol v e
      go (some c) e k = looked_vol nv vol v c e (same_nv c a k ∙ n)

  pub not_second : sound nv vol ≡ true → has_nv a ≡ true → contains (is_of v) (records_of false vol) ≡ false
  not_second ok n = go (lookup nv vol v) refl o
    where
      go : (x : Option Bytes) → lookup nv vol v ≡ x → other_attributes x a ≡ false → contains (is_of v) (records_of false vol) ≡ false
      go none e k = none_vol nv vol v e
      go (some c) e k = looked_nv nv vol v c e ok (same_nv c a k ∙ n)

-- ---- THE LAWS

module _ (exited : Bool) (speaking : Option Bytes) (nv vol : Bytes) (r : Request) (ok : sound nv vol ≡ true) where
  -- what is decided, what is found of its variable before, and the stores afterwards
  abbrev decided : Decision
  decided = decision exited speaking nv vol r

  abbrev before : Option Bytes
  before = lookup nv vol r.variable

  abbrev nv_after : Bytes
  nv_after = decision_store decided true nv before r

  abbrev vol_after : Bytes
  vol_after = decision_store decided false vol before r

  -- the record that is stored
  module _ (f : Stored nv vol before r) where
    pub stored_formed : record_ok (has_nv r.attributes) (record_after before r) ≡ true
    stored_formed =
        encode_ok (has_nv r.attributes) (stored_attributes r.attributes) r.variable (payload_after before r.attributes r.payload) (record {
          kind = attributes_ok-stored r.attributes f.bs;
          called = f.called;
          some = payload_after_some before r.attributes r.payload f.some;
          most = f.within;
        })

    -- it holds what the request says: its attributes without append, and its payload, joined to the old one by an append
    pub stored_attributes_lem : attributes_of (record_after before r) ≡ stored_attributes r.attributes
    stored_attributes_lem = attributes_encode (stored_attributes r.attributes) r.variable _ (omega arith)

    pub stored_payload : payload_of (record_after before r) ≡ payload_after before r.attributes r.payload
    stored_payload =
        payload_encode (stored_attributes r.attributes) r.variable _ (named_namespace r.variable f.called)
        (is_name-length r.variable.name (named_name r.variable f.called)).1 f.within

    put_of : Put nv vol r.variable (record_after before r) (decision_store Store true nv before r) (decision_store Store false vol before r)
    unfolding decision_store
    put_of = go (has_nv r.attributes) refl
      where
        own : is_of r.variable (record_after before r) ≡ true
        own = is_of-encode (stored_attributes r.attributes) r.variable (payload_after before r.attributes r.payload) f.called

        go : (b : Bool) → has_nv r.attributes ≡ b
            → Put nv vol r.variable (record_after before r) (cond b (with_record true nv r.variable (record_after before r)) nv) (cond (not b) (with_record false vol r.variable (record_after before r)) vol)
        go true n =
            stored refl refl (record { formed = rw n at stored_formed; own = own; room = rw n at f.room })
            (not_second nv vol r.variable r.attributes f.alike ok n)
        go false n =
            stored_volatile refl refl (record { formed = rw n at stored_formed; own = own; room = rw n at f.room })
            (not_first nv vol r.variable r.attributes f.alike n)

  change : Change nv vol r.variable (record_after before r) nv_after vol_after
  unfolding decision_store
  change = go decided (facts exited speaking nv vol r)
    where
      go : (d : Decision) → Facts nv vol before r d
          → Change nv vol r.variable (record_after before r) (decision_store d true nv before r) (decision_store d false vol before r)
      go (Refuse n) f = kept refl refl
      go (Block g) f = kept refl refl
      go Delete f = deleted refl refl
      go Keep f = kept refl refl
      go Store f = put (put_of f)

  -- A SET KEEPS THE STORES SOUND
  pub set_sound : sound nv_after vol_after ≡ true
  set_sound = change_sound nv vol r.variable (record_after before r) nv_after vol_after ok change

  -- IT CHANGES NO VARIABLE BUT ITS OWN
  pub set_others : (w : Variable) → (r.variable ≡ w → ⊥) → lookup nv_after vol_after w ≡ lookup nv vol w
  set_others w other = change_other nv vol r.variable (record_after before r) nv_after vol_after w other change

  -- A DELETION TAKES IT OUT
  pub set_deletes : decided ≡ Delete → lookup nv_after vol_after r.variable ≡ none
  unfolding decision_store
  set_deletes e = rw e (lookup_without nv vol r.variable ok)

  -- AN EMPTY APPEND CHANGES NOTHING
  pub set_keeps : decided ≡ Keep → (nv_after ≡ nv) × (vol_after ≡ vol)
  unfolding decision_store
  set_keeps e = (rw e, rw e)

  -- ANY OTHER STORES ITS RECORD, which is found afterwards
  pub set_stores : decided ≡ Store → lookup nv_after vol_after r.variable ≡ some (record_after before r)
  set_stores e = rw e (put_own nv vol r.variable (record_after before r) _ _ (put_of (stored_facts exited speaking nv vol r e)))
