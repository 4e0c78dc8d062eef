-- The computed status of a set and its grounds agree. Assumes nothing.
use Rattle.std.specs.Prelude.{ℕ, ◌+◌, ◌-◌, ◌*◌, ◌%◌, ◌/◌, ◌≤◌, ◌<◌, ◌≡◌, List, [], ◌∷◌, ◌++◌, Bool, not, ◌||◌, ◌⊎◌, ◌↔◌, Some, None, ltb}
use Rattle.std.specs.Prelude as std
use Rattle.std.specs.Option.{option_or}
use Rattle.std.proofs.Math.Path.{refl, ap, subst⁻¹}
use Rattle.std.proofs.Common.{sym, subst, ◌∙◌, true≢false, inl, inr, length-append, lit<, mod-eq_of_lt}
use Rattle.std.proofs.Math.Bool.{true, false, cond}
use Rattle.std.proofs.lemmas.Bool.{false≢true}
use Rattle.std.proofs.Math.Option.{Option, none, some}
use native.Mathlib.Omega.{arith}
use Rattle.std.proofs.Math.ListN.{length}
use Rattle.std.proofs.Math.Dec.{eqb}
use Rattle.std.proofs.Math.Arith.{mod-mul}
use borrow.Author.Tests.{not-true, not-false, eqb-true, leb-true, lt-leb, lt-ltb, ltb-true}
use Rattle.limits.specs.Limits.{max_payload}
use Rattle.lists.specs.Lists.{Among}
use Rattle.lists.proofs.ListsLaws.{all_among, all_append, all_map, among_middle}
use Rattle.slices.specs.Test.{◌and◌}
use Rattle.slices.specs.Bytes.{Bytes}
use Rattle.slices.specs.Chunks.{flat, distinct, replace_or_append}
use Rattle.names.specs.Name.{Variable, named}
use Rattle.entry.specs.Entry.{min_size, max_size, attributes_must_have, attributes_cant_have, lock_policy_type, offset_to_name, well_formed, lock_of, trigger_of, trigger_value}
use Rattle.entry.proofs.EntryLaws.{type_3}
use Rattle.entry.specs.declared.LockRule.TheVariants.{NoLock, LockNow, LockOnCreate, LockOnVarState}
use Rattle.policy.specs.Policy.{entries_of, policy_valid}
use Rattle.policy.specs.Choice.{chosen}
use Rattle.store.specs.Record.{has_nv, has_append, attributes_of, payload_of, record_ok, is_of, same_variable, encode_record}
use Rattle.store.proofs.EncodeLaws.{attributes_ok-small}
use Rattle.store.proofs.AttributeLaws.{record_attributes}
use Rattle.store.specs.Store.{records_of, has_room}
use Rattle.stores.specs.Pair.{sound, lookup}
use Rattle.status.specs.declared.Status.TheVariants.{Success, InvalidParameter, Unsupported, WriteProtected, OutOfResources, VolumeCorrupted, NotFound}
use Rattle.rules.specs.declared.Ground.{Ground}
use Rattle.rules.specs.declared.Ground.TheVariants.{SizeGround, AttributeGround, LockGround}
use Rattle.rules.specs.Decision.{Decision}
use Rattle.rules.specs.Decision.{Refuse, Delete, Keep, Store}
use Rattle.rules.specs.Set.{Request, Lookup, exists, bad_request, unsupported_bit, needs_bs, needs_runtime, request_status, holds_value, rule_locks, locks, is_deletion, shown, exit_protects, size_allowed, attributes_allowed, request_ground, ground_of, ground_by, other_attributes, is_empty_append, payload_after, length_after, record_after, store_of, write_decision, refuse_or, block_or, decision, decision_status}
use Rattle.rules.proofs.DecisionLaws.{blocked_by, write_unblocked}
use Rattle.rules.specs.Engine.{State, speaking, decision_by, set_decision, status}
use Rattle.rules.specs.Engine.Call.{set}
use Rattle.rules.specs.Grounds.{Not, Bit, BS, RT, Append, HasEntries, SoundStores, RecordOf, Absent, Hidden, Locks, Deletion, SameAttributes, Enforced, PayloadAfter, Storing, Applies, FirstAt, Answers}
use Rattle.rules.specs.Grounds.Applies.{set_unsound, set_bad_record, set_bad_name, set_long_payload, set_unknown_bit, set_runtime_without_bs, set_append_without_bs, set_not_runtime, set_too_short, set_too_long, set_bit_missing, set_bit_prohibited, set_locked}
use Rattle.rules.specs.Grounds.Applies.{set_absent, set_hidden, set_volatile, set_deleted, set_other_attributes, set_empty_append, set_append_too_long, set_no_room_nv, set_no_room_vol, set_done}
use Rattle.rules.proofs.ConditionLaws.{Tells, tells_not, tells_and, tells_nand, tells_eq, tells_le, tells_lt, tells_more, tells_same, tells_off, off_tells, tells_missing, tells_prohibited, tells_unsupported, tells_nv, tells_append, tells_deletion, tells_nothing, tells_needs_bs, tells_runtime, tells_named, chosen_is, is_chosen}
use Rattle.rules.proofs.FoundLaws.{none_some, tells_sound, valid_entries, entries_read, tells_entries, tells_exists, tells_unseen, tells_protected, first_records, second_records, distinct_first, distinct_second, found_lookup, lookup_found, lookup_absent, with_put, put_with}
use Rattle.rules.proofs.OrderedLaws.{Row, row, first_of, first_place, NoneBefore, Grounds, last, ◌then◌, NoGrounds, first_at}

-- ---- the tests in their order

abbrev pub is_size : std.Option Ground → Bool
is_size None = false
is_size (Some SizeGround) = true
is_size (Some AttributeGround) = false
is_size (Some LockGround) = false

abbrev pub is_attribute : std.Option Ground → Bool
is_attribute None = false
is_attribute (Some SizeGround) = false
is_attribute (Some AttributeGround) = true
is_attribute (Some LockGround) = false

abbrev is_lock : std.Option Ground → Bool
is_lock None = false
is_lock (Some SizeGround) = false
is_lock (Some AttributeGround) = false
is_lock (Some LockGround) = true

abbrev write_rows : Bool → Bool → Bool → Bool → Bool → Bool → Bool → List Row
write_rows deletion seen protected other nothing long room =
    row 51 (deletion and not seen) NotFound ∷ row 52 (deletion and protected) WriteProtected ∷ row 53 deletion Success ∷ row 60 other InvalidParameter
    ∷ row 70 nothing Success ∷ row 80 long OutOfResources ∷ row 90 (not room) OutOfResources ∷ row 100 true Success ∷ []

write_chain : (d x p o e l m : Bool)
    → decision_status (cond d (cond x (cond p (Refuse WriteProtected) Delete) (Refuse NotFound)) (cond o (Refuse InvalidParameter) (cond e Keep (cond l (Refuse OutOfResources) (cond m Store (Refuse OutOfResources))))))
    ≡ first_of (write_rows d x p o e l m)
unfolding ◌and◌
write_chain true true true o e l m = refl
write_chain true true false o e l m = refl
write_chain true false p o e l m = refl
write_chain false x p true e l m = refl
write_chain false x p false true l m = refl
write_chain false x p false false true m = refl
write_chain false x p false false false true = refl
write_chain false x p false false false false = refl

abbrev ground_rows : std.Option Ground → List Row → List Row
ground_rows g rows = row 41 (is_size g) InvalidParameter ∷ row 42 (is_attribute g) InvalidParameter ∷ row 43 (is_lock g) WriteProtected ∷ rows

ground_chain : (g : std.Option Ground) (d : Decision) (rows : List Row) → decision_status d ≡ first_of rows → decision_status (block_or g d) ≡ first_of (ground_rows g rows)
ground_chain None d rows e = e
ground_chain (Some SizeGround) d rows e = refl
ground_chain (Some AttributeGround) d rows e = refl
ground_chain (Some LockGround) d rows e = refl

abbrev all_rows : Bool → Bool → Bool → Bool → Bool → Bool → Bool → List Row → List Row
all_rows sound valid named long unsupported needs runtime rows =
    row 0 (not sound) VolumeCorrupted ∷ row 0 (not valid) VolumeCorrupted ∷ row 10 (not named) InvalidParameter ∷ row 10 long InvalidParameter
    ∷ row 20 unsupported Unsupported ∷ row 30 needs InvalidParameter ∷ row 31 runtime InvalidParameter ∷ rows

all_chain : (s v n l u b x : Bool) (d : Decision) (rows : List Row) → decision_status d ≡ first_of rows
    → decision_status (cond (s and v) (refuse_or (cond (not n || l) InvalidParameter (cond u Unsupported (cond b InvalidParameter (cond x InvalidParameter Success)))) d) (Refuse VolumeCorrupted))
    ≡ first_of (all_rows s v n l u b x rows)
unfolding ◌and◌
all_chain false v n l u b x d rows e = refl
all_chain true false n l u b x d rows e = refl
all_chain true true false l u b x d rows e = refl
all_chain true true true true u b x d rows e = refl
all_chain true true true false true b x d rows e = refl
all_chain true true true false false true x d rows e = refl
all_chain true true true false false false true d rows e = refl
all_chain true true true false false false false d rows e = e

-- ---- at which place the steps end

-- the place of a ground of step 4, and any other without one
abbrev pub EndsAt : std.Option Ground → ℕ → Type 0
EndsAt None p = Not ((41 ≤ p) × (p ≤ 43))
EndsAt (Some SizeGround) p = p ≡ 41
EndsAt (Some AttributeGround) p = p ≡ 42
EndsAt (Some LockGround) p = p ≡ 43

write_place : (d x p o e l m : Bool) → 43 < first_place (write_rows d x p o e l m)
unfolding ◌and◌
write_place true true true o e l m = lit< tt
write_place true true false o e l m = lit< tt
write_place true false p o e l m = lit< tt
write_place false x p true e l m = lit< tt
write_place false x p false true l m = lit< tt
write_place false x p false false true m = lit< tt
write_place false x p false false false true = lit< tt
write_place false x p false false false false = lit< tt

ground_ends : (g : std.Option Ground) (d : Decision) (rows : List Row) → blocked_by d ≡ None → 43 < first_place rows → EndsAt (blocked_by (block_or g d)) (first_place (ground_rows g rows))
ground_ends None d rows e l = subst⁻¹ (λ g. EndsAt g (first_place rows)) e (λ w. let h = w.1 in omega arith)
ground_ends (Some SizeGround) d rows e l = refl
ground_ends (Some AttributeGround) d rows e l = refl
ground_ends (Some LockGround) d rows e l = refl

before_4 : (p : ℕ) → p < 41 → EndsAt None p
before_4 p l w = let h = w.0 in omega arith

all_ends : (s v n l u b x : Bool) (g : std.Option Ground) (d : Decision) (rows : List Row) → blocked_by d ≡ None → 43 < first_place rows
    → EndsAt (blocked_by (cond (s and v) (refuse_or (cond (not n || l) InvalidParameter (cond u Unsupported (cond b InvalidParameter (cond x InvalidParameter Success)))) (block_or g d)) (Refuse VolumeCorrupted)))
    (first_place (all_rows s v n l u b x (ground_rows g rows)))
unfolding ◌and◌
all_ends false v n l u b x g d rows e f = before_4 0 (lit< tt)
all_ends true false n l u b x g d rows e f = before_4 0 (lit< tt)
all_ends true true false l u b x g d rows e f = before_4 10 (lit< tt)
all_ends true true true true u b x g d rows e f = before_4 10 (lit< tt)
all_ends true true true false true b x g d rows e f = before_4 20 (lit< tt)
all_ends true true true false false true x g d rows e f = before_4 30 (lit< tt)
all_ends true true true false false false true g d rows e f = before_4 31 (lit< tt)
all_ends true true true false false false false g d rows e f = ground_ends g d rows e f

-- ---- step 4

-- which ground speaks: a deletion or not, size and attributes allowed or not, locked or not
pub data Spoken (d z a l : Bool) : std.Option Ground → Type 0 where
  by_size : d ≡ false → z ≡ false → Spoken d z a l (Some SizeGround)
  by_attributes : d ≡ false → z ≡ true → a ≡ false → Spoken d z a l (Some AttributeGround)
  by_lock : (d ≡ false → (z ≡ true) × (a ≡ true)) → l ≡ true → Spoken d z a l (Some LockGround)
  by_none : (d ≡ false → (z ≡ true) × (a ≡ true)) → l ≡ false → Spoken d z a l None

spoken : (d z a l : Bool) → Spoken d z a l (option_or (cond d None (cond z (cond a None (Some AttributeGround)) (Some SizeGround))) (cond l (Some LockGround) None))
spoken true z a true = by_lock (λ h. absurd (true≢false h)) refl
spoken true z a false = by_none (λ h. absurd (true≢false h)) refl
spoken false false a l = by_size refl refl
spoken false true false l = by_attributes refl refl refl
spoken false true true true = by_lock (λ h. (refl, refl)) refl
spoken false true true false = by_none (λ h. (refl, refl)) refl

module _ {d z a l : Bool} where
  pub size_says : (g : std.Option Ground) → Spoken d z a l g → is_size g ≡ true → (d ≡ false) × (z ≡ false)
  size_says g (by_size e f) h = (e, f)
  size_says g (by_attributes e f i) h = absurd (false≢true h)
  size_says g (by_lock w i) h = absurd (false≢true h)
  size_says g (by_none w i) h = absurd (false≢true h)

  pub attribute_says : (g : std.Option Ground) → Spoken d z a l g → is_attribute g ≡ true → (d ≡ false) × (a ≡ false)
  attribute_says g (by_size e f) h = absurd (false≢true h)
  attribute_says g (by_attributes e f i) h = (e, i)
  attribute_says g (by_lock w i) h = absurd (false≢true h)
  attribute_says g (by_none w i) h = absurd (false≢true h)

  lock_says : (g : std.Option Ground) → Spoken d z a l g → is_lock g ≡ true → l ≡ true
  lock_says g (by_size e f) h = absurd (false≢true h)
  lock_says g (by_attributes e f i) h = absurd (false≢true h)
  lock_says g (by_lock w i) h = i
  lock_says g (by_none w i) h = absurd (false≢true h)

  -- and what there is where its grounds do not speak
  no_size : (g : std.Option Ground) → Spoken d z a l g → is_size g ≡ false → d ≡ false → z ≡ true
  no_size g (by_size e f) h k = absurd (true≢false h)
  no_size g (by_attributes e f i) h k = f
  no_size g (by_lock w i) h k = (w k).0
  no_size g (by_none w i) h k = (w k).0

  no_attribute : (g : std.Option Ground) → Spoken d z a l g → is_size g ≡ false → is_attribute g ≡ false → d ≡ false → a ≡ true
  no_attribute g (by_size e f) h j k = absurd (true≢false h)
  no_attribute g (by_attributes e f i) h j k = absurd (true≢false j)
  no_attribute g (by_lock w i) h j k = (w k).1
  no_attribute g (by_none w i) h j k = (w k).1

  no_lock : (g : std.Option Ground) → Spoken d z a l g → is_size g ≡ false → is_attribute g ≡ false → is_lock g ≡ false → l ≡ false
  no_lock g (by_size e f) h j k = absurd (true≢false h)
  no_lock g (by_attributes e f i) h j k = absurd (true≢false j)
  no_lock g (by_lock w i) h j k = absurd (true≢false k)
  no_lock g (by_none w i) h j k = i

-- the tests of an entry
pub tells_size : (e : Bytes) (n : ℕ) → Tells (not (size_allowed e n)) ((n < min_size e) ⊎ (max_size e < n))
unfolding size_allowed
tells_size e n = tells_nand _ _ (tells_more (min_size e) n) (tells_more n (max_size e))

tells_attributes : (e : Bytes) (a : ℕ)
    → Tells (not (attributes_allowed e a)) (((i : ℕ) × Bit i (attributes_must_have e) × Not (Bit i a)) ⊎ ((i : ℕ) × Bit i (attributes_cant_have e) × Bit i a))
unfolding attributes_allowed
tells_attributes e a = tells_nand _ _ (tells_missing (attributes_must_have e) a) (tells_prohibited (attributes_cant_have e) a)

module _ (s : State) where
  abbrev found : Lookup
  found = lookup s.nv s.vol

  tells_holds : SoundStores s.nv s.vol → (v : Variable) (value : ℕ) → Tells (holds_value (found v) value) ((r : Bytes) × RecordOf s v r × (payload_of r ≡ value ∷ []))
  unfolding holds_value
  tells_holds k v value = (go (found v) refl, λ w. rw (found_lookup s v w.0 w.1) ((tells_same (payload_of w.0) (value ∷ [])).1 w.2))
    where
      go : (o : Option Bytes) → found v ≡ o → holds_value o value ≡ true → (r : Bytes) × RecordOf s v r × (payload_of r ≡ value ∷ [])
      go none e h = absurd (false≢true h)
      go (some r) e h = (r, lookup_found s v r k e, (tells_same (payload_of r) (value ∷ [])).0 h)

  pub tells_locks : SoundStores s.nv s.vol → (e : Bytes) → well_formed e ≡ true → (v : Variable) → Tells (locks e found v) (Locks s e v)
  unfolding locks lock_of
  tells_locks k e w v = (to (eqb (lock_policy_type e) 0) (eqb (lock_policy_type e) 1) (eqb (lock_policy_type e) 2) refl refl refl, back)
    where
      to : (x y z : Bool) → eqb (lock_policy_type e) 0 ≡ x → eqb (lock_policy_type e) 1 ≡ y → eqb (lock_policy_type e) 2 ≡ z
          → rule_locks (cond x NoLock (cond y LockNow (cond z LockOnCreate (LockOnVarState (record { value = trigger_value e; namespace = 44; name = 62; name_end = offset_to_name e - 2 }))))) e found v ≡ true
          → Locks s e v
      to true y z p q r h = absurd (false≢true h)
      to false true z p q r h = Locks.now (eqb-true _ _ q)
      to false false true p q r h = let u = (tells_exists s v k).0 h in Locks.on_create u.0 (eqb-true _ _ r) u.1
      to false false false p q r h =
          let u = (tells_holds k (trigger_of e) (trigger_value e)).0 h in
          let a = tells_off _ (tells_eq (lock_policy_type e) 0) p in
          let b = tells_off _ (tells_eq (lock_policy_type e) 1) q in
          let c = tells_off _ (tells_eq (lock_policy_type e) 2) r in
          Locks.on_var_state u.0 (type_3 e w (lt-leb (lock_policy_type e) 2 (omega arith))) u.1 u.2

      back : Locks s e v → rule_locks (lock_of e) e found v ≡ true
      back (Locks.now h) = rw h
      back (Locks.on_create r h f) = rw h ((tells_exists s v k).1 (r, f))
      back (Locks.on_var_state r h f p) = rw h ((tells_holds k (trigger_of e) (trigger_value e)).1 (r, f, p))

-- ---- step 6

same_digit : (x y : ℕ) → (x % 2 ≡ 1 ↔ y % 2 ≡ 1) → x % 2 ≡ y % 2
same_digit x y h = go (eqb (x % 2) 1) refl
  where
    go : (b : Bool) → eqb (x % 2) 1 ≡ b → x % 2 ≡ y % 2
    go true e = let i = eqb-true (x % 2) 1 e in i ∙ sym (h.0 i)
    go false e = go₂ (eqb (y % 2) 1) refl
      where
        go₂ : (b : Bool) → eqb (y % 2) 1 ≡ b → x % 2 ≡ y % 2
        go₂ true f = let j = eqb-true (y % 2) 1 f in absurd (tells_off _ (tells_eq (x % 2) 1) e (h.1 j))
        go₂ false f = let i = tells_off _ (tells_eq (x % 2) 1) e in let j = tells_off _ (tells_eq (y % 2) 1) f in omega arith

-- the low three bits
low_bits : (a : ℕ) → a % 8 ≡ (a / 2 / 2 % 2 * 2 + a / 2 % 2) * 2 + a % 2
low_bits a =
    let e : a % 8 ≡ a / 2 % 4 * 2 + a % 2 = mod-mul a {m = 4} {c = 2} (omega arith) (omega arith) in
    let f : a / 2 % 4 ≡ a / 2 / 2 % 2 * 2 + a / 2 % 2 = mod-mul (a / 2) {m = 2} {c = 2} (omega arith) (omega arith) in
    e ∙ ap (λ x. x * 2 + a % 2) f

-- attributes as they are stored are those of the request if NV, BS and RT are
same_kind : (x a : ℕ) → x ≤ 7 → SameAttributes x a → x ≡ a % 8
same_kind x a m k =
    let e : x ≡ x % 8 = sym (mod-eq_of_lt (omega arith)) in
    let p = same_digit x a k.nv in
    let q = same_digit (x / 2) (a / 2) k.bs in
    let r = same_digit (x / 2 / 2) (a / 2 / 2) k.rt in
    e ∙ low_bits x ∙ rw (p, q, r) (sym (low_bits a))

three_bits : (x b c d : ℕ) → b < 2 → c < 2 → d < 2 → x ≡ (d * 2 + c) * 2 + b → (x % 2 ≡ b) × (x / 2 % 2 ≡ c) × (x / 2 / 2 % 2 ≡ d)
three_bits x b c d hb hc hd e =
    let h : x / 2 ≡ d * 2 + c = omega arith in
    let i : x / 2 / 2 ≡ d = omega arith in
    (omega arith, omega arith, omega arith)

pub kind_same : (x a : ℕ) → x ≡ a % 8 → SameAttributes x a
kind_same x a e =
    let w = three_bits x (a % 2) (a / 2 % 2) (a / 2 / 2 % 2) (omega arith) (omega arith) (omega arith) (e ∙ low_bits a) in
    record {
      nv = ((λ h. sym w.0 ∙ h), λ h. w.0 ∙ h);
      bs = ((λ h. sym w.1 ∙ h), λ h. w.1 ∙ h);
      rt = ((λ h. sym w.2 ∙ h), λ h. w.2 ∙ h);
    }

-- a record of a sound store has no other bits
found_small : (s : State) (v : Variable) (q : Bytes) → RecordOf s v q → attributes_of q ≤ 7
found_small s v q f =
    all_among {P = λ r. attributes_of r ≤ 7} (f.in_nv ++ f.in_vol)
    (all_append f.in_nv f.in_vol (all_map (small true) f.in_nv f.records.first.formed) (all_map (small false) f.in_vol f.records.second.formed))
    q f.stands
  where
    small : (b : Bool) (r : Bytes) → record_ok b r ≡ true → attributes_of r ≤ 7
    small b r h = attributes_ok-small b (attributes_of r) (record_attributes b r h)

tells_other : (s : State) (r : Request) → SoundStores s.nv s.vol
    → Tells (other_attributes (lookup s.nv s.vol r.variable) r.attributes) ((q : Bytes) × RecordOf s r.variable q × Not (SameAttributes (attributes_of q) r.attributes))
unfolding other_attributes
tells_other s r k = (go (lookup s.nv s.vol r.variable) refl, back)
  where
    go : (o : Option Bytes) → lookup s.nv s.vol r.variable ≡ o → other_attributes o r.attributes ≡ true
        → (q : Bytes) × RecordOf s r.variable q × Not (SameAttributes (attributes_of q) r.attributes)
    go none e h = absurd (false≢true h)
    go (some q) e h =
        let f = lookup_found s r.variable q k e in
        let n = (tells_not _ (tells_eq (attributes_of q) (r.attributes % 8))).0 h in
        (q, f, λ i. n (same_kind (attributes_of q) r.attributes (found_small s r.variable q f) i))

    back : (q : Bytes) × RecordOf s r.variable q × Not (SameAttributes (attributes_of q) r.attributes)
        → other_attributes (lookup s.nv s.vol r.variable) r.attributes ≡ true
    back w =
        rw (found_lookup s r.variable w.0 w.1)
        ((tells_not _ (tells_eq (attributes_of w.0) (r.attributes % 8))).1 (λ e. w.2 (kind_same (attributes_of w.0) r.attributes e)))

-- ---- steps 8 and 9

module _ (s : State) (r : Request) (k : SoundStores s.nv s.vol) where
  abbrev pub after : Bytes
  after = payload_after (lookup s.nv s.vol r.variable) r.attributes r.payload

  pub payload_is : PayloadAfter s r after
  unfolding payload_after
  payload_is = go (lookup s.nv s.vol r.variable) refl
    where
      go : (o : Option Bytes) → lookup s.nv s.vol r.variable ≡ o → PayloadAfter s r (payload_after o r.attributes r.payload)
      go none e = PayloadAfter.own (λ h. lookup_absent s r.variable e) refl
      go (some q) e = go₂ (has_append r.attributes) refl
        where
          go₂ : (b : Bool) → has_append r.attributes ≡ b → PayloadAfter s r (cond b (payload_of q ++ r.payload) r.payload)
          go₂ true h = PayloadAfter.joined q ((tells_append r.attributes).0 h) (lookup_found s r.variable q k e) refl
          go₂ false h = PayloadAfter.own (λ i. absurd (tells_off _ (tells_append r.attributes) h i)) refl

  pub payload_only : (p : Bytes) → PayloadAfter s r p → p ≡ after
  unfolding payload_after
  payload_only p (PayloadAfter.joined q h f e) = rw (found_lookup s r.variable q f, (tells_append r.attributes).1 h) e
  payload_only p (PayloadAfter.own h e) = go (lookup s.nv s.vol r.variable) refl
    where
      go : (o : Option Bytes) → lookup s.nv s.vol r.variable ≡ o → p ≡ payload_after o r.attributes r.payload
      go none i = e
      go (some q) i = go₂ (has_append r.attributes) refl
        where
          go₂ : (b : Bool) → has_append r.attributes ≡ b → p ≡ cond b (payload_of q ++ r.payload) r.payload
          go₂ true j = absurd (h ((tells_append r.attributes).0 j) q (lookup_found s r.variable q k i))
          go₂ false j = e

  -- too long, of a request whose own payload is not
  tells_joined : length r.payload ≤ max_payload
      → Tells (ltb max_payload (length after)) ((q : Bytes) × Append r.attributes × RecordOf s r.variable q × (max_payload < length (payload_of q) + length r.payload))
  tells_joined m = (
    (λ t. to payload_is (ltb-true max_payload (length after) t)),
    λ w. lt-ltb max_payload (length after)
        (let e = ap length (payload_only _ (PayloadAfter.joined w.0 w.1 w.2 refl)) in
        let l = length-append (payload_of w.0) r.payload in
        let h = w.3 in omega arith),
  )
    where
      to : PayloadAfter s r after → max_payload < length after
          → (q : Bytes) × Append r.attributes × RecordOf s r.variable q × (max_payload < length (payload_of q) + length r.payload)
      to (PayloadAfter.joined q h f e) t = (q, h, f, let l = ap length e ∙ length-append (payload_of q) r.payload in omega arith)
      to (PayloadAfter.own h e) t = absurd (let l = ap length e in omega arith)

  abbrev pub stored : Bytes
  stored = encode_record (r.attributes % 8) r.variable after

  -- what is stored among the records rs
  abbrev pub storing : (rs : List Bytes) → Storing s r rs
  storing rs = record { payload = after; after = payload_is; records = replace_or_append (is_of r.variable) stored rs; put = with_put r.variable rs stored }

  pub storing_only : (rs : List Bytes) → distinct same_variable rs ≡ true → (t : Storing s r rs) → t.records ≡ replace_or_append (is_of r.variable) stored rs
  storing_only rs d t =
      put_with r.variable rs d _ t.records t.put
      ∙ ap (λ p. replace_or_append (is_of r.variable) (encode_record (r.attributes % 8) r.variable p) rs) (payload_only t.payload t.after)

  -- no room in a store, whose records are rs
  module _ (b : Bool) (store : Bytes) (rs : List Bytes) (e : rs ≡ records_of b store) where
    full : has_room b store r.variable stored ≡ false → length store < length (flat (storing rs).records)
    unfolding has_room
    full h =
        let l = ap (λ x. length (flat (replace_or_append (is_of r.variable) stored x))) e in
        let m : Not (length (flat (replace_or_append (is_of r.variable) stored (records_of b store))) ≤ length store) = tells_off _ (tells_le _ (length store)) h in
        let g : length store < length (flat (replace_or_append (is_of r.variable) stored rs)) = omega arith in g

    not_full : distinct same_variable rs ≡ true → (t : Storing s r rs) → has_room b store r.variable stored ≡ true → length store < length (flat t.records) → ⊥
    unfolding has_room
    not_full d t h g =
        let l = ap (λ x. length (flat (replace_or_append (is_of r.variable) stored x))) e in
        let o = ap (λ x. length (flat x)) (storing_only rs d t) in
        let m : length (flat (replace_or_append (is_of r.variable) stored (records_of b store))) ≤ length store = leb-true _ (length store) h in omega arith

-- ---- the set

module _ (s : State) (r : Request) where
  -- the entry that step 4 asks, if one speaks
  abbrev pub chosen_entry : Option Bytes
  chosen_entry = speaking s.switches.enabled (chosen (entries_of s.policy) r.variable)

  abbrev spoken_ground : std.Option Ground
  spoken_ground = ground_by chosen_entry (lookup s.nv s.vol) r

  abbrev standing : Option Bytes
  standing = lookup s.nv s.vol r.variable

  abbrev long : Bool
  long = ltb max_payload (length (payload_after standing r.attributes r.payload))

  abbrev room : Bool
  room = has_room (has_nv r.attributes) (store_of r.attributes s.nv s.vol) r.variable (record_after standing r)

  abbrev exited : Bool
  exited = s.switches.exited

  abbrev runtime : Bool
  runtime = needs_runtime exited r.attributes r.payload

  abbrev last_rows : List Row
  last_rows =
      write_rows (is_deletion r.attributes r.payload) (exists (shown exited standing)) (exit_protects exited standing) (other_attributes standing r.attributes)
      (is_empty_append r.attributes r.payload) long room

  abbrev set_rows : List Row
  set_rows =
      all_rows (sound s.nv s.vol) (policy_valid s.policy) (named r.variable) (ltb max_payload (length r.payload)) (unsupported_bit r.attributes) (needs_bs r.attributes) runtime
      (ground_rows spoken_ground last_rows)

  set_chain : status s (set r) ≡ first_of set_rows
  unfolding decision_by decision request_status bad_request write_decision
  set_chain =
      all_chain (sound s.nv s.vol) (policy_valid s.policy) (named r.variable) (ltb max_payload (length r.payload)) (unsupported_bit r.attributes) (needs_bs r.attributes) runtime
      _ (ground_rows spoken_ground last_rows)
      (ground_chain spoken_ground _ last_rows
      (write_chain (is_deletion r.attributes r.payload) (exists (shown exited standing)) (exit_protects exited standing) (other_attributes standing r.attributes)
      (is_empty_append r.attributes r.payload) long room))

  pub enforced_entry : (e : Bytes) → Enforced s r e → chosen_entry ≡ some e
  enforced_entry e w =
      let c = subst (λ x. chosen x r.variable ≡ some e) (entries_read s w.entries w.listed) (is_chosen w.entries r.variable e w.choice) in
      rw w.enabled c

  enforced_formed : (e : Bytes) → Enforced s r e → well_formed e ≡ true
  enforced_formed e w =
      all_among w.entries w.listed.formed e
      (subst⁻¹ (Among e) w.choice.place (among_middle w.choice.before e w.choice.after))

  pub entry_enforced : HasEntries s (entries_of s.policy) → (e : Bytes) → chosen_entry ≡ some e → Enforced s r e
  entry_enforced l e = go s.switches.enabled refl
    where
      go : (b : Bool) → s.switches.enabled ≡ b → speaking b (chosen (entries_of s.policy) r.variable) ≡ some e → Enforced s r e
      go true h c = record { enabled = h; entries = entries_of s.policy; listed = l; choice = chosen_is (entries_of s.policy) r.variable e c }
      go false h c = absurd (none_some e c)

  asked : (test : std.Option Ground → Bool) → test None ≡ false → test spoken_ground ≡ true
      → (e : Bytes) × (chosen_entry ≡ some e) × (test (ground_of e (lookup s.nv s.vol) r) ≡ true)
  asked test f = go chosen_entry refl
    where
      go : (o : Option Bytes) → chosen_entry ≡ o → test (ground_by o (lookup s.nv s.vol) r) ≡ true
          → (e : Bytes) × (chosen_entry ≡ some e) × (test (ground_of e (lookup s.nv s.vol) r) ≡ true)
      go none e h = absurd (false≢true (sym f ∙ h))
      go (some x) e h = (x, e, h)

  pub spoken_of : (e : Bytes) → Spoken (is_deletion r.attributes r.payload) (size_allowed e (length_after standing r)) (attributes_allowed e r.attributes) (locks e (lookup s.nv s.vol) r.variable)
      (ground_of e (lookup s.nv s.vol) r)
  unfolding ground_of request_ground
  spoken_of e = spoken _ _ _ _

  -- what the tests that have failed before tell
  module _ (p : ℕ) (n : NoneBefore set_rows p) where
    set_stores : 0 < p → SoundStores s.nv s.vol
    set_stores l = (tells_sound s.nv s.vol).0 (not-false _ (n 0 l))

    set_listed : 0 < p → HasEntries s (entries_of s.policy)
    set_listed l = valid_entries s (not-false _ (n 1 l))

    set_short : 10 < p → length r.payload ≤ max_payload
    set_short l = let h = tells_off _ (tells_lt max_payload (length r.payload)) (n 3 l) in omega arith

    ground_off : (test : std.Option Ground → Bool) → test spoken_ground ≡ false → (e : Bytes) → Enforced s r e → test (ground_of e (lookup s.nv s.vol) r) ≡ false
    ground_off test h e w = subst (λ o. test (ground_by o (lookup s.nv s.vol) r) ≡ false) (enforced_entry e w) h

    not_deletion : Not (Deletion r) → is_deletion r.attributes r.payload ≡ false
    not_deletion h = off_tells _ (tells_deletion r) h

    no_size_ground : 0 < p → (e x : Bytes) → Enforced s r e → Not (Deletion r) → PayloadAfter s r x → is_size spoken_ground ≡ false
        → Not ((length x < min_size e) ⊎ (max_size e < length x))
    no_size_ground l e x w d a h =
        subst⁻¹ (λ y. Not ((length y < min_size e) ⊎ (max_size e < length y))) (payload_only s r (set_stores l) x a)
        (tells_off _ (tells_size e (length_after standing r)) (ap not (no_size _ (spoken_of e) (ground_off is_size h e w) (not_deletion d))))

  size_ground : (e p : Bytes) → Enforced s r e → Not (Deletion r) → PayloadAfter s r p → (length p < min_size e) ⊎ (max_size e < length p) → Applies s (set r) 41 InvalidParameter
  size_ground e p w d a (inl h) = set_too_short e p w d a h
  size_ground e p w d a (inr h) = set_too_long e p w d a h

  attribute_ground : (e : Bytes) → Enforced s r e → Not (Deletion r)
      → ((i : ℕ) × Bit i (attributes_must_have e) × Not (Bit i r.attributes)) ⊎ ((i : ℕ) × Bit i (attributes_cant_have e) × Bit i r.attributes) → Applies s (set r) 42 InvalidParameter
  attribute_ground e w d (inl h) = set_bit_missing e h.0 w d h.1 h.2
  attribute_ground e w d (inr h) = set_bit_prohibited e h.0 w d h.1 h.2

  needs_ground : (RT r.attributes ⊎ Append r.attributes) × Not (BS r.attributes) → Applies s (set r) 30 InvalidParameter
  needs_ground w = go w.0
    where
      go : RT r.attributes ⊎ Append r.attributes → Applies s (set r) 30 InvalidParameter
      go (inl h) = set_runtime_without_bs h w.1
      go (inr h) = set_append_without_bs h w.1

  unseen_ground : Deletion r → Absent s r.variable ⊎ ((q : Bytes) × Hidden s r.variable q) → Applies s (set r) 51 NotFound
  unseen_ground d (inl h) = set_absent d h
  unseen_ground d (inr h) = set_hidden h.0 d h.1

  room_ground : SoundStores s.nv s.vol → has_room (has_nv r.attributes) (store_of r.attributes s.nv s.vol) r.variable (record_after standing r) ≡ false
      → Applies s (set r) 90 OutOfResources
  room_ground k = go (has_nv r.attributes) refl
    where
      go : (b : Bool) → has_nv r.attributes ≡ b → has_room b (cond b s.nv s.vol) r.variable (record_after standing r) ≡ false → Applies s (set r) 90 OutOfResources
      go true e h =
          set_no_room_nv k.in_nv k.in_vol ((tells_nv r.attributes).0 e) k.records (storing s r k k.in_nv)
          (full s r k true s.nv k.in_nv (first_records k.records) h)
      go false e h =
          set_no_room_vol k.in_nv k.in_vol (tells_off _ (tells_nv r.attributes) e) k.records (storing s r k k.in_vol)
          (full s r k false s.vol k.in_vol (second_records k.records) h)

  set_grounds : Grounds s (set r) set_rows set_rows
  set_grounds =
      (λ n t. set_unsound ((tells_not _ (tells_sound s.nv s.vol)).0 t))
      then (λ n t. set_bad_record (λ x k. (tells_not _ (tells_entries s)).0 t (x, k)))
      then (λ n t. set_bad_name ((tells_not _ (tells_named r.variable)).0 t))
      then (λ n t. set_long_payload (ltb-true max_payload (length r.payload) t))
      then (λ n t. let w = (tells_unsupported r.attributes).0 t in set_unknown_bit w.0 w.1 w.2)
      then (λ n t. needs_ground ((tells_needs_bs r.attributes).0 t))
      then (λ n t. let w = (tells_runtime s r).0 t in set_not_runtime w.0 w.1.0 (λ k. w.1.1 (k.0, (k.1, k.2))))
      then (λ n t.
      let w = asked is_size refl t in
      let q = size_says _ (spoken_of w.0) w.2 in
      let k = set_stores 41 n (lit< tt) in
      size_ground w.0 (after s r k) (entry_enforced (set_listed 41 n (lit< tt)) w.0 w.1) (tells_off _ (tells_deletion r) q.0) (payload_is s r k)
      ((tells_size w.0 (length (after s r k))).0 (ap not q.1)))
      then (λ n t.
      let w = asked is_attribute refl t in
      let q = attribute_says _ (spoken_of w.0) w.2 in
      attribute_ground w.0 (entry_enforced (set_listed 42 n (lit< tt)) w.0 w.1) (tells_off _ (tells_deletion r) q.0) ((tells_attributes w.0 r.attributes).0 (ap not q.1)))
      then (λ n t.
      let w = asked is_lock refl t in
      let q = lock_says _ (spoken_of w.0) w.2 in
      let f = entry_enforced (set_listed 43 n (lit< tt)) w.0 w.1 in
      set_locked w.0 f ((tells_locks s (set_stores 43 n (lit< tt)) w.0 (enforced_formed w.0 f) r.variable).0 q))
      then (λ n t.
      let w = (tells_and _ _ (tells_deletion r) (tells_unseen s r.variable (set_stores 51 n (lit< tt)))).0 t in
      unseen_ground w.0 w.1)
      then (λ n t.
      let w = (tells_and _ _ (tells_deletion r) (tells_protected s r.variable (set_stores 52 n (lit< tt)))).0 t in
      set_volatile w.1.0 w.0 w.1.1 w.1.2 w.1.3)
      then (λ n t. set_deleted ((tells_deletion r).0 t))
      then (λ n t. let w = (tells_other s r (set_stores 60 n (lit< tt))).0 t in set_other_attributes w.0 w.1 w.2)
      then (λ n t. set_empty_append ((tells_nothing r).0 t))
      then (λ n t. let w = (tells_joined s r (set_stores 80 n (lit< tt)) (set_short 80 n (lit< tt))).0 t in set_append_too_long w.0 w.1 w.2 w.3)
      then (λ n t. room_ground (set_stores 90 n (lit< tt)) (not-true _ t))
      then (λ n t. set_done)
      then last

  no_set : NoGrounds s (set r) set_rows
  no_set p n k m l (set_unsound h) = h (set_stores p n l)
  no_set p n k m l (set_bad_record h) = h (entries_of s.policy) (set_listed p n l)
  no_set p n k m l (set_bad_name h) = tells_off _ (tells_not _ (tells_named r.variable)) (n 2 l) h
  no_set p n k m l (set_long_payload h) = tells_off _ (tells_lt max_payload (length r.payload)) (n 3 l) h
  no_set p n k m l (set_unknown_bit i b h) = tells_off _ (tells_unsupported r.attributes) (n 4 l) (i, b, h)
  no_set p n k m l (set_runtime_without_bs h i) = tells_off _ (tells_needs_bs r.attributes) (n 5 l) (inl h, i)
  no_set p n k m l (set_append_without_bs h i) = tells_off _ (tells_needs_bs r.attributes) (n 5 l) (inr h, i)
  no_set p n k m l (set_not_runtime x d h) = tells_off _ (tells_runtime s r) (n 6 l) (x, (d, λ w. h (w.0, w.1.0, w.1.1)))
  no_set p n k m l (set_too_short e x w d a h) = no_size_ground p n (omega arith) e x w d a (n 7 l) (inl h)
  no_set p n k m l (set_too_long e x w d a h) = no_size_ground p n (omega arith) e x w d a (n 7 l) (inr h)
  no_set p n k m l (set_bit_missing e i w d h j) =
      tells_off _ (tells_attributes e r.attributes)
      (ap not (no_attribute _ (spoken_of e) (ground_off p n is_size (n 7 (omega arith)) e w) (ground_off p n is_attribute (n 8 l) e w) (not_deletion p n d))) (inl (i, h, j))
  no_set p n k m l (set_bit_prohibited e i w d h j) =
      tells_off _ (tells_attributes e r.attributes)
      (ap not (no_attribute _ (spoken_of e) (ground_off p n is_size (n 7 (omega arith)) e w) (ground_off p n is_attribute (n 8 l) e w) (not_deletion p n d))) (inr (i, h, j))
  no_set p n k m l (set_locked e w h) =
      tells_off _ (tells_locks s (set_stores p n (omega arith)) e (enforced_formed e w) r.variable)
      (no_lock _ (spoken_of e) (ground_off p n is_size (n 7 (omega arith)) e w) (ground_off p n is_attribute (n 8 (omega arith)) e w) (ground_off p n is_lock (n 9 l) e w)) h
  no_set p n k m l (set_absent d h) =
      tells_off _ (tells_and _ _ (tells_deletion r) (tells_unseen s r.variable (set_stores p n (omega arith)))) (n 10 l) (d, inl h)
  no_set p n k m l (set_hidden q d h) =
      tells_off _ (tells_and _ _ (tells_deletion r) (tells_unseen s r.variable (set_stores p n (omega arith)))) (n 10 l) (d, inr (q, h))
  no_set p n k m l (set_volatile q d x f h) =
      tells_off _ (tells_and _ _ (tells_deletion r) (tells_protected s r.variable (set_stores p n (omega arith)))) (n 11 l) (d, (q, x, f, h))
  no_set p n k m l (set_deleted d) = tells_off _ (tells_deletion r) (n 12 l) d
  no_set p n k m l (set_other_attributes q f h) = tells_off _ (tells_other s r (set_stores p n (omega arith))) (n 13 l) (q, f, h)
  no_set p n k m l (set_empty_append h) = tells_off _ (tells_nothing r) (n 14 l) h
  no_set p n k m l (set_append_too_long q h f i) =
      tells_off _ (tells_joined s r (set_stores p n (omega arith)) (set_short p n (omega arith))) (n 15 l) (q, h, f, i)
  no_set p n k m l (set_no_room_nv rs qs h c t i) =
      not_full s r (set_stores p n (omega arith)) true s.nv rs (first_records c) (distinct_first c) t
      (subst (λ b. has_room b (cond b s.nv s.vol) r.variable (record_after standing r) ≡ true) ((tells_nv r.attributes).1 h) (not-false _ (n 16 l))) i
  no_set p n k m l (set_no_room_vol rs qs h c t i) =
      not_full s r (set_stores p n (omega arith)) false s.vol qs (second_records c) (distinct_second c) t
      (subst (λ b. has_room b (cond b s.nv s.vol) r.variable (record_after standing r) ≡ true) (off_tells _ (tells_nv r.attributes) h) (not-false _ (n 16 l))) i
  no_set p n k m l set_done = true≢false (n 17 l)

  -- the first ground that applies, whose place tells what is decided
  pub record SetEnds : Type 0 where
    pub place : ℕ
    pub at : FirstAt s (set r) place (status s (set r))
    pub ends : EndsAt (blocked_by (set_decision s r)) place

  set_first : FirstAt s (set r) (first_place set_rows) (status s (set r))
  unfolding ◌and◌
  set_first = first_at s (set r) set_rows refl refl set_chain set_grounds no_set

  place_ends : EndsAt (blocked_by (set_decision s r)) (first_place set_rows)
  unfolding decision_by decision request_status bad_request
  place_ends =
      all_ends (sound s.nv s.vol) (policy_valid s.policy) (named r.variable) (ltb max_payload (length r.payload)) (unsupported_bit r.attributes) (needs_bs r.attributes) runtime
      spoken_ground (write_decision exited s.nv s.vol standing r) last_rows (write_unblocked exited s.nv s.vol standing r)
      (write_place (is_deletion r.attributes r.payload) (exists (shown exited standing)) (exit_protects exited standing) (other_attributes standing r.attributes)
      (is_empty_append r.attributes r.payload) long room)

  pub set_ends : SetEnds
  set_ends = record { place = first_place set_rows; at = set_first; ends = place_ends }

  pub set_answers : Answers s (set r) (status s (set r))
  set_answers = record { place = set_ends.place; at = set_ends.at }
