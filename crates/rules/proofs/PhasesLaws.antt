-- Phases (RULES.md, 10.15). What the calls write is well formed and reads back field by field as what was asked (`flag_says`, `lock_says`, by `flag_reads_back` and `lock_reads_back`), and the calls
-- register exactly where the engine has room and is unlocked (`phase_policy_registers`, `write_once_registers`, `lock_registers`); what the older lock answers, said a second time (`lock_exactly`); whom
-- the entries target (`lock_targets`, `flag_targets`). In one state: a flag that is there is settled (`flag_settled`), and a variable with the older lock once "EOD" holds 01 (`lock_settled`); without
-- "EOD" no set of it is refused for a lock (`lock_waits`), and for nothing else ever at step 4 (`lock_alone`); what a flag's call leaves (`flag_created`), and that there is none after exit
-- (`no_flag_after_exit`). Assumes nothing.
use Rattle.std.specs.Prelude.{ℕ, suc, ◌+◌, ◌≤◌, ◌≡◌, Some, None, List, [], ◌∷◌, ◌++◌, Bool, true, false, not, ◌||◌, cond, ◌↔◌, ◌⊎◌, get_or, leb}
use Rattle.std.specs.Prelude as std
use Rattle.std.proofs.Common.{zero-le, subst, ◌∙◌, true≢false, inl, inr, arith, length-append, lit≤, lit<}
use Rattle.std.proofs.Math.Path.{refl, sym, ap, subst⁻¹}
use Rattle.std.proofs.lemmas.Bool.{false≢true}
use Rattle.std.proofs.Math.Option.{Option, none, some}
use Rattle.std.proofs.Math.ListN.{length}
use Rattle.std.proofs.Math.Dec.{eqb}
use Rattle.std.specs.Int.Bits.{bit_and, and_zero_l}
use borrow.Author.Tests.{le-leb, eqb-true, eq-eqb, ne_eqb, ltb-false}
use Rattle.limits.specs.Limits.{whole_namespace_rank, max_entries, policy_bytes, max_links, max_payload}
use Rattle.slices.specs.Test.{◌and◌}
use Rattle.slices.proofs.TestLaws.{and_left, and_right, and_intro}
use Rattle.slices.specs.Bytes.{Bytes, part, same, le16_bytes, le32_bytes}
use Rattle.slices.proofs.BytesLaws.{same_eq}
use Rattle.slices.specs.Chunks.{flat}
use Rattle.names.specs.Name.{Variable, named, is_name, each, units, wildcards}
use Rattle.names.proofs.NameLaws.{named_namespace, named_name, is_name-length, wildcards_none, plain_matches}
use Rattle.entry.specs.Entry.{well_formed, namespace_of, min_size, max_size, attributes_must_have, attributes_cant_have, lock_policy_type, name_is_empty, name_of, trigger_of, trigger_value, targets, rank}
use Rattle.entry.proofs.EntryLaws.{type_3, name_of-none}
use Rattle.entry.specs.Encoding.{Lock, type_of, terminated, lock_bytes, encode_entry, encode_numbers, encode_lock, offset_for, size_for, InRange, fields_of}
use Rattle.entry.specs.Encoding as encoding
use Rattle.entry.specs.Encoding.Lock.{plain, on_var_state}
use Rattle.entry.proofs.EncodingLaws.{fields_encode, encoding_well_formed}
use Rattle.policy.specs.Policy.{entries_of, policy_valid}
use Rattle.status.specs.declared.Status.{Status}
use Rattle.status.specs.declared.Status.TheVariants.{Success, InvalidParameter, VolumeCorrupted}
use Rattle.status.specs.Status.{is_success}
use Rattle.policy.specs.Choice.{chosen}
use Rattle.store.specs.Record.{has_nv, has_append, attributes_of, payload_of}
use Rattle.store.proofs.EncodeLaws.{fields_storable}
use Rattle.stores.specs.Pair.{sound, lookup}
use Rattle.stores.proofs.PairLaws.{looked}
use Rattle.rules.specs.declared.Ground.{Ground}
use Rattle.rules.specs.declared.Ground.TheVariants.{SizeGround, AttributeGround, LockGround}
use Rattle.rules.specs.Decision.{Decision}
use Rattle.rules.specs.Decision.{Refuse, Block, Delete, Keep, Store}
use Rattle.rules.specs.declared.Report.{Report}
use Rattle.rules.specs.Report.{ground_number}
use Rattle.rules.specs.Set.{Request, is_empty, is_deletion, bad_request, unsupported_bit, needs_bs, needs_runtime, request_status, is_empty_append, length_after, size_allowed, attributes_allowed, locks, ground_of, payload_after, record_after, decision, decision_status}
use Rattle.rules.specs.Engine.{State, register_status, only_status, is_settled, decision_by, effect, step}
use Rattle.rules.specs.Engine.Call.{register, set}
use Rattle.rules.proofs.DecisionLaws.{decision_refused, taken_facts, Facts, facts, stored_facts}
use Rattle.rules.proofs.SetLaws.{set_sound, set_stores, stored_payload, stored_attributes_lem}
use Rattle.rules.proofs.EngineLaws.{step_status, refused_changes_nothing, granted_effect}
use Rattle.rules.proofs.StateLaws.{set_passed, register_passed, register_lists}
use Rattle.rules.specs.Grounds.{Not, HasEntries, RecordOf, Absent, Locks, ChosenFor, Settled}
use Rattle.rules.proofs.ConditionLaws.{Tells, tells_same, tells_named, tells_off}
use Rattle.rules.proofs.FoundLaws.{valid_entries, tells_entries, tells_sound, lookup_found}
use Rattle.rules.proofs.SetGroundsLaws.{is_size, is_attribute, Spoken, by_size, by_attributes, by_lock, by_none, size_says, attribute_says, chosen_entry, spoken_of, tells_locks}
use Rattle.rules.proofs.SettledLaws.{for_chosen, is_chain}
use Rattle.rules.proofs.ReportLaws.{GroundGiven, Answered, ground_exactly}
use Rattle.rules.proofs.GroundsLaws.{status_exactly}
use Rattle.rules.specs.Phases.{end_of_dxe_name, boot_and_runtime, flag_fields, lock_fields, flag_entry, lock_entry, flag_variable, flag, lockable, lock_step, phase_step, Lockable, LockAnswers, CanRegister, EndedDxe, FlagStands}
use Rattle.rules.specs.Phases.PhaseCall.{phase_policy, write_once_policy, lock_variable, end_of_dxe, ready_to_boot, exit_flag}
use Rattle.rules.specs.Phases.LockAnswers.{bad_record, bad_name, registers}

-- ---- well formed, and read back

-- of a lock on variable state: the variable that it watches, the Value, and the reserved byte
abbrev trigger_in : Lock → Variable
trigger_in (plain k) = record { namespace = []; name = [] }
trigger_in (on_var_state namespace value reserved name) = record { namespace = namespace; name = name }

abbrev value_in : Lock → ℕ
value_in (plain k) = 0
value_in (on_var_state namespace value reserved name) = value

abbrev unused_in : Lock → ℕ
unused_in (plain k) = 0
unused_in (on_var_state namespace value reserved name) = reserved

flag_in_range : (namespace : Bytes) → length namespace ≡ 16 → InRange (flag_fields namespace)
flag_in_range namespace n =
    record {
      namespace = n;
      sizes = lit≤ tt;
      maximum = lit< tt;
      must = lit< tt;
      cant = lit< tt;
      common = refl;
      lock = lit≤ tt;
      reserved = refl;
      name = inl refl;
    }

lock_in_range : (phase : Bytes) (v : Variable) → length phase ≡ 16 → lockable v ≡ true → InRange (lock_fields phase v)
unfolding lockable is_name ◌and◌ each units wildcards
lock_in_range phase v p l =
    let k = and_left _ _ l in
    record {
      namespace = named_namespace v k;
      sizes = zero-le;
      maximum = lit< tt;
      must = lit< tt;
      cant = lit< tt;
      common = refl;
      lock = (p, refl, (wildcards_none (units (trigger_in (lock_fields phase v).lock).name)).0 refl);
      reserved = refl;
      name = inr (named_name v k);
    }

-- THE POLICY OF A NAMESPACE OF FLAGS is well formed, has 44 bytes, and reads back field by field as what was asked
module _ (namespace : Bytes) (n : length namespace ≡ 16) where
  pub flag_formed : well_formed (flag_entry namespace) ≡ true
  unfolding flag_entry
  flag_formed = encoding_well_formed (flag_fields namespace) (flag_in_range namespace n)

  pub flag_reads_back : fields_of (flag_entry namespace) ≡ flag_fields namespace
  unfolding flag_entry
  flag_reads_back = fields_encode (flag_fields namespace) (flag_in_range namespace n)

  pub flag_length : length (flag_entry namespace) ≡ 44
  unfolding flag_entry encode_entry encode_numbers encode_lock size_for offset_for le16_bytes le32_bytes
  flag_length = rw (length-append namespace (encode_numbers (flag_fields namespace)), n)

-- THE OLDER LOCK too
module _ (phase : Bytes) (v : Variable) (p : length phase ≡ 16) (l : lockable v ≡ true) where
  pub lock_formed : well_formed (lock_entry phase v) ≡ true
  unfolding lock_entry
  lock_formed = encoding_well_formed (lock_fields phase v) (lock_in_range phase v p l)

  pub lock_reads_back : fields_of (lock_entry phase v) ≡ lock_fields phase v
  unfolding lock_entry
  lock_reads_back = fields_encode (lock_fields phase v) (lock_in_range phase v p l)

-- ---- what an entry says, by its fields

type_of_fields : (e : Bytes) → well_formed e ≡ true → type_of (fields_of e).lock ≡ lock_policy_type e
unfolding fields_of encoding.lock_fields
type_of_fields e w = go (leb (lock_policy_type e) 2) refl
  where
    go : (b : Bool) → leb (lock_policy_type e) 2 ≡ b
        → type_of (cond b (plain (lock_policy_type e)) (on_var_state (trigger_of e).namespace (trigger_value e) (get_or e 61 0) (trigger_of e).name)) ≡ lock_policy_type e
    go true q = refl
    go false q = sym (type_3 e w q)

trigger_of_fields : (e : Bytes) → lock_policy_type e ≡ 3
    → (trigger_in (fields_of e).lock ≡ trigger_of e) × (value_in (fields_of e).lock ≡ trigger_value e) × (unused_in (fields_of e).lock ≡ get_or e 61 0)
unfolding fields_of encoding.lock_fields
trigger_of_fields e h = (rw h, rw h, rw h)

-- the lock of a flag's policy is on create
pub flag_type : (namespace : Bytes) → length namespace ≡ 16 → lock_policy_type (flag_entry namespace) ≡ 2
flag_type namespace n = sym (type_of_fields (flag_entry namespace) (flag_formed namespace n)) ∙ ap (λ f. type_of f.lock) (flag_reads_back namespace n)

-- that of the older lock is on "EOD" of the phase namespace, and the Value is 1
module _ (phase : Bytes) (v : Variable) (p : length phase ≡ 16) (l : lockable v ≡ true) where
  pub lock_type : lock_policy_type (lock_entry phase v) ≡ 3
  lock_type = sym (type_of_fields (lock_entry phase v) (lock_formed phase v p l)) ∙ ap (λ f. type_of f.lock) (lock_reads_back phase v p l)

  pub lock_trigger_lem : trigger_of (lock_entry phase v) ≡ flag_variable phase end_of_dxe_name
  lock_trigger_lem = sym (trigger_of_fields (lock_entry phase v) lock_type).0 ∙ ap (λ f. trigger_in f.lock) (lock_reads_back phase v p l)

  pub lock_value : trigger_value (lock_entry phase v) ≡ 1
  lock_value = sym (trigger_of_fields (lock_entry phase v) lock_type).1 ∙ ap (λ f. value_in f.lock) (lock_reads_back phase v p l)

-- FIELD BY FIELD, as the request has them
pub record FlagSays (given e : Bytes) : Type 0 where
  pub namespace : namespace_of e ≡ given
  pub least : min_size e ≡ 1
  pub most : max_size e ≡ 1
  pub must : attributes_must_have e ≡ 0x06
  pub cant : attributes_cant_have e ≡ 0x01
  pub type : lock_policy_type e ≡ 2
  pub reserved : part 41 44 e ≡ 0 ∷ 0 ∷ 0 ∷ []
  pub name : name_of e ≡ []

pub flag_says : (namespace : Bytes) → length namespace ≡ 16 → FlagSays namespace (flag_entry namespace)
unfolding fields_of
flag_says namespace n =
    let e = flag_reads_back namespace n in
    record {
      namespace = ap (λ f. f.namespace) e;
      least = ap (λ f. f.min_size) e;
      most = ap (λ f. f.max_size) e;
      must = ap (λ f. f.must_have) e;
      cant = ap (λ f. f.cant_have) e;
      type = flag_type namespace n;
      reserved = ap (λ f. f.reserved) e;
      name = ap (λ f. f.name) e;
    }

pub record LockSays (phase : Bytes) (v : Variable) (e : Bytes) : Type 0 where
  pub namespace : namespace_of e ≡ v.namespace
  pub least : min_size e ≡ 0
  pub most : max_size e ≡ 0xFFFFFFFF
  pub must : attributes_must_have e ≡ 0
  pub cant : attributes_cant_have e ≡ 0
  pub type : lock_policy_type e ≡ 3
  pub reserved : part 41 44 e ≡ 0 ∷ 0 ∷ 0 ∷ []
  pub trigger : trigger_of e ≡ record { namespace = phase; name = 0x45 ∷ 0 ∷ 0x4F ∷ 0 ∷ 0x44 ∷ 0 ∷ [] }
  pub value : trigger_value e ≡ 1
  pub unused : get_or e 61 0 ≡ 0
  pub name : name_of e ≡ v.name

pub lock_says : (phase : Bytes) (v : Variable) → length phase ≡ 16 → lockable v ≡ true → LockSays phase v (lock_entry phase v)
unfolding fields_of
lock_says phase v p l =
    let e = lock_reads_back phase v p l in
    record {
      namespace = ap (λ f. f.namespace) e;
      least = ap (λ f. f.min_size) e;
      most = ap (λ f. f.max_size) e;
      must = ap (λ f. f.must_have) e;
      cant = ap (λ f. f.cant_have) e;
      type = lock_type phase v p l;
      reserved = ap (λ f. f.reserved) e;
      trigger = lock_trigger_lem phase v p l;
      value = lock_value phase v p l;
      unused = sym (trigger_of_fields (lock_entry phase v) (lock_type phase v p l)).2 ∙ ap (λ f. unused_in f.lock) e;
      name = ap (λ f. f.name) e;
    }

-- it has as many bytes more than 72 as the name has
terminated_length : (n : Bytes) → 2 ≤ length n → length (terminated n) ≡ length n + 2
terminated_length [] h = absurd (omega (arith, h))
terminated_length (b ∷ l) h = length-append (b ∷ l) (0 ∷ 0 ∷ [])

pub lock_length : (phase : Bytes) (v : Variable) → length phase ≡ 16 → lockable v ≡ true → length (lock_entry phase v) ≡ 72 + length v.name
unfolding lock_entry encode_entry encode_numbers encode_lock size_for offset_for lockable le16_bytes le32_bytes
lock_length phase v p l =
    let k = and_left _ _ l in
    rw (
      length-append v.namespace (encode_numbers (lock_fields phase v)),
      named_namespace v k,
      length-append (lock_bytes (lock_fields phase v).lock) (terminated v.name),
      length-append phase ((1 ∷ 0 ∷ []) ++ (end_of_dxe_name ++ (0 ∷ 0 ∷ []))),
      p,
      terminated_length v.name (is_name-length v.name (named_name v k)).0,
    ) (omega arith)

-- a name to lock is a name
pub lockable_named : (v : Variable) → lockable v ≡ true → named v ≡ true
unfolding lockable
lockable_named v l = and_left _ _ l

-- ---- what it targets

-- THE OLDER LOCK TARGETS ITS VARIABLE AND NO OTHER, at the lowest rank; that is why '#' is refused in its name
module _ (phase : Bytes) (v : Variable) (p : length phase ≡ 16) (l : lockable v ≡ true) where
  lock_namespace : namespace_of (lock_entry phase v) ≡ v.namespace
  unfolding fields_of
  lock_namespace = ap (λ f. f.namespace) (lock_reads_back phase v p l)

  lock_name : name_of (lock_entry phase v) ≡ v.name
  unfolding fields_of
  lock_name = ap (λ f. f.name) (lock_reads_back phase v p l)

  no_wildcards : wildcards (units v.name) ≡ 0
  unfolding lockable
  no_wildcards = eqb-true _ _ (and_right (named v) _ l)

  -- its name is not empty
  some_name : name_is_empty (lock_entry phase v) ≡ false
  unfolding lockable
  some_name =
      let k = is_name-length v.name (named_name v (and_left _ _ l)) in
      name_of-none (lock_entry phase v) (lock_formed phase v p l) ∙ ap (λ n. eqb (length n) 0) lock_name ∙ ne_eqb (length v.name) 0 (λ z. omega (arith, k, z))

  pub lock_targets : (u : Variable) → targets (lock_entry phase v) u ≡ true ↔ ((v.namespace ≡ u.namespace) × (units v.name ≡ units u.name))
  unfolding targets
  lock_targets u = rw (lock_namespace, lock_name, some_name) (
    (λ h. (same_eq _ _ (and_left _ _ h), (plain_matches (units v.name) (units u.name) no_wildcards).0 (and_right (same v.namespace u.namespace) _ h))),
    λ h. and_intro _ _ ((tells_same _ _).1 h.0) ((plain_matches (units v.name) (units u.name) no_wildcards).1 h.1),
  )

  pub lock_ranks : rank (lock_entry phase v) ≡ 0
  unfolding rank
  lock_ranks = rw (some_name, lock_name) no_wildcards

-- THE POLICY OF A NAMESPACE OF FLAGS TARGETS ALL OF IT, behind every entry with a name
module _ (namespace : Bytes) (n : length namespace ≡ 16) where
  flag_namespace : namespace_of (flag_entry namespace) ≡ namespace
  unfolding fields_of
  flag_namespace = ap (λ f. f.namespace) (flag_reads_back namespace n)

  flag_whole : name_is_empty (flag_entry namespace) ≡ true
  unfolding fields_of
  flag_whole = name_of-none (flag_entry namespace) (flag_formed namespace n) ∙ ap (λ f. eqb (length f.name) 0) (flag_reads_back namespace n)

  pub flag_targets : (u : Variable) → targets (flag_entry namespace) u ≡ true ↔ (namespace ≡ u.namespace)
  unfolding targets
  flag_targets u = rw (flag_namespace, flag_whole) ((λ h. same_eq _ _ (and_left _ _ h)), λ h. and_intro _ _ ((tells_same _ _).1 h) refl)

  -- the flags of the namespace among it
  pub flag_own : (name : Bytes) → targets (flag_entry namespace) (flag_variable namespace name) ≡ true
  flag_own name = (flag_targets (flag_variable namespace name)).1 refl

  pub flag_ranks : rank (flag_entry namespace) ≡ whole_namespace_rank
  unfolding rank
  flag_ranks = rw flag_whole

-- ---- it registers

-- a well-formed entry registers exactly where it can
formed_registers : (s : State) (e : Bytes) → well_formed e ≡ true → ((step s (register e)).0.status ≡ Success) ↔ CanRegister s e
unfolding register_status ◌and◌
formed_registers s e w = (to, back)
  where
    to : (step s (register e)).0.status ≡ Success → CanRegister s e
    to h =
        let t = register_passed s e (ap is_success (sym (step_status s (register e)) ∙ h)) in
        record { valid = t.0; before = t.1; unlocked = t.2.unlocked; new = t.2.new; few = t.2.few; room = t.2.room }

    back : CanRegister s e → (step s (register e)).0.status ≡ Success
    back k =
        step_status s (register e)
        ∙ rw (
          k.valid,
          k.before,
          k.unlocked,
          w,
          k.new,
          le-leb (suc (length (entries_of s.policy))) max_entries k.few,
          le-leb (length (flat (entries_of s.policy)) + length e) policy_bytes k.room,
        )

-- THE CALLS REGISTER exactly there: the two policies, and the older lock of a name to lock
pub phase_policy_registers : (s : State) (phase : Bytes) → length phase ≡ 16 → ((phase_step s (phase_policy phase)).0.status ≡ Success) ↔ CanRegister s (flag_entry phase)
phase_policy_registers s phase n = formed_registers s (flag_entry phase) (flag_formed phase n)

pub write_once_registers : (s : State) (namespace : Bytes) → length namespace ≡ 16 → ((phase_step s (write_once_policy namespace)).0.status ≡ Success) ↔ CanRegister s (flag_entry namespace)
write_once_registers s namespace n = formed_registers s (flag_entry namespace) (flag_formed namespace n)

pub lock_registers : (s : State) (phase : Bytes) (v : Variable) → length phase ≡ 16 → lockable v ≡ true
    → ((phase_step s (lock_variable phase v)).0.status ≡ Success) ↔ CanRegister s (lock_entry phase v)
unfolding lock_step
lock_registers s phase v p l = rw l (formed_registers s (lock_entry phase v) (lock_formed phase v p l))

-- and the entry stands behind the others then
registered_last : (s : State) (e : Bytes) → (step s (register e)).0.status ≡ Success → entries_of (step s (register e)).1.policy ≡ entries_of s.policy ++ (e ∷ [])
registered_last s e h =
    let k : is_success (step s (register e)).0.status ≡ true = ap is_success h in
    ap (λ t. entries_of t.policy) (granted_effect s (register e) k) ∙ register_lists s e (ap is_success (sym (step_status s (register e))) ∙ k)

pub phase_policy_stands : (s : State) (phase : Bytes) → (phase_step s (phase_policy phase)).0.status ≡ Success
    → entries_of (phase_step s (phase_policy phase)).1.policy ≡ entries_of s.policy ++ (flag_entry phase ∷ [])
phase_policy_stands s phase h = registered_last s (flag_entry phase) h

pub write_once_stands : (s : State) (namespace : Bytes) → (phase_step s (write_once_policy namespace)).0.status ≡ Success
    → entries_of (phase_step s (write_once_policy namespace)).1.policy ≡ entries_of s.policy ++ (flag_entry namespace ∷ [])
write_once_stands s namespace h = registered_last s (flag_entry namespace) h

pub lock_stands : (s : State) (phase : Bytes) (v : Variable) → lockable v ≡ true → (phase_step s (lock_variable phase v)).0.status ≡ Success
    → entries_of (phase_step s (lock_variable phase v)).1.policy ≡ entries_of s.policy ++ (lock_entry phase v ∷ [])
unfolding lock_step
lock_stands s phase v l = rw l (registered_last s (lock_entry phase v))

-- ---- what the older lock answers

tells_lockable : (v : Variable) → Tells (lockable v) (Lockable v)
unfolding lockable
tells_lockable v = (
  (λ h. record { called = (tells_named v).0 (and_left _ _ h); without_sign = (wildcards_none (units v.name)).0 (eqb-true _ _ (and_right (named v) _ h)) }),
  λ k. and_intro _ _ ((tells_named v).1 k.called) (eq-eqb _ _ ((wildcards_none (units v.name)).1 k.without_sign)),
)

-- THE STATUS IS EXACTLY THAT of the second formulation
pub lock_exactly : (s : State) (phase : Bytes) (v : Variable) (n : Status) → ((lock_step s phase v).0.status ≡ n) ↔ LockAnswers s phase v n
unfolding lock_step
lock_exactly s phase v n = go (lockable v) refl
  where
    asks : {m : Status} → m ≡ n → LockAnswers s phase v m → LockAnswers s phase v n
    asks e k = subst (LockAnswers s phase v) e k

    answer : Bool → Bool → Status
    answer b p = (cond b (step s (register (lock_entry phase v))) (only_status (cond p InvalidParameter VolumeCorrupted), s)).0.status

    told_name : HasEntries s (entries_of s.policy) → Not (Lockable v) → {m : Status} → LockAnswers s phase v m → InvalidParameter ≡ m
    told_name w x (bad_record a b) = absurd (b (entries_of s.policy) w)
    told_name w x (bad_name es a b) = refl
    told_name w x (registers a b) = absurd (x a)

    told_record : ((es : List Bytes) → Not (HasEntries s es)) → Not (Lockable v) → {m : Status} → LockAnswers s phase v m → VolumeCorrupted ≡ m
    told_record w x (bad_record a b) = refl
    told_record w x (bad_name es a b) = absurd (w es b)
    told_record w x (registers a b) = absurd (x a)

    bad : (p : Bool) → policy_valid s.policy ≡ p → Not (Lockable v) → (cond p InvalidParameter VolumeCorrupted ≡ n) ↔ LockAnswers s phase v n
    bad true q x = let w = valid_entries s q in ((λ e. asks e (bad_name (entries_of s.policy) x w)), told_name w x)
    bad false q x =
        let w : (es : List Bytes) → Not (HasEntries s es) = λ es h. true≢false (sym ((tells_entries s).1 (es, h)) ∙ q) in
        ((λ e. asks e (bad_record x w)), told_record w x)

    told : Lockable v → {m : Status} → LockAnswers s phase v m → (step s (register (lock_entry phase v))).0.status ≡ m
    told y (bad_record a b) = absurd (a y)
    told y (bad_name es a b) = absurd (a y)
    told y (registers {n = m} a b) = (status_exactly s (register (lock_entry phase v)) m).1 b

    good : Lockable v → ((step s (register (lock_entry phase v))).0.status ≡ n) ↔ LockAnswers s phase v n
    good y = ((λ e. registers y ((status_exactly s (register (lock_entry phase v)) n).0 e)), told y)

    go : (b : Bool) → lockable v ≡ b → (answer b (policy_valid s.policy) ≡ n) ↔ LockAnswers s phase v n
    go true q = good ((tells_lockable v).0 q)
    go false q = bad (policy_valid s.policy) refl (tells_off (lockable v) (tells_lockable v) q)

-- and a refused one changes nothing
pub lock_refused : (s : State) (phase : Bytes) (v : Variable) → is_success (lock_step s phase v).0.status ≡ false → (lock_step s phase v).1 ≡ s
unfolding lock_step
lock_refused s phase v h = go (lockable v) h
  where
    go : (b : Bool)
        → is_success (cond b (step s (register (lock_entry phase v))) (only_status (cond (policy_valid s.policy) InvalidParameter VolumeCorrupted), s)).0.status ≡ false
        → (cond b (step s (register (lock_entry phase v))) (only_status (cond (policy_valid s.policy) InvalidParameter VolumeCorrupted), s)).1 ≡ s
    go true k = refused_changes_nothing s (register (lock_entry phase v)) k
    go false k = refl

-- ---- in one state

-- A FLAG THAT IS THERE IS SETTLED, where the policy of its namespace is the chosen entry
pub flag_settled : (s : State) (namespace : Bytes) (v : Variable) (q : Bytes) → length namespace ≡ 16 → ChosenFor s v (flag_entry namespace) → RecordOf s v q → is_settled s v ≡ true
flag_settled s namespace v q n c f = is_chain s (Settled.created (flag_entry namespace) q c (flag_type namespace n) f) max_links zero-le

-- a ground that is a lock comes of an entry that locks
locks_by : {d z a k : Bool} {g : std.Option Ground} → Spoken d z a k g → g ≡ Some LockGround → k ≡ true
locks_by (by_size e f) h = let n = ap ground_number h in absurd (omega (arith, n))
locks_by (by_attributes e f i) h = let n = ap ground_number h in absurd (omega (arith, n))
locks_by (by_lock w i) h = i
locks_by (by_none w i) h = let n = ap ground_number h in absurd (omega (arith, n))

module _ (s : State) (phase : Bytes) (v : Variable) (p : length phase ≡ 16) (l : lockable v ≡ true) (c : ChosenFor s v (lock_entry phase v)) where
  -- A VARIABLE WITH THE OLDER LOCK IS SETTLED THEN, by one link
  pub lock_settled : EndedDxe s phase → is_settled s v ≡ true
  lock_settled d =
      let e = lock_trigger_lem phase v p l in
      let u = Settled.created (flag_entry phase) d.flag d.policy (flag_type phase p) d.stands in
      is_chain s
      (Settled.link (lock_entry phase v) d.flag c (lock_type phase v p l) (subst⁻¹ (λ t. RecordOf s t d.flag) e d.stands) (d.holds ∙ ap (λ x. x ∷ []) (sym (lock_value phase v p l)))
      (subst⁻¹ (Settled s) e u)) max_links (lit≤ tt)

  -- its lock waits for "EOD"
  lock_open : Absent s (flag_variable phase end_of_dxe_name) → Not (Locks s (lock_entry phase v) v)
  lock_open a (Locks.now t) = omega (arith, t, lock_type phase v p l)
  lock_open a (Locks.on_create r t f) = omega (arith, t, lock_type phase v p l)
  lock_open a (Locks.on_var_state r t f h) = a r (subst (λ u. RecordOf s u r) (lock_trigger_lem phase v p l) f)

  -- the entry that gives a ground against a set of it
  gives_own : (r : Request) → r.variable ≡ v → {g : Ground} (w : GroundGiven s r g) → w.entry ≡ lock_entry phase v
  gives_own r own w = let k : some w.entry ≡ some (lock_entry phase v) = sym w.choice ∙ ap (chosen (entries_of s.policy)) own ∙ for_chosen s c in cc

  -- WITHOUT "EOD" NO SET OF IT IS REFUSED FOR A LOCK
  pub lock_waits : Absent s (flag_variable phase end_of_dxe_name) → (r : Request) → r.variable ≡ v → (report : Report) → Answered s r report → Not (report.ground ≡ Some LockGround)
  lock_waits a r own report h g =
      let w = (ground_exactly s r report LockGround h).0 g in
      let k = locks_by (spoken_of s r w.entry) w.gives in
      lock_open a ((tells_locks s ((tells_sound s.nv s.vol).0 w.stores) (lock_entry phase v) (lock_formed phase v p l) v).0
      (subst (λ e. locks e (lookup s.nv s.vol) v ≡ true) (gives_own r own w) (subst (λ u. locks w.entry (lookup s.nv s.vol) u ≡ true) own k)))

  -- any size that a payload can have, and any attributes
  payload_most : (r : Request) {g : Ground} → GroundGiven s r g → length_after (lookup s.nv s.vol r.variable) r ≤ 2048
  unfolding payload_after
  payload_most r w = go (lookup s.nv s.vol r.variable) refl
    where
      own : length r.payload ≤ max_payload
      own = ltb-false _ _ (taken_facts s.switches.exited r w.asked).short

      go : (o : Option Bytes) → lookup s.nv s.vol r.variable ≡ o → length_after o r ≤ 2048
      go none e = omega (arith, own)
      go (some q) e = joined (has_append r.attributes)
        where
          most : length (payload_of q) ≤ max_payload
          most = (fields_storable (has_nv (attributes_of q)) q (looked s.nv s.vol r.variable q e).ok).most

          joined : (b : Bool) → length (cond b (payload_of q ++ r.payload) r.payload) ≤ 2048
          joined true = rw (length-append (payload_of q) r.payload) (omega (arith, own, most))
          joined false = omega (arith, own)

  any_size : (n : ℕ) → n ≤ 2048 → size_allowed (lock_entry phase v) n ≡ true
  unfolding size_allowed fields_of
  any_size n h =
      let a : min_size (lock_entry phase v) ≡ 0 = ap (λ f. f.min_size) (lock_reads_back phase v p l) in
      let b : max_size (lock_entry phase v) ≡ 0xFFFFFFFF = ap (λ f. f.max_size) (lock_reads_back phase v p l) in
      and_intro _ _ (le-leb (min_size (lock_entry phase v)) n (omega (arith, a))) (le-leb n (max_size (lock_entry phase v)) (omega (arith, b, h)))

  any_attributes : (a : ℕ) → attributes_allowed (lock_entry phase v) a ≡ true
  unfolding attributes_allowed fields_of
  any_attributes a =
      let m : attributes_must_have (lock_entry phase v) ≡ 0 = ap (λ f. f.must_have) (lock_reads_back phase v p l) in
      let n : attributes_cant_have (lock_entry phase v) ≡ 0 = ap (λ f. f.cant_have) (lock_reads_back phase v p l) in
      and_intro _ _ (eq-eqb _ _ (ap (λ x. bit_and x a) m ∙ and_zero_l a ∙ sym m)) (eq-eqb _ _ (ap (λ x. bit_and x a) n ∙ and_zero_l a))

  -- IT GIVES NO GROUND BUT ITS LOCK
  pub lock_alone : (r : Request) → r.variable ≡ v → (report : Report) → Answered s r report → (report.ground ≡ None) ⊎ (report.ground ≡ Some LockGround)
  lock_alone r own report h = go report.ground refl
    where
      given : (g : Ground) → report.ground ≡ Some g → GroundGiven s r g
      given g e = (ground_exactly s r report g h).0 e

      go : (o : std.Option Ground) → report.ground ≡ o → (report.ground ≡ None) ⊎ (report.ground ≡ Some LockGround)
      go None e = inl e
      go (Some SizeGround) e =
          let w = given SizeGround e in
          let k = size_says (ground_of w.entry (lookup s.nv s.vol) r) (spoken_of s r w.entry) (ap is_size w.gives) in
          absurd (false≢true (sym k.1 ∙ ap (λ x. size_allowed x (length_after (lookup s.nv s.vol r.variable) r)) (gives_own r own w) ∙ any_size _ (payload_most r w)))
      go (Some AttributeGround) e =
          let w = given AttributeGround e in
          let k = attribute_says (ground_of w.entry (lookup s.nv s.vol) r) (spoken_of s r w.entry) (ap is_attribute w.gives) in
          absurd (false≢true (sym k.1 ∙ ap (λ x. attributes_allowed x r.attributes) (gives_own r own w) ∙ any_attributes r.attributes))
      go (Some LockGround) e = inr e

-- ---- a flag is created

flag_decides : (nv vol : Bytes) (found : Option Bytes) (phase name : Bytes) (d : Decision) → Facts nv vol found (flag phase name) d → is_success (decision_status d) ≡ true → d ≡ Store
unfolding is_deletion is_empty_append is_empty ◌and◌
flag_decides nv vol found phase name (Refuse n) f k = absurd (false≢true (sym f ∙ k))
flag_decides nv vol found phase name (Block g) f k = absurd (false≢true (sym f ∙ k))
flag_decides nv vol found phase name Delete f k = absurd (false≢true f)
flag_decides nv vol found phase name Keep f k = absurd (false≢true f.1)
flag_decides nv vol found phase name Store f k = refl

-- it is no append, so that nothing is joined
flag_payload : (found : Option Bytes) → payload_after found boot_and_runtime (1 ∷ []) ≡ 1 ∷ []
unfolding payload_after
flag_payload none = refl
flag_payload (some old) = refl

-- A FLAG'S SET THAT ANSWERS 0 LEAVES IT SO
module _ (s : State) (phase name : Bytes) where
  abbrev found : Option Bytes
  found = lookup s.nv s.vol (flag_variable phase name)

  abbrev decided : Decision
  decided = decision s.switches.exited (chosen_entry s (flag phase name)) s.nv s.vol (flag phase name)

  pub flag_created : (step s (set (flag phase name))).0.status ≡ Success → FlagStands (step s (set (flag phase name))).1 phase name
  unfolding decision_by
  flag_created h =
      let r = flag phase name in
      let b = set_passed s r (ap is_success (sym (step_status s (set r)) ∙ h)) in
      let ok = and_left (sound s.nv s.vol) _ b.0 in
      let x = s.switches.exited in
      let c = chosen_entry s r in
      let d = flag_decides s.nv s.vol found phase name decided (facts x c s.nv s.vol r) b.1 in
      let z = stored_facts x c s.nv s.vol r d in
      let t = effect s (set r) in
      subst⁻¹ (λ u. FlagStands u phase name) (granted_effect s (set r) (ap is_success h))
      (record {
        flag = record_after found r;
        stands = lookup_found t (flag_variable phase name) (record_after found r) ((tells_sound t.nv t.vol).0 (set_sound x c s.nv s.vol r ok)) (set_stores x c s.nv s.vol r ok d);
        holds = stored_payload x c s.nv s.vol r ok z ∙ flag_payload found;
        attributes = stored_attributes_lem x c s.nv s.vol r ok z;
      })

-- "EOD" AND "RTB" ARE FLAGS LIKE ANY, of their own names
pub end_of_dxe_flag : (s : State) (phase : Bytes) → phase_step s (end_of_dxe phase) ≡ phase_step s (exit_flag phase (0x45 ∷ 0 ∷ 0x4F ∷ 0 ∷ 0x44 ∷ 0 ∷ []))
end_of_dxe_flag s phase = refl

pub ready_to_boot_flag : (s : State) (phase : Bytes) → phase_step s (ready_to_boot phase) ≡ phase_step s (exit_flag phase (0x52 ∷ 0 ∷ 0x54 ∷ 0 ∷ 0x42 ∷ 0 ∷ []))
ready_to_boot_flag s phase = refl

-- AFTER EXIT NONE IS CREATED
exit_refuses_flag : (phase name : Bytes) → request_status true (flag phase name) ≡ InvalidParameter
unfolding request_status bad_request unsupported_bit needs_bs needs_runtime is_deletion is_empty ◌and◌
exit_refuses_flag phase name = go (named (flag_variable phase name))
  where
    go : (b : Bool) → cond (not b || false) InvalidParameter InvalidParameter ≡ InvalidParameter
    go true = refl
    go false = refl

pub no_flag_after_exit : (s : State) (phase name : Bytes) → s.switches.exited ≡ true → Not ((phase_step s (exit_flag phase name)).0.status ≡ Success)
unfolding decision_by
no_flag_after_exit s phase name x h =
    let r = flag phase name in
    let b = set_passed s r (ap is_success (sym (step_status s (set r)) ∙ h)) in
    let e = decision_refused s.switches.exited (chosen_entry s r) s.nv s.vol r InvalidParameter (ap (λ z. request_status z r) x ∙ exit_refuses_flag phase name) refl in
    false≢true (ap (λ d. is_success (decision_status d)) (sym e) ∙ b.1)
