-- The computed answer and state afterwards, and the cases of Effects.antt, agree both ways. Assumes nothing.
use Rattle.std.specs.Prelude.{ℕ, List, [], ◌∷◌, ◌++◌, Bool, not, cond, ◌↔◌, length, drop, replicate, eqb, leb}
use Rattle.std.proofs.Math.Path.{◌≡◌, refl, ap, subst, subst⁻¹}
use Rattle.std.proofs.Common.{sym, ap₂, ◌∙◌, true≢false}
use Rattle.std.proofs.Math.Bool.{true, false}
use Rattle.std.proofs.lemmas.Bool.{false≢true}
use Rattle.std.proofs.Math.Option.{Option, none, some}
use native.Mathlib.Omega.{arith}
use Rattle.limits.specs.Limits.{policy_bytes, max_links}
use Rattle.slices.specs.Test.{◌and◌}
use Rattle.slices.proofs.TestLaws.{and_left}
use Rattle.slices.specs.Bytes.{Bytes, overwrite, padded}
use Rattle.slices.proofs.OverwriteLaws.{overwrite_seam}
use Rattle.slices.specs.Chunks.{flat, packed, remove, replace_or_append}
use Rattle.names.specs.Name.{Variable, named}
use Rattle.policy.specs.Policy.{entries_of, pack_policy, empty_policy, policy_valid}
use Rattle.policy.proofs.PolicyLaws as policy
use Rattle.stores.specs.Pair.{sound, lookup}
use Rattle.status.specs.declared.Status.{Status}
use Rattle.status.specs.declared.Status.TheVariants.{Success, InvalidParameter, Unsupported, BufferTooSmall, WriteProtected, OutOfResources, VolumeCorrupted, NotFound, AlreadyStarted}
use Rattle.status.specs.Status.{is_success, status_number}
use Rattle.status.proofs.StatusLaws.{success_only}
use Rattle.store.specs.Record.{has_nv, has_rt, attributes_of, is_of, record_ok}
use Rattle.store.specs.Store.{records_of, pack_store, without_variable, has_room, with_record}
use Rattle.store.proofs.StoreLaws.{records_without, length_without, records_with_lem, length_with}
use Rattle.switches.specs.declared.Switches.{Switches}
use Rattle.switches.specs.Switches.{fresh_switches}
use Rattle.rules.specs.Decision.{Decision}
use Rattle.rules.specs.Decision.{Refuse, Block, Delete, Keep, Store}
use Rattle.rules.specs.Set.{Request, exists, shown, is_deletion, is_empty_append, record_after, decision_status, decision_store}
use Rattle.rules.proofs.DecisionLaws.{Facts, facts, stored_facts, granted_decision}
use Rattle.rules.specs.Engine.{State, Call, Answer, state_of, answer_of, with_report, set_report, dump_status, read_status, settled_status, is_settled, status, given, refusal, answer, decision_by, decision_in, erased, effect, after, step}
use Rattle.rules.specs.Engine.Call.{power_on, restart, register, dump, lock, disable, exit, query, read, set, settled}
use Rattle.rules.specs.Grounds.{Not, sum_of_sizes, StoreRecords, PairRecords, SoundStores, RecordOf, PayloadAfter, Answers}
use Rattle.rules.proofs.GroundsLaws.{refused_test, status_exactly}
use Rattle.rules.proofs.EngineLaws.{answer_status, step_status, answer_alone, answer_reported, granted_effect}
use Rattle.rules.proofs.StateLaws.{set_passed, register_passed}
use Rattle.rules.specs.Effects.{Refusal, Beside, SetLeaves, SetByName, Leaves}
use Rattle.rules.proofs.ConditionLaws.{tells_off, off_tells, tells_nv, tells_deletion, tells_nothing}
use Rattle.rules.proofs.FoundLaws.{sound_records, tells_sound, packs_entries, sum_of_sizes_lem, valid_entries, entries_read, first_records, second_records, distinct_first, distinct_second, found_lookup, lookup_found, lookup_absent, without_taken, taken_without}
use Rattle.rules.proofs.SetGroundsLaws.{chosen_entry, kind_same, payload_is, stored, storing, storing_only}
use Rattle.rules.proofs.SetReportLaws.{report_reports, one_report}
use Rattle.rules.proofs.SettledLaws.{is_chain, settled_exactly}
use Rattle.rules.proofs.SetLaws as set
use Rattle.rules.proofs.SetLaws.{set_sound, stored_formed}

-- ---- a status is 0 or another

data Kind (n : Status) : Type 0 where
  done : n ≡ Success → Kind n
  other : Refusal n → is_success n ≡ false → Kind n

other_than : (n : Status) → is_success n ≡ false → Refusal n
other_than n h e = true≢false (sym (ap is_success e) ∙ h)

kind : (n : Status) → Kind n
kind n = go (is_success n) refl
  where
    go : (b : Bool) → is_success n ≡ b → Kind n
    go true h = Kind.done (success_only n h)
    go false h = Kind.other (other_than n h) h

-- ---- what stands beside

-- a dump's entries
module _ (s : State) (buffer : Bytes) where
  abbrev listed : List Bytes
  listed = entries_of s.policy

  written : overwrite buffer 0 (flat listed) ≡ flat listed ++ drop (sum_of_sizes listed) buffer
  written = overwrite_seam [] buffer (flat listed) 0 refl ∙ ap (λ k. flat listed ++ drop k buffer) (sum_of_sizes_lem s)

  dump_beside : Beside s (dump buffer) (answer s (dump buffer) (status s (dump buffer)))
  unfolding dump_status
  dump_beside = go (policy_valid s.policy) s.switches.exited (leb (length (flat listed)) (length buffer)) refl
    where
      go : (v x f : Bool) → policy_valid s.policy ≡ v
          → Beside s (dump buffer) (answer s (dump buffer) (cond v (cond x Unsupported (cond f Success BufferTooSmall)) VolumeCorrupted))
      go true true f e = Beside.dump_refused Unsupported (other_than Unsupported refl) (λ h. let z : ◌≡◌ {A = ℕ} 3 5 = ap status_number h in omega arith)
      go true false true e =
          subst⁻¹ (λ k. Beside s (dump buffer) (answer_of Success k (overwrite buffer 0 (flat listed)) none)) (sum_of_sizes_lem s)
          (subst⁻¹ (λ b. Beside s (dump buffer) (answer_of Success (sum_of_sizes listed) b none)) written (Beside.dumped listed (valid_entries s e)))
      go true false false e =
          subst⁻¹ (λ x. Beside s (dump buffer) (answer_of BufferTooSmall x buffer none)) (sum_of_sizes_lem s) (Beside.dump_short listed (valid_entries s e))
      go false x f e = Beside.dump_refused VolumeCorrupted (other_than VolumeCorrupted refl) (λ h. let z : ◌≡◌ {A = ℕ} 10 5 = ap status_number h in omega arith)

read_beside : (s : State) (v : Variable) → Beside s (read v) (answer s (read v) (status s (read v)))
unfolding read_status exists shown
read_beside s v = go (sound s.nv s.vol) (named v) (lookup s.nv s.vol v) refl refl
  where
    seen : (r : Bytes) (h : Bool) → sound s.nv s.vol ≡ true → lookup s.nv s.vol v ≡ some r
        → Beside s (read v) (answer s (read v) (cond (exists (cond h none (some r))) Success NotFound))
    seen r true e f = Beside.read_refused NotFound (other_than NotFound refl)
    seen r false e f = rw f (Beside.was_read r (lookup_found s v r ((tells_sound s.nv s.vol).0 e) f))

    go : (b n : Bool) (o : Option Bytes) → sound s.nv s.vol ≡ b → lookup s.nv s.vol v ≡ o
        → Beside s (read v) (answer s (read v) (cond b (cond n (cond (exists (shown s.switches.exited o)) Success NotFound) InvalidParameter) VolumeCorrupted))
    go true true (some r) e f = seen r (s.switches.exited and not (has_rt (attributes_of r))) e f
    go true true none e f = Beside.read_refused NotFound (other_than NotFound refl)
    go true false o e f = Beside.read_refused InvalidParameter (other_than InvalidParameter refl)
    go false n o e f = Beside.read_refused VolumeCorrupted (other_than VolumeCorrupted refl)

query_beside : (s : State) → Beside s query (given s query)
query_beside s = go s.switches.enabled refl
  where
    go : (b : Bool) → s.switches.enabled ≡ b → Beside s query (answer_of Success (cond b 1 0) [] none)
    go true e = Beside.is_enabled e
    go false e = Beside.is_disabled e

settled_beside : (s : State) (v : Variable) → Beside s (settled v) (answer s (settled v) (status s (settled v)))
unfolding settled_status ◌and◌
settled_beside s v = go (sound s.nv s.vol) (policy_valid s.policy) (named v) (is_settled s v) refl refl refl
  where
    go : (b p n y : Bool) → sound s.nv s.vol ≡ b → policy_valid s.policy ≡ p → is_settled s v ≡ y
        → Beside s (settled v) (cond (is_success (cond (b and p) (cond n Success InvalidParameter) VolumeCorrupted)) (answer_of Success (cond y 1 0) [] none)
        (refusal s (settled v) (cond (b and p) (cond n Success InvalidParameter) VolumeCorrupted)))
    go true true true true e f y = Beside.is_settled ((settled_exactly s ((tells_sound s.nv s.vol).0 e) (entries_of s.policy) (valid_entries s f) v).0 y)
    go true true true false e f y =
        let k = (tells_sound s.nv s.vol).0 e in
        let w = valid_entries s f in
        Beside.not_settled (entries_of s.policy) k w (tells_off _ (settled_exactly s k (entries_of s.policy) w v) y)
    go true true false y e f z = Beside.settled_refused InvalidParameter (other_than InvalidParameter refl)
    go true false n y e f z = Beside.settled_refused VolumeCorrupted (other_than VolumeCorrupted refl)
    go false p n y e f z = Beside.settled_refused VolumeCorrupted (other_than VolumeCorrupted refl)

-- an answer stands beside its status if that of 0 does, and that of every refusal
beside_either : (s : State) (c : Call) → Beside s c (given s c) → ((n : Status) → Refusal n → Beside s c (refusal s c n)) → Beside s c (answer s c (status s c))
beside_either s c g r = go (is_success (status s c)) refl
  where
    go : (b : Bool) → is_success (status s c) ≡ b → Beside s c (cond b (given s c) (refusal s c (status s c)))
    go true h = g
    go false h = r (status s c) (other_than (status s c) h)

-- the computed answer is one of them
pub answer_beside : (s : State) (c : Call) → Beside s c (answer s c (status s c))
answer_beside s (power_on allowed) = beside_either s (power_on allowed) Beside.powered_on Beside.power_on_refused
answer_beside s (restart allowed) = beside_either s (restart allowed) Beside.restarted Beside.restart_refused
answer_beside s (register e) = beside_either s (register e) (Beside.of_register Success) (λ n o. Beside.of_register n)
answer_beside s (dump buffer) = dump_beside s buffer
answer_beside s lock = beside_either s lock (Beside.of_lock Success) (λ n o. Beside.of_lock n)
answer_beside s disable = beside_either s disable (Beside.of_disable Success) (λ n o. Beside.of_disable n)
answer_beside s exit = beside_either s exit (Beside.of_exit Success) (λ n o. Beside.of_exit n)
answer_beside s query = query_beside s
answer_beside s (read v) = read_beside s v
answer_beside s (set r) = subst⁻¹ (Beside s (set r)) (answer_reported s r (status s (set r))) (Beside.of_set (status s (set r)) (set_report s r) (report_reports s r))
answer_beside s (settled v) = settled_beside s v

-- and the only one with its status
pub beside_answer : (s : State) (c : Call) (a : Answer) → Beside s c a → a ≡ answer s c a.status
beside_answer s c a Beside.powered_on = refl
beside_answer s c a (Beside.power_on_refused n o) = rw (refused_test n o)
beside_answer s c a Beside.restarted = refl
beside_answer s c a (Beside.restart_refused n o) = rw (refused_test n o)
beside_answer s c a (Beside.dumped {buffer} es w) =
    ap (λ x. answer_of Success (sum_of_sizes x) (flat x ++ drop (sum_of_sizes x) buffer) none) (entries_read s es w)
    ∙ ap₂ (λ (k : ℕ) (b : Bytes). answer_of Success k b none) (sym (sum_of_sizes_lem s)) (sym (written s buffer))
beside_answer s c a (Beside.dump_short {buffer} es w) =
    ap (λ x. answer_of BufferTooSmall (sum_of_sizes x) buffer none) (entries_read s es w) ∙ ap (λ (k : ℕ). answer_of BufferTooSmall k buffer none) (sym (sum_of_sizes_lem s))
beside_answer s c a (Beside.dump_refused {buffer} n o p) = rw (refused_test n o, not_five n p)
  where
    not_five : (n : Status) → Not (n ≡ BufferTooSmall) → eqb (status_number n) 5 ≡ false
    not_five Success h = refl
    not_five InvalidParameter h = refl
    not_five Unsupported h = refl
    not_five BufferTooSmall h = absurd (h refl)
    not_five WriteProtected h = refl
    not_five OutOfResources h = refl
    not_five VolumeCorrupted h = refl
    not_five NotFound h = refl
    not_five AlreadyStarted h = refl
beside_answer s c a (Beside.is_enabled e) = rw e
beside_answer s c a (Beside.is_disabled e) = rw e
beside_answer s c a (Beside.was_read {v} r f) = rw (found_lookup s v r f)
beside_answer s c a (Beside.read_refused n o) = rw (refused_test n o)
beside_answer s c a (Beside.of_register {e} n) = sym (answer_alone s (register e) n refl refl)
beside_answer s c a (Beside.of_lock n) = sym (answer_alone s lock n refl refl)
beside_answer s c a (Beside.of_disable n) = sym (answer_alone s disable n refl refl)
beside_answer s c a (Beside.of_exit n) = sym (answer_alone s exit n refl refl)
beside_answer s c a (Beside.of_set {r} n p w) = ap (with_report n) (one_report s r p (set_report s r) w (report_reports s r)) ∙ sym (answer_reported s r n)
beside_answer s c a (Beside.is_settled {v} k) = rw (is_chain s k.0 max_links k.1)
beside_answer s c a (Beside.not_settled {v} es k w n) = rw (off_tells _ (settled_exactly s k es w v) n)
beside_answer s c a (Beside.settled_refused n o) = rw (refused_test n o)

-- ---- what a call leaves

same_state : (t : State) (nv vol policy : Bytes) (w : Switches) → t.nv ≡ nv → t.vol ≡ vol → t.policy ≡ policy → t.switches ≡ w → t ≡ state_of nv vol policy w
same_state t nv vol policy w a b c d = ap₂ (λ x y. state_of x y t.policy t.switches) a b ∙ ap₂ (λ x y. state_of nv vol x y) c d

zeros : empty_policy ≡ replicate policy_bytes 0
unfolding packed padded flat
zeros = refl

-- a set, by what is decided of it
module _ (s : State) (r : Request) where
  abbrev standing : Option Bytes
  standing = lookup s.nv s.vol r.variable

  abbrev left : Decision → State
  left d = state_of (decision_store d true s.nv standing r) (decision_store d false s.vol standing r) s.policy s.switches

  -- where it answers 0
  pub decided : is_success (decision_status (decision_in s r)) ≡ true
      → decision_in s r ≡ cond (is_deletion r.attributes r.payload) Delete (cond (is_empty_append r.attributes r.payload) Keep Store)
  unfolding decision_by
  decided granted = granted_decision s.switches.exited (chosen_entry s r) s.nv s.vol r granted

  module _ (ok : sound s.nv s.vol ≡ true) (granted : is_success (decision_status (decision_in s r)) ≡ true) where
    before : PairRecords s.nv s.vol (records_of true s.nv) (records_of false s.vol)
    before = sound_records s.nv s.vol ok

    abbrev stands : SoundStores s.nv s.vol
    stands = record { in_nv = records_of true s.nv; in_vol = records_of false s.vol; records = before }

    -- the records afterwards
    later : (d : Decision) → decision_in s r ≡ d → PairRecords (left d).nv (left d).vol (records_of true (left d).nv) (records_of false (left d).vol)
    unfolding decision_by
    later d e = subst (λ x. PairRecords (left x).nv (left x).vol (records_of true (left x).nv) (records_of false (left x).vol)) e
        (sound_records _ _ (set_sound s.switches.exited (chosen_entry s r) s.nv s.vol r ok))

    leaves_by : (d : Decision) → decision_in s r ≡ d → Facts s.nv s.vol standing r d → is_success (decision_status d) ≡ true → SetLeaves s r (left d)
    unfolding decision_store
    leaves_by (Refuse n) e f g = absurd (false≢true (sym f ∙ g))
    leaves_by (Block b) e f g = absurd (false≢true (sym f ∙ g))
    leaves_by Delete e f g =
        SetLeaves.removed (records_of true s.nv) (records_of false s.vol) (remove (is_of r.variable) (records_of true s.nv)) (remove (is_of r.variable) (records_of false s.vol))
        ((tells_deletion r).0 f) before (without_taken r.variable (records_of true s.nv)) (without_taken r.variable (records_of false s.vol))
        (rw (records_without true s.nv r.variable, records_without false s.vol r.variable) at (later Delete e))
        (record { nv = length_without true s.nv r.variable; vol = length_without false s.vol r.variable; policy = refl; switches = refl })
    leaves_by Keep e f g = SetLeaves.unchanged ((tells_nothing r).0 f.1) refl
    leaves_by Store e f g = go (has_nv r.attributes) refl (later Store e) (stored_formed s.switches.exited (chosen_entry s r) s.nv s.vol r ok f) f.room
      where
        go : (b : Bool) → has_nv r.attributes ≡ b
            → PairRecords (cond b (with_record true s.nv r.variable (stored s r stands)) s.nv) (cond (not b) (with_record false s.vol r.variable (stored s r stands)) s.vol)
            (records_of true (cond b (with_record true s.nv r.variable (stored s r stands)) s.nv)) (records_of false (cond (not b) (with_record false s.vol r.variable (stored s r stands)) s.vol))
            → record_ok b (stored s r stands) ≡ true → has_room b (cond b s.nv s.vol) r.variable (stored s r stands) ≡ true
            → SetLeaves s r (state_of (cond b (with_record true s.nv r.variable (stored s r stands)) s.nv) (cond (not b) (with_record false s.vol r.variable (stored s r stands)) s.vol) s.policy s.switches)
        go true h k formed room =
            SetLeaves.stored_nv (records_of true s.nv) (records_of false s.vol) (tells_off _ (tells_deletion r) f.writes) (tells_off _ (tells_nothing r) f.joins) ((tells_nv r.attributes).0 h)
            before (storing s r stands (records_of true s.nv)) (rw (records_with_lem true s.nv r.variable (stored s r stands) formed) at k)
            refl (record { nv = length_with true s.nv r.variable (stored s r stands) room; vol = refl; policy = refl; switches = refl })
        go false h k formed room =
            SetLeaves.stored_vol (records_of true s.nv) (records_of false s.vol) (tells_off _ (tells_deletion r) f.writes) (tells_off _ (tells_nothing r) f.joins) (tells_off _ (tells_nv r.attributes) h)
            before (storing s r stands (records_of false s.vol)) (rw (records_with_lem false s.vol r.variable (stored s r stands) formed) at k)
            refl (record { nv = refl; vol = length_with false s.vol r.variable (stored s r stands) room; policy = refl; switches = refl })

    set_leaves : SetLeaves s r (effect s (set r))
    unfolding decision_by
    set_leaves = leaves_by (decision_in s r) refl (facts s.switches.exited (chosen_entry s r) s.nv s.vol r) granted

granted_leaves : (s : State) (c : Call) → status s c ≡ Success → Leaves s c Success (effect s c)
granted_leaves s (power_on allowed) h =
    subst⁻¹ (λ p. Leaves s (power_on allowed) Success (state_of s.nv (erased s.vol) p (fresh_switches allowed))) zeros Leaves.powers_on
granted_leaves s (restart allowed) h = subst⁻¹ (λ p. Leaves s (restart allowed) Success (state_of s.nv s.vol p (fresh_switches allowed))) zeros Leaves.restarts
granted_leaves s (register e) h =
    let es = entries_of s.policy in
    let k = register_passed s e (ap is_success h) in
    let w = policy.policy_entries s.policy k.0 in
    let g = k.2 in
    let few = g.few in
    Leaves.registers es (pack_policy (es ++ (e ∷ []))) (valid_entries s k.0)
    (packs_entries _ _ (record { entries = policy.entries_append es e w.entries g.formed g.new (omega arith) g.room; packs = refl }))
granted_leaves s (dump buffer) h = Leaves.dumps
granted_leaves s lock h = Leaves.locks
granted_leaves s disable h = Leaves.disables
granted_leaves s exit h = Leaves.exits
granted_leaves s query h = Leaves.queries
granted_leaves s (read v) h = Leaves.reads
granted_leaves s (set r) h =
    let k = set_passed s r (ap is_success h) in
    Leaves.sets (effect s (set r)) (set_leaves s r (and_left _ _ k.0) k.1)
granted_leaves s (settled v) h = Leaves.asks

-- the computed state is one of them
pub state_leaves : (s : State) (c : Call) → Leaves s c (status s c) (after s c (status s c))
state_leaves s c = go (kind (status s c))
  where
    go : Kind (status s c) → Leaves s c (status s c) (after s c (status s c))
    go (Kind.done e) = subst⁻¹ (λ n. Leaves s c n (cond (is_success n) (effect s c) s)) e (granted_leaves s c e)
    go (Kind.other o h) = rw h (Leaves.refused o)

-- and the only one with its status
packed_as : (b : Bool) (s t : Bytes) (rs : List Bytes) → StoreRecords b t rs → length t ≡ length s → t ≡ pack_store (length s) rs
unfolding packed padded
packed_as b s t rs k e = k.is ∙ ap (λ n. pack_store n rs) e

set_only : (s : State) (r : Request) (t : State) → decision_in s r ≡ cond (is_deletion r.attributes r.payload) Delete (cond (is_empty_append r.attributes r.payload) Keep Store)
    → SetLeaves s r t → t ≡ effect s (set r)
unfolding decision_store without_variable with_record
set_only s r t is (SetLeaves.removed rs qs rs' qs' d k x y k' o) =
    let a = (tells_deletion r).1 d in
    let nv-is = packed_as true s.nv t.nv rs' k'.first o.nv ∙ ap (pack_store (length s.nv)) (taken_without r.variable rs (distinct_first k) rs' x ∙ ap (remove (is_of r.variable)) (first_records k)) in
    let vol-is = packed_as false s.vol t.vol qs' k'.second o.vol ∙ ap (pack_store (length s.vol)) (taken_without r.variable qs (distinct_second k) qs' y ∙ ap (remove (is_of r.variable)) (second_records k)) in
    rw (is, a) (same_state t _ _ s.policy s.switches nv-is vol-is o.policy o.switches)
set_only s r t is (SetLeaves.unchanged n e) = rw (is, off_tells _ (tells_deletion r) (λ d. d.0 n.0), (tells_nothing r).1 n) e
set_only s r t is (SetLeaves.stored_nv rs qs d n h k w k' vol-is o) =
    let j : SoundStores s.nv s.vol = record { in_nv = rs; in_vol = qs; records = k } in
    let nv-is = packed_as true s.nv t.nv w.records k'.first o.nv
    ∙ ap (pack_store (length s.nv)) (storing_only s r j rs (distinct_first k) w ∙ ap (replace_or_append (is_of r.variable) (stored s r j)) (first_records k)) in
    rw (is, off_tells _ (tells_deletion r) d, off_tells _ (tells_nothing r) n, (tells_nv r.attributes).1 h)
    (same_state t _ _ s.policy s.switches nv-is vol-is o.policy o.switches)
set_only s r t is (SetLeaves.stored_vol rs qs d n h k w k' nv-is o) =
    let j : SoundStores s.nv s.vol = record { in_nv = rs; in_vol = qs; records = k } in
    let vol-is = packed_as false s.vol t.vol w.records k'.second o.vol
    ∙ ap (pack_store (length s.vol)) (storing_only s r j qs (distinct_second k) w ∙ ap (replace_or_append (is_of r.variable) (stored s r j)) (second_records k)) in
    rw (is, off_tells _ (tells_deletion r) d, off_tells _ (tells_nothing r) n, off_tells _ (tells_nv r.attributes) h)
    (same_state t _ _ s.policy s.switches nv-is vol-is o.policy o.switches)

pub leaves_state : (s : State) (c : Call) (n : Status) (t : State) → status s c ≡ n → Leaves s c n t → t ≡ after s c n
unfolding packed padded
leaves_state s c n t m (Leaves.refused o) = rw (refused_test n o)
leaves_state s c n t m (Leaves.powers_on {allowed}) = ap (λ p. state_of s.nv (erased s.vol) p (fresh_switches allowed)) (sym zeros)
leaves_state s c n t m (Leaves.restarts {allowed}) = ap (λ p. state_of s.nv s.vol p (fresh_switches allowed)) (sym zeros)
leaves_state s c n t m (Leaves.registers {e} es p w w') =
    ap (λ x. state_of s.nv s.vol x s.switches) (w'.is ∙ ap (λ l. pack_policy (l ++ (e ∷ []))) (entries_read s es w))
leaves_state s c n t m Leaves.locks = refl
leaves_state s c n t m Leaves.disables = refl
leaves_state s c n t m Leaves.exits = refl
leaves_state s c n t m Leaves.dumps = refl
leaves_state s c n t m Leaves.queries = refl
leaves_state s c n t m Leaves.reads = refl
leaves_state s c n t m Leaves.asks = refl
leaves_state s c n t m (Leaves.sets {r} x h) =
    let k = set_passed s r (ap is_success m) in
    set_only s r x (decided s r k.1) h

-- THE ENGINE IN PROPOSITIONS: a call answers a and leaves t exactly if a's status is the first that applies, and with it a is an answer of
-- `Beside` and t a state of `Leaves`
pub step_exactly : (s : State) (c : Call) (a : Answer) (t : State) → (step s c ≡ (a, t)) ↔ (Answers s c a.status × Beside s c a × Leaves s c a.status t)
unfolding step
step_exactly s c a t = (
  (λ e. (
    (status_exactly s c a.status).0 (ap (λ x. x.0.status) e),
    subst (Beside s c) (ap (λ x. x.0) e) (answer_beside s c),
    subst (λ m. Leaves s c m t) (sym (answer_status s c (status s c)) ∙ ap (λ x. x.0.status) e) (subst (Leaves s c (status s c)) (ap (λ x. x.1) e) (state_leaves s c)),
  )),
  λ w.
      let m : status s c ≡ a.status = sym (answer_status s c (status s c)) ∙ (status_exactly s c a.status).1 w.0 in
      ap (λ n. (answer s c n, after s c n)) m ∙ ap₂ (λ x y. (x, y)) (sym (beside_answer s c a w.1)) (sym (leaves_state s c a.status t m w.2)),
)

-- ---- a set by names

pub same_found : (s t : State) (w : Variable) → SoundStores t.nv t.vol → lookup t.nv t.vol w ≡ lookup s.nv s.vol w → (q : Bytes) → RecordOf s w q → RecordOf t w q
same_found s t w k e q f = lookup_found t w q k (e ∙ found_lookup s w q f)

module _ (s : State) (r : Request) (ok : sound s.nv s.vol ≡ true) (granted : is_success (decision_status (decision_in s r)) ≡ true) where
  sound_before : SoundStores s.nv s.vol
  sound_before = (tells_sound s.nv s.vol).0 ok

  sound_after : SoundStores (effect s (set r)).nv (effect s (set r)).vol
  unfolding decision_by
  sound_after = (tells_sound (effect s (set r)).nv (effect s (set r)).vol).0 (set_sound s.switches.exited (chosen_entry s r) s.nv s.vol r ok)

  by_name : SetByName s r (effect s (set r))
  unfolding decision_by
  by_name =
      record {
        sound = sound_after;
        others = λ w d q.
            let same = set.set_others s.switches.exited (chosen_entry s r) s.nv s.vol r ok w d in
            (same_found s (effect s (set r)) w sound_after same q, same_found (effect s (set r)) s w sound_before (sym same) q);
        deleted = λ d. lookup_absent (effect s (set r)) r.variable (set.set_deletes s.switches.exited (chosen_entry s r) s.nv s.vol r ok (decided s r granted ∙ rw ((tells_deletion r).1 d)));
        unchanged = λ n.
            let k = set.set_keeps s.switches.exited (chosen_entry s r) s.nv s.vol r ok (decided s r granted ∙ rw (off_tells _ (tells_deletion r) (λ d. d.0 n.0), (tells_nothing r).1 n)) in
            same_state (effect s (set r)) s.nv s.vol s.policy s.switches k.0 k.1 refl refl;
        stored = λ d n.
            let e : decision_in s r ≡ Store = decided s r granted ∙ rw (off_tells _ (tells_deletion r) d, off_tells _ (tells_nothing r) n) in
            let f = stored_facts s.switches.exited (chosen_entry s r) s.nv s.vol r e in
            let q = record_after (lookup s.nv s.vol r.variable) r in
            let kept = set.stored_attributes_lem s.switches.exited (chosen_entry s r) s.nv s.vol r ok f in (
              q,
              lookup_found (effect s (set r)) r.variable q sound_after (set.set_stores s.switches.exited (chosen_entry s r) s.nv s.vol r ok e),
              kind_same (attributes_of q) r.attributes kept,
              omega arith,
              subst⁻¹ (PayloadAfter s r) (set.stored_payload s.switches.exited (chosen_entry s r) s.nv s.vol r ok f) (payload_is s r sound_before),
            );
      }

-- A SET THAT ANSWERS 0 CHANGES ITS VARIABLE AS THE REQUEST SAYS, AND NO OTHER (in which order records then stand, `SetLeaves` says)
pub set_by_name : (s : State) (r : Request) → is_success (step s (set r)).0.status ≡ true → SetByName s r (step s (set r)).1
set_by_name s r h =
    let k = set_passed s r (ap is_success (sym (step_status s (set r))) ∙ h) in
    subst⁻¹ (SetByName s r) (granted_effect s (set r) h) (by_name s r (and_left _ _ k.0) k.1)
