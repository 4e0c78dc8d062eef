-- Before exit and after it. Before exit the engine is the one of the edition before (`before_exit`). After it no call but a granted start changes the policy
-- record, a switch or the volatile store, and none creates, changes, deletes or tells a variable without RT (`after_exit`, `told_runtime`).
-- ExitAnswers.antt has what exit leaves as it was. Assumes nothing.
use Rattle.std.specs.Prelude.{ℕ, ◌<◌, ◌≡◌, Bool, true, false, ◌↔◌}
use Rattle.std.proofs.Math.Path.{refl, ap, subst⁻¹}
use Rattle.std.proofs.Common.{sym, subst, ◌∙◌, true≢false, inr, arith, lit<}
use Rattle.std.proofs.Math.Bool.{cond}
use Rattle.std.proofs.lemmas.Bool.{false≢true, not-true}
use Rattle.std.proofs.Math.Option.{Option, none, some}
use Rattle.slices.specs.Test.{◌and◌}
use Rattle.slices.proofs.TestLaws.{and_left}
use Rattle.slices.specs.Bytes.{Bytes}
use Rattle.slices.specs.Chunks.{contains}
use Rattle.names.specs.Name.{Variable, named}
use Rattle.policy.specs.Policy.{entries_of, policy_valid}
use Rattle.policy.specs.Choice.{chosen}
use Rattle.store.specs.Record.{has_nv, has_bs, has_rt, attributes_of, payload_of, is_of}
use Rattle.store.proofs.EncodeLaws.{fields_storable}
use Rattle.store.specs.Store.{records_of}
use Rattle.store.proofs.StoreLaws.{without_absent}
use Rattle.stores.specs.Pair.{sound, lookup}
use Rattle.stores.proofs.PairLaws.{sound_vol, none_vol, looked, looked_nv}
use Rattle.status.specs.declared.Status.{Status}
use Rattle.status.specs.declared.Status.TheVariants.{Success, InvalidParameter, Unsupported, WriteProtected, VolumeCorrupted, NotFound}
use Rattle.status.specs.Status.{is_success}
use Rattle.status.proofs.StatusLaws.{success_only}
use Rattle.rules.specs.Decision.{Refuse, Delete, Keep, Store}
use Rattle.rules.specs.Set.{Request, exists, is_deletion, is_empty_append, needs_runtime, request_status, shown, exit_protects, write_decision, decision, decision_status, decision_store}
use Rattle.rules.specs.Report.{decision_report}
use Rattle.rules.specs.Engine.{State, Call, uses, read_status, decision_by, decision_in, set_decision, report_on, answer_of, only_status, with_report, status, given, refusal, answer, effect, after, step}
use Rattle.rules.specs.Engine.Call.{power_on, restart, register, dump, lock, disable, exit, query, read, set, settled}
use Rattle.rules.specs.BeforeExit.{earlier_decision, earlier_decision_in, earlier_set_decision, earlier_report_on, earlier_status, earlier_given, earlier_refusal, earlier_effect, earlier_step}
use Rattle.rules.proofs.EngineLaws.{step_status, refused_changes_nothing, granted_effect, kept}
use Rattle.rules.proofs.StateLaws.{set_passed, register_passed}
use Rattle.rules.specs.Grounds.{Not, NV, BS, RT, SoundStores, RecordOf, Exited, Hidden, Deletion, Applies, Answers}
use Rattle.rules.specs.Grounds.Applies.{read_unsound, read_absent, read_hidden, read_done, set_not_runtime, set_hidden, set_volatile, set_deleted, set_other_attributes, set_empty_append, set_done}
use Rattle.rules.proofs.GroundsLaws.{status_exactly}
use Rattle.rules.proofs.ConditionLaws.{Tells, tells_and, tells_off, tells_nv, tells_bs, tells_rt, tells_deletion, tells_nothing}
use Rattle.rules.proofs.FoundLaws.{tells_sound, tells_unseen, found_lookup, lookup_found, lookup_absent, one_record}
use Rattle.rules.specs.Effects.{SetByName}
use Rattle.rules.proofs.EffectsLaws.{decided, set_by_name}

-- ---- BEFORE EXIT

same_write : (nv vol : Bytes) (o speaking : Option Bytes) (r : Request) → lookup nv vol r.variable ≡ o → decision false speaking nv vol r ≡ earlier_decision speaking nv vol r
unfolding decision earlier_decision request_status needs_runtime write_decision exists shown exit_protects ◌and◌
same_write nv vol none speaking r e = rw e
same_write nv vol (some q) speaking r e = rw e

module _ (s : State) (x : s.switches.exited ≡ false) where
  same_decision : (r : Request) → decision_in s r ≡ earlier_decision_in s r
  unfolding decision_by
  same_decision r = rw x (same_write s.nv s.vol (lookup s.nv s.vol r.variable) _ r refl)

  same_decides : (r : Request) → set_decision s r ≡ earlier_set_decision s r
  same_decides r = ap (λ d. cond (sound s.nv s.vol and policy_valid s.policy) d (Refuse VolumeCorrupted)) (same_decision r)

  same_report : (o : Option Request) → report_on s o ≡ earlier_report_on s o
  same_report none = refl
  same_report (some r) =
      ap (λ d. some (decision_report d (entries_of s.policy) (chosen (entries_of s.policy) r.variable) r.attributes)) (same_decides r)

  same_shown : (o : Option Bytes) → exists (shown false o) ≡ exists o
  unfolding exists shown ◌and◌
  same_shown none = refl
  same_shown (some q) = refl

  same_status : (c : Call) → Not (c ≡ exit) → status s c ≡ earlier_status s c
  unfolding read_status
  same_status (power_on allowed) n = refl
  same_status (restart allowed) n = refl
  same_status (register e) n = rw x
  same_status (dump buffer) n = rw x
  same_status lock n = rw x
  same_status disable n = rw x
  same_status exit n = absurd (n refl)
  same_status query n = refl
  same_status (read v) n = rw (x, same_shown (lookup s.nv s.vol v))
  same_status (set r) n = ap decision_status (same_decides r)
  same_status (settled v) n = refl

  same_given : (c : Call) → given s c ≡ earlier_given s c
  same_given (power_on allowed) = refl
  same_given (restart allowed) = refl
  same_given (register e) = refl
  same_given (dump buffer) = refl
  same_given lock = refl
  same_given disable = refl
  same_given exit = refl
  same_given query = refl
  same_given (read v) = refl
  same_given (set r) =
      ap (λ d. with_report Success (decision_report d (entries_of s.policy) (chosen (entries_of s.policy) r.variable) r.attributes)) (same_decides r)
  same_given (settled v) = refl

  same_effect : (c : Call) → Not (c ≡ exit) → effect s c ≡ earlier_effect s c
  same_effect (power_on allowed) n = refl
  same_effect (restart allowed) n = refl
  same_effect (register e) n = refl
  same_effect (dump buffer) n = refl
  same_effect lock n = refl
  same_effect disable n = refl
  same_effect exit n = absurd (n refl)
  same_effect query n = refl
  same_effect (read v) n = refl
  same_effect (set r) n = rw (same_decision r)
  same_effect (settled v) n = refl

  same_refusal : (c : Call) (m : Status) → refusal s c m ≡ earlier_refusal s c m
  same_refusal c m = rw (same_report (uses c).reports)

  -- BEFORE EXIT EVERY CALL OF THE EDITION BEFORE ANSWERS AND LEAVES WHAT IT DID THERE, whatever else the state is
  pub before_exit : (c : Call) → Not (c ≡ exit) → step s c ≡ earlier_step s c
  unfolding step
  before_exit c n =
      ap (λ m. (answer s c m, after s c m)) (same_status c n) ∙ rw (same_given c, same_effect c n, same_refusal c (earlier_status s c))

-- ---- AFTER EXIT

-- power-on and restart
abbrev pub is_start : Call → Bool
is_start (power_on allowed) = true
is_start (restart allowed) = true
is_start (register e) = false
is_start (dump buffer) = false
is_start lock = false
is_start disable = false
is_start exit = false
is_start query = false
is_start (read v) = false
is_start (set r) = false
is_start (settled v) = false

-- no granted start
abbrev pub GoesOn : State → Call → Type 0
GoesOn s c = is_start c ≡ true → is_success (step s c).0.status ≡ false

-- what stays after exit: all but the non-volatile store, and of that each record without RT
pub record Stays (s t : State) : Type 0 where
  pub policy : t.policy ≡ s.policy
  pub switches : t.switches ≡ s.switches
  pub vol : t.vol ≡ s.vol
  -- a record without RT, in either store, is there afterwards exactly if it was there before
  pub hidden : (v : Variable) (q : Bytes) → Not (RT (attributes_of q)) → RecordOf s v q ↔ RecordOf t v q

pub stays_same : (s : State) → Stays s s
stays_same s = record { policy = refl; switches = refl; vol = refl; hidden = λ v q n. ((λ f. f), λ f. f) }

pub stays_more : (s t u : State) → Stays s t → Stays t u → Stays s u
stays_more s t u a b =
    record {
      policy = b.policy ∙ a.policy;
      switches = b.switches ∙ a.switches;
      vol = b.vol ∙ a.vol;
      hidden = λ v q n. ((λ f. (b.hidden v q n).0 ((a.hidden v q n).0 f)), λ f. (a.hidden v q n).1 ((b.hidden v q n).1 f));
    }

-- ---- a granted set

past_52 : (s : State) (r : Request) (k : ℕ) → Applies s (set r) k Success → 52 < k
past_52 s r k (set_deleted d) = lit< tt
past_52 s r k (set_empty_append h) = lit< tt
past_52 s r k set_done = lit< tt

past_60 : (s : State) (r : Request) (k : ℕ) → Not (Deletion r) → Applies s (set r) k Success → 60 < k
past_60 s r k n (set_deleted d) = absurd (n d)
past_60 s r k n (set_empty_append h) = lit< tt
past_60 s r k n set_done = lit< tt

module _ (s : State) (x : Exited s) (r : Request) (granted : is_success (step s (set r)).0.status ≡ true) where
  answers0 : Answers s (set r) Success
  answers0 = (status_exactly s (set r) Success).0 (success_only _ granted)

  unground : (k : ℕ) (n : Status) → k < answers0.place → Not (Applies s (set r) k n)
  unground k n l = answers0.at.first k n l

  -- one that is no deletion has NV, BS and RT
  runtime : Not (Deletion r) → NV r.attributes × BS r.attributes × RT r.attributes
  runtime d = go (has_nv r.attributes and has_bs r.attributes and has_rt r.attributes) refl
    where
      has : Tells (has_nv r.attributes and has_bs r.attributes and has_rt r.attributes) (NV r.attributes × (BS r.attributes × RT r.attributes))
      has = tells_and _ _ (tells_nv r.attributes) (tells_and _ _ (tells_bs r.attributes) (tells_rt r.attributes))

      go : (b : Bool) → (has_nv r.attributes and has_bs r.attributes and has_rt r.attributes) ≡ b → NV r.attributes × BS r.attributes × RT r.attributes
      go true e = let w = has.0 e in (w.0, w.1.0, w.1.1)
      go false e =
          let l = past_52 s r answers0.place answers0.at.applies in
          absurd (unground 31 InvalidParameter (omega arith) (set_not_runtime x d (λ k. tells_off _ has e (k.0, (k.1, k.2)))))

  -- the variable's record before it is not one without RT
  not_hidden : (q : Bytes) → RecordOf s r.variable q → Not (RT (attributes_of q)) → ⊥
  not_hidden q f n = go (is_deletion r.attributes r.payload) refl
    where
      go : (b : Bool) → is_deletion r.attributes r.payload ≡ b → ⊥
      go true e =
          let l = past_52 s r answers0.place answers0.at.applies in
          unground 51 NotFound (omega arith) (set_hidden q ((tells_deletion r).0 e) (record { exited = x; stands = f; without = n }))
      go false e =
          let d = tells_off _ (tells_deletion r) e in
          unground 60 InvalidParameter (past_60 s r answers0.place d answers0.at.applies) (set_other_attributes q f (λ same. n (same.rt.1 (runtime d).2)))

  -- nor is the one afterwards
  not_left : (q : Bytes) → RecordOf (step s (set r)).1 r.variable q → Not (RT (attributes_of q)) → ⊥
  not_left q f n = go (is_deletion r.attributes r.payload) (is_empty_append r.attributes r.payload) refl refl
    where
      by_name : SetByName s r (step s (set r)).1
      by_name = set_by_name s r granted

      go : (d e : Bool) → is_deletion r.attributes r.payload ≡ d → is_empty_append r.attributes r.payload ≡ e → ⊥
      go true e h k = by_name.deleted ((tells_deletion r).0 h) q f
      go false true h k = not_hidden q (subst (λ t. RecordOf t r.variable q) (by_name.unchanged ((tells_nothing r).0 k)) f) n
      go false false h k =
          let d = tells_off _ (tells_deletion r) h in
          let y = by_name.stored d (tells_off _ (tells_nothing r) k) in
          n (subst (λ z. RT (attributes_of z)) (one_record (step s (set r)).1 r.variable y.0 q y.1 f) (y.2.rt.1 (runtime d).2))

  -- so a record without RT is another variable's
  set_hidden_lem : (v : Variable) (q : Bytes) → Not (RT (attributes_of q)) → RecordOf s v q ↔ RecordOf (step s (set r)).1 v q
  set_hidden_lem v q n = (
    (λ f. ((set_by_name s r granted).others v (λ e. not_hidden q (subst⁻¹ (λ w. RecordOf s w q) e f) n) q).0 f),
    λ f. ((set_by_name s r granted).others v (λ e. not_left q (subst⁻¹ (λ w. RecordOf (step s (set r)).1 w q) e f) n) q).1 f,
  )

  -- the volatile store is as it was
  sound0 : sound s.nv s.vol ≡ true
  sound0 = and_left _ _ (set_passed s r (ap is_success (sym (step_status s (set r))) ∙ granted)).0

  not_volatile : Deletion r → contains (is_of r.variable) (records_of false s.vol) ≡ false
  not_volatile d = go (lookup s.nv s.vol r.variable) refl
    where
      stands : SoundStores s.nv s.vol
      stands = (tells_sound s.nv s.vol).0 sound0

      kept_there : (q : Bytes) → lookup s.nv s.vol r.variable ≡ some q → has_nv (attributes_of q) ≡ false → ⊥
      kept_there q e h =
          let l = past_52 s r answers0.place answers0.at.applies in
          unground 52 WriteProtected l (set_volatile q d x (lookup_found s r.variable q stands e) (tells_off _ (tells_nv (attributes_of q)) h))

      by_nv : (q : Bytes) (b : Bool) → lookup s.nv s.vol r.variable ≡ some q → has_nv (attributes_of q) ≡ b
          → contains (is_of r.variable) (records_of false s.vol) ≡ false
      by_nv q true e h = looked_nv s.nv s.vol r.variable q e sound0 h
      by_nv q false e h = absurd (kept_there q e h)

      go : (o : Option Bytes) → lookup s.nv s.vol r.variable ≡ o → contains (is_of r.variable) (records_of false s.vol) ≡ false
      go none e = none_vol s.nv s.vol r.variable e
      go (some q) e = by_nv q (has_nv (attributes_of q)) e refl

  set_volatile_lem : (step s (set r)).1.vol ≡ s.vol
  unfolding decision_store
  set_volatile_lem = ap (λ t. t.vol) (granted_effect s (set r) granted) ∙ go (is_deletion r.attributes r.payload) (is_empty_append r.attributes r.payload) refl refl
    where
      is : decision_in s r ≡ cond (is_deletion r.attributes r.payload) Delete (cond (is_empty_append r.attributes r.payload) Keep Store)
      is = decided s r (set_passed s r (ap is_success (sym (step_status s (set r))) ∙ granted)).1

      go : (d e : Bool) → is_deletion r.attributes r.payload ≡ d → is_empty_append r.attributes r.payload ≡ e → (effect s (set r)).vol ≡ s.vol
      go true e h k = rw (is, h) (without_absent false s.vol r.variable (sound_vol s.nv s.vol sound0) (not_volatile ((tells_deletion r).0 h)))
      go false true h k = rw (is, h, k)
      go false false h k = rw (is, h, k, (tells_nv r.attributes).1 (runtime (tells_off _ (tells_deletion r) h)).0)

  set_stays : Stays s (step s (set r)).1
  set_stays = record { policy = (kept s (set r)).policy; switches = (kept s (set r)).switches; vol = set_volatile_lem; hidden = set_hidden_lem }

-- ---- every call

-- a refused call leaves the state, and so what stays
refused_stays : (s : State) (c : Call) → is_success (step s c).0.status ≡ false → Stays s (step s c).1
refused_stays s c h = subst⁻¹ (Stays s) (refused_changes_nothing s c h) (stays_same s)

-- one that is granted, and is none of those that exit refuses
granted_stays : (s : State) (c : Call) → Exited s → is_start c ≡ false → is_success (step s c).0.status ≡ true → Stays s (step s c).1
unfolding step
granted_stays s (power_on allowed) x n h = absurd (true≢false n)
granted_stays s (restart allowed) x n h = absurd (true≢false n)
granted_stays s (register e) x n h = absurd (true≢false (sym x ∙ (register_passed s e (ap is_success (sym (step_status s (register e))) ∙ h)).1))
granted_stays s (dump buffer) x n h = subst⁻¹ (Stays s) (granted_effect s (dump buffer) h) (stays_same s)
granted_stays s lock x n h = absurd (false≢true (rw x at h))
granted_stays s disable x n h = absurd (false≢true (rw x at h))
granted_stays s exit x n h = absurd (false≢true (rw x at h))
granted_stays s query x n h = stays_same s
granted_stays s (read v) x n h = subst⁻¹ (Stays s) (granted_effect s (read v) h) (stays_same s)
granted_stays s (set r) x n h = set_stays s x r h
granted_stays s (settled v) x n h = subst⁻¹ (Stays s) (granted_effect s (settled v) h) (stays_same s)

-- AFTER EXIT EVERY CALL BUT A GRANTED START leaves the policy record, the switches, the volatile store, and every record without RT as they are
pub after_exit : (s : State) (c : Call) → Exited s → GoesOn s c → Stays s (step s c).1
after_exit s c x n = go (is_start c) (is_success (step s c).0.status) refl refl
  where
    go : (b g : Bool) → is_start c ≡ b → is_success (step s c).0.status ≡ g → Stays s (step s c).1
    go b false e h = refused_stays s c h
    go true true e h = absurd (true≢false (sym h ∙ n e))
    go false true e h = granted_stays s c x e h

-- ---- what is not to be had after exit

-- the calls that exit refuses
abbrev pub ends_at_exit : Call → Bool
ends_at_exit (power_on allowed) = false
ends_at_exit (restart allowed) = false
ends_at_exit (register e) = true
ends_at_exit (dump buffer) = true
ends_at_exit lock = true
ends_at_exit disable = true
ends_at_exit exit = true
ends_at_exit query = false
ends_at_exit (read v) = false
ends_at_exit (set r) = false
ends_at_exit (settled v) = false

-- REGISTER, DUMP, LOCK, DISABLE AND EXIT ANSWER 3 AFTER EXIT, with no number and the buffer of a dump as it was, unless they are lent a policy record
-- that is not valid
pub exit_refuses : (s : State) (c : Call) → Exited s → ((uses c).lent.policy ≡ true → policy_valid s.policy ≡ true) → ends_at_exit c ≡ true
    → step s c ≡ (answer_of Unsupported 0 (uses c).refused_bytes none, s)
unfolding step
exit_refuses s (power_on allowed) x v h = absurd (false≢true h)
exit_refuses s (restart allowed) x v h = absurd (false≢true h)
exit_refuses s (register e) x v h = rw (v refl, x)
exit_refuses s (dump buffer) x v h = rw (v refl, x)
exit_refuses s lock x v h = rw x
exit_refuses s disable x v h = rw x
exit_refuses s exit x v h = rw x
exit_refuses s query x v h = absurd (false≢true h)
exit_refuses s (read w) x v h = absurd (false≢true h)
exit_refuses s (set r) x v h = absurd (false≢true h)
exit_refuses s (settled w) x v h = absurd (false≢true h)

past_2 : (s : State) (v : Variable) (k : ℕ) → Applies s (read v) k Success → 2 < k
past_2 s v k read_done = lit< tt

-- A READ AFTER EXIT TELLS ONLY VARIABLES WITH RT: what it hands back is of the variable's record, which has RT (`read_tells`)
pub told_runtime : (s : State) (v : Variable) → Exited s → is_success (step s (read v)).0.status ≡ true → (q : Bytes) × RecordOf s v q × RT (attributes_of q)
told_runtime s v x h = intact (sound s.nv s.vol) refl
  where
    first : Answers s (read v) Success
    first = (status_exactly s (read v) Success).0 (success_only _ h)

    unground : (k : ℕ) (n : Status) → k < 3 → Not (Applies s (read v) k n)
    unground k n l = let m = past_2 s v first.place first.at.applies in first.at.first k n (omega arith)

    by_rt : (q : Bytes) (b : Bool) → RecordOf s v q → has_rt (attributes_of q) ≡ b → (q : Bytes) × RecordOf s v q × RT (attributes_of q)
    by_rt q true f e = (q, f, (tells_rt (attributes_of q)).0 e)
    by_rt q false f e = absurd (unground 2 NotFound (lit< tt) (read_hidden q (record { exited = x; stands = f; without = tells_off _ (tells_rt (attributes_of q)) e })))

    found : SoundStores s.nv s.vol → (o : Option Bytes) → lookup s.nv s.vol v ≡ o → (q : Bytes) × RecordOf s v q × RT (attributes_of q)
    found k none e = absurd (unground 2 NotFound (lit< tt) (read_absent (lookup_absent s v e)))
    found k (some q) e = by_rt q (has_rt (attributes_of q)) (lookup_found s v q k e) refl

    intact : (b : Bool) → sound s.nv s.vol ≡ b → (q : Bytes) × RecordOf s v q × RT (attributes_of q)
    intact true e = found ((tells_sound s.nv s.vol).0 e) (lookup s.nv s.vol v) refl
    intact false e = absurd (unground 0 VolumeCorrupted (lit< tt) (read_unsound (tells_off _ (tells_sound s.nv s.vol) e)))

pub read_tells : (s : State) (v : Variable) (q : Bytes) → is_success (step s (read v)).0.status ≡ true → RecordOf s v q
    → step s (read v) ≡ (answer_of Success (attributes_of q) (payload_of q) none, s)
unfolding step
read_tells s v q h f = ap (λ n. (answer s (read v) n, after s (read v) n)) (success_only (status s (read v)) (ap is_success (sym (step_status s (read v))) ∙ h)) ∙ rw (found_lookup s v q f)

-- a record of sound stores is of a variable with a valid name
pub record_named : (s : State) (v : Variable) (q : Bytes) → RecordOf s v q → named v ≡ true
record_named s v q f =
    let l = looked s.nv s.vol v q (found_lookup s v q f) in
    subst (λ w. named w ≡ true) f.own (fields_storable (has_nv (attributes_of q)) q l.ok).called

-- and to one that is hidden answers as to an absent one
pub hidden_read : (s : State) (v : Variable) (q : Bytes) → Hidden s v q → step s (read v) ≡ (only_status NotFound, s)
unfolding step read_status
hidden_read s v q h =
    let n = record_named s v q h.stands in
    let k : SoundStores s.nv s.vol = record { in_nv = h.stands.in_nv; in_vol = h.stands.in_vol; records = h.stands.records } in
    let e = not-true (exists (shown s.switches.exited (lookup s.nv s.vol v))) ((tells_unseen s v k).1 (inr (q, h))) in
    rw ((tells_sound s.nv s.vol).1 k, n, e)
