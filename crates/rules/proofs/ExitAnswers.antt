-- What exit changes in the answers and effects of calls, and that it changes nothing else: beside each call after exit stands the same call in the state
-- before it. With `before_exit` (ExitLaws.antt) the latter is a call of the edition before. Assumes nothing.
use Rattle.std.specs.Prelude.{ℕ, ◌≡◌, ◌↔◌, Some, None}
use Rattle.std.specs.Prelude as std
use Rattle.std.proofs.Math.Path.{refl, sym, ap, ap₂}
use Rattle.std.proofs.Common.{subst, ◌∙◌, true≢false, arith}
use Rattle.std.proofs.Math.Bool.{Bool, true, false, cond}
use Rattle.std.proofs.lemmas.Bool.{false≢true}
use Rattle.std.proofs.Math.Option.{Option, none, some}
use Rattle.slices.specs.Test.{◌and◌}
use Rattle.slices.proofs.TestLaws.{and_left}
use Rattle.slices.specs.Bytes.{Bytes}
use Rattle.names.specs.Name.{Variable, named}
use Rattle.policy.specs.Policy.{entries_of, policy_valid}
use Rattle.policy.specs.Choice.{chosen}
use Rattle.store.specs.Record.{attributes_of}
use Rattle.stores.specs.Pair.{sound, lookup}
use Rattle.status.specs.declared.Status.{Status}
use Rattle.status.specs.declared.Status.TheVariants.{Success, InvalidParameter, Unsupported, WriteProtected, VolumeCorrupted, NotFound}
use Rattle.status.specs.Status.{is_success}
use Rattle.switches.specs.declared.Switches.{Switches}
use Rattle.switches.specs.Switches.{fresh_switches, refused_switches}
use Rattle.rules.specs.declared.Ground.{Ground}
use Rattle.rules.specs.Decision.{Decision}
use Rattle.rules.specs.Decision.{Refuse, Delete}
use Rattle.rules.specs.Set.{Request, exists, is_deletion, bad_request, unsupported_bit, needs_bs, needs_runtime, request_status, ground_by, shown, exit_protects, delete_decision, write_decision, refuse_or, block_or, decision, decision_status, decision_store}
use Rattle.rules.specs.Report.{no_report, decision_report}
use Rattle.rules.specs.Engine.{State, Call, state_of, speaking, decision_by, decision_in, set_decision, with_report, read_status, status, given, refusal, answer, effect, after, step}
use Rattle.rules.specs.Engine.Call.{power_on, restart, register, dump, lock, disable, exit, query, read, set, settled}
use Rattle.rules.proofs.DecisionLaws.{bars, decision_refused, decision_blocked, decision_written}
use Rattle.rules.proofs.EngineLaws.{step_status, answer_reported, kept}
use Rattle.rules.proofs.StateLaws.{set_passed}
use Rattle.rules.proofs.ExitLaws.{is_start}
use Rattle.rules.specs.Grounds.{Not, NV, BS, RT, SoundStores, RecordOf, Exited, Hidden, Deletion}
use Rattle.rules.proofs.ConditionLaws.{off_tells, tells_nv, tells_rt, tells_deletion, tells_runtime}
use Rattle.rules.proofs.FoundLaws.{tells_sound, lookup_found, found_lookup}

-- the state with exited clear
abbrev pub without_exit : State → State
without_exit s =
    state_of s.nv s.vol s.policy
    (record { enabled = s.switches.enabled; locked = s.switches.locked; disabling_allowed = s.switches.disabling_allowed; exited = false })

-- a call answers, and leaves the stores, as before exit
pub record AsBefore (s : State) (c : Call) : Type 0 where
  pub answers : (step s c).0 ≡ (step (without_exit s) c).0
  pub nv : (step s c).1.nv ≡ (step (without_exit s) c).1.nv
  pub vol : (step s c).1.vol ≡ (step (without_exit s) c).1.vol

-- ---- steps 1 to 3

unasked : (a : ℕ) (payload : Bytes) → needs_runtime false a payload ≡ false
unfolding needs_runtime ◌and◌
unasked a payload = refl

-- what refuses a request before exit refuses it after exit
early_same : (r : Request) → is_success (request_status false r) ≡ false → request_status true r ≡ request_status false r
unfolding request_status
early_same r h =
    go (bad_request r.variable r.payload) (unsupported_bit r.attributes) (needs_bs r.attributes) (needs_runtime true r.attributes r.payload)
    (needs_runtime false r.attributes r.payload) (unasked r.attributes r.payload) h
  where
    go : (b u n x y : Bool) → y ≡ false → is_success (cond b InvalidParameter (cond u Unsupported (cond n InvalidParameter (cond y InvalidParameter Success)))) ≡ false
        → cond b InvalidParameter (cond u Unsupported (cond n InvalidParameter (cond x InvalidParameter Success)))
        ≡ cond b InvalidParameter (cond u Unsupported (cond n InvalidParameter (cond y InvalidParameter Success)))
    go true u n x y e h = refl
    go false true n x y e h = refl
    go false false true x y e h = refl
    go false false false x true e h = absurd (true≢false e)
    go false false false x false e h = absurd (true≢false h)

-- where exit asks nothing of a request, steps 1 to 3 are as before
taken_same : (r : Request) → needs_runtime true r.attributes r.payload ≡ false → request_status true r ≡ request_status false r
unfolding request_status
taken_same r h = rw (h, unasked r.attributes r.payload)

-- and where it does, it gives 2 to what passed them
asked_refused : (r : Request) → is_success (request_status false r) ≡ true → needs_runtime true r.attributes r.payload ≡ true → request_status true r ≡ InvalidParameter
unfolding request_status
asked_refused r h k = rw k (go (bad_request r.variable r.payload) (unsupported_bit r.attributes) (needs_bs r.attributes) h)
  where
    go : (b u n : Bool) → is_success (cond b InvalidParameter (cond u Unsupported (cond n InvalidParameter (cond (needs_runtime false r.attributes r.payload) InvalidParameter Success)))) ≡ true
        → cond b InvalidParameter (cond u Unsupported (cond n InvalidParameter InvalidParameter)) ≡ InvalidParameter
    go true u n h = refl
    go false true n h = absurd (false≢true h)
    go false false true h = refl
    go false false false h = refl

-- a deletion is not asked
deletion_unasked : (exited : Bool) (a : ℕ) (payload : Bytes) → is_deletion a payload ≡ true → needs_runtime exited a payload ≡ false
unfolding needs_runtime ◌and◌
deletion_unasked true a payload h = rw h
deletion_unasked false a payload h = refl

-- ---- the decision

module _ (speaks : Option Bytes) (nv vol : Bytes) (r : Request) where
  abbrev stands : Option Bytes
  stands = lookup nv vol r.variable

  -- refused at steps 1 to 3
  early_decided : is_success (request_status false r) ≡ false → decision true speaks nv vol r ≡ decision false speaks nv vol r
  unfolding decision
  early_decided h = rw (early_same r h, h)

  -- no deletion, with NV, BS and RT
  runtime_decided : is_deletion r.attributes r.payload ≡ false → needs_runtime true r.attributes r.payload ≡ false
      → decision true speaks nv vol r ≡ decision false speaks nv vol r
  unfolding decision write_decision
  runtime_decided d h = rw (taken_same r h, d)

  -- a deletion, of which step 5 says the same
  deletion_decided : is_deletion r.attributes r.payload ≡ true → delete_decision true stands ≡ delete_decision false stands
      → decision true speaks nv vol r ≡ decision false speaks nv vol r
  unfolding decision write_decision
  deletion_decided d h = rw (taken_same r (deletion_unasked true r.attributes r.payload d), d, h)

  -- an absent variable is absent to both
  absent_same : stands ≡ none → delete_decision true stands ≡ delete_decision false stands
  unfolding exists shown
  absent_same e = rw e

  -- a ground of step 4 stands before step 5
  blocked_same : is_deletion r.attributes r.payload ≡ true → is_success (request_status false r) ≡ true
      → (g : Ground) → ground_by speaks (lookup nv vol) r ≡ Some g → decision true speaks nv vol r ≡ decision false speaks nv vol r
  blocked_same d k g e =
      decision_blocked true speaks nv vol r g (ap is_success (taken_same r (deletion_unasked true r.attributes r.payload d)) ∙ k) e
      ∙ sym (decision_blocked false speaks nv vol r g k e)

  -- before exit a deletion of a variable that exists is refused at steps 1 to 4 alone
  refused_ground : (q : Bytes) → stands ≡ some q → is_deletion r.attributes r.payload ≡ true → is_success (request_status false r) ≡ true
      → is_success (decision_status (decision false speaks nv vol r)) ≡ false → (g : Ground) × (ground_by speaks (lookup nv vol) r ≡ Some g)
  unfolding decision write_decision exists shown exit_protects ◌and◌
  refused_ground q e d k h = go (ground_by speaks (lookup nv vol) r) refl (rw (k, d, e) at h)
    where
      go : (o : std.Option Ground) → ground_by speaks (lookup nv vol) r ≡ o → is_success (decision_status (block_or o Delete)) ≡ false
          → (g : Ground) × (ground_by speaks (lookup nv vol) r ≡ Some g)
      go None i f = absurd (true≢false f)
      go (Some g) i f = (g, i)

  -- a deletion that is refused before exit
  refused_decided : is_deletion r.attributes r.payload ≡ true → is_success (decision_status (decision false speaks nv vol r)) ≡ false
      → decision true speaks nv vol r ≡ decision false speaks nv vol r
  refused_decided d h = go stands refl (is_success (request_status false r)) refl
    where
      go : (o : Option Bytes) → stands ≡ o → (b : Bool) → is_success (request_status false r) ≡ b → decision true speaks nv vol r ≡ decision false speaks nv vol r
      go o e false k = early_decided k
      go none e true k = deletion_decided d (absent_same e)
      go (some q) e true k = let w = refused_ground q e d k h in blocked_same d k w.0 w.1

-- a decision that answers 0 has passed steps 1 to 4
passes : (n : Status) (o : std.Option Ground) (d : Decision) → is_success (decision_status (refuse_or n (block_or o d))) ≡ true → (is_success n ≡ true) × (o ≡ None)
passes n o d h = go (is_success n) refl o h
  where
    go : (b : Bool) → is_success n ≡ b → (o : std.Option Ground) → is_success (decision_status (cond b (block_or o d) (Refuse n))) ≡ true → (is_success n ≡ true) × (o ≡ None)
    go true e None f = (e, refl)
    go true e (Some g) f = absurd (false≢true (sym (bars g) ∙ f))
    go false e o f = absurd (false≢true (sym e ∙ f))

-- ---- a set

module _ (s : State) (x : Exited s) (r : Request) where
  abbrev speaker : Option Bytes
  speaker = speaking s.switches.enabled (chosen (entries_of s.policy) r.variable)

  abbrev intact : Bool
  intact = sound s.nv s.vol and policy_valid s.policy

  -- what is decided in any state, from the decisions over sound stores and a valid record
  decides_same : (intact ≡ true → decision true speaker s.nv s.vol r ≡ decision false speaker s.nv s.vol r)
      → set_decision s r ≡ set_decision (without_exit s) r
  unfolding decision_by
  decides_same e = rw x (go intact refl)
    where
      go : (b : Bool) → intact ≡ b
          → cond b (decision true speaker s.nv s.vol r) (Refuse VolumeCorrupted) ≡ cond b (decision false speaker s.nv s.vol r) (Refuse VolumeCorrupted)
      go true h = e h
      go false h = refl

  answered_same : set_decision s r ≡ set_decision (without_exit s) r → (step s (set r)).0 ≡ (step (without_exit s) (set r)).0
  unfolding step
  answered_same e =
      answer_reported s r (status s (set r))
      ∙ ap (λ d. with_report (decision_status d) (decision_report d (entries_of s.policy) (chosen (entries_of s.policy) r.variable) r.attributes)) e
      ∙ sym (answer_reported (without_exit s) r (status (without_exit s) (set r)))

  -- where the set is granted it is decided by the steps
  granted_same : set_decision s r ≡ set_decision (without_exit s) r → is_success (status (without_exit s) (set r)) ≡ true → decision_in s r ≡ decision_in (without_exit s) r
  granted_same e h = let k = (set_passed (without_exit s) r h).0 in rw k at e

  set_as_before : set_decision s r ≡ set_decision (without_exit s) r → AsBefore s (set r)
  unfolding step
  set_as_before e =
      let n : status s (set r) ≡ status (without_exit s) (set r) = ap decision_status e in
      record {
        answers = answered_same e;
        nv = ap (λ m. (after s (set r) m).nv) n ∙ left_nv (is_success (status (without_exit s) (set r))) refl;
        vol = ap (λ m. (after s (set r) m).vol) n ∙ left_vol (is_success (status (without_exit s) (set r))) refl;
      }
    where
      left_nv : (b : Bool) → is_success (status (without_exit s) (set r)) ≡ b → (cond b (effect s (set r)) s).nv ≡ (cond b (effect (without_exit s) (set r)) (without_exit s)).nv
      left_nv true h = ap (λ d. decision_store d true s.nv (lookup s.nv s.vol r.variable) r) (granted_same e h)
      left_nv false h = refl

      left_vol : (b : Bool) → is_success (status (without_exit s) (set r)) ≡ b → (cond b (effect s (set r)) s).vol ≡ (cond b (effect (without_exit s) (set r)) (without_exit s)).vol
      left_vol true h = ap (λ d. decision_store d false s.vol (lookup s.nv s.vol r.variable) r) (granted_same e h)
      left_vol false h = refl

  -- a set that is refused by a status of its own, and not by an entry
  refused_step : (n : Status) → set_decision s r ≡ Refuse n → is_success n ≡ false → step s (set r) ≡ (with_report n no_report, s)
  unfolding step
  refused_step n e h =
      ap₂ (λ a t. (a, t))
      (answer_reported s r (status s (set r))
      ∙ ap (λ d. with_report (decision_status d) (decision_report d (entries_of s.policy) (chosen (entries_of s.policy) r.variable) r.attributes)) e)
      (ap (λ d. after s (set r) (decision_status d)) e ∙ rw h)

  -- over sound stores and a valid record
  intact_decides : (d : Decision) → intact ≡ true → decision true speaker s.nv s.vol r ≡ d → set_decision s r ≡ d
  unfolding decision_by
  intact_decides d k e = rw (x, k) e

  -- A SET THAT IS NO DELETION AND LACKS NV, BS OR RT IS 2 AFTER EXIT, without a ground, wherever steps 1 to 3 took it before
  pub set_needs_runtime : intact ≡ true → is_success (request_status false r) ≡ true → Not (Deletion r)
      → Not (NV r.attributes × BS r.attributes × RT r.attributes) → step s (set r) ≡ (with_report InvalidParameter no_report, s)
  set_needs_runtime k t d n =
      refused_step InvalidParameter (intact_decides (Refuse InvalidParameter) k
      (decision_refused true speaker s.nv s.vol r InvalidParameter (asked_refused r t needed) refl)) refl
    where
      needed : needs_runtime true r.attributes r.payload ≡ true
      needed = subst (λ b. needs_runtime b r.attributes r.payload ≡ true) x ((tells_runtime s r).1 (x, (d, λ w. n (w.0, w.1.0, w.1.1))))

  -- what a deletion that was granted before exit has passed
  record Passed : Type 0 where
    whole : intact ≡ true
    asked : is_success (request_status true r) ≡ true
    silent : ground_by speaker (lookup s.nv s.vol) r ≡ None

  passed_before : is_deletion r.attributes r.payload ≡ true → is_success (step (without_exit s) (set r)).0.status ≡ true → Passed
  unfolding decision_by decision
  passed_before d h =
      let p = set_passed (without_exit s) r (ap is_success (sym (step_status (without_exit s) (set r))) ∙ h) in
      let t = passes (request_status false r) (ground_by speaker (lookup s.nv s.vol) r) _ p.1 in
      record { whole = p.0; asked = ap is_success (taken_same r (deletion_unasked true r.attributes r.payload d)) ∙ t.0; silent = t.1 }

  by_step_5 : is_deletion r.attributes r.payload ≡ true → Passed → (n : Status) → is_success n ≡ false
      → delete_decision true (lookup s.nv s.vol r.variable) ≡ Refuse n → step s (set r) ≡ (with_report n no_report, s)
  unfolding write_decision
  by_step_5 d p n h e =
      refused_step n (intact_decides (Refuse n) p.whole (decision_written true speaker s.nv s.vol r p.asked p.silent ∙ rw d e)) h

  -- what step 5 says of a record after exit
  hidden_refused : (q : Bytes) → Hidden s r.variable q → delete_decision true (lookup s.nv s.vol r.variable) ≡ Refuse NotFound
  unfolding exists shown ◌and◌
  hidden_refused q h = rw (found_lookup s r.variable q h.stands, off_tells _ (tells_rt (attributes_of q)) h.without)

  volatile_refused : (q : Bytes) → RecordOf s r.variable q → RT (attributes_of q) → Not (NV (attributes_of q))
      → delete_decision true (lookup s.nv s.vol r.variable) ≡ Refuse WriteProtected
  unfolding exists shown exit_protects ◌and◌
  volatile_refused q f t n = rw (found_lookup s r.variable q f, (tells_rt (attributes_of q)).1 t, off_tells _ (tells_nv (attributes_of q)) n)

  -- A DELETION THAT WOULD BE GRANTED BEFORE EXIT IS 14 AFTER IT WHERE THE VARIABLE HAS NO RT, in either store
  pub hidden_deletion : (q : Bytes) → Deletion r → is_success (step (without_exit s) (set r)).0.status ≡ true → Hidden s r.variable q
      → step s (set r) ≡ (with_report NotFound no_report, s)
  hidden_deletion q d h k =
      let e = (tells_deletion r).1 d in
      by_step_5 e (passed_before e h) NotFound refl (hidden_refused q k)

  -- AND 8, without a ground, where it is volatile and has RT
  pub volatile_deletion : (q : Bytes) → Deletion r → is_success (step (without_exit s) (set r)).0.status ≡ true → RecordOf s r.variable q
      → RT (attributes_of q) → Not (NV (attributes_of q)) → step s (set r) ≡ (with_report WriteProtected no_report, s)
  volatile_deletion q d h f t n =
      let e = (tells_deletion r).1 d in
      by_step_5 e (passed_before e h) WriteProtected refl (volatile_refused q f t n)

  -- a variable that is absent, or has NV and RT
  deletion_same : ((q : Bytes) → RecordOf s r.variable q → NV (attributes_of q) × RT (attributes_of q)) → SoundStores s.nv s.vol
      → delete_decision true (lookup s.nv s.vol r.variable) ≡ delete_decision false (lookup s.nv s.vol r.variable)
  unfolding exists shown exit_protects ◌and◌
  deletion_same f k = go (lookup s.nv s.vol r.variable) refl
    where
      go : (o : Option Bytes) → lookup s.nv s.vol r.variable ≡ o → delete_decision true o ≡ delete_decision false o
      go none e = refl
      go (some q) e =
          let w = f q (lookup_found s r.variable q k e) in
          rw ((tells_nv (attributes_of q)).1 w.0, (tells_rt (attributes_of q)).1 w.1)

-- ---- WHAT EXIT DOES NOT TOUCH

pub data Untouched (s : State) : Call → Type 0 where
  -- a start, which is lent no switch
  a_start : {c : Call} → is_start c ≡ true → Untouched s c
  a_query : Untouched s query
  -- nor is settled lent one
  a_settled : {v : Variable} → Untouched s (settled v)
  -- a read, unless the variable has a record without RT; of a bad name too, and in unsound stores
  a_read : {v : Variable} → ((q : Bytes) → RecordOf s v q → RT (attributes_of q)) → Untouched s (read v)
  -- a set that is lent damaged stores or a damaged record, or that steps 1 to 3 refuse before exit
  corrupted : {r : Request} → (sound s.nv s.vol and policy_valid s.policy) ≡ false → Untouched s (set r)
  early : {r : Request} → is_success (request_status false r) ≡ false → Untouched s (set r)
  -- one that is no deletion and has NV, BS and RT: so step 4, with the entry's report, and steps 6 to 10 see both stores whole
  runtime : {r : Request} → Not (Deletion r) → NV r.attributes × BS r.attributes × RT r.attributes → Untouched s (set r)
  -- a deletion that is refused before exit, on whatever ground
  refused_deletion : {r : Request} → Deletion r → is_success (step (without_exit s) (set r)).0.status ≡ false → Untouched s (set r)
  -- a deletion, unless the variable has a record without NV or RT
  deletion : {r : Request} → Deletion r → ((q : Bytes) → RecordOf s r.variable q → NV (attributes_of q) × RT (attributes_of q)) → Untouched s (set r)

-- either way of a call that writes neither store, or writes them alike
either : {A : Type 0} (b : Bool) (f : State → A) (a z a' z' : State) → f a ≡ f a' → f z ≡ f z' → f (cond b a z) ≡ f (cond b a' z')
either true f a z a' z' e k = e
either false f a z a' z' e k = k

start_same : (s : State) (c : Call) → is_start c ≡ true → AsBefore s c
unfolding step
start_same s (power_on allowed) h = record { answers = refl; nv = either (is_success (status s (power_on allowed))) (λ t. t.nv) _ _ _ _ refl refl; vol = either (is_success (status s (power_on allowed))) (λ t. t.vol) _ _ _ _ refl refl }
start_same s (restart allowed) h = record { answers = refl; nv = either (is_success (status s (restart allowed))) (λ t. t.nv) _ _ _ _ refl refl; vol = either (is_success (status s (restart allowed))) (λ t. t.vol) _ _ _ _ refl refl }
start_same s (register e) h = absurd (false≢true h)
start_same s (dump buffer) h = absurd (false≢true h)
start_same s lock h = absurd (false≢true h)
start_same s disable h = absurd (false≢true h)
start_same s exit h = absurd (false≢true h)
start_same s query h = absurd (false≢true h)
start_same s (read v) h = absurd (false≢true h)
start_same s (set r) h = absurd (false≢true h)
start_same s (settled v) h = absurd (false≢true h)

query_same : (s : State) → AsBefore s query
unfolding step
query_same s = record { answers = refl; nv = refl; vol = refl }

settled_as_before : (s : State) (v : Variable) → AsBefore s (settled v)
unfolding step
settled_as_before s v = record {
  answers = refl;
  nv = (kept s (settled v)).nv ∙ sym (kept (without_exit s) (settled v)).nv;
  vol = (kept s (settled v)).vol ∙ sym (kept (without_exit s) (settled v)).vol;
}

module _ (s : State) (x : Exited s) where
  seen_same : (v : Variable) → SoundStores s.nv s.vol → ((q : Bytes) → RecordOf s v q → RT (attributes_of q))
      → exists (shown true (lookup s.nv s.vol v)) ≡ exists (shown false (lookup s.nv s.vol v))
  unfolding exists shown ◌and◌
  seen_same v k f = go (lookup s.nv s.vol v) refl
    where
      go : (o : Option Bytes) → lookup s.nv s.vol v ≡ o → exists (shown true o) ≡ exists (shown false o)
      go none e = refl
      go (some q) e = rw ((tells_rt (attributes_of q)).1 (f q (lookup_found s v q k e)))

  read_same : (v : Variable) → ((q : Bytes) → RecordOf s v q → RT (attributes_of q)) → status s (read v) ≡ status (without_exit s) (read v)
  unfolding read_status
  read_same v f = rw x (go (sound s.nv s.vol) refl)
    where
      tail : Bool → Status
      tail b = cond (named v) (cond b Success NotFound) InvalidParameter

      go : (b : Bool) → sound s.nv s.vol ≡ b
          → cond b (tail (exists (shown true (lookup s.nv s.vol v)))) VolumeCorrupted ≡ cond b (tail (exists (shown false (lookup s.nv s.vol v)))) VolumeCorrupted
      go true e = ap tail (seen_same v ((tells_sound s.nv s.vol).0 e) f)
      go false e = refl

  -- over sound stores and a valid record, before exit
  before_decides : (r : Request) → (sound s.nv s.vol and policy_valid s.policy) ≡ true
      → set_decision (without_exit s) r ≡ decision false (speaker s x r) s.nv s.vol r
  unfolding decision_by
  before_decides r k = rw k

  read_as_before : (v : Variable) → ((q : Bytes) → RecordOf s v q → RT (attributes_of q)) → AsBefore s (read v)
  unfolding step
  read_as_before v f = record {
    answers = ap (answer s (read v)) (read_same v f);
    nv = (kept s (read v)).nv ∙ sym (kept (without_exit s) (read v)).nv;
    vol = (kept s (read v)).vol ∙ sym (kept (without_exit s) (read v)).vol;
  }

  -- BUT FOR WHAT IT REFUSES, EXIT CHANGES NO ANSWER AND NO STORED BYTE: beside this stand `exit_refuses`, `hidden_read`, `set_needs_runtime`, `hidden_deletion`
  -- and `volatile_deletion`
  pub untouched : (c : Call) → Untouched s c → AsBefore s c
  untouched c (a_start h) = start_same s c h
  untouched c a_query = query_same s
  untouched c (a_settled {v}) = settled_as_before s v
  untouched c (a_read {v} f) = read_as_before v f
  untouched c (corrupted {r} h) = set_as_before s x r (decides_same s x r (λ k. absurd (true≢false (sym k ∙ h))))
  untouched c (early {r} h) = set_as_before s x r (decides_same s x r (λ k. early_decided (speaker s x r) s.nv s.vol r h))
  untouched c (runtime {r} d w) =
      set_as_before s x r (decides_same s x r (λ k. runtime_decided (speaker s x r) s.nv s.vol r (off_tells _ (tells_deletion r) d) (unneeded r w)))
    where
      unneeded : (r : Request) → NV r.attributes × BS r.attributes × RT r.attributes → needs_runtime true r.attributes r.payload ≡ false
      unneeded r w = subst (λ b. needs_runtime b r.attributes r.payload ≡ false) x (off_tells _ (tells_runtime s r) (λ k. k.1.1 (w.0, (w.1, w.2))))
  untouched c (refused_deletion {r} d h) =
      set_as_before s x r (decides_same s x r (λ k. refused_decided (speaker s x r) s.nv s.vol r ((tells_deletion r).1 d) (refused_before r k h)))
    where
      refused_before : (r : Request) → (sound s.nv s.vol and policy_valid s.policy) ≡ true → is_success (step (without_exit s) (set r)).0.status ≡ false
          → is_success (decision_status (decision false (speaker s x r) s.nv s.vol r)) ≡ false
      refused_before r k h = sym (ap (λ d. is_success (decision_status d)) (before_decides r k)) ∙ ap is_success (sym (step_status (without_exit s) (set r))) ∙ h
  untouched c (deletion {r} d f) =
      set_as_before s x r (decides_same s x r (λ k.
      deletion_decided (speaker s x r) s.nv s.vol r ((tells_deletion r).1 d) (deletion_same s x r f ((tells_sound s.nv s.vol).0 (and_left _ _ k)))))

-- ---- the switch itself

-- NOTHING BUT A FORMER EXIT REFUSES EXIT
pub exit_exactly : (s : State) → (is_success (step s exit).0.status ≡ true) ↔ (s.switches.exited ≡ false)
unfolding step
exit_exactly s = (to s.switches.exited refl, λ e. rw e)
  where
    to : (b : Bool) → s.switches.exited ≡ b → is_success (answer s exit (cond b Unsupported Success)).status ≡ true → b ≡ false
    to true e h = absurd (false≢true h)
    to false e h = refl

-- SWITCHES THAT ARE HANDED BACK, BY A GRANTED START OR A REFUSED ONE, HAVE EXITED CLEAR
handed : (s : State) (c : Call) (n : Status) (w : Switches) → (answer s c n).switches ≡ some w → w.exited ≡ false
handed s c n w = go (is_success n) c
  where
    fresh : (v : Switches) → v.exited ≡ false → some v ≡ some w → w.exited ≡ false
    fresh v e h = let z : v ≡ w = cc in subst (λ u. u.exited ≡ false) z e

    nothing : {A : Type 0} → none ≡ some w → A
    nothing h = let z : ◌≡◌ {A = ℕ} 0 1 = cc in absurd (omega arith)

    go : (b : Bool) (c : Call) → (cond b (given s c) (refusal s c n)).switches ≡ some w → w.exited ≡ false
    go true (power_on allowed) h = fresh (fresh_switches allowed) refl h
    go false (power_on allowed) h = fresh refused_switches refl h
    go true (restart allowed) h = fresh (fresh_switches allowed) refl h
    go false (restart allowed) h = fresh refused_switches refl h
    go true (register e) h = nothing h
    go false (register e) h = nothing h
    go true (dump buffer) h = nothing h
    go false (dump buffer) h = nothing h
    go true lock h = nothing h
    go false lock h = nothing h
    go true disable h = nothing h
    go false disable h = nothing h
    go true exit h = nothing h
    go false exit h = nothing h
    go true query h = nothing h
    go false query h = nothing h
    go true (read v) h = nothing h
    go false (read v) h = nothing h
    go true (set r) h = nothing h
    go false (set r) h = nothing h
    go true (settled v) h = nothing h
    go false (settled v) h = nothing h

pub handed_back_clear : (s : State) (c : Call) (w : Switches) → (step s c).0.switches ≡ some w → w.exited ≡ false
unfolding step
handed_back_clear s c w h = handed s c (status s c) w h
