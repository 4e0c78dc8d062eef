-- The report of a set and its status never disagree; the entry at the reported place is the chosen one; what each ground says of it.
-- Assumes nothing.
use Rattle.std.specs.Prelude.{ℕ, zero, suc, ◌^◌, ◌<◌, ◌≡◌, Some, None, is_some, unwrap_or, List, [], ◌∷◌, Bool, not, ◌||◌, ◌⊎◌, ◌↔◌, length, get_or}
use Rattle.std.specs.Prelude as std
use Rattle.std.proofs.Math.Path.{refl, sym, subst⁻¹}
use Rattle.std.proofs.Common.{ap, subst, ◌∙◌, inl, inr, arith, lit<, eq-eqb, eqb-true}
use Rattle.std.proofs.Math.Bool.{true, false, cond, true≢false}
use Rattle.std.proofs.lemmas.Bool.{false≢true, not-true, not-false}
use Rattle.std.proofs.Math.Option.{Option, none, some}
use Rattle.std.specs.Int.Bits.{bit_and}
use Rattle.std.proofs.lemmas.Nat.{and_le_r}
use Rattle.limits.specs.Limits.{known_attributes}
use Rattle.lists.specs.Lists.{more, Among}
use Rattle.lists.proofs.ListsLaws as choice
use Rattle.lists.proofs.ListsLaws.{all_among, among_middle}
use Rattle.slices.specs.Test.{◌and◌}
use Rattle.slices.proofs.TestLaws.{and_left, and_intro}
use Rattle.slices.specs.Bytes.{Bytes, AreBytes}
use Rattle.entry.specs.Entry.{min_size, max_size, attributes_must_have, attributes_cant_have, targets, rank}
use Rattle.entry.specs.Encoding.{fields_of}
use Rattle.entry.proofs.EncodingLaws.{well_formed_encoding}
use Rattle.policy.specs.Policy.{entries_of, policy_valid}
use Rattle.policy.proofs.PolicyLaws.{entries_of-formed}
use Rattle.policy.specs.Choice.{chosen, place_of}
use Rattle.policy.proofs.ChoiceLaws.{chosen_in_bytes}
use Rattle.policy.proofs.PlaceLaws.{StandsAt, stands_at}
use Rattle.store.specs.Record.{has_rt, attributes_of}
use Rattle.stores.specs.Pair.{sound, lookup}
use Rattle.bits.specs.Bits.{is_missing, is_prohibited, missing_bits, prohibited_bits}
use Rattle.bits.proofs.BitsLaws.{none_missing, none_prohibited, lowest_below, lowest_offends, lowest_first}
use Rattle.status.specs.declared.Status.{Status}
use Rattle.status.specs.declared.Status.TheVariants.{WriteProtected, VolumeCorrupted}
use Rattle.status.specs.Status.{is_success, status_number}
use Rattle.rules.specs.declared.Ground.{Ground}
use Rattle.rules.specs.declared.Ground.TheVariants.{SizeGround, AttributeGround, LockGround}
use Rattle.rules.specs.Decision.{Decision}
use Rattle.rules.specs.Decision.{Refuse, Block, Delete, Keep, Store}
use Rattle.rules.specs.declared.Report.{Report}
use Rattle.rules.specs.Set.{Request, request_status, ground_status, ground_of, ground_by, is_deletion, length_after, attributes_allowed, unsupported_bit, write_decision, block_or, decision, decision_status}
use Rattle.rules.proofs.DecisionLaws.{bars, supported, early_unlocked, ProtectedDeletion, protected_refused, late_locked, blocked_by, write_unblocked, decision_blocked, decision_written, blocked_facts}
use Rattle.rules.specs.Report.{no_report, report_for, report_by, decision_report}
use Rattle.rules.specs.Engine.{State, speaking, decision_by, decision_in, set_decision, status, with_report, set_report, step}
use Rattle.rules.specs.Engine.Call.{set}
use Rattle.rules.proofs.EngineLaws.{step_status, answer_reported}
use Rattle.rules.specs.Grounds.{Not, NV, RT, SoundStores, RecordOf, Absent, Exited, Hidden, Deletion}
use Rattle.rules.proofs.ConditionLaws.{tells_off, off_tells, tells_rt, tells_deletion}
use Rattle.rules.proofs.FoundLaws.{tells_sound, tells_unseen, tells_protected, one_record}
use Rattle.rules.proofs.SetGroundsLaws.{is_size, is_attribute, size_says, attribute_says, tells_size, spoken_of}

-- ---- which decision, and so which report

-- a decision that is by no ground of step 4 has a report without one
pub unblocked_report : (d : Decision) (es : List Bytes) (o : Option Bytes) (a : ℕ) → blocked_by d ≡ None → decision_report d es o a ≡ no_report
unblocked_report (Refuse n) es o a h = refl
unblocked_report (Block g) es o a h = absurd (true≢false (ap is_some h))
unblocked_report Delete es o a h = refl
unblocked_report Keep es o a h = refl
unblocked_report Store es o a h = refl

module _ (s : State) (r : Request) where
  abbrev entries : List Bytes
  entries = entries_of s.policy

  -- steps 5 to 9
  abbrev later : Decision
  later = write_decision s.switches.exited s.nv s.vol (lookup s.nv s.vol r.variable) r

  -- the chosen entry gives a ground: nothing gave 10, steps 1 to 3 passed, the engine is enabled, and the chosen entry gives this ground
  pub record GroundGiven (g : Ground) : Type 0 where
    pub stores : sound s.nv s.vol ≡ true
    pub policy : policy_valid s.policy ≡ true
    pub asked : is_success (request_status s.switches.exited r) ≡ true
    pub enabled : s.switches.enabled ≡ true
    pub entry : Bytes
    pub choice : chosen entries r.variable ≡ some entry
    pub gives : ground_of entry (lookup s.nv s.vol) r ≡ Some g

  who : (g : Ground) (b : Bool) (o : Option Bytes) → ground_by (speaking b o) (lookup s.nv s.vol) r ≡ Some g
      → (e : Bytes) × (b ≡ true) × (o ≡ some e) × (ground_of e (lookup s.nv s.vol) r ≡ Some g)
  who g true (some e) k = (e, refl, refl, k)
  who g true none k = absurd (false≢true (ap is_some k))
  who g false o k = absurd (false≢true (ap is_some k))

  not_blocked : (n : Status) (g : Ground) → Refuse n ≡ Block g → ⊥
  not_blocked n g e = let z : ◌≡◌ {A = ℕ} 0 1 = cc in omega arith

  pub ground_given : (g : Ground) → set_decision s r ≡ Block g → GroundGiven g
  unfolding decision_by ◌and◌
  ground_given g e = go (sound s.nv s.vol) (policy_valid s.policy) refl refl e
    where
      go : (a b : Bool) → sound s.nv s.vol ≡ a → policy_valid s.policy ≡ b → cond (a and b) (decision_in s r) (Refuse VolumeCorrupted) ≡ Block g → GroundGiven g
      go false b h k e = absurd (not_blocked VolumeCorrupted g e)
      go true false h k e = absurd (not_blocked VolumeCorrupted g e)
      go true true h k e =
          let f = blocked_facts _ _ s.nv s.vol r g e in
          let w = who g s.switches.enabled (chosen entries r.variable) f.ground in
          record { stores = h; policy = k; asked = f.asked; enabled = w.1; entry = w.0; choice = w.2; gives = w.3 }

  given_decides : (g : Ground) → GroundGiven g → set_decision s r ≡ Block g
  unfolding decision_by ◌and◌
  given_decides g w = rw (w.stores, w.policy) (decision_blocked _ _ s.nv s.vol r g w.asked (rw (w.enabled, w.choice) w.gives))

  -- the report of the entry that gives the ground
  abbrev pub given_report : (g : Ground) → GroundGiven g → Report
  given_report g w = report_for (Some g) (place_of entries w.entry) w.entry r.attributes

  -- A GROUND THAT SPEAKS IS ANSWERED WITH ITS STATUS AND REPORTED
  pub given_answers : (g : Ground) (w : GroundGiven g) → (step s (set r)).0 ≡ with_report (ground_status g) (given_report g w)
  unfolding step
  given_answers g w = answer_reported s r (status s (set r)) ∙ rw (given_decides g w, w.choice)

  -- a status and a report of a set that belong together: 10, a status of steps 1 to 3 and one of steps 5 to 10 without a ground; a
  -- ground with its own status
  pub data Agree : Status → Report → Type 0 where
    corrupted : (sound s.nv s.vol and policy_valid s.policy) ≡ false → Agree VolumeCorrupted no_report
    early : (sound s.nv s.vol and policy_valid s.policy) ≡ true → is_success (request_status s.switches.exited r) ≡ false
        → Agree (request_status s.switches.exited r) no_report
    by_ground : (g : Ground) (w : GroundGiven g) → Agree (ground_status g) (given_report g w)
    late : (sound s.nv s.vol and policy_valid s.policy) ≡ true → is_success (request_status s.switches.exited r) ≡ true
        → ground_by (speaking s.switches.enabled (chosen entries r.variable)) (lookup s.nv s.vol) r ≡ None
        → Agree (decision_status later) no_report

  reported : Agree (status s (set r)) (set_report s r)
  unfolding decision_by decision
  reported = go (sound s.nv s.vol and policy_valid s.policy) (is_success asks) _ refl refl refl (λ g e. ground_given g e)
    where
      asks : Status
      asks = request_status s.switches.exited r

      barred : (g : Ground) → GroundGiven g → Agree (ground_status g) (report_by (Some g) entries (chosen entries r.variable) r.attributes)
      barred g w = subst⁻¹ (λ o. Agree (ground_status g) (report_by (Some g) entries o r.attributes)) w.choice (by_ground g w)

      go : (b q : Bool) (h : std.Option Ground) → (sound s.nv s.vol and policy_valid s.policy) ≡ b → is_success asks ≡ q
          → ground_by (speaking s.switches.enabled (chosen entries r.variable)) (lookup s.nv s.vol) r ≡ h
          → ((g : Ground) → cond b (cond q (block_or h later) (Refuse asks)) (Refuse VolumeCorrupted) ≡ Block g → GroundGiven g)
          → Agree (decision_status (cond b (cond q (block_or h later) (Refuse asks)) (Refuse VolumeCorrupted)))
          (decision_report (cond b (cond q (block_or h later) (Refuse asks)) (Refuse VolumeCorrupted)) entries (chosen entries r.variable) r.attributes)
      go false q h i j k f = corrupted i
      go true false h i j k f = early i j
      go true true None i j k f = subst⁻¹ (Agree (decision_status later)) (unblocked_report later entries _ r.attributes (write_unblocked s.switches.exited s.nv s.vol _ r)) (late i j k)
      go true true (Some g) i j k f = barred g (f g refl)

-- REPORT AND STATUS NEVER DISAGREE
pub report_and_status : (s : State) (r : Request) → ((step s (set r)).0 ≡ with_report (status s (set r)) (set_report s r)) × Agree s r (status s (set r)) (set_report s r)
unfolding step
report_and_status s r = (answer_reported s r (status s (set r)), reported s r)

-- ---- what a report says

-- the report that a set answers
abbrev pub Answered : State → Request → Report → Type 0
Answered s r p = (step s (set r)).0.report ≡ some p

-- it is for the ground, if there is one
pub ground_for : (o : std.Option Ground) (k : ℕ) (e : Bytes) (a : ℕ) → (report_for o k e a).ground ≡ o
unfolding report_for
ground_for None k e a = refl
ground_for (Some SizeGround) k e a = refl
ground_for (Some AttributeGround) k e a = refl
ground_for (Some LockGround) k e a = refl

-- and names the place k and the rank of the entry e
record Made (k : ℕ) (e : Bytes) (p : Report) : Type 0 where
  place : p.place ≡ k
  rank : p.rank ≡ rank e

made : (g : Ground) (k : ℕ) (e : Bytes) (a : ℕ) → Made k e (report_for (Some g) k e a)
unfolding report_for
made SizeGround k e a = record { place = refl; rank = refl }
made AttributeGround k e a = record { place = refl; rank = refl }
made LockGround k e a = record { place = refl; rank = refl }

module _ (s : State) (r : Request) where
  answered_is : (p : Report) → Answered s r p → set_report s r ≡ p
  answered_is p h = go (sym (ap (λ a. a.report) (report_and_status s r).0) ∙ h)
    where
      go : some (set_report s r) ≡ some p → set_report s r ≡ p
      go e = cc

  -- the ground in a report is given
  told_given : {n : Status} {p : Report} (g : Ground) → Agree s r n p → p.ground ≡ Some g → GroundGiven s r g
  told_given g (corrupted i) e = absurd (false≢true (ap is_some e))
  told_given g (early i j) e = absurd (false≢true (ap is_some e))
  told_given g (by_ground k w) e = subst (GroundGiven s r) (ap (λ o. unwrap_or o g) (sym (ground_for (Some k) _ w.entry r.attributes) ∙ e)) w
  told_given g (late i j k) e = absurd (false≢true (ap is_some e))

  -- A GROUND IS REPORTED EXACTLY WHERE THE CHOSEN ENTRY GIVES IT, steps 1 to 3 passed and the engine enabled
  pub ground_exactly : (p : Report) (g : Ground) → Answered s r p → (p.ground ≡ Some g) ↔ GroundGiven s r g
  ground_exactly p g a = (
    (λ e. told_given g (report_and_status s r).1 (ap (λ q. q.ground) (answered_is p a) ∙ e)),
    λ w.
        ap (λ q. q.ground) (sym (answered_is p a) ∙ answered_is (given_report s r g w) (ap (λ x. x.report) (given_answers s r g w)))
        ∙ ground_for (Some g) _ w.entry r.attributes,
  )

  -- its report is then that of the entry
  given_report_lem : (p : Report) (g : Ground) → Answered s r p → (w : GroundGiven s r g) → p ≡ given_report s r g w
  given_report_lem p g a w = sym (answered_is p a) ∙ answered_is (given_report s r g w) (ap (λ x. x.report) (given_answers s r g w))

  module _ (g : Ground) (w : GroundGiven s r g) where
    chosen_among : Among w.entry (entries_of s.policy)
    unfolding chosen
    chosen_among =
        let c = choice.chosen_some rank (λ e. targets e r.variable) (entries_of s.policy) w.entry w.choice in
        subst⁻¹ (Among w.entry) c.place (among_middle c.before w.entry c.after)

    pub chosen_stands : StandsAt (entries_of s.policy) w.entry
    chosen_stands = stands_at (entries_of s.policy) w.entry chosen_among

-- the entry e, which gives the ground g, is named: at its place, with its rank
pub record Names (es : List Bytes) (e : Bytes) (g : Ground) (p : Report) : Type 0 where
  pub ground : p.ground ≡ Some g
  pub within : p.place < length es
  pub there : get_or es p.place [] ≡ e
  pub rank : p.rank ≡ rank e

-- THE ENTRY AT THE REPORTED PLACE IS THE CHOSEN ONE, with that rank
pub names_chosen : (s : State) (r : Request) (p : Report) (g : Ground) → Answered s r p → (w : GroundGiven s r g) → Names (entries_of s.policy) w.entry g p
names_chosen s r p g a w =
    let es = entries_of s.policy in
    let m = made g (place_of es w.entry) w.entry r.attributes in
    let k = chosen_stands s r g w in
    subst⁻¹ (Names es w.entry g) (given_report_lem s r p g a w) (record {
      ground = ground_for (Some g) _ w.entry r.attributes;
      within = subst⁻¹ (λ (i : ℕ). i < length es) m.place k.within;
      there = ap (λ (i : ℕ). get_or es i []) m.place ∙ k.is;
      rank = m.rank;
    })

-- A GRANTED SET REPORTS NO GROUND
pub granted_silent : (s : State) (r : Request) → is_success (step s (set r)).0.status ≡ true → Answered s r no_report
granted_silent s r h = ap (λ a. a.report) (report_and_status s r).0 ∙ ap some (go (report_and_status s r).1 (ap is_success (sym (step_status s (set r))) ∙ h))
  where
    go : {n : Status} {p : Report} → Agree s r n p → is_success n ≡ true → p ≡ no_report
    go (corrupted i) e = refl
    go (early i j) e = refl
    go (by_ground g w) e = absurd (false≢true (sym (bars g) ∙ e))
    go (late i j k) e = refl

-- WITHOUT A GROUND EVERY NUMBER IS ZERO
pub no_ground_zeros : (s : State) (r : Request) (p : Report) → Answered s r p → p.ground ≡ None → p ≡ no_report
no_ground_zeros s r p a e = sym (answered_is s r p a) ∙ go (report_and_status s r).1 (ap (λ q. q.ground) (answered_is s r p a) ∙ e)
  where
    go : {n : Status} {q : Report} → Agree s r n q → q.ground ≡ None → q ≡ no_report
    go (corrupted i) h = refl
    go (early i j) h = refl
    go (by_ground g w) h = absurd (true≢false (ap is_some (sym (ground_for (Some g) _ w.entry r.attributes) ∙ h)))
    go (late i j k) h = refl

-- A SET ANSWERS 8 EXACTLY WHERE A LOCK IS REPORTED, or where nothing of step 4 or before speaks against a deletion after exit of a volatile variable
-- with RT; then no ground is reported (`protected_silent`)
module _ (s : State) (r : Request) where
  pub record Protected : Type 0 where
    pub intact : (sound s.nv s.vol and policy_valid s.policy) ≡ true
    pub asked : is_success (request_status s.switches.exited r) ≡ true
    pub silent : ground_by (speaking s.switches.enabled (chosen (entries_of s.policy) r.variable)) (lookup s.nv s.vol) r ≡ None
    pub deletes : Deletion r
    pub exited : Exited s
    pub held : Bytes
    pub stands : RecordOf s r.variable held
    pub rt : RT (attributes_of held)
    pub volatile : Not (NV (attributes_of held))

  -- the same by the tests of step 5
  protected_tests : Protected → ProtectedDeletion s.switches.exited (lookup s.nv s.vol r.variable) r
  protected_tests w =
      let k = (tells_sound s.nv s.vol).0 (and_left _ _ w.intact) in
      record {
        deletes = (tells_deletion r).1 w.deletes;
        seen = not-false _ (off_tells _ (tells_unseen s r.variable k) unseen);
        protects = (tells_protected s r.variable k).1 (w.held, w.exited, w.stands, w.volatile);
      }
    where
      unseen : Absent s r.variable ⊎ ((q : Bytes) × Hidden s r.variable q) → ⊥
      unseen (inl h) = h w.held w.stands
      unseen (inr h) = h.1.without (subst (λ q. RT (attributes_of q)) (one_record s r.variable w.held h.0 w.stands h.1.stands) w.rt)

  tested_protected : (sound s.nv s.vol and policy_valid s.policy) ≡ true → is_success (request_status s.switches.exited r) ≡ true
      → ground_by (speaking s.switches.enabled (chosen (entries_of s.policy) r.variable)) (lookup s.nv s.vol) r ≡ None
      → ProtectedDeletion s.switches.exited (lookup s.nv s.vol r.variable) r → Protected
  tested_protected i j g w =
      let k = (tells_sound s.nv s.vol).0 (and_left _ _ i) in
      let p = (tells_protected s r.variable k).0 w.protects in
      record {
        intact = i;
        asked = j;
        silent = g;
        deletes = (tells_deletion r).0 w.deletes;
        exited = p.1;
        held = p.0;
        stands = p.2;
        rt = has_rt_lem k p.0 p.1 p.2 (has_rt (attributes_of p.0)) refl;
        volatile = p.3;
      }
    where
      has_rt_lem : SoundStores s.nv s.vol → (q : Bytes) → Exited s → RecordOf s r.variable q → (b : Bool) → has_rt (attributes_of q) ≡ b → RT (attributes_of q)
      has_rt_lem k q x f true e = (tells_rt (attributes_of q)).0 e
      has_rt_lem k q x f false e =
          let h = (tells_unseen s r.variable k).1 (inr (q, record { exited = x; stands = f; without = tells_off _ (tells_rt (attributes_of q)) e })) in
          absurd (true≢false (sym w.seen ∙ not-true _ h))

  protected_answers : Protected → (step s (set r)).0.status ≡ WriteProtected
  unfolding decision_by
  protected_answers w =
      step_status s (set r)
      ∙ rw w.intact (ap decision_status (decision_written _ _ s.nv s.vol r w.asked w.silent
      ∙ protected_refused s.switches.exited s.nv s.vol (lookup s.nv s.vol r.variable) r (protected_tests w)))

  eight_by : (g : Ground) → GroundGiven s r g → ground_status g ≡ WriteProtected → GroundGiven s r LockGround
  eight_by SizeGround w e = absurd (let k = ap status_number e in omega (arith, k))
  eight_by AttributeGround w e = absurd (let k = ap status_number e in omega (arith, k))
  eight_by LockGround w e = w

  eight_cases : {n : Status} {p : Report} → Agree s r n p → n ≡ WriteProtected → GroundGiven s r LockGround ⊎ Protected
  eight_cases (corrupted i) e = absurd (let k = ap status_number e in omega (arith, k))
  eight_cases (early i j) e = absurd (early_unlocked s.switches.exited r e)
  eight_cases (by_ground g w) e = inl (eight_by g w e)
  eight_cases (late i j k) e = inr (tested_protected i j k (late_locked s.switches.exited s.nv s.vol _ r e))

  pub lock_exactly : (p : Report) → Answered s r p → ((step s (set r)).0.status ≡ WriteProtected) ↔ ((p.ground ≡ Some LockGround) ⊎ Protected)
  lock_exactly p a = (λ h. to (eight_cases (report_and_status s r).1 (sym (step_status s (set r)) ∙ h)), back)
    where
      told : (p.ground ≡ Some LockGround) ↔ GroundGiven s r LockGround
      told = ground_exactly s r p LockGround a

      to : GroundGiven s r LockGround ⊎ Protected → (p.ground ≡ Some LockGround) ⊎ Protected
      to (inl w) = inl (told.1 w)
      to (inr w) = inr w

      back : (p.ground ≡ Some LockGround) ⊎ Protected → (step s (set r)).0.status ≡ WriteProtected
      back (inl e) = ap (λ b. b.status) (given_answers s r LockGround (told.0 e))
      back (inr w) = protected_answers w

  -- the two exclude each other
  pub protected_silent : (p : Report) → Answered s r p → Protected → p ≡ no_report
  unfolding decision_by
  protected_silent p a w =
      sym (answered_is s r p a)
      ∙ rw w.intact (ap (λ d. decision_report d (entries_of s.policy) (chosen (entries_of s.policy) r.variable) r.attributes)
      (decision_written _ _ s.nv s.vol r w.asked w.silent
      ∙ protected_refused s.switches.exited s.nv s.vol (lookup s.nv s.vol r.variable) r (protected_tests w)))

-- BEFORE EXIT a set answers 8 exactly where a lock is reported
pub lock_before_exit : (s : State) (r : Request) (p : Report) → Answered s r p → s.switches.exited ≡ false
    → ((step s (set r)).0.status ≡ WriteProtected) ↔ (p.ground ≡ Some LockGround)
lock_before_exit s r p a x = ((λ h. to ((lock_exactly s r p a).0 h)), λ e. (lock_exactly s r p a).1 (inl e))
  where
    to : (p.ground ≡ Some LockGround) ⊎ Protected s r → p.ground ≡ Some LockGround
    to (inl e) = e
    to (inr w) = absurd (true≢false (sym w.exited ∙ x))

-- ---- size

-- SIZE REPORTED: the request is no deletion, and the length that is measured is outside
pub size_outside : (s : State) (r : Request) (p : Report) → Answered s r p → p.ground ≡ Some SizeGround
    → (w : GroundGiven s r SizeGround) × (is_deletion r.attributes r.payload ≡ false)
    × ((length_after (lookup s.nv s.vol r.variable) r < min_size w.entry) ⊎ (max_size w.entry < length_after (lookup s.nv s.vol r.variable) r))
size_outside s r p a e =
    let w = (ground_exactly s r p SizeGround a).0 e in
    let q = size_says _ (spoken_of s r w.entry) (ap is_size w.gives) in
    (w, q.0, (tells_size w.entry (length_after (lookup s.nv s.vol r.variable) r)).0 (ap not q.1))

-- ---- attributes

known_below : (a : ℕ) → unsupported_bit a ≡ false → a < 2 ^ 32
unfolding unsupported_bit
known_below a h =
    let e = eqb-true (bit_and a known_attributes) a (not-false _ h) in
    let l = and_le_r a known_attributes in
    let k : known_attributes < 2 ^ 32 = lit< tt in omega arith

small_at : (e : Bytes) → AreBytes e → (i : ℕ) → get_or e i 0 < 256
small_at [] h i = omega arith
small_at (b ∷ e) (more h k) zero = h
small_at (b ∷ e) (more h k) (suc i) = small_at e k i

-- the counts are not both zero; the lowest bit is one of the 32 and offends, and none below it does
pub record Offends (e : Bytes) (a : ℕ) (p : Report) : Type 0 where
  pub some : (p.missing ≡ 0) × (p.prohibited ≡ 0) → ⊥
  pub lowest : p.lowest < 32
  pub is : (is_missing (attributes_must_have e) a p.lowest || is_prohibited (attributes_cant_have e) a p.lowest) ≡ true
  pub first : (i : ℕ) → i < p.lowest → (is_missing (attributes_must_have e) a i || is_prohibited (attributes_cant_have e) a i) ≡ false

module _ (s : State) (r : Request) (w : GroundGiven s r AttributeGround) where
  abbrev must : ℕ
  must = attributes_must_have w.entry

  abbrev cant : ℕ
  cant = attributes_cant_have w.entry

  -- no ground where both counts are zero
  counted : must < 2 ^ 32 → cant < 2 ^ 32 → attributes_allowed w.entry r.attributes ≡ false
      → (missing_bits must r.attributes ≡ 0) × (prohibited_bits cant r.attributes ≡ 0) → ⊥
  unfolding attributes_allowed
  counted m c h z =
      let a = known_below r.attributes (supported s.switches.exited r w.asked) in
      true≢false (sym (and_intro _ _ (eq-eqb _ _ (none_missing must r.attributes m a z.0)) (eq-eqb _ _ (none_prohibited cant r.attributes c a z.1))) ∙ h)

  offending : AreBytes s.policy → attributes_allowed w.entry r.attributes ≡ false → Offends w.entry r.attributes (given_report s r AttributeGround w)
  unfolding report_for fields_of
  offending b h =
      let formed = all_among (entries_of s.policy) (entries_of-formed s.policy) w.entry (chosen_among s r AttributeGround w) in
      let small = small_at w.entry (chosen_in_bytes s.policy r.variable w.entry b w.choice) in
      let f = (well_formed_encoding w.entry small formed).0 in
      let k = counted f.must f.cant h in
      let l = lowest_below must cant r.attributes k in
      record { some = k; lowest = l; is = lowest_offends must cant r.attributes l; first = lowest_first must cant r.attributes }

-- ATTRIBUTES REPORTED: the request is no deletion, and offends in the bits that are told. Of a policy record that is bytes, as every lent one is
pub attributes_offend : (s : State) (r : Request) (p : Report) → AreBytes s.policy → Answered s r p → p.ground ≡ Some AttributeGround
    → (w : GroundGiven s r AttributeGround) × (is_deletion r.attributes r.payload ≡ false) × Offends w.entry r.attributes p
attributes_offend s r p b a e =
    let w = (ground_exactly s r p AttributeGround a).0 e in
    let q = attribute_says _ (spoken_of s r w.entry) (ap is_attribute w.gives) in
    (w, q.0, subst⁻¹ (Offends w.entry r.attributes) (given_report_lem s r p AttributeGround a w) (offending s r w b q.1))
