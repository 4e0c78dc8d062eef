-- What a set answers and leaves, by what is decided of it. Assumes nothing.
use mathlib.Core.Path.{◌≡◌, refl, sym, ap, ap₂, ◌∙◌}
use mathlib.Core.Bool.{Bool, true, false, cond}
use mathlib.Core.List.{List}
use Rattle.slices.specs.Test.{◌and◌}
use Rattle.slices.proofs.TestLaws.{and_no}
use Rattle.slices.specs.Bytes.{Bytes}
use Rattle.policy.specs.Policy.{entries_of, policy_valid}
use Rattle.policy.specs.Choice.{chosen}
use Rattle.stores.specs.Pair.{sound, lookup}
use Rattle.status.specs.declared.Status.{Status}
use Rattle.status.specs.declared.Status.TheVariants.{VolumeCorrupted}
use Rattle.status.specs.Status.{is_success}
use Rattle.switches.specs.declared.Switches.{Switches}
use Rattle.rules.specs.Decision.{Decision}
use Rattle.rules.specs.Decision.{Refuse, Block, Delete, Keep, Store}
use Rattle.rules.specs.Set.{Request, decision, decision_status, decision_store}
use Rattle.rules.specs.Report.{no_report, decision_report}
use Rattle.rules.specs.Engine.{State, state_of, speaking, decision_by, decision_in, set_decision, with_report, set_report, after, step}
use Rattle.rules.specs.Engine.Call.{set}
use Rattle.rules.proofs.EngineLaws.{answer_reported}
use Rattle.stores.specs.declared.sound.Stores.{Stores}
use Rattle.set.specs.declared.request.Request as asked_of
use Rattle.set.specs.declared.located.Located.{Located}
use Rattle.set.specs.Asked.{asked}
use Rattle.set.specs.declared.Decided.{Decided}
use Rattle.set.specs.Decided.{decided_by}
use Rattle.engine.specs.declared.SetAnswer.{SetAnswer}
use Rattle.engine.proofs.Steps.{step_is}

-- ---- 10
module _ {a : SetAnswer} (nv vol p : Bytes) (w : Switches) (r : Request) (k : a ≡ record { status = VolumeCorrupted; report = no_report }) where
  set_corrupt : (sound nv vol and policy_valid p) ≡ false → step (state_of nv vol p w) (set r) ≡ (with_report a.status a.report, state_of nv vol p w)
  set_corrupt h =
      let e : set_decision (state_of nv vol p w) r ≡ Refuse VolumeCorrupted = ap (λ b. cond b (decision_in (state_of nv vol p w) r) (Refuse VolumeCorrupted)) h in
      step_is (state_of nv vol p w) (set r) VolumeCorrupted (ap decision_status e)
      ∙ ap (λ d. (with_report VolumeCorrupted (decision_report d (entries_of p) (chosen (entries_of p) r.variable) r.attributes), state_of nv vol p w)) e
      ∙ ap (λ x. (with_report x.status x.report, state_of nv vol p w)) (sym k)

  pub set_unsound_lem : sound nv vol ≡ false → step (state_of nv vol p w) (set r) ≡ (with_report a.status a.report, state_of nv vol p w)
  unfolding ◌and◌
  set_unsound_lem h = set_corrupt (rw h)

  pub set_invalid : policy_valid p ≡ false → step (state_of nv vol p w) (set r) ≡ (with_report a.status a.report, state_of nv vol p w)
  set_invalid h = set_corrupt (rw h (and_no (sound nv vol)))

-- ---- over sound stores and a valid record

-- what is located of the stores s and of the request q is so of what was lent
pub lent_as : {nv vol : Bytes} {s : Stores} {q : asked_of.Request} (l : Located) → (l.request ≡ q) × (l.stores ≡ s) → s.nv.now ≡ nv → s.vol.now ≡ vol
    → ◌≡◌ {A = Bytes × Bytes × Request} (l.stores.nv.now, l.stores.vol.now, asked l.request) (nv, vol, asked q)
lent_as {q = q} l e p r = ap₂ (λ x y. (x.nv.now, x.vol.now, asked y)) e.1 e.0 ∙ ap₂ (λ x y. (x, y, asked q)) p r

-- what is decided is a decision of the rules
pub decides : {d : Decided} (es : List Bytes) (w : Switches) (nv vol : Bytes) (r : Request) → d ≡ decided_by es w nv vol r
    → d.decision ≡ decision w.exited (speaking w.enabled (chosen es r.variable)) nv vol r
unfolding decision_by
decides es w nv vol r e = ap (λ x. x.decision) e

module _ (nv vol p : Bytes) (w : Switches) (r : Request) where
  abbrev before : State
  before = state_of nv vol p w

  -- what a decision leaves; one that refuses leaves all as it was
  abbrev left : Decision → State
  left d = state_of (decision_store d true nv (lookup nv vol r.variable) r) (decision_store d false vol (lookup nv vol r.variable) r) p w

  leaves : (d : Decision) → cond (is_success (decision_status d)) (left d) before ≡ left d
  unfolding decision_store
  leaves (Refuse n) = go (is_success n)
    where
      go : (b : Bool) → cond b before before ≡ before
      go true = refl
      go false = refl
  leaves (Block g) = go (is_success (decision_status (Block g)))
    where
      go : (b : Bool) → cond b before before ≡ before
      go true = refl
      go false = refl
  leaves Delete = refl
  leaves Keep = refl
  leaves Store = refl

  pub set_done_lem : {d : Decided} {n : Status} {nv' vol' : Bytes} → sound nv vol ≡ true → policy_valid p ≡ true
      → d ≡ decided_by (entries_of p) w nv vol r → n ≡ decision_status d.decision
      → nv' ≡ decision_store d.decision true nv (lookup nv vol r.variable) r → vol' ≡ decision_store d.decision false vol (lookup nv vol r.variable) r
      → step before (set r) ≡ (with_report n d.report, state_of nv' vol' p w)
  unfolding decision_by ◌and◌
  set_done_lem {d} {n} {nv'} {vol'} s v e h k l =
      step_is before (set r) n (ap decision_status decision_is ∙ sym h)
      ∙ ap₂ (λ a t. (a, t)) (answer_reported before r n ∙ ap (with_report n) report_is) state_is
    where
      decision_is : set_decision before r ≡ d.decision
      decision_is = ap₂ (λ a b. cond (a and b) (decision_in before r) (Refuse VolumeCorrupted)) s v ∙ ap (λ x. x.decision) (sym e)

      report_is : set_report before r ≡ d.report
      report_is =
          ap (λ x. decision_report x (entries_of p) (chosen (entries_of p) r.variable) r.attributes) (decision_is ∙ ap (λ x. x.decision) e)
          ∙ ap (λ x. x.report) (sym e)

      state_is : after before (set r) n ≡ state_of nv' vol' p w
      state_is =
          ap₂ (λ (b : Bool) (x : Decision). cond b (left x) before) (ap is_success h) (ap (λ x. x.decision) (sym e))
          ∙ leaves d.decision ∙ ap₂ (λ x y. state_of x y p w) (sym k) (sym l)
