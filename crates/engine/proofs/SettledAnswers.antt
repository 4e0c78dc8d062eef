-- What the question whether a variable is settled gets, by what the code found. Assumes nothing.
use mathlib.Core.Path.{◌≡◌, sym, ap, subst, ◌∙◌}
use mathlib.Core.List.{[]}
use mathlib.Core.Bool.{Bool, true, false, cond}
use mathlib.Core.Option.{none}
use Rattle.slices.specs.Test.{◌and◌}
use Rattle.slices.proofs.TestLaws.{and_no}
use Rattle.slices.specs.Bytes.{Bytes}
use Rattle.names.specs.Name.{Variable, named}
use Rattle.policy.specs.Policy.{policy_valid}
use Rattle.stores.specs.Pair.{sound}
use Rattle.status.specs.declared.Status.{Status}
use Rattle.status.specs.declared.Status.TheVariants.{Success, InvalidParameter, VolumeCorrupted}
use Rattle.switches.specs.declared.Switches.{Switches}
use Rattle.rules.specs.Engine.{State, state_of, settled_status, is_settled, answer_of, status, step}
use Rattle.rules.specs.Engine.Call.{settled}
use Rattle.engine.specs.declared.SettledAnswer.{SettledAnswer}
use Rattle.engine.specs.Answers.{settled_answer, not_settled}
use Rattle.engine.proofs.Steps.{step_is}

module _ (nv vol p : Bytes) (v : Variable) where
  abbrev lent : Switches → State
  lent w = state_of nv vol p w

  corrupt : {a : SettledAnswer} → a ≡ not_settled VolumeCorrupted → (sound nv vol and policy_valid p) ≡ false → (w : Switches) → step (lent w) (settled v) ≡ (settled_answer a, lent w)
  corrupt k h w =
      step_is (lent w) (settled v) VolumeCorrupted (ap (λ b. cond b (settled_status v) VolumeCorrupted) h) ∙ ap (λ x. (settled_answer x, lent w)) (sym k)

  pub settled_unsound_lem : {a : SettledAnswer} → a ≡ not_settled VolumeCorrupted → sound nv vol ≡ false → (w : Switches) → step (lent w) (settled v) ≡ (settled_answer a, lent w)
  unfolding ◌and◌
  settled_unsound_lem k h = corrupt k (rw h)

  pub settled_invalid : {a : SettledAnswer} → a ≡ not_settled VolumeCorrupted → policy_valid p ≡ false → (w : Switches) → step (lent w) (settled v) ≡ (settled_answer a, lent w)
  settled_invalid k h = corrupt k (rw h (and_no (sound nv vol)))

  module _ (s : sound nv vol ≡ true) (q : policy_valid p ≡ true) where
    -- a status over sound stores and a valid record
    tested : (n : Status) → settled_status v ≡ n → (w : Switches) → status (lent w) (settled v) ≡ n
    unfolding ◌and◌
    tested n e w = rw (s, q) e

    pub settled_unnamed : {a : SettledAnswer} → a ≡ not_settled InvalidParameter → named v ≡ false → (w : Switches) → step (lent w) (settled v) ≡ (settled_answer a, lent w)
    unfolding settled_status
    settled_unnamed k h w = step_is (lent w) (settled v) InvalidParameter (tested InvalidParameter (rw h) w) ∙ ap (λ x. (settled_answer x, lent w)) (sym k)

    pub settled_told : {y : Bool} → named v ≡ true → ((w : Switches) → y ≡ is_settled (lent w) v)
        → (w : Switches) → step (lent w) (settled v) ≡ (settled_answer (record { status = Success; settled = y }), lent w)
    unfolding settled_status
    settled_told h e w = step_is (lent w) (settled v) Success (tested Success (rw h) w) ∙ ap (λ b. (answer_of Success (cond b 1 0) [] none, lent w)) (sym (e w))

-- what is answered over the stores a and b that were checked is answered over those that are lent
pub settled_lent : {a b nv vol p : Bytes} (v : Variable) (r : SettledAnswer) → a ≡ nv → b ≡ vol
    → ((w : Switches) → step (state_of a b p w) (settled v) ≡ (settled_answer r, state_of a b p w))
    → (w : Switches) → step (state_of nv vol p w) (settled v) ≡ (settled_answer r, state_of nv vol p w)
settled_lent {a} {b} {nv} {vol} {p} v r e k h w =
    subst (λ t. step (state_of nv t p w) (settled v) ≡ (settled_answer r, state_of nv t p w)) k
    (subst (λ s. step (state_of s b p w) (settled v) ≡ (settled_answer r, state_of s b p w)) e (h w))
