-- The answers of power-on and restart, by what the code found. Assumes nothing.
use Prim.Native.Nat.{ℕ, ◌+◌, ◌≤◌, ◌<◌}
use mathlib.Core.Path.{◌≡◌, refl, sym, ap, ap₂, ◌∙◌}
use mathlib.Core.List.{append-nil}
use mathlib.Core.Bool.{Bool, true, false, cond}
use native.Mathlib.Omega.{arith}
use lib.ListN.{length, replicate, length-replicate, drop_of_length-le}
use lib.Dec.{eqb, leb}
use borrow.Author.Tests.{eq-eqb, ne_eqb, le-leb, lt-leb}
use Rattle.limits.specs.Limits.{policy_bytes, max_store}
use Rattle.slices.specs.Test.{◌and◌}
use Rattle.slices.proofs.TestLaws.{and_no}
use Rattle.slices.specs.Bytes.{Bytes, overwrite}
use Rattle.policy.specs.Policy.{empty_policy}
use Rattle.stores.specs.Pair.{sound, sound_alone}
use Rattle.status.specs.declared.Status.TheVariants.{Success, VolumeCorrupted}
use Rattle.status.specs.Status.{is_success}
use Rattle.switches.specs.declared.Switches.{Switches}
use Rattle.switches.specs.declared.SwitchAnswer.{SwitchAnswer}
use Rattle.switches.specs.Switches.{fresh_switches, refused_switches}
use Rattle.rules.specs.Engine.{state_of, hand_back, erased, power_on_status, restart_status, step}
use Rattle.rules.specs.Engine.Call.{power_on, restart}
use Rattle.engine.proofs.Steps.{step_is}

-- ---- the statuses
module _ (nv vol policy : Bytes) where
  pub power_unsound : sound_alone nv ≡ false → power_on_status nv vol policy ≡ VolumeCorrupted
  unfolding power_on_status ◌and◌
  power_unsound h = simp h

  pub power_long : max_store < length vol → power_on_status nv vol policy ≡ VolumeCorrupted
  unfolding power_on_status ◌and◌
  power_long h = go (sound_alone nv) (lt-leb (length vol) max_store h)
    where
      go : (b : Bool) → leb (length vol) max_store ≡ false → cond (b and leb (length vol) max_store and eqb (length policy) policy_bytes) Success VolumeCorrupted ≡ VolumeCorrupted
      go true k = rw k
      go false k = refl

  pub power_record : (length policy ≡ policy_bytes → ⊥) → power_on_status nv vol policy ≡ VolumeCorrupted
  unfolding power_on_status
  power_record h = simp (ne_eqb (length policy) policy_bytes h, and_no)

  pub power_done : sound_alone nv ≡ true → length vol ≤ max_store → length policy ≡ policy_bytes → power_on_status nv vol policy ≡ Success
  unfolding power_on_status ◌and◌
  power_done h k l = simp (h, le-leb (length vol) max_store k, eq-eqb (length policy) policy_bytes l)

  pub restart_unsound_lem : sound nv vol ≡ false → restart_status nv vol policy ≡ VolumeCorrupted
  unfolding restart_status ◌and◌
  restart_unsound_lem h = simp h

  pub restart_record : (length policy ≡ policy_bytes → ⊥) → restart_status nv vol policy ≡ VolumeCorrupted
  unfolding restart_status
  restart_record h = simp (ne_eqb (length policy) policy_bytes h, and_no)

  pub restart_done_lem : sound nv vol ≡ true → length policy ≡ policy_bytes → restart_status nv vol policy ≡ Success
  unfolding restart_status ◌and◌
  restart_done_lem h l = simp (h, eq-eqb (length policy) policy_bytes l)

-- ---- the answers
abbrev refused_answer : SwitchAnswer
refused_answer = record { status = VolumeCorrupted; switches = refused_switches }

abbrev fresh_answer : Bool → SwitchAnswer
fresh_answer allowed = record { status = Success; switches = fresh_switches allowed }

module _ {r : SwitchAnswer} (nv vol policy : Bytes) (allowed : Bool) where
  pub power_refused : power_on_status nv vol policy ≡ VolumeCorrupted → r ≡ refused_answer → (w : Switches)
      → step (state_of nv vol policy w) (power_on allowed) ≡ (hand_back r.status r.switches, state_of nv vol policy (cond (is_success r.status) r.switches w))
  power_refused h e w =
      step_is (state_of nv vol policy w) (power_on allowed) VolumeCorrupted h
      ∙ ap (λ a. (hand_back a.status a.switches, state_of nv vol policy (cond (is_success a.status) a.switches w))) (sym e)

  pub power_granted : {vol' policy' : Bytes} → power_on_status nv vol policy ≡ Success → r ≡ fresh_answer allowed → vol' ≡ erased vol → policy' ≡ empty_policy → (w : Switches)
      → step (state_of nv vol policy w) (power_on allowed) ≡ (hand_back r.status r.switches, state_of nv vol' policy' (cond (is_success r.status) r.switches w))
  power_granted {vol'} {policy'} h e k l w =
      step_is (state_of nv vol policy w) (power_on allowed) Success h
      ∙ ap₂ (λ x y. (hand_back Success (fresh_switches allowed), state_of nv x y (fresh_switches allowed))) (sym k) (sym l)
      ∙ ap (λ a. (hand_back a.status a.switches, state_of nv vol' policy' (cond (is_success a.status) a.switches w))) (sym e)

  pub restart_refused_lem : restart_status nv vol policy ≡ VolumeCorrupted → r ≡ refused_answer → (w : Switches)
      → step (state_of nv vol policy w) (restart allowed) ≡ (hand_back r.status r.switches, state_of nv vol policy (cond (is_success r.status) r.switches w))
  restart_refused_lem h e w =
      step_is (state_of nv vol policy w) (restart allowed) VolumeCorrupted h
      ∙ ap (λ a. (hand_back a.status a.switches, state_of nv vol policy (cond (is_success a.status) a.switches w))) (sym e)

  pub restart_granted : {policy' : Bytes} → restart_status nv vol policy ≡ Success → r ≡ fresh_answer allowed → policy' ≡ empty_policy → (w : Switches)
      → step (state_of nv vol policy w) (restart allowed) ≡ (hand_back r.status r.switches, state_of nv vol policy' (cond (is_success r.status) r.switches w))
  restart_granted {policy'} h e l w =
      step_is (state_of nv vol policy w) (restart allowed) Success h
      ∙ ap (λ y. (hand_back Success (fresh_switches allowed), state_of nv vol y (fresh_switches allowed))) (sym l)
      ∙ ap (λ a. (hand_back a.status a.switches, state_of nv vol policy' (cond (is_success a.status) a.switches w))) (sym e)

-- a store filled whole
pub filled : {s : Bytes} (l : Bytes) → s ≡ overwrite l 0 (replicate (length l) 255) → s ≡ erased l
unfolding overwrite
filled l e =
    let k : length l ≤ 0 + length {A = ℕ} (replicate (length l) 255) = omega (arith, length-replicate {A = ℕ} (length l) 255) in
    e ∙ rw (drop_of_length-le l k) (append-nil (replicate (length l) 255))
