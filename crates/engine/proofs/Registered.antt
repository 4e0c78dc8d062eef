-- The answers of register, dump, lock, disable and exit, each by what its code found. Assumes nothing.
use Prim.Native.Nat.{ℕ}
use mathlib.Core.Path.{◌≡◌, refl, sym, ap, ap₂, ◌∙◌}
use mathlib.Core.List.{[], ◌∷◌, ◌++◌}
use mathlib.Core.Bool.{Bool, true, false, cond}
use Rattle.slices.specs.Bytes.{Bytes, overwrite}
use Rattle.slices.specs.Chunks.{flat}
use Rattle.policy.specs.Policy.{entries_of, sizes_sum, pack_policy, policy_valid}
use Rattle.policy.proofs.PolicyLaws.{sizes_sum-flat}
use Rattle.status.specs.declared.Status.{Status}
use Rattle.status.specs.declared.Status.TheVariants.{Success, Unsupported, BufferTooSmall, VolumeCorrupted}
use Rattle.status.specs.Status.{is_success}
use Rattle.switches.specs.declared.Switches.{Switches}
use Rattle.switches.specs.declared.SwitchAnswer.{SwitchAnswer}
use Rattle.switches.specs.Switches.{with_locked, with_disabled, with_exited, unless_exited, moved_by, lock_answer, disable_answer, exit_answer}
use Rattle.rules.specs.Engine.{State, Call, state_of, Answer, only_status, register_status, dump_status, status, given, refusal, step, effect}
use Rattle.rules.specs.Engine.Call.{register, dump, lock, disable, exit}
use Rattle.rules.proofs.EngineLaws.{answer_alone}
use Rattle.engine.specs.Answers.{dump_answer}
use Rattle.engine.proofs.Steps.{step_is}
use Rattle.engine.proofs.Checked.{lent_invalid, lent_valid, lent_exited, lent_before}

module _ (p : Bytes) (w : Switches) (e : Bytes) where
  abbrev registers : Status
  registers = register_status w.locked (entries_of p) e

  pub register_invalid : policy_valid p ≡ false → (nv vol : Bytes) → step (state_of nv vol p w) (register e) ≡ (only_status VolumeCorrupted, state_of nv vol p w)
  register_invalid h nv vol = step_is (state_of nv vol p w) (register e) VolumeCorrupted (lent_invalid p (unless_exited w registers) h)

  module _ (h : policy_valid p ≡ true) where
    pub register_exited_lem : w.exited ≡ true → (nv vol : Bytes) → step (state_of nv vol p w) (register e) ≡ (only_status Unsupported, state_of nv vol p w)
    register_exited_lem x nv vol =
        step_is (state_of nv vol p w) (register e) Unsupported (lent_valid p (unless_exited w registers) Unsupported h (lent_exited w registers x))

    module _ (x : w.exited ≡ false) where
      pub register_refused : (n : Status) → is_success n ≡ false → registers ≡ n → (nv vol : Bytes) → step (state_of nv vol p w) (register e) ≡ (only_status n, state_of nv vol p w)
      register_refused n r k nv vol =
          step_is (state_of nv vol p w) (register e) n (lent_valid p (unless_exited w registers) n h (lent_before w registers n x k))
          ∙ ap₂ (λ (a : Answer) b. (a, cond b (effect (state_of nv vol p w) (register e)) (state_of nv vol p w))) (answer_alone (state_of nv vol p w) (register e) n refl refl) r

      pub register_granted : {q : Bytes} → registers ≡ Success → q ≡ pack_policy (entries_of p ++ (e ∷ []))
          → (nv vol : Bytes) → step (state_of nv vol p w) (register e) ≡ (only_status Success, state_of nv vol q w)
      register_granted k z nv vol =
          step_is (state_of nv vol p w) (register e) Success (lent_valid p (unless_exited w registers) Success h (lent_before w registers Success x k))
          ∙ ap (λ l. (only_status Success, state_of nv vol l w)) (sym z)

module _ (p : Bytes) (w : Switches) (b : Bytes) where
  abbrev dumps : Status
  dumps = dump_status (entries_of p) b

  pub dump_invalid : policy_valid p ≡ false
      → (nv vol : Bytes) → step (state_of nv vol p w) (dump b) ≡ (dump_answer (record { status = VolumeCorrupted; length = 0 }) b, state_of nv vol p w)
  dump_invalid h nv vol = step_is (state_of nv vol p w) (dump b) VolumeCorrupted (lent_invalid p (unless_exited w dumps) h)

  module _ (h : policy_valid p ≡ true) where
    pub dump_exited_lem : w.exited ≡ true
        → (nv vol : Bytes) → step (state_of nv vol p w) (dump b) ≡ (dump_answer (record { status = Unsupported; length = 0 }) b, state_of nv vol p w)
    dump_exited_lem x nv vol = step_is (state_of nv vol p w) (dump b) Unsupported (lent_valid p (unless_exited w dumps) Unsupported h (lent_exited w dumps x))

    module _ (x : w.exited ≡ false) {n : ℕ} (k : n ≡ sizes_sum p) where
      pub dump_needs : dumps ≡ BufferTooSmall
          → (nv vol : Bytes) → step (state_of nv vol p w) (dump b) ≡ (dump_answer (record { status = BufferTooSmall; length = n }) b, state_of nv vol p w)
      dump_needs d nv vol =
          step_is (state_of nv vol p w) (dump b) BufferTooSmall (lent_valid p (unless_exited w dumps) BufferTooSmall h (lent_before w dumps BufferTooSmall x d))
          ∙ ap (λ m. (dump_answer (record { status = BufferTooSmall; length = m }) b, state_of nv vol p w)) (sym (k ∙ sizes_sum-flat p))

      pub dump_granted_lem : {q : Bytes} → dumps ≡ Success → q ≡ overwrite b 0 (flat (entries_of p))
          → (nv vol : Bytes) → step (state_of nv vol p w) (dump b) ≡ (dump_answer (record { status = Success; length = n }) q, state_of nv vol p w)
      dump_granted_lem d z nv vol =
          step_is (state_of nv vol p w) (dump b) Success (lent_valid p (unless_exited w dumps) Success h (lent_before w dumps Success x d))
          ∙ ap₂ (λ m l. (dump_answer (record { status = Success; length = m }) l, state_of nv vol p w)) (sym (k ∙ sizes_sum-flat p)) (sym z)

-- ---- a call on the switches alone, that leaves `new` beside 0
module _ (w new : Switches) (nv vol policy : Bytes) where
  abbrev before : State
  before = state_of nv vol policy w

  leaves : (b : Bool) → cond b (state_of nv vol policy new) before ≡ state_of nv vol policy (cond b new w)
  leaves true = refl
  leaves false = refl

  moves : {r : SwitchAnswer} (c : Call) → given before c ≡ only_status Success → ((n : Status) → refusal before c n ≡ only_status n)
      → effect before c ≡ state_of nv vol policy new → r ≡ moved_by (status before c) new w
      → step before c ≡ (only_status r.status, state_of nv vol policy r.switches)
  moves c g n e k =
      step_is before c (status before c) refl
      ∙ ap₂ (λ (a : Answer) (s : State). (a, s)) (answer_alone before c (status before c) g (n (status before c)))
      (ap (λ (s : State). cond (is_success (status before c)) s before) e ∙ leaves (is_success (status before c)))
      ∙ ap (λ a. (only_status a.status, state_of nv vol policy a.switches)) (sym k)

pub lock_step_lem : {r : SwitchAnswer} (w : Switches) → r ≡ lock_answer w → (nv vol policy : Bytes)
    → step (state_of nv vol policy w) lock ≡ (only_status r.status, state_of nv vol policy r.switches)
lock_step_lem w e nv vol policy = moves w (with_locked w) nv vol policy lock refl (λ n. refl) refl e

pub disable_step : {r : SwitchAnswer} (w : Switches) → r ≡ disable_answer w → (nv vol policy : Bytes)
    → step (state_of nv vol policy w) disable ≡ (only_status r.status, state_of nv vol policy r.switches)
disable_step w e nv vol policy = moves w (with_disabled w) nv vol policy disable refl (λ n. refl) refl e

pub exit_step : {r : SwitchAnswer} (w : Switches) → r ≡ exit_answer w → (nv vol policy : Bytes)
    → step (state_of nv vol policy w) exit ≡ (only_status r.status, state_of nv vol policy r.switches)
exit_step w e nv vol policy = moves w (with_exited w) nv vol policy exit refl (λ n. refl) refl e
