-- Lock, disable and exit on lent bytes: what the call by value answers, and that what it answers and leaves is what the contract says. Of any call on the
-- switches alone: `f` is what a step with it does, and `new` writes the byte that the call moves.
--     does         what `by_f` answers, and the bytes that it leaves, are as `Does` says
--     leaves       the same of what the function answers and leaves that is handed the engine's call
-- Assumes nothing.
use Prim.Native.Nat.{ℕ}
use mathlib.Core.Path.{◌≡◌, sym, ap, ap₂, ◌∙◌, subst⁻¹}
use mathlib.Core.List.{[]}
use mathlib.Core.Bool.{cond}
use lib.Dec.{eqb}
use Rattle.slices.specs.Bytes.{Bytes}
use Rattle.switches.specs.declared.Switches.{Switches}
use Rattle.switches.specs.declared.SwitchAnswer.{SwitchAnswer}
use Rattle.switches.specs.declared.SwitchBytes.{SwitchBytes}
use Rattle.switches.specs.declared.BytesAnswer.{BytesAnswer}
use Rattle.status.specs.Status.{status_number, is_success}
use Rattle.switches.specs.SwitchBytes.{switches_of, bytes_answer, left_by}
use Rattle.switches.proofs.SwitchBytesLaws.{left_at_zero, left_granted}
use Rattle.rules.specs.Engine.{Call, state_of, only_status, step}
use Rattle.varpolicy.specs.Exports.{numbered, status_alone}

-- what a function has done that is lent the bytes b, answers n and leaves the bytes u
abbrev pub Does : Call → (SwitchBytes → SwitchBytes) → SwitchBytes → ℕ → SwitchBytes → Type 0
Does call new b n u =
    ((nv vol policy : Bytes) → numbered (step (state_of nv vol policy (switches_of b)) call) ≡ (status_alone n, state_of nv vol policy (switches_of u)))
    × (u ≡ cond (eqb n 0) (new b) b)

module _ (call : Call) (f : Switches → SwitchAnswer) (new : SwitchBytes → SwitchBytes)
    (known : (w : Switches) (nv vol policy : Bytes) → step (state_of nv vol policy w) call ≡ (only_status (f w).status, state_of nv vol policy (f w).switches)) where
  abbrev by_f : SwitchBytes → BytesAnswer
  by_f b = bytes_answer (f (switches_of b)).status (new b)

  pub does : ((b : SwitchBytes) → switches_of (left_by (by_f b) b) ≡ (f (switches_of b)).switches)
      → (b : SwitchBytes) → Does call new b (by_f b).status (left_by (by_f b) b)
  does left b = (
    λ nv vol policy. ap numbered (known (switches_of b) nv vol policy) ∙ ap (λ s. (status_alone (by_f b).status, state_of nv vol policy s)) (sym (left b)),
    left_at_zero (f (switches_of b)).status (new b) b,
  )

  -- the same of any answer a of the call, and of what is written by it
  pub leaves : ((b : SwitchBytes) → switches_of (left_by (by_f b) b) ≡ (f (switches_of b)).switches)
      → (b : SwitchBytes) {n : ℕ} {u w : SwitchBytes} (a : SwitchAnswer)
      → ((nv vol policy : Bytes) → step (state_of nv vol policy (switches_of b)) call ≡ (only_status a.status, state_of nv vol policy a.switches))
      → w ≡ new b → n ≡ status_number a.status → u ≡ cond (is_success a.status) w b → Does call new b n u
  leaves left b {n} {u} {w} a e k m h =
      let same : a.status ≡ (f (switches_of b)).status = ap (λ x. x.0.status) (sym (e [] [] []) ∙ known (switches_of b) [] [] []) in
      let number : n ≡ (by_f b).status = m ∙ ap status_number same in
      let written : u ≡ left_by (by_f b) b = h ∙ ap₂ (λ s x. cond (is_success s) x b) same k ∙ sym (left_granted (is_success (f (switches_of b)).status) (new b) b) in
      subst⁻¹ (λ (o : ℕ). Does call new b o u) number (subst⁻¹ (λ (v : SwitchBytes). Does call new b (by_f b).status v) written (does left b))
