-- What each return of the two functions says, by what the code found. Assumes nothing.
use Prim.Native.Nat.{ℕ, zero, suc, ◌+◌, ◌-◌, ◌≤◌}
use mathlib.Core.Path.{◌≡◌, refl, sym, ap, ap₂, ◌∙◌}
use mathlib.Core.Bool.{Bool, true, false, cond}
use mathlib.Core.Option.{none, some}
use native.Mathlib.Omega.{arith}
use lib.ListN.{length}
use lib.Dec.{eqb, leb}
use borrow.Author.Tests.{eqb-false, lt-leb}
use Rattle.limits.specs.Limits.{namespace_bytes}
use Rattle.slices.specs.Test.{◌and◌}
use Rattle.slices.proofs.TestLaws.{and_no, and_yes}
use Rattle.slices.specs.Bytes.{Bytes, part}
use Rattle.names.specs.Name.{Variable, variable}
use Rattle.entry.specs.Entry.{lock_of, lock_policy_type, trigger_of, well_formed}
use Rattle.entry.proofs.EntryLaws.{sized, trigger_least}
use Rattle.entry.specs.declared.Trigger.{Trigger}
use Rattle.entry.specs.declared.LockRule.{LockRule}
use Rattle.entry.specs.declared.LockRule.TheVariants.{NoLock, LockNow, LockOnCreate, LockOnVarState}
use Rattle.rules.specs.Set.{Lookup, exists, holds_value, rule_locks}
use Rattle.rules.specs.Settled.{Choice, rests_on, lock_holds_by, lock_holds_in, settled_in, settled_asks}
use Rattle.rules.proofs.SettledLaws.{settled_below, lock_is}
use Rattle.set.proofs.LockRules.{trigger_in, rule_trigger, rule_locks_lem, trigger_locks}

-- ---- the chosen entry

module _ (n : ℕ) (choice : Choice) (found : Lookup) (v : Variable) where
  pub settled_none : choice v ≡ none → false ≡ settled_in n choice found v
  settled_none c = sym (settled_asks n choice found v ∙ rw c)

  pub settled_some : (e : Bytes) → choice v ≡ some e → {x : Bool} → x ≡ lock_holds_in n choice found e v → x ≡ settled_in n choice found v
  settled_some e c h = h ∙ sym (settled_asks n choice found v ∙ rw c)

-- ---- its trigger

abbrev trigger_at : Bytes → Trigger → Variable
trigger_at e t = variable (part t.namespace (t.namespace + 16) e) (part t.name t.name_end e)

trigger_is : (e : Bytes) (t : Trigger) → t ≡ trigger_in e → trigger_at e t ≡ trigger_of e
unfolding trigger_of
trigger_is e t k = ap (trigger_at e) k

-- an entry with a trigger is of type 3
type_over : (e : Bytes) (t : Trigger) → LockOnVarState t ≡ lock_of e → leb (lock_policy_type e) 2 ≡ false
unfolding lock_of
type_over e t q = go (eqb (lock_policy_type e) 0) (eqb (lock_policy_type e) 1) (eqb (lock_policy_type e) 2) refl refl refl q
  where
    go : (a b c : Bool) → eqb (lock_policy_type e) 0 ≡ a → eqb (lock_policy_type e) 1 ≡ b → eqb (lock_policy_type e) 2 ≡ c
        → LockOnVarState t ≡ cond a NoLock (cond b LockNow (cond c LockOnCreate (LockOnVarState (trigger_in e)))) → leb (lock_policy_type e) 2 ≡ false
    go true b c h i j k = let z : ◌≡◌ {A = ℕ} 0 1 = cc in absurd (omega arith)
    go false true c h i j k = let z : ◌≡◌ {A = ℕ} 0 1 = cc in absurd (omega arith)
    go false false true h i j k = let z : ◌≡◌ {A = ℕ} 0 1 = cc in absurd (omega arith)
    go false false false h i j k =
        let x = eqb-false (lock_policy_type e) 0 h in
        let y = eqb-false (lock_policy_type e) 1 i in
        let w = eqb-false (lock_policy_type e) 2 j in
        lt-leb (lock_policy_type e) 2 (omega arith)

-- and its trigger's namespace lies within it
pub namespace_within : (e : Bytes) (t : Trigger) → well_formed e ≡ true → LockOnVarState t ≡ lock_of e → t.namespace + namespace_bytes ≤ length e
namespace_within e t w q =
    let k = ap (λ x. x.namespace) (rule_trigger e t q) in
    let l = trigger_least e w (type_over e t q) in
    omega (arith, k, l, (sized e w).offset_most)

-- ---- the lock, by the rule that the entry was found to have

module _ (n : ℕ) (choice : Choice) (found : Lookup) (e : Bytes) (v : Variable) {rule : LockRule} (q : rule ≡ lock_of e) where
  -- the lock holds as its rule says
  by_rule : (r : LockRule) → rule ≡ r → (rule_locks r e found v and rests_on r (settled_below n choice found (trigger_of e))) ≡ lock_holds_in n choice found e v
  unfolding lock_holds_by
  by_rule r k =
      ap₂ (λ x y. x and rests_on y (settled_below n choice found (trigger_of e))) (rule_locks_lem e found v q r k) (sym k ∙ q)
      ∙ sym (lock_is n choice found e v)

  pub lock_none : rule ≡ NoLock → false ≡ lock_holds_in n choice found e v
  unfolding ◌and◌
  lock_none k = by_rule NoLock k

  pub lock_now : rule ≡ LockNow → true ≡ lock_holds_in n choice found e v
  unfolding ◌and◌
  lock_now k = by_rule LockNow k

  pub lock_created : rule ≡ LockOnCreate → {x : Bool} → x ≡ exists (found v) → x ≡ lock_holds_in n choice found e v
  lock_created k h = h ∙ sym (and_yes (exists (found v))) ∙ by_rule LockOnCreate k

  module _ (t : Trigger) (k : rule ≡ LockOnVarState t) where
    -- x tells whether the trigger holds the Value
    by_trigger : {x : Bool} → x ≡ holds_value (found (trigger_at e t)) t.value → (x and settled_below n choice found (trigger_at e t)) ≡ lock_holds_in n choice found e v
    unfolding lock_holds_by
    by_trigger h =
        ap₂ ◌and◌ (trigger_locks e found v q t k h)
        (ap (settled_below n choice found) (trigger_is e t (rule_trigger e t (sym k ∙ q))) ∙ ap (λ y. rests_on y (settled_below n choice found (trigger_of e))) (sym k ∙ q))
        ∙ sym (lock_is n choice found e v)

    pub lock_end : n ≡ 0 → false ≡ lock_holds_in n choice found e v
    lock_end z = sym (and_no (holds_value (found (trigger_at e t)) t.value)) ∙ ap (λ m. holds_value (found (trigger_at e t)) t.value and settled_below m choice found (trigger_at e t)) (sym z) ∙ by_trigger refl

    pub lock_differs : {x : Bool} → x ≡ holds_value (found (trigger_at e t)) t.value → x ≡ false → false ≡ lock_holds_in n choice found e v
    unfolding ◌and◌
    lock_differs h d = ap (λ y. y and settled_below n choice found (trigger_at e t)) (sym d) ∙ by_trigger h

    -- g and m are what was read as the trigger's namespace and name
    pub lock_link : {x y : Bool} {g m : Bytes} → x ≡ holds_value (found (trigger_at e t)) t.value → x ≡ true → (n ≡ 0 → ⊥)
        → g ≡ part t.namespace (t.namespace + 16) e → m ≡ part t.name t.name_end e
        → y ≡ settled_in (n - 1) choice found (variable g m) → y ≡ lock_holds_in n choice found e v
    unfolding ◌and◌
    lock_link {y = y} h i nz a b s =
        s ∙ ap₂ (λ p o. settled_in (n - 1) choice found (variable p o)) a b ∙ below n nz (trigger_at e t) ∙ ap (λ z. z and settled_below n choice found (trigger_at e t)) (sym i) ∙ by_trigger h
      where
        below : (n : ℕ) → (n ≡ 0 → ⊥) → (u : Variable) → settled_in (n - 1) choice found u ≡ settled_below n choice found u
        below zero nz u = absurd (nz refl)
        below (suc n) nz u = ap (λ m. settled_in m choice found u) (omega arith)
