-- Step 5: what is shown and what is protected after exit, by the tests that the code makes of what stands at a place. Assumes nothing.
use Prim.Native.Nat.{ℕ}
use mathlib.Core.Path.{◌≡◌, refl, sym, ap, ◌∙◌}
use mathlib.Core.Bool.{Bool, true, false, not, cond, true≢false}
use mathlib.Core.Option.{Option, none, some}
use borrow.Author.Tests.{not-true, not-false}
use Rattle.slices.specs.Test.{◌and◌}
use Rattle.slices.specs.Bytes.{Bytes}
use Rattle.store.specs.Record.{has_nv, has_rt}
use Rattle.store.specs.Parts.{attributes_in}
use Rattle.status.specs.declared.Status.TheVariants.{WriteProtected, NotFound}
use Rattle.stores.specs.declared.Place.{Place}
use Rattle.stores.specs.Place.{is_somewhere, record_at, attributes_at}
use Rattle.rules.specs.Decision.{Refuse, Delete}
use Rattle.rules.specs.Set.{exists, shown, exit_protects, delete_decision}
use Rattle.set.proofs.LockRules.{exists_at}

-- of what is found, with its attributes
found_shown : (x : Bool) (o : Option Bytes) → exists o ≡ true → exists (shown x o) ≡ cond x (has_rt (attributes_in o)) true
unfolding exists shown ◌and◌
found_shown x none h = absurd (true≢false (sym h))
found_shown true (some q) h = go (has_rt (attributes_in (some q)))
  where
    go : (t : Bool) → exists (cond (not t) none (some q)) ≡ t
    go true = refl
    go false = refl
found_shown false (some q) h = refl

absent_shown : (x : Bool) (o : Option Bytes) → exists o ≡ false → exists (shown x o) ≡ false
unfolding exists shown
absent_shown x none h = refl
absent_shown x (some q) h = absurd (true≢false h)

found_protected : (o : Option Bytes) → exists o ≡ true → exit_protects true o ≡ not (has_nv (attributes_in o))
unfolding exists exit_protects ◌and◌
found_protected none h = absurd (true≢false (sym h))
found_protected (some q) h = refl

absent_protected : (x : Bool) (o : Option Bytes) → exists o ≡ false → exit_protects x o ≡ false
unfolding exists exit_protects
absent_protected x none h = refl
absent_protected x (some q) h = absurd (true≢false h)

before_protected : (o : Option Bytes) → exit_protects false o ≡ false
unfolding exit_protects ◌and◌
before_protected none = refl
before_protected (some q) = refl

-- of the record at a place: f whether there is one, n its attributes
stands : {f b : Bool} (nv vol : Bytes) (p : Place) → f ≡ is_somewhere p → f ≡ b → exists (record_at nv vol p) ≡ b
stands nv vol p e h = exists_at nv vol p ∙ sym e ∙ h

module _ (x : Bool) (nv vol : Bytes) (p : Place) where
  pub protects_before : not x ≡ true → false ≡ exit_protects x (record_at nv vol p)
  protects_before k = sym (ap (λ b. exit_protects b (record_at nv vol p)) (not-true x k) ∙ before_protected (record_at nv vol p))

  module _ {f : Bool} (e : f ≡ is_somewhere p) where
    pub shown_absent : not f ≡ true → false ≡ exists (shown x (record_at nv vol p))
    shown_absent h = sym (absent_shown x _ (stands nv vol p e (not-true f h)))

    pub protects_absent : not f ≡ true → false ≡ exit_protects x (record_at nv vol p)
    protects_absent h = sym (absent_protected x _ (stands nv vol p e (not-true f h)))

    module _ (h : not f ≡ false) where
      shown_is : exists (shown x (record_at nv vol p)) ≡ cond x (has_rt (attributes_at nv vol p)) true
      shown_is = found_shown x _ (stands nv vol p e (not-false f h))

      pub shown_before : not x ≡ true → true ≡ exists (shown x (record_at nv vol p))
      shown_before k = sym (shown_is ∙ ap (λ b. cond b (has_rt (attributes_at nv vol p)) true) (not-true x k))

      module _ {n : ℕ} {t : Bool} (k : not x ≡ false) (a : n ≡ attributes_at nv vol p) where
        pub shown_after : t ≡ has_rt n → t ≡ exists (shown x (record_at nv vol p))
        shown_after r = r ∙ ap has_rt a ∙ sym (shown_is ∙ ap (λ b. cond b (has_rt (attributes_at nv vol p)) true) (not-false x k))

        pub protects_after : t ≡ has_nv n → not t ≡ exit_protects x (record_at nv vol p)
        protects_after r =
            ap not (r ∙ ap has_nv a) ∙ sym (ap (λ b. exit_protects b (record_at nv vol p)) (not-false x k) ∙ found_protected _ (stands nv vol p e (not-false f h)))

-- ---- the decision: s whether what is found is shown, p whether it is protected
module _ {s : Bool} (x : Bool) (o : Option Bytes) (e : s ≡ exists (shown x o)) where
  pub delete_hidden : not s ≡ true → Refuse NotFound ≡ delete_decision x o
  delete_hidden h = simp (← e, not-true s h)

  module _ {p : Bool} (h : not s ≡ false) (k : p ≡ exit_protects x o) where
    pub delete_protected : p ≡ true → Refuse WriteProtected ≡ delete_decision x o
    delete_protected l = simp (← e, not-false s h, ← k, l)

    pub delete_done : p ≡ false → Delete ≡ delete_decision x o
    delete_done l = simp (← e, not-false s h, ← k, l)
