-- Notes as a fact of a struct: whether a record stands in a list is told by comparing bytes, so a note that is once known to be one is one again. Assumes nothing.
use Rattle.std.specs.Prelude.{ℕ, ◌≡◌, List, [], ◌∷◌, Bool, true, false}
use Rattle.std.proofs.Math.Path.{refl, sym, ◌∙◌}
use mathlib.Core.Logic.{inl, inr, ∥∥₁_elim, ∥∥₁_map}
use mathlib.Core.Bool.{true≢false}
use native.Mathlib.Bridge.{le_prop}
use native.Mathlib.Nat.{ℕ_set}
use Rattle.lists.specs.Lists.{Among}
use Rattle.slices.specs.Bytes.{Bytes, same}
use Rattle.slices.proofs.BytesLaws.{same_eq, same_of}
use Rattle.noted.specs.Noted.{Begins, Noted}

among_once : (x : Bytes) (l : List Bytes) → ∥ Among x l ∥₁ → Among x l
among_once x [] t = ∥∥₁_elim t (λ a b. absurd a) (λ a. a)
among_once x (y ∷ l) t = go (among_once x l) (same x y) refl
  where
    behind : same x y ≡ false → Among x (y ∷ l) → Among x l
    behind e (inl p) = absurd (true≢false (sym (same_of x y p) ∙ e))
    behind e (inr a) = a

    go : (∥ Among x l ∥₁ → Among x l) → (b : Bool) → same x y ≡ b → Among x (y ∷ l)
    go rest true e = inl (same_eq x y e)
    go rest false e = inr (rest (∥∥₁_map t (behind e)))

begins_once : (b : Bool) (s : Bytes) (a : ℕ) → ∥ Begins b s a ∥₁ → Begins b s a
begins_once b s a t =
    record {
      within = ∥∥₁_elim t le_prop (λ w. w.within);
      rest = ∥∥₁_elim t (ℕ_set _ _) (λ w. w.rest);
      before = ∥∥₁_elim t le_prop (λ w. w.before);
      stands = among_once _ _ (∥∥₁_map t (λ w. w.stands));
    }

pub noted_once : (b : Bool) (s : Bytes) (t : List ℕ) → ∥ Noted b s t ∥₁ → Noted b s t
noted_once b s t n k a e = begins_once b s a (∥∥₁_map n (λ w. w k a e))
