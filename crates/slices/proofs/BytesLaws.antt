-- Laws of tests on lists of bytes. Assumes nothing.
use Prim.Native.Nat.{ℕ, zero, suc, ◌+◌, ◌-◌, ◌≤◌, ◌<◌}
use Rattle.std.specs.Prelude.{◌≡◌, Bool, true, false, ◌&&◌, length, get_or, take, drop, replicate}
use Rattle.std.proofs.Math.Path.{refl, sym, ap}
use Rattle.std.proofs.Common.{ap₂, ◌∙◌, arith, add-one, length-take, drop-drop, eq-eqb, ne_eqb, eqb-true}
use mathlib.Core.List.{[], ◌∷◌}
use Rattle.std.proofs.lemmas.Bool.{false≢true, eqb-false}
use Rattle.std.proofs.Math.ListN.{drop_of_length-le}
use Rattle.std.proofs.Math.Seq.{drop-cons}
use Rattle.std.proofs.Math.Dec.{eqb}
use Rattle.std.specs.List.{list_all, fold}
use Rattle.slices.specs.Test.{◌and◌}
use Rattle.slices.proofs.TestLaws.{and_left, and_right, and_intro, and_no, and_yes, and_assoc, and_eager, forced_off}
use Rattle.slices.specs.Bytes.{Bytes, pairwise, same, all_are}
use Rattle.slices.proofs.PartLaws.{length_middle, get_d-middle}

module _ (f : ℕ → ℕ → Bool) where
  pub pairwise_lengths : (ps us : Bytes) → (length ps ≡ length us → ⊥) → pairwise f ps us ≡ false
  unfolding pairwise
  pairwise_lengths [] [] h = absurd (h refl)
  pairwise_lengths [] (u ∷ us) h = refl
  pairwise_lengths (p ∷ ps) [] h = refl
  pairwise_lengths (p ∷ ps) (u ∷ us) h = rw (pairwise_lengths ps us (λ e. h (ap suc e)), and_no (f p u))

  pub pairwise_end : (ps us : Bytes) (k : ℕ) → length ps ≤ k → length us ≤ k → pairwise f (drop k ps) (drop k us) ≡ true
  unfolding pairwise
  pairwise_end ps us k h h₁ = rw (drop_of_length-le ps h, drop_of_length-le us h₁)

  pub pairwise_length : (ps us : Bytes) → pairwise f ps us ≡ true → length ps ≡ length us
  unfolding pairwise
  pairwise_length [] [] e = refl
  pairwise_length [] (u ∷ us) e = absurd (false≢true e)
  pairwise_length (p ∷ ps) [] e = absurd (false≢true e)
  pairwise_length (p ∷ ps) (u ∷ us) e = ap suc (pairwise_length ps us (and_right _ _ e))

  -- what holds of all holds from each later place on
  pub pairwise_later : (k : ℕ) (ps us : Bytes) → pairwise f ps us ≡ true → pairwise f (drop k ps) (drop k us) ≡ true
  unfolding pairwise
  pairwise_later zero ps us e = e
  pairwise_later (suc k) [] [] e = refl
  pairwise_later (suc k) [] (u ∷ us) e = absurd (false≢true e)
  pairwise_later (suc k) (p ∷ ps) [] e = absurd (false≢true e)
  pairwise_later (suc k) (p ∷ ps) (u ∷ us) e = pairwise_later k ps us (and_right _ _ e)

  -- a test that every unit passes with itself, every list does
  pub pairwise_refl : ((u : ℕ) → f u u ≡ true) → (us : Bytes) → pairwise f us us ≡ true
  unfolding ◌and◌ pairwise
  pairwise_refl h [] = refl
  pairwise_refl h (u ∷ us) = rw (h u, pairwise_refl h us)

  -- one turn of a loop over both lists
  module _ (ps us : Bytes) (k : ℕ) (h : k < length ps) (h₁ : k < length us) where
    pub pairwise_step : pairwise f (drop k ps) (drop k us) ≡ (f (get_or ps k 0) (get_or us k 0) and pairwise f (drop (k + 1) ps) (drop (k + 1) us))
    unfolding pairwise
    pairwise_step = rw (add-one, drop-cons ps k 0, drop-cons us k 0)

-- the same bytes are the same list
pub same_eq : (l m : Bytes) → pairwise eqb l m ≡ true → l ≡ m
unfolding pairwise
same_eq [] [] e = refl
same_eq [] (u ∷ us) e = absurd (false≢true e)
same_eq (p ∷ ps) [] e = absurd (false≢true e)
same_eq (p ∷ ps) (u ∷ us) e = ap₂ ◌∷◌ (eqb-true p u (and_left _ _ e)) (same_eq ps us (and_right _ _ e))

pub same_refl : (l : Bytes) → pairwise eqb l l ≡ true
same_refl = pairwise_refl eqb (λ u. eq-eqb u u refl)

pub same_of : (l m : Bytes) → l ≡ m → pairwise eqb l m ≡ true
same_of l m e = rw e (same_refl m)

-- what is the same from a place on is the same from each later one on
pub same_later : (l m : Bytes) (i j : ℕ) → i ≤ j → same (drop i l) (drop i m) ≡ true → same (drop j l) (drop j m) ≡ true
same_later l m i j h e =
    let k : i + (j - i) ≡ j = omega arith in
    same_of (drop j l) (drop j m) (rw k at (sym (drop-drop (j - i) i l) ∙ ap (drop (j - i)) (same_eq (drop i l) (drop i m) e) ∙ drop-drop (j - i) i m))

-- a comparison of the first n bytes, and then of the rest
same_split : (n : ℕ) (l m : Bytes) → same l m ≡ (same (take n l) (take n m) and same (drop n l) (drop n m))
unfolding pairwise ◌and◌
same_split zero l m = refl
same_split (suc n) [] [] = refl
same_split (suc n) [] (b ∷ m) = refl
same_split (suc n) (a ∷ l) [] = refl
same_split (suc n) (a ∷ l) (b ∷ m) = ap (eqb a b and◌) (same_split n l m) ∙ sym (and_assoc (eqb a b) (same (take n l) (take n m)) (same (drop n l) (drop n m)))

-- r is the comparison of the eight bytes from i on
module _ {r : Bool} (l m : Bytes) (i : ℕ) (e : r ≡ same (take 8 (drop i l)) (take 8 (drop i m))) where
  pub same_eight : same (drop i l) (drop i m) ≡ (r and same (drop (i + 8) l) (drop (i + 8) m))
  same_eight = same_split 8 (drop i l) (drop i m) ∙ rw (e, drop-drop, drop-drop)

  pub same_not : r ≡ false → same l m ≡ false
  unfolding ◌and◌
  same_not z = forced_off (same l m) (λ t. sym (same_eight ∙ rw z) ∙ same_later l m 0 i (omega arith) t)

  -- and they are the last ones
  pub same_last : (j : ℕ) → r ≡ true → length l ≤ i + 8 → length m ≤ i + 8 → i ≤ j → same (drop j l) (drop j m) ≡ true
  unfolding ◌and◌
  same_last j z a b h = same_later l m i j h (same_eight ∙ rw z (pairwise_end eqb l m (i + 8) a b))

eqb_sym : (x y : ℕ) → eqb x y ≡ eqb y x
eqb_sym x y = go (eqb x y) refl
  where
    go : (t : Bool) → eqb x y ≡ t → eqb x y ≡ eqb y x
    go true e = e ∙ sym (eq-eqb y x (sym (eqb-true x y e)))
    go false e = e ∙ sym (ne_eqb y x (λ h. eqb-false x y e (sym h)))

pub same_sym : (l m : Bytes) → pairwise eqb l m ≡ pairwise eqb m l
unfolding pairwise
same_sym [] [] = refl
same_sym [] (b ∷ m) = refl
same_sym (a ∷ l) [] = refl
same_sym (a ∷ l) (b ∷ m) = ap₂ ◌and◌ (eqb_sym a b) (same_sym l m)

-- a loop that compares eagerly the eight bytes from i on: one turn, and its end
module _ {x : Bool} (ok : Bool) (l m : Bytes) (i j : ℕ) (e : x ≡ (ok and same (drop j (take 8 (drop i l))) (drop j (take 8 (drop i m))))) where
  pub same_more : i + 8 ≤ length l → i + 8 ≤ length m → j < 8
      → x ≡ ((ok && eqb (get_or l (i + j) 0) (get_or m (i + j) 0)) and same (drop (j + 1) (take 8 (drop i l))) (drop (j + 1) (take 8 (drop i m))))
  same_more h k n =
      let a : j < length (take 8 (drop i l)) = rw (length_middle l i 8 h) n in
      let b : j < length (take 8 (drop i m)) = rw (length_middle m i 8 k) n in
      e ∙ rw (and_eager, pairwise_step eqb (take 8 (drop i l)) (take 8 (drop i m)) j a b, get_d-middle l i 8 j n, get_d-middle m i 8 j n)
      (sym (and_assoc ok (eqb (get_or l (i + j) 0) (get_or m (i + j) 0)) (same (drop (j + 1) (take 8 (drop i l))) (drop (j + 1) (take 8 (drop i m))))))

  pub same_done : 8 ≤ j → ok ≡ x
  same_done n =
      let short : (s : Bytes) → length (take 8 (drop i s)) ≤ j = λ s. rw length-take (omega arith) in
      sym (e ∙ rw (pairwise_end eqb (take 8 (drop i l)) (take 8 (drop i m)) j (short l) (short m)) (and_yes ok))

-- ---- every byte is v
pub all_are-step : (v : ℕ) (l : Bytes) (i : ℕ) → i < length l → all_are v (drop i l) ≡ (eqb (get_or l i 0) v and all_are v (drop (i + 1) l))
unfolding all_are
all_are-step v l i h = rw (add-one, drop-cons l i 0)

pub all_are-end : (v : ℕ) (l : Bytes) (i : ℕ) → length l ≤ i → all_are v (drop i l) ≡ true
unfolding all_are
all_are-end v l i h = rw (drop_of_length-le l h)

-- as std's `all` computes it
pub all_are-all : (v : ℕ) (l : Bytes) → list_all (λ (b : ℕ). eqb b v) l ≡ all_are v l
unfolding all_are
all_are-all v [] = refl
all_are-all v (b ∷ l) = and_eager (eqb b v) (list_all (λ (b : ℕ). eqb b v) l) ∙ ap (eqb b v and◌) (all_are-all v l)

-- as a fold that compares eagerly computes it
pub all_are-fold : (ok : Bool) (v : ℕ) (l : Bytes) → fold (λ (ok : Bool) (b : ℕ). ok && eqb b v) ok l ≡ (ok and all_are v l)
unfolding all_are
all_are-fold ok v [] = sym (and_yes ok)
all_are-fold ok v (b ∷ l) = all_are-fold (ok && eqb b v) v l ∙ rw and_eager (and_assoc ok (eqb b v) (all_are v l))

-- one turn of a loop that compares eagerly
pub all_are-more : {x : Bool} (ok : Bool) (v : ℕ) (l : Bytes) (i : ℕ) → i < length l → x ≡ (ok and all_are v (drop i l))
    → x ≡ ((ok && eqb (get_or l i 0) v) and all_are v (drop (i + 1) l))
all_are-more ok v l i h e = e ∙ rw (and_eager, all_are-step v l i h) (sym (and_assoc ok (eqb (get_or l i 0) v) (all_are v (drop (i + 1) l))))

pub all_are-is : (v : ℕ) (l : Bytes) → all_are v l ≡ true → l ≡ replicate (length l) v
unfolding all_are
all_are-is v [] e = refl
all_are-is v (b ∷ l) e = ap₂ ◌∷◌ (eqb-true b v (and_left _ _ e)) (all_are-is v l (and_right _ _ e))

pub all_are-replicate : (v n : ℕ) → all_are v (replicate n v) ≡ true
unfolding all_are
all_are-replicate v zero = refl
all_are-replicate v (suc n) = and_intro (eqb v v) (all_are v (replicate n v)) (eq-eqb v v refl) (all_are-replicate v n)
