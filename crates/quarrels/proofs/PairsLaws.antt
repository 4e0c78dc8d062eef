-- What the search over pairs of places finds: `finds_first` says that the pair found is one for which the test holds, and the first; `first_found` that this
-- first pair is found; `no_pair_exactly` that none is found exactly if the test holds for none. Assumes nothing.
use Rattle.std.specs.Prelude.{◌≡◌, ◌⊎◌, ◌↔◌, eqb, Bool, cond, Option, Some, None}
use Rattle.std.proofs.Math.Path.{refl, subst}
use Rattle.std.proofs.Common.{sym, ap, ap₂, ◌∙◌, inl, inr, ⊎_elim, eqb-true}
use Rattle.std.proofs.lemmas.Bool.{eqb-false, false≢true}
use Rattle.std.proofs.Math.Bool.{true, false}
use Prim.Native.Nat.{ℕ, zero, suc, ◌+◌, ◌<◌}
use native.Mathlib.Omega.{arith}
use Rattle.lists.proofs.ListsLaws.{Less, less}
use Rattle.quarrels.specs.declared.Pair.{Pair}
use Rattle.quarrels.specs.Pairs.{pair, row_from, pair_from, first_pair}

-- ---- what is found

-- the pair x, y stands before the pair a, b
abbrev pub Before : ℕ → ℕ → ℕ → ℕ → Type 0
Before x y a b = (x < a) ⊎ ((x ≡ a) × (y < b))

-- x < i + 1 is x < i or x ≡ i
at_or_under : (x i : ℕ) → x < i + 1 → (x < i) ⊎ (x ≡ i)
at_or_under x i h = go (eqb x i) refl
  where
    go : (b : Bool) → eqb x i ≡ b → (x < i) ⊎ (x ≡ i)
    go true e = inr (eqb-true x i e)
    go false e = let d = eqb-false x i e in inl (omega arith)

-- of two pairs one stands before the other, or they are one
which : (x y a b : ℕ) → Before x y a b ⊎ (Before a b x y ⊎ ((x ≡ a) × (y ≡ b)))
which x y a b = go (less x a) (less a x) (less y b) (less b y)
  where
    go : Less x a → Less a x → Less y b → Less b y → Before x y a b ⊎ (Before a b x y ⊎ ((x ≡ a) × (y ≡ b)))
    go (inl l) _ _ _ = inl (inl l.0)
    go (inr k) (inl l) _ _ = inr (inl (inl l.0))
    go (inr k) (inr m) (inl l) _ = let e : x ≡ a = omega (arith, k.0, m.0) in inl (inr (e, l.0))
    go (inr k) (inr m) (inr o) (inl l) = let e : a ≡ x = omega (arith, k.0, m.0) in inr (inl (inr (e, l.0)))
    go (inr k) (inr m) (inr o) (inr q) = let e : x ≡ a = omega (arith, k.0, m.0) in let g : y ≡ b = omega (arith, o.0, q.0) in inr (inr (e, g))

module _ (f : ℕ → ℕ → Bool) (n : ℕ) where
  -- the test fails for each pair from i, j on, up to a, b
  abbrev Clear : ℕ → ℕ → ℕ → ℕ → Type 0
  Clear i j a b = (x y : ℕ) → x < y → y < n → (Before x y i j → ⊥) → Before x y a b → f x y ≡ false

  clear_none : (i j : ℕ) → Clear i j i j
  clear_none i j x y o w nb b = absurd (nb b)

  clear_more : (i j a b : ℕ) → f i j ≡ false → Clear i (j + 1) a b → Clear i j a b
  clear_more i j a b e rest x y o w nb u = go (eqb x i) (eqb y j) refl refl
    where
      go : (p q : Bool) → eqb x i ≡ p → eqb y j ≡ q → f x y ≡ false
      go true true p q = ap (λ (z : ℕ). f z y) (eqb-true x i p) ∙ ap (f i) (eqb-true y j q) ∙ e
      go false q p r = rest x y o w (⊎_elim (λ l. nb (inl l)) (λ l. eqb-false x i p l.0)) u
      go true false p q = rest x y o w (⊎_elim (λ l. nb (inl l)) (λ l. ⊎_elim (λ k. nb (inr (l.0, k))) (λ k. eqb-false y j q k) (at_or_under y j l.1))) u

  clear_row : (i a b : ℕ) → Clear (i + 1) 0 a b → Clear i n a b
  clear_row i a b rest x y o w nb u =
      rest x y o w (⊎_elim (λ l. ⊎_elim (λ k. nb (inl k)) (λ k. nb (inr (k, w))) (at_or_under x i l)) (λ l. let z = l.1 in omega arith)) u

  -- what an answer for the pairs from i, j on says
  abbrev Facts : ℕ → ℕ → Option Pair → Type 0
  Facts i j (Some p) = (p.earlier < p.later) × (p.later < n) × (f p.earlier p.later ≡ true) × Clear i j p.earlier p.later
  Facts i j None = Clear i j n 0

  facts_map : (i j i' j' : ℕ) → ((a b : ℕ) → Clear i j a b → Clear i' j' a b) → (o : Option Pair) → Facts i j o → Facts i' j' o
  facts_map i j i' j' g (Some p) h = (h.0, h.1, h.2, g p.earlier p.later h.3)
  facts_map i j i' j' g None h = g n 0 h

  row_facts : (i j k : ℕ) → i < j → j + k ≡ n → (o : Option Pair) → Facts (i + 1) 0 o → Facts i j (row_from f i j k o)
  unfolding row_from
  row_facts i j zero ij e o h = subst (λ (m : ℕ). Facts i m o) (omega arith) (facts_map (i + 1) 0 i n (clear_row i) o h)
  row_facts i j (suc k) ij e o h = go (f i j) refl (row_facts i (j + 1) k (omega arith) (omega arith) o h)
    where
      go : (b : Bool) → f i j ≡ b → Facts i (j + 1) (row_from f i (j + 1) k o) → Facts i j (cond b (Some (pair i j)) (row_from f i (j + 1) k o))
      go true t r = (ij, omega arith, t, clear_none i j)
      go false t r = facts_map i (j + 1) i j (λ a b. clear_more i j a b t) (row_from f i (j + 1) k o) r

  -- the pairs of i with the places up to i are none
  clear_start : (i a b : ℕ) → Clear i (i + 1) a b → Clear i 0 a b
  clear_start i a b rest x y o w nb u = rest x y o w (⊎_elim (λ l. nb (inl l)) (λ l. let p = l.0 in let q = l.1 in omega arith)) u

  pairs_facts : (i k : ℕ) → i + k ≡ n → Facts i 0 (pair_from f i k)
  unfolding pair_from
  pairs_facts i zero e = subst (λ (m : ℕ). Clear i 0 m 0) (omega arith) (clear_none i 0)
  pairs_facts i (suc k) e =
      facts_map i (i + 1) i 0 (clear_start i) (row_from f i (i + 1) k (pair_from f (i + 1) k))
      (row_facts i (i + 1) k (omega arith) (omega arith) (pair_from f (i + 1) k) (pairs_facts (i + 1) k (omega arith)))

  facts : Facts 0 0 (first_pair f n)
  facts = pairs_facts 0 n (omega arith)

  not_before : (x y : ℕ) → Before x y 0 0 → ⊥
  not_before x y = ⊎_elim (λ l. omega arith) (λ l. let q = l.1 in omega arith)

  -- the pair found is a pair for which the test holds, and the first
  pub finds_first : (a b : ℕ) → first_pair f n ≡ Some (pair a b) → (a < b) × (b < n) × (f a b ≡ true) × ((x y : ℕ) → x < y → y < n → Before x y a b → f x y ≡ false)
  finds_first a b e = let h = subst (Facts 0 0) e facts in (h.0, h.1, h.2, λ x y o w u. h.3 x y o w (not_before x y) u)

  -- none is found exactly if the test holds for none
  pub no_pair_exactly : first_pair f n ≡ None ↔ ((x y : ℕ) → x < y → y < n → f x y ≡ false)
  no_pair_exactly = ((λ e x y o w. subst (Facts 0 0) e facts x y o w (not_before x y) (inl (omega arith))), λ all. go all (first_pair f n) refl)
    where
      go : ((x y : ℕ) → x < y → y < n → f x y ≡ false) → (o : Option Pair) → first_pair f n ≡ o → first_pair f n ≡ None
      go all (Some p) e = let h = finds_first p.earlier p.later e in absurd (false≢true (sym (all p.earlier p.later h.0 h.1) ∙ h.2))
      go all None e = e

  -- a pair for which the test holds, and for none before it, is the one found
  pub first_found : (a b : ℕ) → a < b → b < n → f a b ≡ true → ((x y : ℕ) → x < y → y < n → Before x y a b → f x y ≡ false) → first_pair f n ≡ Some (pair a b)
  first_found a b o w t clear = go (first_pair f n) refl
    where
      go : (p : Option Pair) → first_pair f n ≡ p → first_pair f n ≡ Some (pair a b)
      go None e = absurd (false≢true (sym (no_pair_exactly.0 e a b o w) ∙ t))
      go (Some p) e =
          let h = finds_first p.earlier p.later e in
          e ∙ ⊎_elim (λ l. absurd (false≢true (sym (clear p.earlier p.later h.0 h.1 l) ∙ h.2)))
          (⊎_elim (λ l. absurd (false≢true (sym (h.3 a b o w l) ∙ t))) (λ l. ap₂ (λ x y. Some (pair x y)) l.0 l.1)) (which p.earlier p.later a b)
