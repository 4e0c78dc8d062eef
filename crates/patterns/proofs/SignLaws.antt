-- Laws of '#' in bytes: by parts, and as the code looks for it. Assumes nothing.
use Rattle.std.specs.Prelude.{ℕ, zero, suc, ◌+◌, ◌-◌, ◌*◌, ◌/◌, ◌%◌, ◌≤◌, ◌<◌, ◌≡◌, refl, List, [], ◌∷◌, ◌++◌, Bool, true, false, not, ◌||◌, ◌⊎◌, length, take, drop, eqb}
use Rattle.std.proofs.Common.{sym, ap, ◌∙◌, true≢false, inl, inr, arith, zero-add, drop-drop, take-append-drop, length-drop, length-take-le, eq-eqb, ne_eqb, eqb-true}
use Rattle.std.proofs.lemmas.Bool.{false≢true}
use Rattle.std.proofs.Math.Bool.{or-true}
use Rattle.slices.specs.Test.{◌and◌}
use Rattle.slices.specs.Bytes.{Bytes, le16, part}
use Rattle.slices.proofs.TestLaws.{or_cases}
use Rattle.names.specs.Name.{units, each, wildcards, number_sign, one_if}
use Rattle.names.proofs.NameLaws.{wildcards_step, wildcards_end, units_later, units_whole}
use Rattle.patterns.specs.Signs.{has_sign, EitherSign}

-- ---- units and '#' of parts

-- the units of two parts, of which the first has whole units only
pub units_append : (a b : Bytes) → length a % 2 ≡ 0 → units (a ++ b) ≡ units a ++ units b
unfolding units
units_append [] b h = refl
units_append (x ∷ []) b h = absurd (omega arith)
units_append (x ∷ y ∷ a) b h = ap (λ (us : List ℕ). (x + 256 * y) ∷ us) (units_append a b (omega arith))

pub wildcards_append : (us vs : List ℕ) → wildcards (us ++ vs) ≡ wildcards us + wildcards vs
unfolding wildcards
wildcards_append [] vs = sym (zero-add (wildcards vs))
wildcards_append (u ∷ us) vs = omega (arith, wildcards_append us vs)

wildcards_later : (k : ℕ) (us : List ℕ) → wildcards (drop k us) ≤ wildcards us
unfolding wildcards
wildcards_later zero us = omega arith
wildcards_later (suc k) [] = omega arith
wildcards_later (suc k) (u ∷ us) = omega (arith, wildcards_later k us)

wildcards_first : (n : ℕ) (s : Bytes) → wildcards (units (take n s)) ≤ wildcards (units s)
unfolding units wildcards
wildcards_first zero s = omega arith
wildcards_first (suc n) [] = omega arith
wildcards_first (suc zero) (a ∷ s) = omega arith
wildcards_first (suc (suc n)) (a ∷ []) = omega arith
wildcards_first (suc (suc n)) (a ∷ b ∷ s) = omega (arith, wildcards_first n s)

wildcards_behind : (i : ℕ) (s : Bytes) → i % 2 ≡ 0 → wildcards (units (drop i s)) ≤ wildcards (units s)
wildcards_behind i s h =
    let e : 2 * (i / 2) ≡ i = omega arith in
    rw (← units_later (i / 2) s, e) at (wildcards_later (i / 2) (units s))

-- a part at an even place has no more '#' than the whole
pub wildcards_part : (a e : ℕ) (s : Bytes) → a % 2 ≡ 0 → wildcards (units (part a e s)) ≤ wildcards (units s)
wildcards_part a e s h = omega (arith, wildcards_first (e - a) (drop a s), wildcards_behind a s h)

-- ---- the same as a test

pub sign_none : (s : Bytes) → has_sign s ≡ false → wildcards (units s) ≡ 0
sign_none s h = go (eqb (wildcards (units s)) 0) refl h
  where
    go : (t : Bool) → eqb (wildcards (units s)) 0 ≡ t → not t ≡ false → wildcards (units s) ≡ 0
    go true q k = eqb-true _ 0 q
    go false q k = absurd (true≢false k)

none_sign : (s : Bytes) → wildcards (units s) ≡ 0 → has_sign s ≡ false
none_sign s h = ap not (eq-eqb _ 0 h)

-- WHERE NO UNIT IS '#', none of a part at an even place is
pub part_plain : (a e : ℕ) (s : Bytes) → a % 2 ≡ 0 → has_sign s ≡ false → has_sign (part a e s) ≡ false
part_plain a e s h k = none_sign (part a e s) (omega (arith, wildcards_part a e s h, sign_none s k))

-- nor one of what is behind a later even place
sign_off : (s : Bytes) (i j : ℕ) → i ≤ j → i % 2 ≡ 0 → j % 2 ≡ 0 → has_sign (drop i s) ≡ false → has_sign (drop j s) ≡ false
sign_off s i j h p q k =
    let e : i + (j - i) ≡ j = omega arith in
    none_sign (drop j s) (omega (arith, sign_none (drop i s) k, rw (drop-drop (j - i) i s, e) at (wildcards_behind (j - i) (drop i s) (omega arith))))

-- and so one of all if one of what is behind
sign_on : (s : Bytes) (i : ℕ) → i % 2 ≡ 0 → has_sign (drop i s) ≡ true → has_sign s ≡ true
sign_on s i p k = go (has_sign s) refl
  where
    go : (t : Bool) → has_sign s ≡ t → t ≡ true
    go true q = refl
    go false q = absurd (false≢true (sym (sign_off s 0 i (omega arith) refl p q) ∙ k))

-- a unit is '#' if not each is another one
pub sign_each : (s : Bytes) → not (each (λ u. not (eqb u number_sign)) (units s)) ≡ has_sign s
unfolding each wildcards ◌and◌
sign_each s = go (units s)
  where
    go : (us : List ℕ) → not (each (λ u. not (eqb u number_sign)) us) ≡ not (eqb (wildcards us) 0)
    go [] = refl
    go (u ∷ us) = by (eqb u number_sign) (go us)
      where
        by : (b : Bool) → not (each (λ u. not (eqb u number_sign)) us) ≡ not (eqb (wildcards us) 0)
            → not (not b and each (λ u. not (eqb u number_sign)) us) ≡ not (eqb (one_if b + wildcards us) 0)
        by true e = sym (ap not (ne_eqb (1 + wildcards us) 0 (λ k. omega arith)))
        by false e = e ∙ rw zero-add

-- ---- as loops look for it

-- one turn of a loop
module _ (s : Bytes) (i : ℕ) (h : i + 2 ≤ length s) {u : ℕ} (v : u ≡ le16 s i) where
  sign_step : has_sign (drop i s) ≡ (eqb u number_sign || has_sign (drop (i + 2) s))
  sign_step = ap (λ (n : ℕ). not (eqb n 0)) (wildcards_step s i h) ∙ rw (← v) (go (eqb u number_sign))
    where
      go : (b : Bool) → not (eqb (one_if b + wildcards (units (drop (i + 2) s))) 0) ≡ (b || has_sign (drop (i + 2) s))
      go true = ap not (ne_eqb (1 + wildcards (units (drop (i + 2) s))) 0 (λ k. omega arith))
      go false = rw zero-add

  pub sign_hit : u ≡ number_sign → has_sign (drop i s) ≡ true
  sign_hit e = sign_step ∙ rw (eq-eqb u number_sign e)

  pub sign_miss : (u ≡ number_sign → ⊥) → has_sign (drop i s) ≡ has_sign (drop (i + 2) s)
  sign_miss e = sign_step ∙ rw (ne_eqb u number_sign e)

-- no whole unit is left
pub sign_end : (s : Bytes) (i : ℕ) → length s < i + 2 → has_sign (drop i s) ≡ false
sign_end s i h = none_sign (drop i s) (wildcards_end s i h)

or_assoc : (a b c : Bool) → (a || (b || c)) ≡ ((a || b) || c)
or_assoc true b c = refl
or_assoc false b c = refl

-- one turn of a loop that goes on to its end, j bytes behind i
pub sign_more : {a : Bool} {u : ℕ} (s : Bytes) (i j : ℕ) → i + j + 2 ≤ length s → u ≡ le16 s (i + j) → (found : Bool) → a ≡ (found || has_sign (drop (i + j) s))
    → a ≡ ((found || eqb u number_sign) || has_sign (drop (i + (j + 2)) s))
sign_more {a} {u} s i j h v found e =
    let n : i + (j + 2) ≡ i + j + 2 = omega arith in
    e ∙ rw (sign_step s (i + j) h v, n) (or_assoc found (eqb u number_sign) (has_sign (drop (i + j + 2) s)))

-- the same in two blocks at once
either_test : (a b : Bool) {p q x y : Bool} → p ≡ (a || x) → q ≡ (b || y) → ((a || b) ≡ true → (p || q) ≡ true) × ((a || b) ≡ false → (p ≡ x) × (q ≡ y))
either_test true b e f = ((λ t. rw e), λ t. absurd (true≢false t))
either_test false true {p} e f = ((λ t. rw f (or-true p)), λ t. absurd (true≢false t))
either_test false false e f = ((λ t. absurd (false≢true t)), λ t. (e, f))

pub either_more : {u v : ℕ} (s : Bytes) (i k j : ℕ) → i + j + 2 ≤ length s → k + j + 2 ≤ length s → u ≡ le16 s (i + j) → v ≡ le16 s (k + j) → (found : Bool)
    → EitherSign s i k j found → EitherSign s i k (j + 2) (found || (eqb u number_sign || eqb v number_sign))
either_more s i k j h g eu ev true w = ((λ t. w.0 refl), λ t. absurd (true≢false t))
either_more {u} {v} s i k j h g eu ev false w =
    let n : i + (j + 2) ≡ i + j + 2 = omega arith in
    let m : k + (j + 2) ≡ k + j + 2 = omega arith in
    let c = w.1 refl in
    rw (n, m) (either_test (eqb u number_sign) (eqb v number_sign) (c.0 ∙ sign_step s (i + j) h eu) (c.1 ∙ sign_step s (k + j) g ev))

-- the block of eight units that ends at the last one, and one from byte `from` on: i, or that block again where it begins no later than i
pub either_last : (s : Bytes) (i last from : ℕ) (r : Bool) → has_sign s ≡ has_sign (drop i s) → i % 2 ≡ 0 → last % 2 ≡ 0 → length s < last + 18 → last ≤ i + 16
    → ((from ≡ i) ⊎ ((from ≡ last) × (last ≤ i))) → EitherSign s from last 16 r → r ≡ has_sign s
either_last s i last from true e p q h l o w = go (or_cases _ _ (w.0 refl)) o
  where
    go : (has_sign (drop from s) ≡ true) ⊎ (has_sign (drop last s) ≡ true) → ((from ≡ i) ⊎ ((from ≡ last) × (last ≤ i))) → true ≡ has_sign s
    go (inl t) (inl f) = sym (sign_on s i p (rw f at t))
    go (inl t) (inr f) = sym (sign_on s last q (rw f.0 at t))
    go (inr t) f = sym (sign_on s last q t)
either_last s i last from false e p q h l o w = sym (e ∙ go o (w.1 refl).0)
  where
    off : has_sign (drop last s) ≡ false
    off = (w.1 refl).1 ∙ sign_end s (last + 16) (omega arith)

    go : ((from ≡ i) ⊎ ((from ≡ last) × (last ≤ i))) → has_sign (drop from s) ≡ has_sign (drop (from + 16) s) → has_sign (drop i s) ≡ false
    go (inl f) c = (rw f at c) ∙ sign_off s last (i + 16) l q (omega arith) off
    go (inr f) c = sign_off s last i f.1 q p off

-- ---- as blocks of whole units tell it

-- the whole units have the '#' of all
pub sign_whole : (k : ℕ) (s : Bytes) → k ≡ length (units s) → has_sign (take (2 * k) s) ≡ has_sign s
sign_whole k s e = ap (λ (us : List ℕ). not (eqb (wildcards us) 0)) (units_whole k s e)

-- a part of whole units, and what is behind it
pub sign_cut : (n : ℕ) (s : Bytes) → n ≤ length s → n % 2 ≡ 0 → has_sign s ≡ (has_sign (take n s) || has_sign (drop n s))
sign_cut n s h e =
    ap has_sign (sym (take-append-drop n s)) ∙ ap (λ (us : List ℕ). not (eqb (wildcards us) 0)) (units_append (take n s) (drop n s) (rw (length-take-le n s h) e))
    ∙ ap (λ (m : ℕ). not (eqb m 0)) (wildcards_append (units (take n s)) (units (drop n s))) ∙ go (wildcards (units (take n s))) (wildcards (units (drop n s)))
  where
    go : (a b : ℕ) → not (eqb (a + b) 0) ≡ (not (eqb a 0) || not (eqb b 0))
    go zero b = rw zero-add
    go (suc a) b = ap not (ne_eqb (suc a + b) 0 (λ k. omega arith)) ∙ sym (ap (λ c. not c || not (eqb b 0)) (ne_eqb (suc a) 0 (λ k. omega arith)))

-- what is behind byte l decides, where no '#' is but behind byte i and that is no earlier
pub last_decides : (s : Bytes) (i l : ℕ) → has_sign s ≡ has_sign (drop i s) → l ≤ i → l % 2 ≡ 0 → i % 2 ≡ 0 → has_sign (drop l s) ≡ has_sign s
last_decides s i l e h q p = go (has_sign (drop l s)) refl
  where
    go : (t : Bool) → has_sign (drop l s) ≡ t → t ≡ has_sign s
    go true k = sym (sign_on s l q k)
    go false k = sym (e ∙ sign_off s l i h q p k)

-- with the eight units from byte i on it may begin eight later
pub both_decide : (s : Bytes) (i l : ℕ) → has_sign s ≡ has_sign (drop i s) → i + 16 ≤ length s → l ≤ i + 16 → l % 2 ≡ 0 → i % 2 ≡ 0
    → (has_sign (take 16 (drop i s)) || has_sign (drop l s)) ≡ has_sign s
both_decide s i l e m h q p = go (has_sign (drop l s)) refl
  where
    cut : has_sign (drop i s) ≡ (has_sign (take 16 (drop i s)) || has_sign (drop (i + 16) s))
    cut = sign_cut 16 (drop i s) (omega (arith, length-drop i s)) refl ∙ ap (λ (t : Bytes). has_sign (take 16 (drop i s)) || has_sign t) (drop-drop 16 i s)

    go : (t : Bool) → has_sign (drop l s) ≡ t → (has_sign (take 16 (drop i s)) || t) ≡ has_sign s
    go true k = or-true (has_sign (take 16 (drop i s))) ∙ sym (sign_on s l q k)
    go false k = sym (e ∙ cut ∙ ap (λ b. has_sign (take 16 (drop i s)) || b) (sign_off s l (i + 16) h q (omega arith) k))
