-- The bits of masked words; tests that agree; a count is zero exactly if no bit passes, and the least is the lowest that does.
-- Assumes nothing.
use Rattle.std.specs.Prelude.{ℕ, zero, suc, ◌+◌, ◌-◌, ◌/◌, ◌%◌, ◌^◌, ◌≤◌, ◌<◌, ◌≡◌, Bool, true, not, ◌&&◌, ◌||◌, cond, eqb}
use Rattle.std.proofs.Common.{suc-le-suc, ap, ap₂, ◌∙◌, true≢false, le_of_suc-le-suc, pow-suc, not-suc-le-zero, zero-lt-suc, arith, lit<}
use Rattle.std.proofs.Math.Path.{refl, sym}
use Rattle.std.proofs.Math.Bool.{false}
use Rattle.std.proofs.lemmas.Bool.{false≢true}
use Rattle.std.proofs.Math.Dec.{ltb}
use Rattle.std.specs.Int.Bits.{bit_and, bit_or, and_lt}
use Rattle.std.proofs.lemmas.Nat.{and_mod, and_shr, or_mod, or_shr}
use borrow.Author.Tests.{eqb-true, eqb-false, ltb-true, ltb-false}
use Rattle.bits.specs.Bits.{is_set, how_many, least, is_missing, is_prohibited, missing_bits, prohibited_bits, lowest_bit}

-- ---- binary digits

pub data Digit (d : ℕ) : Type 0 where
  is0 : d ≡ 0 → Digit d
  is1 : d ≡ 1 → Digit d

pub digit : (x : ℕ) → Digit (x % 2)
digit x = go (eqb (x % 2) 1) refl
  where
    go : (b : Bool) → eqb (x % 2) 1 ≡ b → Digit (x % 2)
    go true e = is1 (eqb-true _ _ e)
    go false e = let d = eqb-false (x % 2) 1 e in is0 (omega arith)

pub half_lt : (k x : ℕ) → x < 2 ^ suc k → x / 2 < 2 ^ k
half_lt k x h = let e = pow-suc 2 k in omega arith

-- ---- the bits of masked words

and_digits : (a b : ℕ) → Digit a → Digit b → eqb (bit_and a b) 1 ≡ (eqb a 1 && eqb b 1)
and_digits a b (is0 p) (is0 q) = simp (p, q)
and_digits a b (is0 p) (is1 q) = simp (p, q)
and_digits a b (is1 p) (is0 q) = simp (p, q)
and_digits a b (is1 p) (is1 q) = simp (p, q)

or_digits : (a b : ℕ) → Digit a → Digit b → eqb (bit_or a b) 1 ≡ (eqb a 1 || eqb b 1)
or_digits a b (is0 p) (is0 q) = simp (p, q)
or_digits a b (is0 p) (is1 q) = simp (p, q)
or_digits a b (is1 p) (is0 q) = simp (p, q)
or_digits a b (is1 p) (is1 q) = simp (p, q)

pub set_and : (i a b : ℕ) → is_set (bit_and a b) i ≡ (is_set a i && is_set b i)
unfolding is_set
set_and zero a b = ap (λ (d : ℕ). eqb d 1) (and_mod a b 1) ∙ and_digits (a % 2) (b % 2) (digit a) (digit b)
set_and (suc i) a b = ap (λ (x : ℕ). is_set x i) (and_shr a b 1) ∙ set_and i (a / 2) (b / 2)

pub set_or : (i a b : ℕ) → is_set (bit_or a b) i ≡ (is_set a i || is_set b i)
unfolding is_set
set_or zero a b = ap (λ (d : ℕ). eqb d 1) (or_mod a b 1) ∙ or_digits (a % 2) (b % 2) (digit a) (digit b)
set_or (suc i) a b = ap (λ (x : ℕ). is_set x i) (or_shr a b 1) ∙ set_or i (a / 2) (b / 2)

not_digit : (d e : ℕ) → Digit d → e ≡ 1 - d → eqb e 1 ≡ not (eqb d 1)
not_digit d e (is0 p) q = simp (q, p)
not_digit d e (is1 p) q = simp (q, p)

-- of a word of k bits turned over
pub set_not : (k i a : ℕ) → i < k → a < 2 ^ k → is_set (2 ^ k - 1 - a) i ≡ not (is_set a i)
unfolding is_set
set_not zero i a h l = absurd (not-suc-le-zero h)
set_not (suc k) zero a h l = let e = pow-suc 2 k in not_digit (a % 2) ((2 ^ suc k - 1 - a) % 2) (digit a) (omega arith)
set_not (suc k) (suc i) a h l =
    let e = pow-suc 2 k in
    let s : (2 ^ suc k - 1 - a) / 2 ≡ 2 ^ k - 1 - a / 2 = omega arith in
    ap (λ (x : ℕ). is_set x i) s ∙ set_not k i (a / 2) (le_of_suc-le-suc h) (half_lt k a l)

set_zero : (i : ℕ) → is_set 0 i ≡ false
unfolding is_set
set_zero zero = refl
set_zero (suc i) = set_zero i

same_digit : (d e : ℕ) → Digit d → Digit e → eqb d 1 ≡ eqb e 1 → d ≡ e
same_digit d e (is0 p) (is0 q) h = p ∙ sym q
same_digit d e (is0 p) (is1 q) h = absurd (false≢true (simp (p, q) at h))
same_digit d e (is1 p) (is0 q) h = absurd (true≢false (simp (p, q) at h))
same_digit d e (is1 p) (is1 q) h = p ∙ sym q

-- words with the same bits are the same
same_word : (k x y : ℕ) → x < 2 ^ k → y < 2 ^ k → ((i : ℕ) → i < k → is_set x i ≡ is_set y i) → x ≡ y
unfolding is_set
same_word zero x y hx hy h = omega arith
same_word (suc k) x y hx hy h =
    let low = same_digit (x % 2) (y % 2) (digit x) (digit y) (h 0 (zero-lt-suc k)) in
    let high = same_word k (x / 2) (y / 2) (half_lt k x hx) (half_lt k y hy) (λ i l. h (suc i) (suc-le-suc l)) in
    omega arith

-- ---- counts

-- tests that agree below k
pub many_same : (k : ℕ) (p q : ℕ → Bool) → ((i : ℕ) → i < k → p i ≡ q i) → how_many p k ≡ how_many q k
unfolding how_many
many_same zero p q h = refl
many_same (suc k) p q h = ap₂ (λ (b : Bool) (n : ℕ). cond {A = ℕ} b 1 0 + n) (h 0 (zero-lt-suc k)) (many_same k (λ i. p (suc i)) (λ i. q (suc i)) (λ i l. h (suc i) (suc-le-suc l)))

pub least_same : (k : ℕ) (p q : ℕ → Bool) → ((i : ℕ) → i < k → p i ≡ q i) → least p k ≡ least q k
unfolding least
least_same zero p q h = refl
least_same (suc k) p q h = ap₂ (λ (b : Bool) (n : ℕ). cond {A = ℕ} b 0 (suc n)) (h 0 (zero-lt-suc k)) (least_same k (λ i. p (suc i)) (λ i. q (suc i)) (λ i l. h (suc i) (suc-le-suc l)))

-- the last of k and one more is counted like the first
pub many_last : (k : ℕ) (p : ℕ → Bool) → how_many p (suc k) ≡ cond {A = ℕ} (p k) 1 0 + how_many p k
unfolding how_many
many_last zero p = refl
many_last (suc k) p =
    let later = many_last k (λ i. p (suc i)) in
    ap (λ (n : ℕ). cond {A = ℕ} (p 0) 1 0 + n) later ∙ omega arith

many_none : (k : ℕ) → how_many (λ i. false) k ≡ 0
unfolding how_many
many_none zero = refl
many_none (suc k) = ap (λ (n : ℕ). 0 + n) (many_none k)

-- a count is 0 exactly if the test holds for none
many_zero : (k : ℕ) (p : ℕ → Bool) → how_many p k ≡ 0 → (i : ℕ) → i < k → p i ≡ false
unfolding how_many
many_zero zero p e i h = absurd (not-suc-le-zero h)
many_zero (suc k) p e zero h = go (p 0) e
  where
    go : (b : Bool) → cond {A = ℕ} b 1 0 + how_many (λ i. p (suc i)) k ≡ 0 → b ≡ false
    go true e = absurd (let z = e in omega arith)
    go false e = refl
many_zero (suc k) p e (suc i) h = many_zero k (λ i. p (suc i)) (let z = e in omega arith) i (le_of_suc-le-suc h)

zero_many : (k : ℕ) (p : ℕ → Bool) → ((i : ℕ) → i < k → p i ≡ false) → how_many p k ≡ 0
zero_many k p h = many_same k p (λ i. false) h ∙ many_none k

-- ---- the lowest

pub least_most : (k : ℕ) (p : ℕ → Bool) → least p k ≤ k
unfolding least
least_most zero p = omega arith
least_most (suc k) p = go (p 0) (least_most k (λ i. p (suc i)))
  where
    go : (b : Bool) → least (λ i. p (suc i)) k ≤ k → cond {A = ℕ} b 0 (suc (least (λ i. p (suc i)) k)) ≤ suc k
    go true h = omega arith
    go false h = omega arith

-- below it the test fails
pub least_under : (k : ℕ) (p : ℕ → Bool) (i : ℕ) → i < least p k → p i ≡ false
unfolding least
least_under zero p i h = absurd (not-suc-le-zero h)
least_under (suc k) p zero h = go (p 0) h
  where
    go : (b : Bool) → 0 < cond {A = ℕ} b 0 (suc (least (λ i. p (suc i)) k)) → b ≡ false
    go true h = absurd (not-suc-le-zero h)
    go false h = refl
least_under (suc k) p (suc i) h = go (p 0) h (λ l. least_under k (λ i. p (suc i)) i l)
  where
    go : (b : Bool) → suc i < cond {A = ℕ} b 0 (suc (least (λ i. p (suc i)) k)) → (i < least (λ i. p (suc i)) k → p (suc i) ≡ false) → p (suc i) ≡ false
    go true h r = absurd (not-suc-le-zero h)
    go false h r = r (le_of_suc-le-suc h)

-- and there it passes, unless it is k
pub least_passes : (k : ℕ) (p : ℕ → Bool) → least p k < k → p (least p k) ≡ true
unfolding least
least_passes zero p h = absurd (not-suc-le-zero h)
least_passes (suc k) p h = go (p 0) refl h (λ l. least_passes k (λ i. p (suc i)) l)
  where
    go : (b : Bool) → p 0 ≡ b → cond {A = ℕ} b 0 (suc (least (λ i. p (suc i)) k)) < suc k → (least (λ i. p (suc i)) k < k → p (suc (least (λ i. p (suc i)) k)) ≡ true)
        → p (cond {A = ℕ} b 0 (suc (least (λ i. p (suc i)) k))) ≡ true
    go true e h r = e
    go false e h r = r (le_of_suc-le-suc h)

-- ---- masks

kept : (m a : Bool) → (m && not a) ≡ false → (m && a) ≡ m
kept true true e = refl
kept true false e = sym e
kept false a e = refl

module _ (m a : ℕ) (hm : m < 2 ^ 32) (ha : a < 2 ^ 32) where
  -- if no required bit is missing, m & a == m
  pub none_missing : missing_bits m a ≡ 0 → bit_and m a ≡ m
  unfolding missing_bits
  none_missing e = same_word 32 (bit_and m a) m (and_lt 32 m a hm ha) hm
      (λ i l. set_and i m a ∙ kept (is_set m i) (is_set a i) (many_zero 32 (is_missing m a) e i l))

  -- if no prohibited bit is set, m & a == 0
  pub none_prohibited : prohibited_bits m a ≡ 0 → bit_and m a ≡ 0
  unfolding prohibited_bits
  none_prohibited e = same_word 32 (bit_and m a) 0 (and_lt 32 m a hm ha) (lit< tt)
      (λ i l. set_and i m a ∙ many_zero 32 (is_prohibited m a) e i l ∙ sym (set_zero i))

-- ---- the lowest bit that offends

module _ (must cant a : ℕ) where
  abbrev offends : ℕ → Bool
  offends i = is_missing must a i || is_prohibited cant a i

  -- below it none offends
  pub lowest_first : (i : ℕ) → i < lowest_bit must cant a → offends i ≡ false
  unfolding lowest_bit
  lowest_first i l = least_under 32 offends i l

  -- it does, if it is one of the 32
  pub lowest_offends : lowest_bit must cant a < 32 → offends (lowest_bit must cant a) ≡ true
  unfolding lowest_bit
  lowest_offends l = least_passes 32 offends l

  -- which it is, if any is counted
  pub lowest_below : ((missing_bits must a ≡ 0) × (prohibited_bits cant a ≡ 0) → ⊥) → lowest_bit must cant a < 32
  unfolding missing_bits prohibited_bits
  lowest_below h = go (ltb (lowest_bit must cant a) 32) refl
    where
      none : ltb (lowest_bit must cant a) 32 ≡ false → (i : ℕ) → i < 32 → offends i ≡ false
      none e i l = let k = ltb-false (lowest_bit must cant a) 32 e in lowest_first i (omega arith)

      left : (m p : Bool) → (m || p) ≡ false → m ≡ false
      left true p e = absurd (true≢false e)
      left false p e = refl

      right : (m p : Bool) → (m || p) ≡ false → p ≡ false
      right true p e = absurd (true≢false e)
      right false p e = e

      go : (b : Bool) → ltb (lowest_bit must cant a) 32 ≡ b → lowest_bit must cant a < 32
      go true e = ltb-true (lowest_bit must cant a) 32 e
      go false e = absurd (h (
        zero_many 32 (is_missing must a) (λ i l. left _ _ (none e i l)),
        zero_many 32 (is_prohibited cant a) (λ i l. right (is_missing must a i) _ (none e i l)),
      ))
