-- Patterns that overlap show the same bits in their last four units, where both count. Assumes nothing.
use Rattle.std.specs.Prelude.{ℕ, ◌+◌, ◌-◌, ◌%◌, ◌≤◌, ◌<◌, ◌≡◌, refl, Bool, cond, length, eqb}
use Rattle.std.proofs.Common.{sym, ap, ◌∙◌, arith}
use Rattle.std.proofs.Math.Bool.{true, false}
use Rattle.std.specs.Int.Bits.{bit_and, and_zero_l, and_zero_r, and_lt}
use Rattle.std.proofs.Math.Dec.{leb}
use borrow.Author.Tests.{eqb-true, leb-true, leb-false, le-leb, lt-leb}
use Rattle.slices.specs.Bytes.{Bytes, le16, le64}
use Rattle.names.specs.Name.{number_sign, is_hex_digit}
use Rattle.names.proofs.NameLaws.{pairs_from, pairs_first, pairs_last}
use Rattle.names.specs.Tail.{word, TailBy}
use Rattle.names.proofs.TailLaws.{InBytes, masked, word_and, word_same, unit_most}
use Rattle.patterns.specs.Common.{overlap, units_overlap}
use Rattle.patterns.proofs.CommonLaws.{overlap_cases, overlap_pairs}
use Rattle.patterns.specs.Literals.{literal_mask, literal_mask_at, literal_mask_of, literals_of}

-- ---- one unit
-- units that overlap are equal, or one has no bit that counts
unit_literals : (x y : ℕ) → units_overlap x y ≡ true → bit_and (bit_and x (literal_mask x)) (literal_mask y) ≡ bit_and (bit_and y (literal_mask y)) (literal_mask x)
unfolding literal_mask
unit_literals x y h = go (eqb x number_sign) (eqb y number_sign) (sym (overlap_cases x y) ∙ h)
  where
    go : (s t : Bool) → cond s (cond t true (is_hex_digit y)) (cond t (is_hex_digit x) (eqb y x)) ≡ true
        → bit_and (bit_and x (cond s 0 65535)) (cond t 0 65535) ≡ bit_and (bit_and y (cond t 0 65535)) (cond s 0 65535)
    go true t k = simp (and_zero_r, and_zero_l)
    go false true k = simp (and_zero_r, and_zero_l)
    go false false k = rw (eqb-true y x k)

mask_most : (u : ℕ) → literal_mask u < 65536
unfolding literal_mask
mask_most u = go (eqb u number_sign)
  where
    go : (b : Bool) → cond b 0 65535 < 65536
    go true = omega arith
    go false = omega arith

-- the bits that count of the unit from byte i on
abbrev literal : Bytes → ℕ → ℕ
literal p i = bit_and (le16 p i) (literal_mask (le16 p i))

-- ---- four units
module _ (p : Bytes) (hp : InBytes p) (i : ℕ) (l : i + 8 ≤ length p) where
  literals_at : bit_and (le64 p i) (literal_mask_at p i) ≡ word (literal p i) (literal p (i + 2)) (literal p (i + 4)) (literal p (i + 6))
  literals_at = masked literal_mask mask_most p p hp i l

  -- those that count of q's too
  shared_at : (q : Bytes)
      → bit_and (bit_and (le64 p i) (literal_mask_at p i)) (literal_mask_at q i)
      ≡ word (bit_and (literal p i) (literal_mask (le16 q i))) (bit_and (literal p (i + 2)) (literal_mask (le16 q (i + 2))))
      (bit_and (literal p (i + 4)) (literal_mask (le16 q (i + 4)))) (bit_and (literal p (i + 6)) (literal_mask (le16 q (i + 6))))
  shared_at q =
      let most : (k : ℕ) → k + 2 ≤ length p → literal p k < 65536 = λ k h. and_lt 16 _ _ (unit_most p hp k h) (mask_most (le16 p k)) in
      ap (λ (n : ℕ). bit_and n (literal_mask_at q i)) literals_at
      ∙ word_and _ _ _ _ _ _ _ _ (most i (omega arith)) (most (i + 2) (omega arith)) (most (i + 4) (omega arith)) (mask_most _) (mask_most _) (mask_most _)

module _ (p q : Bytes) (hp : InBytes p) (hq : InBytes q) (as_long : length p ≡ length q) (even : length p % 2 ≡ 0) (o : overlap p q ≡ true) where
  -- the unit that begins n bytes before the end
  same_bits : (n i : ℕ) → i ≡ length q - n → n ≤ length q → n % 2 ≡ 0 → 2 ≤ n → bit_and (literal p i) (literal_mask (le16 q i)) ≡ bit_and (literal q i) (literal_mask (le16 p i))
  same_bits n i z h e k =
      let f : pairs_from units_overlap p q i ≡ true = rw z (pairs_last units_overlap p q (omega arith) (sym (overlap_pairs p q) ∙ o) n h e) in
      unit_literals (le16 p i) (le16 q i) (pairs_first units_overlap p q i (omega arith) (omega arith) refl refl f)

  same_words : (i : ℕ) → i + 8 ≡ length q
      → bit_and (bit_and (le64 p i) (literal_mask_at p i)) (literal_mask_at q i) ≡ bit_and (bit_and (le64 q i) (literal_mask_at q i)) (literal_mask_at p i)
  same_words i l =
      shared_at p hp i (omega arith) q
      ∙ word_same (same_bits 8 i (omega arith) (omega arith) refl (omega arith)) (same_bits 6 (i + 2) (omega arith) (omega arith) refl (omega arith))
      (same_bits 4 (i + 4) (omega arith) (omega arith) refl (omega arith)) (same_bits 2 (i + 6) (omega arith) (omega arith) refl (omega arith))
      ∙ sym (shared_at q hq i (omega arith) p)

  -- PATTERNS THAT OVERLAP SHOW THE SAME BITS WHERE BOTH COUNT
  pub literals_agree : bit_and (literals_of p) (literal_mask_of q) ≡ bit_and (literals_of q) (literal_mask_of p)
  unfolding literals_of literal_mask_of
  literals_agree = rw as_long (go (leb 8 (length q)) refl)
    where
      go : (b : Bool) → leb 8 (length q) ≡ b
          → bit_and (bit_and (le64 p (length q - 8)) (cond b (literal_mask_at p (length q - 8)) 0)) (cond b (literal_mask_at q (length q - 8)) 0)
          ≡ bit_and (bit_and (le64 q (length q - 8)) (cond b (literal_mask_at q (length q - 8)) 0)) (cond b (literal_mask_at p (length q - 8)) 0)
      go true e = same_words (length q - 8) (omega (arith, leb-true 8 (length q) e))
      go false e = simp and_zero_r

-- ---- what the code hands back
module _ (p : Bytes) where
  pub literals_short : length p < 8 → (0 ≡ literal_mask_of p) × (0 ≡ literals_of p)
  unfolding literals_of literal_mask_of
  literals_short h = let e = lt-leb 8 (length p) h in (rw e, rw (e, and_zero_r))

  pub literals_long : 8 ≤ length p → (literal_mask_at p (length p - 8) ≡ literal_mask_of p) × (bit_and (le64 p (length p - 8)) (literal_mask_at p (length p - 8)) ≡ literals_of p)
  unfolding literals_of literal_mask_of
  literals_long h = let e = le-leb 8 (length p) h in (rw e, rw e)

  pub literals_tail : {mask shown : ℕ} → TailBy literal_mask p mask shown → (mask ≡ literal_mask_of p) × (shown ≡ literals_of p)
  literals_tail {mask} {shown} t = go (leb 8 (length p)) refl
    where
      go : (b : Bool) → leb 8 (length p) ≡ b → (mask ≡ literal_mask_of p) × (shown ≡ literals_of p)
      go true e =
          let h = leb-true 8 (length p) e in
          ((t.long h).0 ∙ (literals_long h).0, (t.long h).1 ∙ (literals_long h).1)
      go false e =
          let h : length p < 8 = omega (arith, leb-false 8 (length p) e) in
          ((t.short h).0 ∙ (literals_short h).0, (t.short h).1 ∙ (literals_short h).1)
