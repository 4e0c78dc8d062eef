-- Names that match have the same bits under the mask of the last four units. Assumes nothing.
use Rattle.std.specs.Prelude.{ℕ, ◌+◌, ◌-◌, ◌*◌, ◌%◌, ◌≤◌, ◌<◌, ◌≡◌, refl, Bool, true, false, cond, length, get_or, eqb, leb}
use Rattle.std.proofs.Common.{sym, ap, ap₂, ◌∙◌, arith, eqb-true, leb-true, leb-false}
use Rattle.std.specs.Int.Bits.{bit_and, bit_xor, and_zero_r}
use Rattle.std.proofs.lemmas.Nat.{and_block}
use Rattle.lists.specs.Lists.{All, nil, more}
use Rattle.lists.proofs.ListsLaws.{all_among}
use Rattle.slices.specs.Test.{◌and◌}
use Rattle.slices.specs.Bytes.{Bytes, le16, le32, le64, pairwise}
use Rattle.names.specs.Name.{units, number_sign, hex_digits, is_hex_digit, unit_matches}
use Rattle.names.proofs.NameLaws.{hex_digits_lem, matches_from, pairs_first, pairs_last}
use Rattle.names.specs.Tail.{unit_mask, word, masks_at, mask_at, TailOf}

-- ---- one unit
abbrev Agrees : ℕ → Type 0
Agrees u = bit_and number_sign (unit_mask u) ≡ bit_and u (unit_mask u)

signs_agree : All Agrees hex_digits
unfolding unit_mask is_hex_digit ◌and◌
signs_agree = more refl (more refl (more refl (more refl (more refl (more refl (more refl (more refl (more refl (more refl (more refl (more refl (more refl (more refl (more refl (more refl (more refl (more refl (more refl (more refl (more refl (more refl nil)))))))))))))))))))))

unit_agrees : (p u : ℕ) → unit_matches p u ≡ true → bit_and p (unit_mask u) ≡ bit_and u (unit_mask u)
unfolding unit_matches
unit_agrees p u h = go (eqb p number_sign) refl h
  where
    go : (b : Bool) → eqb p number_sign ≡ b → cond b (is_hex_digit u) (eqb p u) ≡ true → bit_and p (unit_mask u) ≡ bit_and u (unit_mask u)
    go true e k = ap (λ (n : ℕ). bit_and n (unit_mask u)) (eqb-true p number_sign e) ∙ all_among hex_digits signs_agree u ((hex_digits_lem u).0 k)
    go false e k = ap (λ (n : ℕ). bit_and n (unit_mask u)) (eqb-true p u k)

mask_most : (u : ℕ) → unit_mask u < 65536
unfolding unit_mask
mask_most u = go (is_hex_digit u)
  where
    go : (b : Bool) → cond b (65535 - bit_xor u number_sign) 65535 < 65536
    go true = omega arith
    go false = omega arith

-- ---- four units
two_and : (a b x y : ℕ) → a < 65536 → x < 65536 → bit_and (a + 65536 * b) (x + 65536 * y) ≡ bit_and a x + 65536 * bit_and b y
two_and a b x y h k =
    let e : a + 65536 * b ≡ b * 65536 + a = omega arith in
    let f : x + 65536 * y ≡ y * 65536 + x = omega arith in
    ap₂ bit_and e f ∙ and_block 16 b y a x h k ∙ omega arith

pub word_and : (a b c d w x y z : ℕ) → a < 65536 → b < 65536 → c < 65536 → w < 65536 → x < 65536 → y < 65536
    → bit_and (word a b c d) (word w x y z) ≡ word (bit_and a w) (bit_and b x) (bit_and c y) (bit_and d z)
word_and a b c d w x y z ha hb hc hw hx hy =
    two_and a _ w _ ha hw
    ∙ ap (λ (n : ℕ). bit_and a w + 65536 * n) (two_and b _ x _ hb hx ∙ ap (λ (n : ℕ). bit_and b x + 65536 * n) (two_and c d y z hc hy))

pub word_same : {a b c d w x y z : ℕ} → a ≡ w → b ≡ x → c ≡ y → d ≡ z → word a b c d ≡ word w x y z
word_same e f g h = omega arith

-- eight bytes are four units
pub le64_word : (s : Bytes) (i : ℕ) → le64 s i ≡ word (le16 s i) (le16 s (i + 2)) (le16 s (i + 4)) (le16 s (i + 6))
unfolding le64 le32
le64_word s i =
    let e : i + 4 + 2 ≡ i + 6 = omega arith in
    rw e (omega arith)

-- each number of a list is a byte
abbrev pub InBytes : Bytes → Type 0
InBytes s = (k : ℕ) → k < length s → get_or s k 0 < 256

pub unit_most : (s : Bytes) → InBytes s → (i : ℕ) → i + 2 ≤ length s → le16 s i < 65536
unfolding le16
unit_most s h i l = omega (arith, h i (omega arith), h (i + 1) (omega arith))

-- eight bytes under the masks that t makes of four units
module _ (t : ℕ → ℕ) (most : (u : ℕ) → t u < 65536) where
  pub masked : (v s : Bytes) → InBytes s → (i : ℕ) → i + 8 ≤ length s
      → bit_and (le64 s i) (masks_at t v i)
      ≡ word (bit_and (le16 s i) (t (le16 v i))) (bit_and (le16 s (i + 2)) (t (le16 v (i + 2)))) (bit_and (le16 s (i + 4)) (t (le16 v (i + 4)))) (bit_and (le16 s (i + 6)) (t (le16 v (i + 6))))
  masked v s h i l =
      ap (λ (n : ℕ). bit_and n (masks_at t v i)) (le64_word s i)
      ∙ word_and _ _ _ _ _ _ _ _ (unit_most s h i (omega arith)) (unit_most s h (i + 2) (omega arith)) (unit_most s h (i + 4) (omega arith)) (most _) (most _) (most _)

-- ---- the last four units of names that match
module _ (p v : Bytes) (hp : InBytes p) (hv : InBytes v) (as_long : length p ≡ length v) (even : length v % 2 ≡ 0) (m : pairwise unit_matches (units p) (units v) ≡ true) where
  -- the unit that begins n bytes before the end
  same_bits : (n i : ℕ) → i ≡ length v - n → n ≤ length v → n % 2 ≡ 0 → 2 ≤ n → bit_and (le16 p i) (unit_mask (le16 v i)) ≡ bit_and (le16 v i) (unit_mask (le16 v i))
  same_bits n i z h e k =
      let f : matches_from p v i ≡ true = rw z (pairs_last unit_matches p v even m n h e) in
      unit_agrees (le16 p i) (le16 v i) (pairs_first unit_matches p v i (omega arith) (omega arith) refl refl f)

  same_words : 8 ≤ length v → bit_and (le64 p (length v - 8)) (mask_at v (length v - 8)) ≡ bit_and (le64 v (length v - 8)) (mask_at v (length v - 8))
  same_words long =
      let i = length v - 8 in
      masked unit_mask mask_most v p hp i (omega arith)
      ∙ word_same (same_bits 8 i refl (omega arith) refl (omega arith)) (same_bits 6 (i + 2) (omega arith) (omega arith) refl (omega arith))
      (same_bits 4 (i + 4) (omega arith) (omega arith) refl (omega arith)) (same_bits 2 (i + 6) (omega arith) (omega arith) refl (omega arith))
      ∙ sym (masked unit_mask mask_most v v hv i (omega arith))

  -- NAMES THAT MATCH SHOW THE SAME BITS: w is the word at the end of the pattern, or anything where it has fewer than four units
  pub tail_shows : (mask shown w : ℕ) → TailOf v mask shown → (8 ≤ length v → w ≡ le64 p (length v - 8)) → bit_and w mask ≡ shown
  tail_shows mask shown w t e = go (leb 8 (length v)) refl
    where
      go : (b : Bool) → leb 8 (length v) ≡ b → bit_and w mask ≡ shown
      go true q =
          let l = leb-true 8 (length v) q in
          ap₂ bit_and (e l) (t.long l).0 ∙ same_words l ∙ sym (t.long l).1
      go false q =
          let s = t.short (omega (arith, leb-false 8 (length v) q)) in
          ap (bit_and w) s.0 ∙ and_zero_r w ∙ sym s.1
