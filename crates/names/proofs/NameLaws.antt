-- Laws of names, which proofs cite instead of the definitions' text. Assumes nothing.
use Rattle.std.specs.Prelude.{ℕ, zero, suc, ◌+◌, ◌-◌, ◌*◌, ◌/◌, ◌%◌, ◌≤◌, ◌<◌, ◌≡◌, refl, List, [], ◌∷◌, ◌++◌, Bool, true, false, not, ◌||◌, ◌&&◌, cond, ◌↔◌, ◌⊎◌, length, get_or, take, drop, eqb, leb}
use Rattle.std.proofs.Common.{sym, ap, ap₂, ◌∙◌, inl, inr, zero-add, suc-mul, zero-mul, drop_of_length-le, length-append, length-drop, length-take, take-append-drop, get_or-append-add, eq-eqb, ne_eqb, le-leb, leb-true, eqb-true}
use Rattle.std.proofs.lemmas.Bool.{false≢true, eqb-false, not-true}
use native.Mathlib.Omega.{arith}
use Rattle.std.proofs.Math.Seq.{get_or-append_seam, take-append_seam}
use Rattle.std.specs.Int.Bits.{bit_and, and_zero_l}
use Rattle.std.specs.Int.{from_le_bytes, w16}
use Rattle.std.specs.List.{fold, list_all, prefix_len, zip, filter, sum_by}
use Rattle.std.specs.Simd.{first_chunks}
use Rattle.std.specs.Cmp.Lexicographic.{pointwise}
use Rattle.std.proofs.lemmas.List.Folds.{length-prefix_len}
use Rattle.std.proofs.lemmas.List.Sums.{sum_by-cons}
use lib.Seq.{drop-drop}
use Rattle.limits.specs.Limits.{max_name_bytes, namespace_bytes}
use Rattle.lists.specs.Lists.{All, nil, more, Among}
use Rattle.lists.proofs.ListsLaws.{all_among, among_left, among_right}
use Rattle.slices.specs.Test.{◌and◌}
use Rattle.slices.proofs.TestLaws.{or_cases, and_left, and_right, and_intro, and_no, and_off, and_yes, and_assoc, and_eager}
use Rattle.slices.specs.Bytes.{Bytes, le16, pairwise}
use Rattle.slices.proofs.BytesLaws.{pairwise_later, same_eq, same_of, same_eight, same_last}
use Rattle.slices.proofs.PartLaws.{drop_step}
use Rattle.names.specs.Name.{units, each, no_zero, is_name, is_terminated, Variable, named, hex_digits, is_hex_digit, unit_matches, wildcards, number_sign, one_if, is_plain_terminated, name_length, closed, signs_in, plain_unit, unit_near}

pub units_length : (s : Bytes) → length (units s) ≡ length s / 2
unfolding units
units_length [] = refl
units_length (a ∷ []) = refl
units_length (a ∷ b ∷ rest) = omega (arith, units_length rest)

-- a unit is its two bytes
pub units_at : (s : Bytes) (k : ℕ) → k < length s / 2 → get_or (units s) k 0 ≡ get_or s (2 * k) 0 + 256 * get_or s (2 * k + 1) 0
unfolding units
units_at [] k h = absurd (omega (arith, h))
units_at (a ∷ []) k h = absurd (omega (arith, h))
units_at (a ∷ b ∷ rest) zero h = refl
units_at (a ∷ b ∷ rest) (suc k) h =
    let e : 2 * suc k ≡ suc (suc (2 * k)) = omega arith in
    let e₁ : 2 * suc k + 1 ≡ suc (suc (2 * k + 1)) = omega arith in
    rw (e₁, e) (units_at rest k (omega arith))

-- the bytes of the whole units have all the units
pub units_whole : (k : ℕ) (s : Bytes) → k ≡ length (units s) → units (take (2 * k) s) ≡ units s
unfolding units
units_whole zero [] e = refl
units_whole zero (a ∷ []) e = refl
units_whole zero (a ∷ b ∷ s) e = absurd (omega arith)
units_whole (suc k) [] e = absurd (omega arith)
units_whole (suc k) (a ∷ []) e = absurd (omega arith)
units_whole (suc k) (a ∷ b ∷ s) e =
    let n : 2 * suc k ≡ suc (suc (2 * k)) = omega arith in
    rw (n, units_whole k s (omega arith))

-- one turn of a loop over the bytes of the units
module _ (s : Bytes) (i : ℕ) (h : i + 2 ≤ length s) where
  units_step : units (drop i s) ≡ le16 s i ∷ units (drop (i + 2) s)
  unfolding units le16
  units_step =
      let e : i + 1 + 1 ≡ i + 2 = omega arith in
      rw (drop_step s i (omega arith), drop_step s (i + 1) (omega arith), e)

  module _ (test : ℕ → Bool) where
    each_step : each test (units (drop i s)) ≡ (test (le16 s i) and each test (units (drop (i + 2) s)))
    unfolding each
    each_step = rw units_step

    pub each_hit : test (le16 s i) ≡ false → each test (units (drop i s)) ≡ false
    each_hit e = each_step ∙ rw e (and_off (each test (units (drop (i + 2) s))))

    pub each_miss : test (le16 s i) ≡ true → each test (units (drop i s)) ≡ each test (units (drop (i + 2) s))
    unfolding ◌and◌
    each_miss e = each_step ∙ rw e

-- the same where the loop goes on after a unit that does not pass
pub each_more : (test : ℕ → Bool) {a b : Bool} (ok : Bool) (s : Bytes) (i j : ℕ) → i + j + 2 ≤ length s → a ≡ (ok and each test (units (drop (i + j) s)))
    → b ≡ test (le16 s (i + j)) → a ≡ ((ok && b) and each test (units (drop (i + (j + 2)) s)))
each_more test ok s i j h e v =
    let n : i + (j + 2) ≡ i + j + 2 = omega arith in
    e ∙ rw (v, n, and_eager, each_step s (i + j) h test) (sym (and_assoc ok (test (le16 s (i + j))) (each test (units (drop (i + j + 2) s)))))

-- no whole unit is left
units_end : (s : Bytes) (i : ℕ) → length s < i + 2 → units (drop i s) ≡ []
unfolding units
units_end s i h = go (drop i s) (omega (arith, length-drop i s))
  where
    go : (t : Bytes) → length t < 2 → units t ≡ []
    go [] k = refl
    go (a ∷ []) k = refl
    go (a ∷ b ∷ t) k = absurd (omega arith)

pub each_end : (test : ℕ → Bool) (s : Bytes) (i : ℕ) → length s < i + 2 → each test (units (drop i s)) ≡ true
unfolding each
each_end test s i h = rw (units_end s i h)

-- of less than two bytes there is no unit, and of more the first two are the first one
pub units_none : (s : Bytes) → length s < 2 → units s ≡ []
units_none s h = units_end s 0 h

pub units_read : {n : ℕ} (s : Bytes) → 2 ≤ length s → n ≡ from_le_bytes w16 (take 2 s) → units s ≡ n ∷ units (drop 2 s)
unfolding units
units_read [] h e = absurd (omega arith)
units_read (a ∷ []) h e = absurd (omega arith)
units_read (a ∷ b ∷ s) h e = rw e (ap (λ n. (a + n) ∷ units s) {x = 256 * b} {y = b * 256} (omega arith))

module _ (s : Bytes) (i : ℕ) (h : i + 2 ≤ length s) where
  pub wildcards_step : wildcards (units (drop i s)) ≡ one_if (eqb (le16 s i) number_sign) + wildcards (units (drop (i + 2) s))
  unfolding wildcards
  wildcards_step = rw (units_step s i h)

  pub wildcards_hit : le16 s i ≡ number_sign → wildcards (units (drop i s)) ≡ 1 + wildcards (units (drop (i + 2) s))
  wildcards_hit e = wildcards_step ∙ rw (eq-eqb (le16 s i) number_sign e)

  pub wildcards_miss : (le16 s i ≡ number_sign → ⊥) → wildcards (units (drop i s)) ≡ wildcards (units (drop (i + 2) s))
  wildcards_miss e = wildcards_step ∙ rw (ne_eqb (le16 s i) number_sign e) (omega arith)

pub wildcards_end : (s : Bytes) (i : ℕ) → length s < i + 2 → wildcards (units (drop i s)) ≡ 0
unfolding wildcards
wildcards_end s i h = rw (units_end s i h)

-- what `==` says of two slices, or of two arrays, of bytes
pub pointwise_same : (l m : Bytes) → pointwise eqb l m ≡ pairwise eqb l m
unfolding pairwise
pointwise_same [] [] = refl
pointwise_same [] (y ∷ m) = refl
pointwise_same (x ∷ l) [] = refl
pointwise_same (x ∷ l) (y ∷ m) = rw (and_eager, pointwise_same l m)

-- two names by words of eight bytes: k of them, and then what is behind them
words_same : ℕ → Bytes → Bytes → Bool
words_same k l m = list_all (λ w. pointwise eqb w.0 w.1) (zip (first_chunks 8 k l) (first_chunks 8 k m))

each_word : (k : ℕ) (l m : Bytes) → pairwise eqb l m ≡ (words_same k l m and pairwise eqb (drop (k * 8) l) (drop (k * 8) m))
unfolding ◌and◌ words_same
each_word zero l m = refl
each_word (suc k) l m =
    let first : Bool = pointwise eqb (take 8 l) (take 8 m) in
    let n : 8 + k * 8 ≡ suc k * 8 = omega arith in
    same_eight l m 0 refl ∙ ap₂ ◌and◌ (sym (pointwise_same (take 8 l) (take 8 m)))
    (each_word k (drop 8 l) (drop 8 m) ∙ ap₂ (λ p v. words_same k (drop 8 l) (drop 8 m) and pairwise eqb p v) (drop-drop (k * 8) 8 l) (drop-drop (k * 8) 8 m))
    ∙ sym (and_assoc first (words_same k (drop 8 l) (drop 8 m)) (pairwise eqb (drop (8 + k * 8) l) (drop (8 + k * 8) m)))
    ∙ ap₂ (λ b j. b and pairwise eqb (drop j l) (drop j m)) (sym (and_eager first (words_same k (drop 8 l) (drop 8 m)))) n

-- names as long whose last words are the same: the words decide
pub words_decide : {x r : Bool} (k j : ℕ) (l m : Bytes) → x ≡ list_all (λ w. pointwise eqb w.0 w.1) (zip (first_chunks 8 k l) (first_chunks 8 j m))
    → length l ≡ length m → k ≡ length l / 8 → j ≡ length m / 8 → r ≡ pairwise eqb (take 8 (drop (length l - 8) l)) (take 8 (drop (length l - 8) m)) → r ≡ true → x ≡ pairwise eqb l m
unfolding ◌and◌ words_same
words_decide {x} k j l m e h a b last t =
    let n : j ≡ k = omega (arith, a, b, h) in
    let rest = same_last l m (length l - 8) last (k * 8) t (omega arith) (omega (arith, h)) (omega (arith, a)) in
    sym (each_word k l m ∙ rw rest (and_yes (words_same k l m)) ∙ ap (λ i. list_all (λ w. pointwise eqb w.0 w.1) (zip (first_chunks 8 k l) (first_chunks 8 i m))) (sym n) ∙ sym e)

-- ---- what a chain over units gives

-- a fold that goes on to their end
pub fold_each : (test : ℕ → Bool) (us : List ℕ) → fold (λ ok u. ok && test u) true us ≡ each test us
unfolding each ◌and◌
fold_each test us = go true us
  where
    go : (ok : Bool) (us : List ℕ) → fold (λ ok u. ok && test u) ok us ≡ (ok and each test us)
    go ok [] = sym (and_yes ok)
    go ok (u ∷ us) = go (ok && test u) us ∙ rw and_eager (and_assoc ok (test u) (each test us))

pub all_each : (test : ℕ → Bool) (us : List ℕ) → list_all test us ≡ each test us
unfolding each
all_each test [] = refl
all_each test (u ∷ us) = rw (and_eager, all_each test us)

units_cut : (k : ℕ) (s : Bytes) → units s ≡ units (take (2 * k) s) ++ units (drop (2 * k) s)
unfolding units
units_cut zero s = refl
units_cut (suc k) [] = let n : 2 * suc k ≡ suc (suc (2 * k)) = omega arith in rw n
units_cut (suc k) (a ∷ []) = let n : 2 * suc k ≡ suc (suc (2 * k)) = omega arith in rw n
units_cut (suc k) (a ∷ b ∷ s) = let n : 2 * suc k ≡ suc (suc (2 * k)) = omega arith in rw n (ap (λ l. (a + 256 * b) ∷ l) (units_cut k s))

each_append : (test : ℕ → Bool) (us vs : List ℕ) → each test (us ++ vs) ≡ (each test us and each test vs)
unfolding each ◌and◌
each_append test [] vs = refl
each_append test (u ∷ us) vs = rw (each_append test us vs) (sym (and_assoc (test u) (each test us) (each test vs)))

-- k blocks of n units, and then what is behind them
module _ (n : ℕ) (test : ℕ → Bool) where
  abbrev blocks_pass : ℕ → Bytes → Bool
  blocks_pass k s = list_all (λ b. each test (units b)) (first_chunks (2 * n) k s)

  each_blocks : (k : ℕ) (s : Bytes) → each test (units s) ≡ (blocks_pass k s and each test (units (drop (k * (2 * n)) s)))
  unfolding ◌and◌
  each_blocks zero s = rw (zero-mul (2 * n))
  each_blocks (suc k) s =
      let first : Bool = each test (units (take (2 * n) s)) in
      let m : 2 * n + k * (2 * n) ≡ suc k * (2 * n) = omega (arith, suc-mul k (2 * n)) in
      ap (each test) (units_cut n s) ∙ each_append test (units (take (2 * n) s)) (units (drop (2 * n) s))
      ∙ ap (λ b. first and b) (each_blocks k (drop (2 * n) s) ∙ ap (λ l. blocks_pass k (drop (2 * n) s) and each test (units l)) (drop-drop (k * (2 * n)) (2 * n) s))
      ∙ sym (and_assoc first (blocks_pass k (drop (2 * n) s)) (each test (units (drop (2 * n + k * (2 * n)) s))))
      ∙ ap₂ (λ b j. b and each test (units (drop j s))) (sym (and_eager first (blocks_pass k (drop (2 * n) s)))) m

  pub blocks_yes : {x : Bool} (k : ℕ) (s : Bytes) → x ≡ blocks_pass k s → x ≡ true → each test (units s) ≡ each test (units (drop (k * (2 * n)) s))
  unfolding ◌and◌
  blocks_yes k s e t = each_blocks k s ∙ rw (sym e ∙ t)

  pub blocks_no : {x : Bool} (k : ℕ) (s : Bytes) → x ≡ blocks_pass k s → x ≡ false → x ≡ each test (units s)
  unfolding ◌and◌
  blocks_no k s e f = f ∙ sym (each_blocks k s ∙ rw (sym e ∙ f))

-- the blocks from the start on that pass a test may be left out where it tells that each unit in them passes
module _ (test : ℕ → Bool) (P : Bytes → Bool) (tells : (b : Bytes) → P b ≡ true → each test (units b) ≡ true) where
  abbrev first_to_fail : ℕ → Bytes → ℕ
  first_to_fail k s = prefix_len P (first_chunks 16 k s)

  from_first : (k : ℕ) (s : Bytes) → each test (units s) ≡ each test (units (drop (16 * first_to_fail k s) s))
  unfolding ◌and◌
  from_first zero s = refl
  from_first (suc k) s = by (P (take 16 s)) refl (from_first k (drop 16 s))
    where
      others : ℕ
      others = first_to_fail k (drop 16 s)

      by : (b : Bool) → P (take 16 s) ≡ b → each test (units (drop 16 s)) ≡ each test (units (drop (16 * others) (drop 16 s)))
          → each test (units s) ≡ each test (units (drop (16 * cond b (1 + others) 0) s))
      by true t f =
          let n : 16 + 16 * others ≡ 16 * (1 + others) = omega arith in
          ap (each test) (units_cut 8 s) ∙ each_append test (units (take 16 s)) (units (drop 16 s)) ∙ ap (λ b. b and each test (units (drop 16 s))) (tells (take 16 s) t)
          ∙ f ∙ ap (λ l. each test (units l)) (drop-drop (16 * others) 16 s) ∙ ap (λ j. each test (units (drop j s))) n
      by false t f = refl

  pub blocks_passed : {n : ℕ} (k : ℕ) (s : Bytes) → n ≡ length (take (first_to_fail k s) (first_chunks 16 k s)) → each test (units s) ≡ each test (units (drop (16 * n) s))
  blocks_passed k s e = from_first k s ∙ ap (λ j. each test (units (drop (16 * j) s))) (sym (e ∙ length-prefix_len P (first_chunks 16 k s)))

-- ---- the same of pairs of units, as many of both

pairs_fold : (test : ℕ → ℕ → Bool) (ok : Bool) (us vs : List ℕ) → length us ≡ length vs → fold (λ ok p. ok && test p.0 p.1) ok (zip us vs) ≡ (ok and pairwise test us vs)
unfolding pairwise ◌and◌
pairs_fold test ok [] [] e = sym (and_yes ok)
pairs_fold test ok [] (v ∷ vs) e = absurd (omega arith)
pairs_fold test ok (u ∷ us) [] e = absurd (omega arith)
pairs_fold test ok (u ∷ us) (v ∷ vs) e = pairs_fold test (ok && test u v) us vs (omega arith) ∙ rw and_eager (and_assoc ok (test u v) (pairwise test us vs))

pub fold_pairs : (test : ℕ → ℕ → Bool) (us vs : List ℕ) → length us ≡ length vs → fold (λ ok p. ok && test p.0 p.1) true (zip us vs) ≡ pairwise test us vs
unfolding ◌and◌
fold_pairs test us vs e = pairs_fold test true us vs e

pub all_pairs : (test : ℕ → ℕ → Bool) (us vs : List ℕ) → length us ≡ length vs → list_all (λ p. test p.0 p.1) (zip us vs) ≡ pairwise test us vs
unfolding pairwise
all_pairs test [] [] e = refl
all_pairs test [] (v ∷ vs) e = absurd (omega arith)
all_pairs test (u ∷ us) [] e = absurd (omega arith)
all_pairs test (u ∷ us) (v ∷ vs) e = rw (and_eager, all_pairs test us vs (omega arith))

pairwise_append : (test : ℕ → ℕ → Bool) (us vs ws xs : List ℕ) → length us ≡ length vs → pairwise test (us ++ ws) (vs ++ xs) ≡ (pairwise test us vs and pairwise test ws xs)
unfolding pairwise ◌and◌
pairwise_append test [] [] ws xs e = refl
pairwise_append test [] (v ∷ vs) ws xs e = absurd (omega arith)
pairwise_append test (u ∷ us) [] ws xs e = absurd (omega arith)
pairwise_append test (u ∷ us) (v ∷ vs) ws xs e = rw (pairwise_append test us vs ws xs (omega arith)) (sym (and_assoc (test u v) (pairwise test us vs) (pairwise test ws xs)))

module _ (test : ℕ → ℕ → Bool) where
  -- the pairs of units of two byte strings, as long as each other
  abbrev pairs_pass : Bytes → Bytes → Bool
  pairs_pass p v = pairwise test (units p) (units v)

  -- the first eight, and those behind
  pairs_cut : (p v : Bytes) → length p / 2 ≡ length v / 2 → pairs_pass p v ≡ (pairs_pass (take 16 p) (take 16 v) and pairs_pass (drop 16 p) (drop 16 v))
  pairs_cut p v e =
      ap₂ (pairwise test) (units_cut 8 p) (units_cut 8 v)
      ∙ pairwise_append test (units (take 16 p)) (units (take 16 v)) (units (drop 16 p)) (units (drop 16 v))
      (omega (arith, e, units_length (take 16 p), units_length (take 16 v), length-take 16 p, length-take 16 v))

  abbrev pair_blocks : ℕ → Bytes → Bytes → List (Bytes × Bytes)
  pair_blocks k p v = zip (first_chunks 16 k p) (first_chunks 16 k v)

  abbrev pair_blocks_pass : ℕ → Bytes → Bytes → Bool
  pair_blocks_pass k p v = list_all (λ b. pairs_pass b.0 b.1) (pair_blocks k p v)

  each_pair_block : (k : ℕ) (p v : Bytes) → length p / 2 ≡ length v / 2 → pairs_pass p v ≡ (pair_blocks_pass k p v and pairs_pass (drop (k * 16) p) (drop (k * 16) v))
  unfolding ◌and◌
  each_pair_block zero p v e = refl
  each_pair_block (suc k) p v e =
      let first : Bool = pairs_pass (take 16 p) (take 16 v) in
      let others : Bool = pair_blocks_pass k (drop 16 p) (drop 16 v) in
      let n : 16 + k * 16 ≡ suc k * 16 = omega arith in
      pairs_cut p v e
      ∙ ap (λ b. first and b) (each_pair_block k (drop 16 p) (drop 16 v) (omega (arith, e, length-drop 16 p, length-drop 16 v))
      ∙ ap₂ (λ l m. others and pairs_pass l m) (drop-drop (k * 16) 16 p) (drop-drop (k * 16) 16 v))
      ∙ sym (and_assoc first others (pairs_pass (drop (16 + k * 16) p) (drop (16 + k * 16) v)))
      ∙ ap₂ (λ b j. b and pairs_pass (drop j p) (drop j v)) (sym (and_eager first others)) n

  -- how they pass where the blocks do, and where they do not
  module _ {x : Bool} (k j : ℕ) (p v : Bytes) (l : length p / 2 ≡ length v / 2) (n : k ≡ j) (e : x ≡ list_all (λ b. pairs_pass b.0 b.1) (zip (first_chunks 16 k p) (first_chunks 16 j v))) where
    blocks_x : x ≡ pair_blocks_pass k p v
    blocks_x = e ∙ ap (λ i. list_all (λ b. pairs_pass b.0 b.1) (zip (first_chunks 16 k p) (first_chunks 16 i v))) (sym n)

    pub pair_blocks_yes : x ≡ true → pairs_pass p v ≡ pairs_pass (drop (k * 16) p) (drop (j * 16) v)
    unfolding ◌and◌
    pair_blocks_yes t = each_pair_block k p v l ∙ rw (sym blocks_x ∙ t, ← n)

    pub pair_blocks_no : x ≡ false → x ≡ pairs_pass p v
    unfolding ◌and◌
    pair_blocks_no f = f ∙ sym (each_pair_block k p v l ∙ rw (sym blocks_x ∙ f))

-- behind the blocks there are as many
pub pairs_behind : (p v : Bytes) → length p / 2 ≡ length v / 2 → length (units (drop (length p / 16 * 16) p)) ≡ length (units (drop (length v / 16 * 16) v))
pairs_behind p v e =
    omega (arith, e, units_length (drop (length p / 16 * 16) p), units_length (drop (length v / 16 * 16) v), length-drop (length p / 16 * 16) p, length-drop (length v / 16 * 16) v)

-- the pairs of blocks from the start on that pass a test may be left out where it tells that each pair of units in them passes
module _ (test : ℕ → ℕ → Bool) (P : Bytes × Bytes → Bool) (tells : (b : Bytes × Bytes) → P b ≡ true → pairwise test (units b.0) (units b.1) ≡ true) where
  abbrev first_pair_to_fail : ℕ → Bytes → Bytes → ℕ
  first_pair_to_fail k p v = prefix_len P (zip (first_chunks 16 k p) (first_chunks 16 k v))

  from_first_pair : (k : ℕ) (p v : Bytes) → length p / 2 ≡ length v / 2
      → pairs_pass test p v ≡ pairs_pass test (drop (16 * first_pair_to_fail k p v) p) (drop (16 * first_pair_to_fail k p v) v)
  unfolding ◌and◌
  from_first_pair zero p v e = refl
  from_first_pair (suc k) p v e = by (P (take 16 p, take 16 v)) refl (from_first_pair k (drop 16 p) (drop 16 v) (omega (arith, e, length-drop 16 p, length-drop 16 v)))
    where
      others : ℕ
      others = first_pair_to_fail k (drop 16 p) (drop 16 v)

      by : (b : Bool) → P (take 16 p, take 16 v) ≡ b
          → pairs_pass test (drop 16 p) (drop 16 v) ≡ pairs_pass test (drop (16 * others) (drop 16 p)) (drop (16 * others) (drop 16 v))
          → pairs_pass test p v ≡ pairs_pass test (drop (16 * cond b (1 + others) 0) p) (drop (16 * cond b (1 + others) 0) v)
      by true t f =
          let n : 16 + 16 * others ≡ 16 * (1 + others) = omega arith in
          pairs_cut test p v e ∙ ap (λ b. b and pairs_pass test (drop 16 p) (drop 16 v)) (tells (take 16 p, take 16 v) t)
          ∙ f ∙ ap₂ (pairs_pass test) (drop-drop (16 * others) 16 p) (drop-drop (16 * others) 16 v) ∙ ap (λ j. pairs_pass test (drop j p) (drop j v)) n
      by false t f = refl

  pub pair_blocks_passed : {n : ℕ} (k j : ℕ) (p v : Bytes) → length p / 2 ≡ length v / 2 → k ≡ j
      → n ≡ length (take (prefix_len P (zip (first_chunks 16 k p) (first_chunks 16 j v))) (zip (first_chunks 16 k p) (first_chunks 16 j v)))
      → pairs_pass test p v ≡ pairs_pass test (drop (16 * n) p) (drop (16 * n) v)
  pair_blocks_passed {n} k j p v l q e =
      let m : n ≡ first_pair_to_fail k p v = e ∙ length-prefix_len P (zip (first_chunks 16 k p) (first_chunks 16 j v)) ∙ ap (λ i. prefix_len P (zip (first_chunks 16 k p) (first_chunks 16 i v))) (sym q) in
      from_first_pair k p v l ∙ ap (λ i. pairs_pass test (drop (16 * i) p) (drop (16 * i) v)) (sym m)

-- no more '#' than units
pub wildcards_le : (us : List ℕ) → wildcards us ≤ length us
unfolding wildcards
wildcards_le [] = omega arith
wildcards_le (u ∷ us) = at_most (eqb u number_sign) (wildcards_le us)
  where
    at_most : (b : Bool) → wildcards us ≤ length us → one_if b + wildcards us ≤ suc (length us)
    at_most true h = omega arith
    at_most false h = omega arith

-- counted by a sum
pub sum_wildcards : (us : List ℕ) → sum_by (λ u. one_if (eqb u number_sign)) us ≡ wildcards us
unfolding wildcards
sum_wildcards [] = refl
sum_wildcards (u ∷ us) = sum_by-cons (λ u. one_if (eqb u number_sign)) u us ∙ ap (λ n. one_if (eqb u number_sign) + n) (sum_wildcards us)

wildcards_append : (us vs : List ℕ) → wildcards (us ++ vs) ≡ wildcards us + wildcards vs
unfolding wildcards
wildcards_append [] vs = omega arith
wildcards_append (u ∷ us) vs = omega (arith, wildcards_append us vs)

-- units of which none is '#'
literal_units : (us : List ℕ) → each (λ u. not (eqb u number_sign)) us ≡ true → wildcards us ≡ 0
unfolding each wildcards
literal_units [] e = refl
literal_units (u ∷ us) e = by (eqb u number_sign) (and_left _ _ e) (literal_units us (and_right _ _ e))
  where
    by : (b : Bool) → not b ≡ true → wildcards us ≡ 0 → one_if b + wildcards us ≡ 0
    by true t k = absurd (false≢true t)
    by false t k = omega (arith, k)

-- a block in which not each unit is other than '#'
abbrev pub has_signs : Bytes → Bool
has_signs b = not (each (λ u. not (eqb u number_sign)) (units b))

-- the number of '#' in such blocks
abbrev pub signs_of_blocks : ℕ → Bytes → ℕ
signs_of_blocks k s = sum_by (λ b. wildcards (units b)) (filter has_signs (first_chunks 16 k s))

not_false : (b : Bool) → not b ≡ false → b ≡ true
not_false true e = refl
not_false false e = absurd (false≢true (sym e))

counted_blocks : (k : ℕ) (s : Bytes) (a : ℕ)
    → fold (λ n b. n + wildcards (units b)) a (filter has_signs (first_chunks 16 k s)) + wildcards (units (drop (k * 16) s)) ≡ a + wildcards (units s)
counted_blocks zero s a = refl
counted_blocks (suc k) s a = by (has_signs (take 16 s)) refl (counted_blocks k (drop 16 s))
  where
    first : ℕ
    first = wildcards (units (take 16 s))

    cut : wildcards (units s) ≡ first + wildcards (units (drop 16 s))
    cut = ap wildcards (units_cut 8 s) ∙ wildcards_append (units (take 16 s)) (units (drop 16 s))

    n : 16 + k * 16 ≡ suc k * 16
    n = omega arith

    others : List Bytes
    others = filter has_signs (first_chunks 16 k (drop 16 s))

    behind : wildcards (units (drop (k * 16) (drop 16 s))) ≡ wildcards (units (drop (suc k * 16) s))
    behind = ap (λ l. wildcards (units l)) (drop-drop (k * 16) 16 s ∙ ap (λ j. drop j s) n)

    by : (b : Bool) → has_signs (take 16 s) ≡ b
        → ((a : ℕ) → fold (λ n b. n + wildcards (units b)) a others + wildcards (units (drop (k * 16) (drop 16 s))) ≡ a + wildcards (units (drop 16 s)))
        → fold (λ n b. n + wildcards (units b)) a (cond b (take 16 s ∷ others) others) + wildcards (units (drop (suc k * 16) s)) ≡ a + wildcards (units s)
    by true t f = omega (arith, f (a + first), cut, behind)
    by false t f = omega (arith, f a, cut, behind, literal_units (units (take 16 s)) (not_false (each (λ u. not (eqb u number_sign)) (units (take 16 s))) t))

pub blocks_wildcards : (k : ℕ) (s : Bytes) → signs_of_blocks k s + wildcards (units (drop (k * 16) s)) ≡ wildcards (units s)
blocks_wildcards k s = counted_blocks k s 0 ∙ zero-add (wildcards (units s))

-- their number is at most that of the bytes
pub blocks_within : (k : ℕ) (s : Bytes) → signs_of_blocks k s + wildcards (units (drop (k * 16) s)) ≤ length s
blocks_within k s = omega (arith, blocks_wildcards k s, wildcards_le (units s), units_length s)

-- one turn of a loop that goes on to its end, over units that are no '#'
pub wildcards_clear : {n u : ℕ} (s : Bytes) (i j : ℕ) → i + j + 2 ≤ length s → u ≡ le16 s (i + j) → (ok : Bool) → (ok ≡ true → n ≡ wildcards (units (drop (i + j) s)))
    → (ok && not (eqb u number_sign)) ≡ true → n ≡ wildcards (units (drop (i + (j + 2)) s))
wildcards_clear {n} {u} s i j h v true f t =
    let k : i + (j + 2) ≡ i + j + 2 = omega arith in
    f refl ∙ rw k (wildcards_miss s (i + j) h (λ e. eqb-false u number_sign (not-true (eqb u number_sign) t) (v ∙ e)))
wildcards_clear s i j h v false f t = absurd (false≢true t)

-- the number of '#' from byte i on, after so many at the start, is at most that of the units
pub wildcards_within : (s : Bytes) (h i r rest : ℕ) → wildcards (units s) ≡ h + wildcards (units (drop i s)) → wildcards (units (drop i s)) ≡ r + rest → h + r ≤ length s
wildcards_within s h i r rest e f = omega (arith, wildcards_le (units s), units_length s)

-- each unit is neither zero nor '#' exactly if none is zero and the number of '#' is 0
pub plain_units : (us : List ℕ) → (no_zero us and eqb (wildcards us) 0) ≡ each plain_unit us
unfolding each wildcards ◌and◌
plain_units [] = refl
plain_units (u ∷ us) = go (not (eqb u 0)) (eqb u number_sign) (plain_units us)
  where
    go : (z b : Bool) → (no_zero us and eqb (wildcards us) 0) ≡ each plain_unit us
        → ((z and no_zero us) and eqb (one_if b + wildcards us) 0) ≡ ((z && not b) and each plain_unit us)
    go true true e = rw (ne_eqb (1 + wildcards us) 0 (λ k. omega arith)) (and_no (no_zero us))
    go true false e = rw zero-add e
    go false b e = refl

-- no '#' among the units exactly if their number is zero
pub wildcards_none : (us : List ℕ) → wildcards us ≡ 0 ↔ (Among number_sign us → ⊥)
unfolding wildcards
wildcards_none [] = ((λ e h. h), λ h. refl)
wildcards_none (u ∷ us) = go (eqb u number_sign) refl (wildcards_none us)
  where
    go : (b : Bool) → eqb u number_sign ≡ b → (wildcards us ≡ 0 ↔ (Among number_sign us → ⊥)) → (one_if b + wildcards us ≡ 0) ↔ (Among number_sign (u ∷ us) → ⊥)
    go true q f = ((λ e. absurd (omega arith)), λ h. absurd (h (inl (sym (eqb-true u number_sign q)))))
    go false q f = ((λ e h. go₁ (eqb-false u number_sign q) (f.0 (omega arith)) h), λ h. omega (arith, f.1 (λ k. h (inr k))))
      where
        go₁ : (u ≡ number_sign → ⊥) → (Among number_sign us → ⊥) → Among number_sign (u ∷ us) → ⊥
        go₁ n m (inl e) = n (sym e)
        go₁ n m (inr k) = m k

-- ---- what a test that holds tells

pub is_name-length : (s : Bytes) → is_name s ≡ true → (2 ≤ length s) × (length s ≤ max_name_bytes)
unfolding is_name
is_name-length s e =
    let e₁ = and_right _ _ (and_left _ _ e) in
    (leb-true 2 (length s) (and_left _ _ e₁), leb-true (length s) max_name_bytes (and_right _ _ e₁))

pub is_name-even : (s : Bytes) → is_name s ≡ true → length s % 2 ≡ 0
unfolding is_name
is_name-even s e = eqb-true _ _ (and_left _ _ (and_left _ _ e))

-- a terminated name is a name and two bytes more
pub is_terminated-name : (s : Bytes) → is_terminated s ≡ true → is_name (take (length s - 2) s) ≡ true
unfolding is_terminated
is_terminated-name s e = and_right _ _ e

pub is_terminated-length : (s : Bytes) → is_terminated s ≡ true → (4 ≤ length s) × (length s ≤ max_name_bytes + 2)
is_terminated-length s e =
    let n = is_name-length (take (length s - 2) s) (is_terminated-name s e) in
    omega (arith, length-take (length s - 2) s)

-- and those two bytes are zero
pub is_terminated-end : (s : Bytes) → is_terminated s ≡ true → drop (length s - 2) s ≡ 0 ∷ 0 ∷ []
unfolding is_terminated
is_terminated-end s e =
    let c = and_left _ _ e in
    let h = leb-true 2 (length s) (and_left _ _ c) in
    let c₁ = and_right _ _ c in
    let k : length s - 2 + 1 ≡ length s - 1 = omega arith in
    let low : get_or s (length s - 2) 0 ≡ 0 = eqb-true _ _ (and_left _ _ c₁) in
    let high : get_or s (length s - 1) 0 ≡ 0 = eqb-true _ _ (and_right _ _ c₁) in
    drop_step s (length s - 2) (omega arith) ∙ rw (low, k, drop_step s (length s - 1) (omega arith), high, drop_of_length-le s {i = length s - 1 + 1} (omega arith))

pub is_terminated-zeros : (s : Bytes) → is_terminated s ≡ true → s ≡ take (length s - 2) s ++ (0 ∷ 0 ∷ [])
is_terminated-zeros s e = sym (take-append-drop (length s - 2) s) ∙ ap (λ (l : Bytes). take (length s - 2) s ++ l) (is_terminated-end s e)

-- a name with a zero unit behind it is terminated
pub name_terminated : (s : Bytes) → is_name s ≡ true → is_terminated (s ++ (0 ∷ 0 ∷ [])) ≡ true
unfolding is_terminated
name_terminated s e =
    let l : length (s ++ (0 ∷ 0 ∷ [])) ≡ length s + 2 = length-append s (0 ∷ 0 ∷ []) in
    let a : length (s ++ (0 ∷ 0 ∷ [])) - 2 ≡ length s = omega arith in
    let b : length (s ++ (0 ∷ 0 ∷ [])) - 1 ≡ length s + 1 = omega arith in
    let low : get_or (s ++ (0 ∷ 0 ∷ [])) (length s) 0 ≡ 0 = get_or-append_seam s 0 (0 ∷ []) 0 in
    let high : get_or (s ++ (0 ∷ 0 ∷ [])) (length s + 1) 0 ≡ 0 = get_or-append-add s (0 ∷ 0 ∷ []) 1 0 in
    and_intro _ _
    (and_intro _ _ (le-leb 2 (length (s ++ (0 ∷ 0 ∷ []))) (omega arith))
    (and_intro _ _ (eq-eqb _ _ (ap (λ (i : ℕ). get_or (s ++ (0 ∷ 0 ∷ [])) i 0) a ∙ low))
    (eq-eqb _ _ (ap (λ (i : ℕ). get_or (s ++ (0 ∷ 0 ∷ [])) i 0) b ∙ high))))
    (rw (a, take-append_seam s (0 ∷ 0 ∷ [])) e)

-- the same without '#'
pub plain_terminated : (s : Bytes) → is_plain_terminated s ≡ true → is_terminated s ≡ true
unfolding is_plain_terminated
plain_terminated s e = and_left _ _ e

pub plain_wildcards : (s : Bytes) → is_plain_terminated s ≡ true → wildcards (units (take (length s - 2) s)) ≡ 0
unfolding is_plain_terminated
plain_wildcards s e = eqb-true _ 0 (and_right _ _ e)

pub name_plain_terminated : (s : Bytes) → is_name s ≡ true → wildcards (units s) ≡ 0 → is_plain_terminated (s ++ (0 ∷ 0 ∷ [])) ≡ true
unfolding is_plain_terminated
name_plain_terminated s e n =
    let k : length (s ++ (0 ∷ 0 ∷ [])) - 2 ≡ length s = omega (arith, length-append s (0 ∷ 0 ∷ [])) in
    and_intro _ _ (name_terminated s e) (rw (k, take-append_seam s (0 ∷ 0 ∷ [])) (eq-eqb (wildcards (units s)) 0 n))

pub named_namespace : (v : Variable) → named v ≡ true → length v.namespace ≡ namespace_bytes
unfolding named
named_namespace v e = eqb-true _ _ (and_left _ _ e)

pub named_name : (v : Variable) → named v ≡ true → is_name v.name ≡ true
unfolding named
named_name v e = and_right _ _ e

-- ---- the tests that the code makes, in the order of the code

pub name_tests : (s : Bytes) (signs : Bool) → (is_name s and signs_in signs s) ≡ (name_length (length s) and cond signs (no_zero (units s)) (each plain_unit (units s)))
unfolding is_name
name_tests s true = and_yes (name_length (length s) and no_zero (units s))
name_tests s false = and_assoc (name_length (length s)) (no_zero (units s)) _ ∙ ap (λ b. name_length (length s) and b) (plain_units (units s))

pub terminated_tests : (s : Bytes) (signs : Bool)
    → (is_terminated s and signs_in signs (take (length s - 2) s)) ≡ (closed s and (is_name (take (length s - 2) s) and signs_in signs (take (length s - 2) s)))
unfolding is_terminated
terminated_tests s signs = and_assoc (closed s) (is_name (take (length s - 2) s)) (signs_in signs (take (length s - 2) s))

pub closed_least : (s : Bytes) → closed s ≡ true → 2 ≤ length s
closed_least s e = leb-true 2 (length s) (and_left _ _ e)

-- a unit with a bit of a mask that '#' has none of is neither zero nor '#'
module _ (mask : ℕ) (none : bit_and number_sign mask ≡ 0) where
  clear_plain : (u : ℕ) → not (eqb (bit_and u mask) 0) ≡ true → plain_unit u ≡ true
  clear_plain u h = go (eqb u 0) refl (eqb u number_sign) refl
    where
      same_bits : (v : ℕ) → u ≡ v → bit_and v mask ≡ 0 → false ≡ true
      same_bits v e z = sym (ap (λ (w : ℕ). not (eqb (bit_and w mask) 0)) e ∙ ap not (eq-eqb _ 0 z)) ∙ h

      go : (a : Bool) → eqb u 0 ≡ a → (b : Bool) → eqb u number_sign ≡ b → (not a && not b) ≡ true
      go true p b q = same_bits 0 (eqb-true u 0 p) (and_zero_l mask)
      go false p true q = same_bits number_sign (eqb-true u number_sign q) none
      go false p false q = refl

  -- so are those of a block
  pub clear_block : (us : List ℕ) → each (λ u. not (eqb (bit_and u mask) 0)) us ≡ true → each plain_unit us ≡ true
  unfolding each
  clear_block [] e = refl
  clear_block (u ∷ us) e = and_intro _ _ (clear_plain u (and_left _ _ e)) (clear_block us (and_right _ _ e))

  -- one turn of a loop over such units
  pub plain_clear : {a : Bool} {u : ℕ} (s : Bytes) (i j : ℕ) → i + j + 2 ≤ length s → u ≡ le16 s (i + j) → (ok : Bool)
      → (ok ≡ true → a ≡ each plain_unit (units (drop (i + j) s))) → (ok && not (eqb (bit_and u mask) 0)) ≡ true → a ≡ each plain_unit (units (drop (i + (j + 2)) s))
  plain_clear s i j h v true f t =
      let n : i + (j + 2) ≡ i + j + 2 = omega arith in
      f refl ∙ rw n (each_miss s (i + j) h plain_unit (clear_plain (le16 s (i + j)) (rw v at t)))
  plain_clear s i j h v false f t = absurd (false≢true t)

-- the code asks for a unit that is zero or '#'
pub plain_unless : {u : ℕ} (v : ℕ) {t : Bool} → u ≡ v → (eqb u 0 || eqb u number_sign) ≡ t → plain_unit v ≡ not t
plain_unless {u} v h e = rw (← h) (go (eqb u 0) (eqb u number_sign) e)
  where
    go : (a b : Bool) {t : Bool} → (a || b) ≡ t → (not a && not b) ≡ not t
    go true b k = ap not k
    go false b k = ap not k

-- ---- which units are hex digits

-- n numbers from a on
abbrev run : ℕ → ℕ → List ℕ
run zero a = []
run (suc n) a = a ∷ run n (suc a)

in_run : (n a u : ℕ) → a ≤ u → u < a + n → Among u (run n a)
in_run zero a u h k = absurd (omega arith)
in_run (suc n) a u h k = go (eqb u a) refl (in_run n (suc a) u)
  where
    go : (b : Bool) → eqb u a ≡ b → (suc a ≤ u → u < suc a + n → Among u (run n (suc a))) → Among u (a ∷ run n (suc a))
    go true e f = inl (eqb-true u a e)
    go false e f = let d = eqb-false u a e in inr (f (omega arith) (omega arith))

in_range : (a b n u : ℕ) → suc b ≡ a + n → (leb a u and leb u b) ≡ true → Among u (run n a)
in_range a b n u e t =
    let low = leb-true a u (and_left _ _ t) in
    let high = leb-true u b (and_right (leb a u) (leb u b) t) in
    in_run n a u low (omega arith)

in_ranges : (u : ℕ) (p q r : Bool) → (p || (q || r)) ≡ true → (p ≡ true → Among u (run 10 0x30)) → (q ≡ true → Among u (run 6 0x41))
    → (r ≡ true → Among u (run 6 0x61)) → Among u hex_digits
in_ranges u true q r e f g h = among_left (run 10 0x30) (run 6 0x41 ++ run 6 0x61) u (f refl)
in_ranges u false true r e f g h = among_right (run 10 0x30) (run 6 0x41 ++ run 6 0x61) u (among_left (run 6 0x41) (run 6 0x61) u (g refl))
in_ranges u false false true e f g h = among_right (run 10 0x30) (run 6 0x41 ++ run 6 0x61) u (among_right (run 6 0x41) (run 6 0x61) u (h refl))
in_ranges u false false false e f g h = absurd (false≢true e)

all_hex : All (λ x. is_hex_digit x ≡ true) hex_digits
unfolding is_hex_digit ◌and◌
all_hex = more refl (more refl (more refl (more refl (more refl (more refl (more refl (more refl (more refl (more refl (more refl (more refl (more refl (more refl (more refl (more refl (more refl (more refl (more refl (more refl (more refl (more refl nil)))))))))))))))))))))

-- EXACTLY THE 22 UNITS ARE HEX DIGITS
pub hex_digits_lem : (u : ℕ) → is_hex_digit u ≡ true ↔ Among u hex_digits
unfolding is_hex_digit
hex_digits_lem u = (
  (λ e. in_ranges u (leb 0x30 u and leb u 0x39) (leb 0x41 u and leb u 0x46) (leb 0x61 u and leb u 0x66) e
      (in_range 0x30 0x39 10 u refl) (in_range 0x41 0x46 6 u refl) (in_range 0x61 0x66 6 u refl)),
  all_among hex_digits all_hex u,
)

-- the least is '0', and all are below 256
pub hex_range : (u : ℕ) → is_hex_digit u ≡ true → (0x30 ≤ u) × (u < 256)
unfolding is_hex_digit
hex_range u h = go (or_cases (leb 0x30 u and leb u 0x39) (leb 0x41 u and leb u 0x46 || leb 0x61 u and leb u 0x66) h)
  where
    range : (a b : ℕ) → 0x30 ≤ a → b < 256 → (leb a u and leb u b) ≡ true → (0x30 ≤ u) × (u < 256)
    range a b l m k = omega (arith, leb-true a u (and_left _ _ k), leb-true u b (and_right _ _ k))

    letter : ((leb 0x41 u and leb u 0x46) ≡ true) ⊎ ((leb 0x61 u and leb u 0x66) ≡ true) → (0x30 ≤ u) × (u < 256)
    letter (inl k) = range 0x41 0x46 (omega arith) (omega arith) k
    letter (inr k) = range 0x61 0x66 (omega arith) (omega arith) k

    go : ((leb 0x30 u and leb u 0x39) ≡ true) ⊎ ((leb 0x41 u and leb u 0x46 || leb 0x61 u and leb u 0x66) ≡ true) → (0x30 ≤ u) × (u < 256)
    go (inl k) = range 0x30 0x39 (omega arith) (omega arith) k
    go (inr k) = letter (or_cases (leb 0x41 u and leb u 0x46) (leb 0x61 u and leb u 0x66) k)

-- ---- what '#' and other units match

-- '#' MATCHES EXACTLY THE 22 HEX DIGITS
pub sign_matches : (u : ℕ) → unit_matches number_sign u ≡ true ↔ Among u hex_digits
unfolding unit_matches
sign_matches u = hex_digits_lem u

plain_unit_lem : (p u : ℕ) → eqb p number_sign ≡ false → unit_matches p u ≡ eqb p u
unfolding unit_matches
plain_unit_lem p u h = rw h

-- no unit matches '#'
unit_over_sign : (p : ℕ) → unit_matches p number_sign ≡ false
unfolding unit_matches is_hex_digit ◌and◌
unit_over_sign p = go (eqb p number_sign)
  where
    go : (b : Bool) → cond b false b ≡ false
    go true = refl
    go false = refl

plain_same : (ps us : List ℕ) → wildcards ps ≡ 0 → pairwise unit_matches ps us ≡ pairwise eqb ps us
unfolding pairwise wildcards
plain_same [] [] h = refl
plain_same [] (u ∷ us) h = refl
plain_same (p ∷ ps) [] h = refl
plain_same (p ∷ ps) (u ∷ us) h = go (eqb p number_sign) refl h (plain_same ps us)
  where
    go : (b : Bool) → eqb p number_sign ≡ b → one_if b + wildcards ps ≡ 0 → (wildcards ps ≡ 0 → pairwise unit_matches ps us ≡ pairwise eqb ps us)
        → (unit_matches p u and pairwise unit_matches ps us) ≡ (eqb p u and pairwise eqb ps us)
    go true e z f = absurd (omega arith)
    go false e z f = ap₂ ◌and◌ (plain_unit_lem p u e) (f (omega arith))

-- A PATTERN WITHOUT '#' MATCHES EXACTLY THE NAME THAT IS SPELLED LIKE IT
pub plain_matches : (ps us : List ℕ) → wildcards ps ≡ 0 → pairwise unit_matches ps us ≡ true ↔ ps ≡ us
plain_matches ps us h = ((λ e. same_eq ps us (sym (plain_same ps us h) ∙ e)), λ e. plain_same ps us h ∙ same_of ps us e)

-- A NAME WITH '#' IS MATCHED BY NO PATTERN
pub sign_in_name : (ps us : List ℕ) → Among number_sign us → pairwise unit_matches ps us ≡ false
unfolding pairwise
sign_in_name [] [] h = elim h [ ]
sign_in_name [] (u ∷ us) h = refl
sign_in_name (p ∷ ps) [] h = elim h [ ]
sign_in_name (p ∷ ps) (u ∷ us) (inl e) = rw (← e, unit_over_sign p) (and_off (pairwise unit_matches ps us))
sign_in_name (p ∷ ps) (u ∷ us) (inr h) = rw (sign_in_name ps us h) (and_no (unit_matches p u))

-- a unit that an entry's unit matches is that unit, or below 256, as hex digits are
pub unit_cases : (p u : ℕ) → unit_matches p u ≡ true → (p ≡ u) ⊎ (u < 256)
unfolding unit_matches
unit_cases p u h = go (eqb p number_sign) h
  where
    go : (b : Bool) → cond b (is_hex_digit u) (eqb p u) ≡ true → (p ≡ u) ⊎ (u < 256)
    go true k = inr (hex_range u k).1
    go false k = inl (eqb-true p u k)

-- ---- the comparison, as loops make it

-- the code's tests of a unit
pub unit_tests : (p u : ℕ) → ((eqb p u && not (eqb p number_sign)) || (eqb p number_sign && is_hex_digit u)) ≡ unit_matches p u
unfolding unit_matches
unit_tests p u = go (eqb p number_sign) (eqb p u)
  where
    go : (s b : Bool) → ((b && not s) || (s && is_hex_digit u)) ≡ cond s (is_hex_digit u) b
    go true true = refl
    go true false = refl
    go false true = refl
    go false false = refl

-- units that match are equal, or the pattern's is '#'
pub unit_nears : (p u : ℕ) → unit_matches p u ≡ true → (eqb p u || eqb p number_sign) ≡ true
unfolding unit_matches
unit_nears p u h = go (eqb p number_sign) (eqb p u) h
  where
    go : (s b : Bool) → cond s (is_hex_digit u) b ≡ true → (b || s) ≡ true
    go true true k = refl
    go true false k = refl
    go false b k = rw k

units_near : (ps us : List ℕ) → pairwise unit_matches ps us ≡ true → pairwise unit_near ps us ≡ true
unfolding pairwise
units_near [] [] e = refl
units_near [] (u ∷ us) e = absurd (false≢true e)
units_near (p ∷ ps) [] e = absurd (false≢true e)
units_near (p ∷ ps) (u ∷ us) e = and_intro _ _ (unit_nears p u (and_left _ _ e)) (units_near ps us (and_right _ _ e))

-- units that are the same in both, and no '#', match
abbrev pub plain_pair : ℕ → ℕ → Bool
plain_pair p u = eqb p u && not (eqb p number_sign)

pub plain_pairs : (ps us : List ℕ) → pairwise plain_pair ps us ≡ true → pairwise unit_matches ps us ≡ true
unfolding pairwise
plain_pairs [] [] e = refl
plain_pairs [] (u ∷ us) e = absurd (false≢true e)
plain_pairs (p ∷ ps) [] e = absurd (false≢true e)
plain_pairs (p ∷ ps) (u ∷ us) e = and_intro _ _ (go (eqb p u) (eqb p number_sign) refl refl (and_left _ _ e)) (plain_pairs ps us (and_right _ _ e))
  where
    go : (s t : Bool) → eqb p u ≡ s → eqb p number_sign ≡ t → (s && not t) ≡ true → unit_matches p u ≡ true
    go true false y z k = plain_unit_lem p u z ∙ y
    go true true y z k = absurd (false≢true k)
    go false t y z k = absurd (false≢true k)

-- of names that match the first eight units are near
pub front_near : {q w : Bytes} (p v : Bytes) → length p / 2 ≡ length v / 2 → q ≡ take 16 p → w ≡ take 16 v → pairwise unit_matches (units p) (units v) ≡ true
    → pairwise unit_near (units q) (units w) ≡ true
front_near p v l e f m = rw (e, f) (units_near (units (take 16 p)) (units (take 16 v)) (and_left _ _ (sym (pairs_cut unit_matches p v l) ∙ m)))

-- a comparison of the units of both, pair by pair, from byte i on
abbrev pub pairs_from : (ℕ → ℕ → Bool) → Bytes → Bytes → ℕ → Bool
pairs_from f p v i = pairwise f (units (drop i p)) (units (drop i v))

abbrev pub matches_from : Bytes → Bytes → ℕ → Bool
matches_from = pairs_from unit_matches

module _ (f : ℕ → ℕ → Bool) where
  -- one turn of a loop over the bytes of both, where a and b are the units from byte i on
  module _ (p v : Bytes) (i : ℕ) (h : i + 2 ≤ length p) (g : i + 2 ≤ length v) {a b : ℕ} (ea : a ≡ le16 p i) (eb : b ≡ le16 v i) where
    pairs_step : pairs_from f p v i ≡ (f a b and pairs_from f p v (i + 2))
    unfolding pairwise
    pairs_step = rw (units_step p i h, units_step v i g, ea, eb)

    pub pairs_hit : f a b ≡ true → pairs_from f p v i ≡ pairs_from f p v (i + 2)
    unfolding ◌and◌
    pairs_hit e = pairs_step ∙ rw e

    pub pairs_miss : f a b ≡ false → pairs_from f p v i ≡ false
    unfolding ◌and◌
    pairs_miss e = pairs_step ∙ rw e

    pub pairs_first : pairs_from f p v i ≡ true → f a b ≡ true
    pairs_first e = and_left _ _ (sym pairs_step ∙ e)

  -- no whole unit is left of either
  pub pairs_end : (p v : Bytes) (i : ℕ) → length p < i + 2 → length v < i + 2 → pairs_from f p v i ≡ true
  unfolding pairwise
  pairs_end p v i h g = rw (units_end p i h, units_end v i g)

-- one turn of a loop that goes on to its end, j bytes behind i
module _ (p v : Bytes) (i j : ℕ) (h : i + j + 2 ≤ length p) (g : i + j + 2 ≤ length v) {a b : ℕ} (ea : a ≡ le16 p (i + j)) (eb : b ≡ le16 v (i + j)) where
  behind : i + (j + 2) ≡ i + j + 2
  behind = omega arith

  pub pairs_more : (f : ℕ → ℕ → Bool) {x r : Bool} (ok : Bool) → x ≡ (ok and pairs_from f p v (i + j)) → r ≡ f a b → x ≡ ((ok && r) and pairs_from f p v (i + (j + 2)))
  pairs_more f ok e q =
      e ∙ rw (q, behind, and_eager, pairs_step f p v (i + j) h g ea eb) (sym (and_assoc ok (f a b) (pairs_from f p v (i + j + 2))))

  -- a unit that is the same in both, and no '#'
  pub matches_plain : {x : Bool} (ok : Bool) → (ok ≡ true → x ≡ matches_from p v (i + j)) → (ok && (eqb a b && not (eqb a number_sign))) ≡ true
      → x ≡ matches_from p v (i + (j + 2))
  matches_plain true f e = f refl ∙ pairs_hit unit_matches p v (i + j) h g ea eb (plain (eqb a b) (eqb a number_sign) refl refl e) ∙ rw behind
    where
      plain : (s t : Bool) → eqb a b ≡ s → eqb a number_sign ≡ t → (s && not t) ≡ true → unit_matches a b ≡ true
      plain true false y z k = plain_unit_lem a b z ∙ y
      plain true true y z k = absurd (false≢true k)
      plain false t y z k = absurd (false≢true k)
  matches_plain false f e = absurd (false≢true e)

  -- what holds as long as all before match
  pub matches_near : {x r : Bool} (ok : Bool) → (x ≡ true → (ok ≡ true) × (matches_from p v (i + j) ≡ true)) → (unit_matches a b ≡ true → r ≡ true)
      → x ≡ true → ((ok && r) ≡ true) × (matches_from p v (i + (j + 2)) ≡ true)
  matches_near {x} {r} ok f q t =
      let m : (unit_matches a b and matches_from p v (i + j + 2)) ≡ true = sym (pairs_step unit_matches p v (i + j) h g ea eb) ∙ (f t).1 in
      (and_eager ok r ∙ and_intro ok r (f t).0 (q (and_left _ _ m)), rw behind (and_right _ _ m))

pub units_later : (k : ℕ) (s : Bytes) → units (drop (2 * k) s) ≡ drop k (units s)
unfolding units
units_later zero s = refl
units_later (suc k) [] = let n : 2 * suc k ≡ suc (suc (2 * k)) = omega arith in rw n
units_later (suc k) (a ∷ []) = let n : 2 * suc k ≡ suc (suc (2 * k)) = omega arith in rw n
units_later (suc k) (a ∷ b ∷ s) = let n : 2 * suc k ≡ suc (suc (2 * k)) = omega arith in rw n (units_later k s)

-- what holds of all pairs of units holds from each later one on
pairs_later : (f : ℕ → ℕ → Bool) (k : ℕ) (p v : Bytes) → pairwise f (units p) (units v) ≡ true → pairs_from f p v (2 * k) ≡ true
pairs_later f k p v e = rw (units_later k p, units_later k v) (pairwise_later f k (units p) (units v) e)

-- and in the last n bytes, if they are as long as each other and of whole units
pub pairs_last : (f : ℕ → ℕ → Bool) (p v : Bytes) → length v % 2 ≡ 0 → pairwise f (units p) (units v) ≡ true → (n : ℕ) → n ≤ length v → n % 2 ≡ 0
    → pairs_from f p v (length v - n) ≡ true
pairs_last f p v even m n h e =
    let k : 2 * ((length v - n) / 2) ≡ length v - n = omega arith in
    rw k at (pairs_later f ((length v - n) / 2) p v m)
