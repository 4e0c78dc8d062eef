-- Laws of the names that two patterns both match: that the least is one of them if there is any, and none of them is smaller. Assumes nothing.
use Rattle.std.specs.Prelude.{ℕ, zero, suc, ◌+◌, ◌*◌, ◌/◌, ◌%◌, ◌≤◌, ◌<◌, ◌≡◌, Bool, not, ◌||◌, ◌&&◌, length, get_or, set, drop, eqb}
use Rattle.std.proofs.Math.Path.{refl, ap}
use Rattle.std.proofs.Common.{sym, ap₂, ◌∙◌, inl, inr, length-drop}
use mathlib.Core.List.{List, [], ◌∷◌, ◌++◌}
use Rattle.std.proofs.Math.Bool.{true, false, cond, or-false}
use Rattle.std.proofs.lemmas.Bool.{false≢true}
use native.Mathlib.Omega.{arith}
use Rattle.std.proofs.Math.ListN.{length-set}
use borrow.Author.Tests.{eq-eqb, ne_eqb, eqb-true, eqb-false}
use Rattle.slices.specs.Test.{◌and◌}
use Rattle.slices.proofs.TestLaws.{and_left, and_right, and_intro, and_no, and_yes}
use Rattle.slices.specs.Bytes.{Bytes, le16, le16_bytes, pairwise, overwrite}
use Rattle.slices.proofs.BytesLaws.{pairwise_length}
use Rattle.slices.proofs.PartLaws.{drop_step}
use Rattle.slices.proofs.OverwriteLaws.{overwrite_none, overwrite_set}
use Rattle.slices.proofs.Writes.{two_put}
use Rattle.names.specs.Name.{units, each, no_zero, is_name, name_length, number_sign, is_hex_digit, unit_matches, matches, wildcards}
use Rattle.names.proofs.NameLaws.{hex_range, plain_matches, is_name-even}
use Rattle.names.proofs.TailLaws.{InBytes}
use Rattle.patterns.specs.Common.{least_digit, least_unit, least_name, overlap, Smaller, least_of, units_overlap, sign_alike, same_signs}

-- ---- two units

least_digit_lem : is_hex_digit least_digit ≡ true
unfolding is_hex_digit ◌and◌
least_digit_lem = refl

and_true : (b : Bool) → (true and b) ≡ b
unfolding ◌and◌
and_true b = refl

-- TWO UNITS OVERLAP: '#' WITH '#' AND WITH A HEX DIGIT, OTHERS IF THEY ARE EQUAL
pub overlap_cases : (x y : ℕ)
    → units_overlap x y ≡ cond (eqb x number_sign) (cond (eqb y number_sign) true (is_hex_digit y)) (cond (eqb y number_sign) (is_hex_digit x) (eqb y x))
unfolding unit_matches units_overlap
overlap_cases x y = go (eqb x number_sign) (eqb y number_sign)
  where
    go : (s t : Bool)
        → (cond s (is_hex_digit (cond s (cond t least_digit y) x)) (eqb x (cond s (cond t least_digit y) x))
        and cond t (is_hex_digit (cond s (cond t least_digit y) x)) (eqb y (cond s (cond t least_digit y) x)))
        ≡ cond s (cond t true (is_hex_digit y)) (cond t (is_hex_digit x) (eqb y x))
    go true true = and_intro _ _ least_digit_lem least_digit_lem
    go true false = rw (eq-eqb y y refl) (and_yes (is_hex_digit y))
    go false true = rw (eq-eqb x x refl) (and_true (is_hex_digit x))
    go false false = rw (eq-eqb x x refl) (and_true (eqb y x))

-- the code's tests: equal, or one matches the other
pub overlap_tests : (x y : ℕ) → (eqb x y || (unit_matches x y || unit_matches y x)) ≡ units_overlap x y
unfolding unit_matches
overlap_tests x y = go (eqb x number_sign) (eqb y number_sign) refl refl ∙ sym (overlap_cases x y)
  where
    equal : (b : Bool) → eqb x y ≡ b → (b || (b || eqb y x)) ≡ eqb y x
    equal true e = sym (eq-eqb y x (sym (eqb-true x y e)))
    equal false e = refl

    go : (s t : Bool) → eqb x number_sign ≡ s → eqb y number_sign ≡ t
        → (eqb x y || (cond s (is_hex_digit y) (eqb x y) || cond t (is_hex_digit x) (eqb y x))) ≡ cond s (cond t true (is_hex_digit y)) (cond t (is_hex_digit x) (eqb y x))
    go true true h g = rw (eq-eqb x y (eqb-true x _ h ∙ sym (eqb-true y _ g)))
    go true false h g =
        let n : x ≡ y → ⊥ = λ e. eqb-false y _ g (sym e ∙ eqb-true x _ h) in
        rw (ne_eqb x y n, ne_eqb y x (λ e. n (sym e))) (or-false (is_hex_digit y))
    go false true h g = rw (ne_eqb x y (λ e. eqb-false x _ h (e ∙ eqb-true y _ g)))
    go false false h g = equal (eqb x y) refl

-- a unit that both match: they overlap, and the least is at most it
module _ (x y u : ℕ) where
  unit_overlap : unit_matches x u ≡ true → unit_matches y u ≡ true → units_overlap x y ≡ true
  unfolding unit_matches
  unit_overlap h g = overlap_cases x y ∙ go (eqb x number_sign) (eqb y number_sign) h g
    where
      go : (s t : Bool) → cond s (is_hex_digit u) (eqb x u) ≡ true → cond t (is_hex_digit u) (eqb y u) ≡ true
          → cond s (cond t true (is_hex_digit y)) (cond t (is_hex_digit x) (eqb y x)) ≡ true
      go true true h g = refl
      go true false h g = ap is_hex_digit (eqb-true y u g) ∙ h
      go false true h g = ap is_hex_digit (eqb-true x u h) ∙ g
      go false false h g = ap (eqb y) (eqb-true x u h) ∙ g

  unit_least : unit_matches x u ≡ true → unit_matches y u ≡ true → least_of x y ≤ u
  unfolding unit_matches
  unit_least = go (eqb x number_sign) (eqb y number_sign)
    where
      go : (s t : Bool) → cond s (is_hex_digit u) (eqb x u) ≡ true → cond t (is_hex_digit u) (eqb y u) ≡ true → cond s (cond t least_digit y) x ≤ u
      go true true h g = (hex_range u h).0
      go true false h g = omega (arith, eqb-true y u g)
      go false t h g = omega (arith, eqb-true x u h)

-- ---- the units of the least name

least_units_lem : (a b c d : ℕ) (r : Bytes) → units (least_unit a b c d ++ r) ≡ least_of (a + 256 * b) (c + 256 * d) ∷ units r
unfolding units
least_units_lem a b c d r = go (eqb (a + 256 * b) number_sign) (eqb (c + 256 * d) number_sign)
  where
    go : (s t : Bool) → units (cond s (cond t (least_digit ∷ 0 ∷ []) (c ∷ d ∷ [])) (a ∷ b ∷ []) ++ r)
        ≡ cond s (cond t least_digit (c + 256 * d)) (a + 256 * b) ∷ units r
    go true true = refl
    go true false = refl
    go false t = refl

-- pair by pair, as far as both have units
abbrev least_units : List ℕ → List ℕ → List ℕ
least_units [] ys = []
least_units (x ∷ xs) [] = []
least_units (x ∷ xs) (y ∷ ys) = least_of x y ∷ least_units xs ys

units_least : (p q : Bytes) → units (least_name p q) ≡ least_units (units p) (units q)
unfolding units least_name
units_least [] q = refl
units_least (a ∷ []) q = refl
units_least (a ∷ b ∷ p) [] = refl
units_least (a ∷ b ∷ p) (c ∷ []) = refl
units_least (a ∷ b ∷ p) (c ∷ d ∷ q) = least_units_lem a b c d (least_name p q) ∙ ap (λ (l : List ℕ). least_of (a + 256 * b) (c + 256 * d) ∷ l) (units_least p q)

both : (xs ys : List ℕ) → (matches xs (least_units xs ys) and matches ys (least_units xs ys)) ≡ pairwise units_overlap xs ys
unfolding pairwise units_overlap ◌and◌
both [] [] = refl
both [] (y ∷ ys) = refl
both (x ∷ xs) [] = refl
both (x ∷ xs) (y ∷ ys) = go (unit_matches x (least_of x y)) (unit_matches y (least_of x y)) (both xs ys)
  where
    go : {c : Bool} (a b : Bool) → (matches xs (least_units xs ys) and matches ys (least_units xs ys)) ≡ c
        → ((a and matches xs (least_units xs ys)) and (b and matches ys (least_units xs ys))) ≡ ((a and b) and c)
    go true true e = e
    go true false e = and_no (matches xs (least_units xs ys))
    go false b e = refl

-- PATTERNS OVERLAP EXACTLY IF THEY HAVE AS MANY UNITS AND EACH PAIR OF THEM DOES
pub overlap_pairs : (p q : Bytes) → overlap p q ≡ pairwise units_overlap (units p) (units q)
unfolding overlap
overlap_pairs p q = rw units_least (both (units p) (units q))

-- both match the least name
pub overlap_matches : (p q : Bytes) → overlap p q ≡ true → (matches (units p) (units (least_name p q)) ≡ true) × (matches (units q) (units (least_name p q)) ≡ true)
unfolding overlap
overlap_matches p q e = (and_left _ _ e, and_right _ _ e)

-- ---- a name that both match

common_overlap : (xs ys us : List ℕ) → matches xs us ≡ true → matches ys us ≡ true → pairwise units_overlap xs ys ≡ true
unfolding pairwise
common_overlap [] [] us h g = refl
common_overlap [] (y ∷ ys) [] h g = absurd (false≢true g)
common_overlap [] (y ∷ ys) (u ∷ us) h g = absurd (false≢true h)
common_overlap (x ∷ xs) ys [] h g = absurd (false≢true h)
common_overlap (x ∷ xs) [] (u ∷ us) h g = absurd (false≢true g)
common_overlap (x ∷ xs) (y ∷ ys) (u ∷ us) h g =
    and_intro _ _ (unit_overlap x y u (and_left _ _ h) (and_left _ _ g)) (common_overlap xs ys us (and_right _ _ h) (and_right _ _ g))

common_least : (xs ys us : List ℕ) → matches xs us ≡ true → matches ys us ≡ true → (k : ℕ) → get_or (least_units xs ys) k 0 ≤ get_or us k 0
unfolding pairwise
common_least [] ys us h g k = omega arith
common_least (x ∷ xs) [] us h g k = omega arith
common_least (x ∷ xs) (y ∷ ys) [] h g k = absurd (false≢true h)
common_least (x ∷ xs) (y ∷ ys) (u ∷ us) h g zero = unit_least x y u (and_left _ _ h) (and_left _ _ g)
common_least (x ∷ xs) (y ∷ ys) (u ∷ us) h g (suc k) = common_least xs ys us (and_right _ _ h) (and_right _ _ g) k

at_most_not_smaller : (us ys : List ℕ) → length us ≡ length ys → ((k : ℕ) → get_or ys k 0 ≤ get_or us k 0) → Smaller us ys → ⊥
at_most_not_smaller us [] e f s = s
at_most_not_smaller [] (y ∷ ys) e f s = omega arith
at_most_not_smaller (x ∷ xs) (y ∷ ys) e f (inl l) = omega (arith, f 0)
at_most_not_smaller (x ∷ xs) (y ∷ ys) e f (inr s) = at_most_not_smaller xs ys (omega arith) (λ k. f (suc k)) s.1

module _ (p q : Bytes) (us : List ℕ) (h : matches (units p) us ≡ true) (g : matches (units q) us ≡ true) where
  -- PATTERNS THAT BOTH MATCH SOME NAME OVERLAP
  pub overlap_complete : overlap p q ≡ true
  overlap_complete = overlap_pairs p q ∙ common_overlap (units p) (units q) us h g

  -- EACH UNIT OF THE LEAST NAME IS AT MOST THAT OF EVERY NAME THAT BOTH MATCH
  pub least_each : (k : ℕ) → get_or (units (least_name p q)) k 0 ≤ get_or us k 0
  least_each = rw units_least (common_least (units p) (units q) us h g)

  -- AND SO NO SUCH NAME IS SMALLER
  pub none_smaller : Smaller us (units (least_name p q)) → ⊥
  none_smaller =
      at_most_not_smaller us (units (least_name p q))
      (sym (pairwise_length unit_matches (units p) us h) ∙ pairwise_length unit_matches (units p) (units (least_name p q)) (overlap_matches p q overlap_complete).0)
      least_each

-- ---- the least name is a name

pub least_length : (p q : Bytes) → length p ≡ length q → length p % 2 ≡ 0 → length (least_name p q) ≡ length p
unfolding least_name
least_length [] q e even = refl
least_length (a ∷ []) q e even = absurd (omega arith)
least_length (a ∷ b ∷ p) [] e even = absurd (omega arith)
least_length (a ∷ b ∷ p) (c ∷ []) e even = absurd (omega arith)
least_length (a ∷ b ∷ p) (c ∷ d ∷ q) e even =
    go (eqb (a + 256 * b) number_sign) (eqb (c + 256 * d) number_sign) (least_length p q (omega arith) (omega arith))
  where
    go : (s t : Bool) → length (least_name p q) ≡ length p → length (cond s (cond t (least_digit ∷ 0 ∷ []) (c ∷ d ∷ [])) (a ∷ b ∷ []) ++ least_name p q) ≡ suc (suc (length p))
    go true true k = omega arith
    go true false k = omega arith
    go false t k = omega arith

-- the least of units that are not zero is not zero
least_not_zero : (x y : ℕ) → not (eqb x 0) ≡ true → not (eqb y 0) ≡ true → not (eqb (least_of x y) 0) ≡ true
least_not_zero x y h g = go (eqb x number_sign) (eqb y number_sign)
  where
    go : (s t : Bool) → not (eqb (cond s (cond t least_digit y) x) 0) ≡ true
    go true true = refl
    go true false = g
    go false t = h

least_no_zero : (xs ys : List ℕ) → no_zero xs ≡ true → no_zero ys ≡ true → no_zero (least_units xs ys) ≡ true
unfolding each
least_no_zero [] ys h g = refl
least_no_zero (x ∷ xs) [] h g = refl
least_no_zero (x ∷ xs) (y ∷ ys) h g =
    and_intro _ _ (least_not_zero x y (and_left _ _ h) (and_left _ _ g)) (least_no_zero xs ys (and_right _ _ h) (and_right _ _ g))

-- THE LEAST NAME OF TWO NAMES IS A NAME
pub least_name_lem : (p q : Bytes) → is_name p ≡ true → is_name q ≡ true → length p ≡ length q → is_name (least_name p q) ≡ true
unfolding is_name
least_name_lem p q h g e =
    let l = least_length p q e (is_name-even p h) in
    and_intro _ _ (ap name_length l ∙ and_left _ _ h) (rw units_least (least_no_zero (units p) (units q) (and_right _ _ h) (and_right _ _ g)))

-- ---- patterns without '#'

units_same : (p q : Bytes) → InBytes p → InBytes q → length p ≡ length q → length p % 2 ≡ 0 → units p ≡ units q → p ≡ q
unfolding units
units_same [] [] hp hq l even e = refl
units_same [] (c ∷ q) hp hq l even e = absurd (omega arith)
units_same (a ∷ []) q hp hq l even e = absurd (omega arith)
units_same (a ∷ b ∷ p) [] hp hq l even e = absurd (omega arith)
units_same (a ∷ b ∷ p) (c ∷ []) hp hq l even e = absurd (omega arith)
units_same (a ∷ b ∷ p) (c ∷ d ∷ q) hp hq l even e =
    let u : a + 256 * b ≡ c + 256 * d = cc in
    let low : a ≡ c = omega (arith, hp 0 (omega arith), hq 0 (omega arith)) in
    let high : b ≡ d = omega arith in
    let r : units p ≡ units q = cc in
    let rest : p ≡ q = units_same p q (λ k h. hp (suc (suc k)) (omega arith)) (λ k h. hq (suc (suc k)) (omega arith)) (omega arith) (omega arith) r in
    cc

-- TWO PATTERNS WITHOUT '#' THAT OVERLAP ARE THE SAME BYTES
pub overlap_sign : (p q : Bytes) → InBytes p → InBytes q → length p ≡ length q → length p % 2 ≡ 0 → wildcards (units p) ≡ 0 → wildcards (units q) ≡ 0
    → overlap p q ≡ true → p ≡ q
overlap_sign p q hp hq l even h g e =
    let m = overlap_matches p q e in
    units_same p q hp hq l even ((plain_matches (units p) _ h).0 m.0 ∙ sym ((plain_matches (units q) _ g).0 m.1))

-- ---- patterns with '#' at the same places

-- the code's tests: both are '#', or neither is
pub alike_tests : (x y : ℕ) → ((eqb x number_sign && eqb y number_sign) || (not (eqb x number_sign) && not (eqb y number_sign))) ≡ sign_alike x y
unfolding sign_alike
alike_tests x y = go (eqb x number_sign) (eqb y number_sign)
  where
    go : (s t : Bool) → ((s && t) || (not s && not t)) ≡ cond s t (not t)
    go true t = or-false t
    go false t = refl

-- units alike that overlap are equal
alike_same : (x y : ℕ) → sign_alike x y ≡ true → units_overlap x y ≡ true → x ≡ y
unfolding sign_alike
alike_same x y h g = go (eqb x number_sign) (eqb y number_sign) refl refl h (sym (overlap_cases x y) ∙ g)
  where
    go : (s t : Bool) → eqb x number_sign ≡ s → eqb y number_sign ≡ t → cond s t (not t) ≡ true
        → cond s (cond t true (is_hex_digit y)) (cond t (is_hex_digit x) (eqb y x)) ≡ true → x ≡ y
    go true true a b h g = eqb-true x _ a ∙ sym (eqb-true y _ b)
    go true false a b h g = absurd (false≢true h)
    go false true a b h g = absurd (false≢true h)
    go false false a b h g = sym (eqb-true y x g)

all_alike_same : (xs ys : List ℕ) → pairwise sign_alike xs ys ≡ true → pairwise units_overlap xs ys ≡ true → xs ≡ ys
unfolding pairwise
all_alike_same [] [] h g = refl
all_alike_same [] (y ∷ ys) h g = absurd (false≢true h)
all_alike_same (x ∷ xs) [] h g = absurd (false≢true h)
all_alike_same (x ∷ xs) (y ∷ ys) h g =
    ap₂ (λ (u : ℕ) (us : List ℕ). u ∷ us) (alike_same x y (and_left _ _ h) (and_left _ _ g)) (all_alike_same xs ys (and_right _ _ h) (and_right _ _ g))

-- TWO PATTERNS WITH '#' AT THE SAME PLACES THAT OVERLAP ARE THE SAME BYTES
pub same_signs_apart : (p q : Bytes) → InBytes p → InBytes q → length p ≡ length q → length p % 2 ≡ 0 → same_signs p q ≡ true → overlap p q ≡ true → p ≡ q
same_signs_apart p q hp hq l even h e = units_same p q hp hq l even (all_alike_same (units p) (units q) h (sym (overlap_pairs p q) ∙ e))

alike_trans : (x y z : ℕ) → sign_alike x y ≡ true → sign_alike y z ≡ true → sign_alike x z ≡ true
unfolding sign_alike
alike_trans x y z = go (eqb x number_sign) (eqb y number_sign) (eqb z number_sign)
  where
    go : (s t u : Bool) → cond s t (not t) ≡ true → cond t u (not u) ≡ true → cond s u (not u) ≡ true
    go true true u h g = g
    go true false u h g = absurd (false≢true h)
    go false true u h g = absurd (false≢true h)
    go false false u h g = g

all_alike_trans : (xs ys zs : List ℕ) → pairwise sign_alike xs ys ≡ true → pairwise sign_alike ys zs ≡ true → pairwise sign_alike xs zs ≡ true
unfolding pairwise
all_alike_trans [] [] zs h g = g
all_alike_trans [] (y ∷ ys) zs h g = absurd (false≢true h)
all_alike_trans (x ∷ xs) [] zs h g = absurd (false≢true h)
all_alike_trans (x ∷ xs) (y ∷ ys) [] h g = absurd (false≢true g)
all_alike_trans (x ∷ xs) (y ∷ ys) (z ∷ zs) h g =
    and_intro _ _ (alike_trans x y z (and_left _ _ h) (and_left _ _ g)) (all_alike_trans xs ys zs (and_right _ _ h) (and_right _ _ g))

-- patterns with '#' where a third has it have it where each other has it
pub same_signs_trans : (p q r : Bytes) → same_signs p q ≡ true → same_signs q r ≡ true → same_signs p r ≡ true
same_signs_trans p q r = all_alike_trans (units p) (units q) (units r)

-- ---- the least name, as the code writes it

-- the bytes of the least unit
least_bytes : (a b c d : ℕ) → a < 256 → c < 256 → least_unit a b c d ≡ (least_of (a + 256 * b) (c + 256 * d) % 256) ∷ (least_of (a + 256 * b) (c + 256 * d) / 256) ∷ []
least_bytes a b c d h g = go (eqb (a + 256 * b) number_sign) (eqb (c + 256 * d) number_sign)
  where
    bytes : (a b : ℕ) → a < 256 → a ∷ b ∷ [] ≡ ((a + 256 * b) % 256) ∷ ((a + 256 * b) / 256) ∷ []
    bytes a b l =
        let low : (a + 256 * b) % 256 ≡ a = omega arith in
        let high : (a + 256 * b) / 256 ≡ b = omega arith in
        rw (low, high)

    go : (s t : Bool) → cond s (cond t (least_digit ∷ 0 ∷ []) (c ∷ d ∷ [])) (a ∷ b ∷ [])
        ≡ (cond s (cond t least_digit (c + 256 * d)) (a + 256 * b) % 256) ∷ (cond s (cond t least_digit (c + 256 * d)) (a + 256 * b) / 256) ∷ []
    go true true = refl
    go true false = bytes c d g
    go false t = bytes a b h

least_none : (p q : Bytes) → length p < 2 → least_name p q ≡ []
unfolding least_name
least_none [] q h = refl
least_none (a ∷ []) q h = refl
least_none (a ∷ b ∷ p) q h = absurd (omega arith)

module _ (p q : Bytes) (i : ℕ) where
  least_step : i + 2 ≤ length p → i + 2 ≤ length q
      → least_name (drop i p) (drop i q) ≡ least_unit (get_or p i 0) (get_or p (i + 1) 0) (get_or q i 0) (get_or q (i + 1) 0) ++ least_name (drop (i + 2) p) (drop (i + 2) q)
  unfolding least_name
  least_step h g =
      let n : i + 1 + 1 ≡ i + 2 = omega arith in
      rw (drop_step p i (omega arith), drop_step p (i + 1) (omega arith), drop_step q i (omega arith), drop_step q (i + 1) (omega arith), n)

  -- one turn of a loop that writes the units into s, where m is the least of those from byte i on
  pub put_step : (s : Bytes) (m : ℕ) → InBytes p → InBytes q → i + 2 ≤ length p → i + 2 ≤ length q → i + 2 ≤ length s → m ≡ least_of (le16 p i) (le16 q i)
      → overwrite s i (least_name (drop i p) (drop i q)) ≡ overwrite (set (set s i (m % 256)) (i + 1) (m / 256)) (i + 2) (least_name (drop (i + 2) p) (drop (i + 2) q))
  unfolding le16
  put_step s m hp hq h g l e =
      let n : i + 1 + 1 ≡ i + 2 = omega arith in
      let r = least_name (drop (i + 2) p) (drop (i + 2) q) in
      let b : least_unit (get_or p i 0) (get_or p (i + 1) 0) (get_or q i 0) (get_or q (i + 1) 0) ≡ (m % 256) ∷ (m / 256) ∷ [] = rw e (least_bytes _ _ _ _ (hp i (omega arith)) (hq i (omega arith))) in
      ap (overwrite s i) (least_step h g ∙ ap (λ (v : Bytes). v ++ r) b)
      ∙ overwrite_set s i (m % 256) ((m / 256) ∷ r) (omega arith)
      ∙ overwrite_set (set s i (m % 256)) (i + 1) (m / 256) r (rw length-set (omega arith))
      ∙ ap (λ (k : ℕ). overwrite (set (set s i (m % 256)) (i + 1) (m / 256)) k r) n

  -- the same where the unit is written as two bytes at once
  pub put_unit : (s : Bytes) (m : ℕ) → InBytes p → InBytes q → i + 2 ≤ length p → i + 2 ≤ length q → i + 2 ≤ length s → m ≡ least_of (le16 p i) (le16 q i) → m < 65536
      → overwrite (overwrite s i (le16_bytes m)) (i + 2) (least_name (drop (i + 2) p) (drop (i + 2) q)) ≡ overwrite s i (least_name (drop i p) (drop i q))
  put_unit s m hp hq h g l e b =
      sym (put_step s m hp hq h g l e ∙ ap (λ (t : Bytes). overwrite t (i + 2) (least_name (drop (i + 2) p) (drop (i + 2) q))) (two_put s i m l refl (omega (arith, b))))

  -- no whole unit is left
  pub put_end : (s : Bytes) → length p < i + 2 → overwrite s i (least_name (drop i p) (drop i q)) ≡ s
  put_end s h = ap (overwrite s i) (least_none (drop i p) (drop i q) (omega (arith, length-drop i p))) ∙ sym (overwrite_none s i)
