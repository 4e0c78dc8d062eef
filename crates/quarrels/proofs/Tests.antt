-- The tests by which the code decides whether two entries quarrel, one law for each way out. Assumes nothing.
use Prim.Native.Nat.{ℕ, zero, suc, ◌+◌, ◌-◌, ◌*◌, ◌%◌, ◌≤◌, ◌<◌, min}
use mathlib.Core.Path.{◌≡◌, refl, sym, ap, ap₂, subst⁻¹, ◌∙◌}
use mathlib.Core.List.{[], ◌∷◌}
use mathlib.Core.Logic.{inl, inr}
use Rattle.lists.proofs.ListsLaws.{Less, less}
use mathlib.Core.Bool.{Bool, true, false, not, false≢true}
use native.Mathlib.Omega.{arith}
use lib.ListN.{length, get_or, take, length-take}
use lib.Seq.{take-nil, take_all, length-take-le, get_or-take}
use lib.Bits.{bit_and, bit_xor}
use borrow.Author.Tests.{eq-eqb, ne_eqb}
use Rattle.limits.specs.Limits.{max_name_bytes, namespace_bytes, namespace_at, min_size_at}
use Rattle.slices.proofs.TestLaws.{and_left, and_right, and_intro, forced_off}
use Rattle.slices.specs.Bytes.{Bytes, le32, le64, pairwise, same}
use Rattle.slices.proofs.BytesLaws.{pairwise_length, same_eq, same_of}
use Rattle.slices.proofs.PartLaws.{length_part}
use Rattle.names.specs.Name.{units, named, unit_matches, wildcards}
use Rattle.names.proofs.NameLaws.{named_name, is_name-length, units_length}
use Rattle.names.proofs.TailLaws.{InBytes}
use Rattle.patterns.specs.Signs.{has_sign}
use Rattle.patterns.proofs.SignLaws.{sign_none}
use Rattle.patterns.specs.Common.{overlap, units_overlap, same_signs}
use Rattle.patterns.proofs.CommonLaws.{overlap_pairs, overlap_matches, least_length, least_name_lem, overlap_sign, same_signs_apart}
use Rattle.patterns.specs.Literals.{literal_mask_of, literals_of}
use Rattle.patterns.proofs.LiteralsLaws.{literals_agree}
use Rattle.entry.specs.Entry.{well_formed, namespace_of, name_is_empty, name_of, rank, same_target}
use Rattle.entry.proofs.EntryLaws.{sized, name_of-empty, name_of-none, name_of-even, name_of-most, namespace_start, target_namespace, target_name, rank_of_name, rank_of_namespace, same_target-of}
use Rattle.quarrels.specs.Quarrel.{least_common, least_variable, quarrel}
use Rattle.quarrels.proofs.QuarrelLaws.{TargetLeast, target_least, name_targets, name_of_lem}
use Rattle.quarrels.specs.Group.{groups, group_by, group_of, front}
use Rattle.quarrels.proofs.Words.{none_differs}

pub namespace_length : (e : Bytes) → well_formed e ≡ true → length (namespace_of e) ≡ namespace_bytes
namespace_length e w = length_part namespace_at min_size_at e (omega (arith, (sized e w).least))

forced : (b : Bool) → (b ≡ false → false ≡ true) → b ≡ true
forced true k = refl
forced false k = k refl

module _ (e f : Bytes) (we : well_formed e ≡ true) (wf : well_formed f ≡ true) where
  -- names that are not as long
  module _ (q : TargetLeast e f) where
    pub lengths_agree : length (name_of e) ≡ length (name_of f)
    lengths_agree = go (name_is_empty e) (name_is_empty f) refl refl
      where
        go : (a b : Bool) → name_is_empty e ≡ a → name_is_empty f ≡ b → length (name_of e) ≡ length (name_of f)
        go true true a b = ap length (name_of-empty e a ∙ sym (name_of-empty f b))
        go true false a b = absurd (omega (arith, q.ranks, rank_of_namespace e a, rank_of_name f (least_variable e f) q.taken q.second b))
        go false true a b = absurd (omega (arith, q.ranks, rank_of_namespace f b, rank_of_name e (least_variable e f) q.taken q.first a))
        go false false a b =
            let k = pairwise_length unit_matches _ _ (target_name e (least_variable e f) a q.first) in
            let l = pairwise_length unit_matches _ _ (target_name f (least_variable e f) b q.second) in
            omega (arith, k, l, units_length (name_of e), units_length (name_of f), name_of-even e we, name_of-even f wf)

  unlike : (TargetLeast e f → ⊥) → false ≡ quarrel e f
  unlike h = sym (forced_off (quarrel e f) (λ t. absurd (h (target_least e f t))))

  pub other_length : (length (name_of e) ≡ length (name_of f) → ⊥) → false ≡ quarrel e f
  other_length h = unlike (λ q. h (lengths_agree q))

  -- no names
  pub both_empty : length (name_of e) ≡ 0 → length (name_of e) ≡ length (name_of f) → false ≡ quarrel e f
  both_empty z s = unlike (λ q. omega (arith, z, least_length (name_of e) (name_of f) s (name_of-even e we), is_name-length (least_common e f) (named_name (least_variable e f) q.taken)))

  module _ (some : length (name_of e) ≡ 0 → ⊥) (as_long : length (name_of e) ≡ length (name_of f)) where
    first_named : name_is_empty e ≡ false
    first_named = name_of-none e we ∙ ne_eqb _ 0 some

    second_named : name_is_empty f ≡ false
    second_named = name_of-none f wf ∙ ne_eqb _ 0 (λ z. some (as_long ∙ z))

    -- that no name matches both of
    pub no_overlap : overlap (name_of e) (name_of f) ≡ false → false ≡ quarrel e f
    unfolding overlap
    no_overlap n = unlike (λ q. false≢true (sym n ∙ and_intro _ _ (target_name e (least_variable e f) first_named q.first) (target_name f (least_variable e f) second_named q.second)))

    rank_first : rank e ≡ wildcards (units (name_of e))
    unfolding rank
    rank_first = rw first_named

    rank_second : rank f ≡ wildcards (units (name_of f))
    unfolding rank
    rank_second = rw second_named

    -- of another rank
    pub other_rank : (wildcards (units (name_of e)) ≡ wildcards (units (name_of f)) → ⊥) → false ≡ quarrel e f
    other_rank n = unlike (λ q. n (sym rank_first ∙ q.ranks ∙ rank_second))

    agree : overlap (name_of e) (name_of f) ≡ true → wildcards (units (name_of e)) ≡ wildcards (units (name_of f)) → namespace_of e ≡ namespace_of f → quarrel e f ≡ true
    unfolding quarrel named
    agree o w n =
        let m = overlap_matches (name_of e) (name_of f) o in
        and_intro _ _ (eq-eqb _ _ (rank_first ∙ w ∙ sym rank_second))
        (and_intro _ _ (and_intro _ _ (eq-eqb _ _ (namespace_length e we)) (least_name_lem (name_of e) (name_of f) (name_of_lem e we first_named) (name_of_lem f wf second_named) as_long))
        (and_intro _ _ (name_targets e (least_variable e f) refl m.0) (name_targets f (least_variable e f) (sym n) m.1)))

    -- then the namespaces decide
    pub namespaces_decide : {r : Bool} → overlap (name_of e) (name_of f) ≡ true → wildcards (units (name_of e)) ≡ wildcards (units (name_of f))
        → r ≡ same (namespace_of e) (namespace_of f) → r ≡ quarrel e f
    namespaces_decide {r} o w h = go (same (namespace_of e) (namespace_of f)) refl
      where
        go : (b : Bool) → same (namespace_of e) (namespace_of f) ≡ b → r ≡ quarrel e f
        go true k = h ∙ k ∙ sym (agree o w (same_eq (namespace_of e) (namespace_of f) k))
        go false k = h ∙ k ∙ unlike (λ q. false≢true (sym k ∙ same_of (namespace_of e) (namespace_of f) (sym (target_namespace f (least_variable e f) q.second))))

-- ---- the same as the code asks: m and n are the names
module _ {m n : Bytes} (e f : Bytes) (we : well_formed e ≡ true) (wf : well_formed f ≡ true) (a : m ≡ name_of e) (b : n ≡ name_of f) where
  pub by_length : (length m ≡ length n → ⊥) → false ≡ quarrel e f
  by_length = rw (a, b) (other_length e f we wf)

  module _ (s : length m ≡ length n) where
    pub by_none_lem : length m ≡ 0 → false ≡ quarrel e f
    by_none_lem z = both_empty e f we wf (ap length (sym a) ∙ z) (ap length (sym a) ∙ s ∙ ap length b)

    module _ (some : length m ≡ 0 → ⊥) where
      pub by_overlap : overlap m n ≡ false → false ≡ quarrel e f
      by_overlap h = no_overlap e f we wf (λ z. some (ap length a ∙ z)) (ap length (sym a) ∙ s ∙ ap length b) (ap₂ overlap (sym a) (sym b) ∙ h)

      pub by_rank : (wildcards (units m) ≡ wildcards (units n) → ⊥) → false ≡ quarrel e f
      by_rank h = other_rank e f we wf (λ z. some (ap length a ∙ z)) (ap length (sym a) ∙ s ∙ ap length b) (λ k. h (ap (λ l. wildcards (units l)) a ∙ k ∙ ap (λ l. wildcards (units l)) (sym b)))

      pub by_namespace : {r : Bool} → overlap m n ≡ true → wildcards (units m) ≡ wildcards (units n) → r ≡ same (namespace_of e) (namespace_of f) → r ≡ quarrel e f
      by_namespace o w =
          namespaces_decide e f we wf (λ z. some (ap length a ∙ z)) (ap length (sym a) ∙ s ∙ ap length b) (ap₂ overlap (sym a) (sym b) ∙ o)
          (ap (λ l. wildcards (units l)) (sym a) ∙ w ∙ ap (λ l. wildcards (units l)) b)

-- ---- the group of an entry, from its name, the number of '#' in it and the first bytes of the namespace
module _ {m : Bytes} (e : Bytes) (a : m ≡ name_of e) where
  pub no_group : has_sign m ≡ false → groups ≡ group_of e
  unfolding group_of
  no_group z =
      let k : wildcards (units (name_of e)) ≡ 0 = ap (λ l. wildcards (units l)) (sym a) ∙ sign_none m z in
      rw (eq-eqb _ 0 k)

  pub a_group : {start : ℕ} → has_sign m ≡ true → start ≡ le32 e namespace_at → group_by start (length m) ≡ group_of e
  unfolding group_of
  a_group z h =
      let n : wildcards (units (name_of e)) ≡ 0 → ⊥ = λ y. false≢true (sym (ap not (eq-eqb _ 0 (ap (λ l. wildcards (units l)) a ∙ y))) ∙ z) in
      rw (ne_eqb _ 0 n, h, namespace_start e, a)

  pub name_most : well_formed e ≡ true → length m ≤ max_name_bytes
  name_most f = omega (arith, ap length a, name_of-most e f)

-- ---- the first four units
units_front : (k : ℕ) (s : Bytes) → units (take (2 * k) s) ≡ take k (units s)
unfolding units
units_front zero s = refl
units_front (suc k) [] = ap units (take-nil (2 * suc k)) ∙ sym (take-nil (suc k))
units_front (suc k) (a ∷ []) =
    let e : 2 * suc k ≡ suc (suc (2 * k)) = omega arith in
    ap (λ (m : ℕ). units (take m (a ∷ []))) e
units_front (suc k) (a ∷ b ∷ s) =
    let e : 2 * suc k ≡ suc (suc (2 * k)) = omega arith in
    ap (λ (m : ℕ). units (take m (a ∷ b ∷ s))) e ∙ ap (λ l. (a + 256 * b) ∷ l) (units_front k s)

pairwise_front : (f : ℕ → ℕ → Bool) (k : ℕ) (xs ys : Bytes) → pairwise f xs ys ≡ true → pairwise f (take k xs) (take k ys) ≡ true
unfolding pairwise
pairwise_front f zero xs ys h = refl
pairwise_front f (suc k) [] [] h = refl
pairwise_front f (suc k) [] (y ∷ ys) h = absurd (false≢true h)
pairwise_front f (suc k) (x ∷ xs) [] h = absurd (false≢true h)
pairwise_front f (suc k) (x ∷ xs) (y ∷ ys) h = and_intro _ _ (and_left _ _ h) (pairwise_front f k xs ys (and_right _ _ h))

front_overlap : (p q : Bytes) → overlap p q ≡ true → overlap (front p) (front q) ≡ true
front_overlap p q o =
    overlap_pairs (front p) (front q) ∙ ap₂ (pairwise units_overlap) (units_front 4 p) (units_front 4 q)
    ∙ pairwise_front units_overlap 4 (units p) (units q) (sym (overlap_pairs p q) ∙ o)

front_bytes : (p : Bytes) → InBytes p → InBytes (front p)
front_bytes p h k l = go (less (length p) 8)
  where
    go : Less (length p) 8 → get_or (front p) k 0 < 256
    go (inl x) =
        let e = take_all 8 p (let z = x.0 in omega arith) in
        subst⁻¹ (λ (q : Bytes). get_or q k 0 < 256) e (h k (omega (arith, ap length e)))
    go (inr x) =
        let n = length-take-le 8 p x.0 in
        subst⁻¹ (λ (m : ℕ). m < 256) (get_or-take 8 p k 0 (omega arith)) (h k (let z = x.0 in omega arith))

front_long : (p q : Bytes) → length p ≡ length q → length (front p) ≡ length (front q)
front_long p q e = length-take 8 p ∙ ap (min 8) e ∙ sym (length-take 8 q)

front_even : (p : Bytes) → length p % 2 ≡ 0 → length (front p) % 2 ≡ 0
front_even p e = go (less (length p) 8)
  where
    go : Less (length p) 8 → length (front p) % 2 ≡ 0
    go (inl h) = ap (λ (l : Bytes). length l % 2) (take_all 8 p (let z = h.0 in omega arith)) ∙ e
    go (inr h) = ap (λ (n : ℕ). n % 2) (length-take-le 8 p h.0)

-- patterns that show the same bits where both count differ in none of these
pub literals_none : (p q : Bytes) → bit_and (literals_of p) (literal_mask_of q) ≡ bit_and (literals_of q) (literal_mask_of p)
    → bit_and (bit_and (bit_xor (literals_of q) (literals_of p)) (literal_mask_of q)) (literal_mask_of p) ≡ 0
unfolding literals_of
literals_none p q e = none_differs (le64 p (length p - 8)) (le64 q (length q - 8)) (literal_mask_of p) (literal_mask_of q) e

-- ---- entries that quarrel, of those that a dump may have: they are in one group, and agree in the first and last units that both spell out
pub record Distinct (e f : Bytes) : Type 0 where
  pub first : well_formed e ≡ true
  pub second : well_formed f ≡ true
  pub first_bytes : InBytes (name_of e)
  pub second_bytes : InBytes (name_of f)
  pub apart : same_target e f ≡ false

module _ (e f : Bytes) (k : Distinct e f) (h : quarrel e f ≡ true) where
  least : TargetLeast e f
  least = target_least e f h

  one_namespace : namespace_of e ≡ namespace_of f
  one_namespace = sym (target_namespace f (least_variable e f) least.second)

  both_long : length (name_of e) ≡ length (name_of f)
  both_long = lengths_agree e f k.first k.second least

  not_empty : length (name_of e) ≡ 0 → ⊥
  not_empty z = false≢true (both_empty e f k.first k.second z both_long ∙ h)

  overlaps : overlap (name_of e) (name_of f) ≡ true
  overlaps = forced (overlap (name_of e) (name_of f)) (λ n. no_overlap e f k.first k.second not_empty both_long n ∙ h)

  one_rank : wildcards (units (name_of e)) ≡ wildcards (units (name_of f))
  one_rank = sym (rank_first e f k.first k.second not_empty both_long) ∙ least.ranks ∙ rank_second e f k.first k.second not_empty both_long

  -- two names without '#' would k.first_bytes the same
  signs : wildcards (units (name_of e)) ≡ 0 → ⊥
  signs z =
      let n = overlap_sign (name_of e) (name_of f) k.first_bytes k.second_bytes both_long (name_of-even e k.first) z (sym one_rank ∙ z) overlaps in
      false≢true (sym k.apart ∙ same_target-of e f (record { namespace = one_namespace; name = n }))

  pub grouped : group_of e < groups
  unfolding group_of
  grouped = rw (ne_eqb (wildcards (units (name_of e))) 0 signs) (omega arith)

  pub one_group : group_of f ≡ group_of e
  unfolding group_of
  one_group = rw (← one_rank, ← one_namespace, ← both_long)

  -- in the first units and in the last
  pub tails_agree : bit_and (literals_of (name_of e)) (literal_mask_of (name_of f)) ≡ bit_and (literals_of (name_of f)) (literal_mask_of (name_of e))
  tails_agree = literals_agree (name_of e) (name_of f) k.first_bytes k.second_bytes both_long (name_of-even e k.first) overlaps

  pub fronts_agree : bit_and (literals_of (front (name_of e))) (literal_mask_of (front (name_of f))) ≡ bit_and (literals_of (front (name_of f))) (literal_mask_of (front (name_of e)))
  fronts_agree =
      literals_agree (front (name_of e)) (front (name_of f)) (front_bytes (name_of e) k.first_bytes) (front_bytes (name_of f) k.second_bytes) (front_long (name_of e) (name_of f) both_long)
      (front_even (name_of e) (name_of-even e k.first)) (front_overlap (name_of e) (name_of f) overlaps)

  -- and do not have '#' at the same places, or the names would k.first_bytes the same
  pub signs_differ : same_signs (name_of e) (name_of f) ≡ true → ⊥
  signs_differ s =
      let n = same_signs_apart (name_of e) (name_of f) k.first_bytes k.second_bytes both_long (name_of-even e k.first) s overlaps in
      false≢true (sym k.apart ∙ same_target-of e f (record { namespace = one_namespace; name = n }))
