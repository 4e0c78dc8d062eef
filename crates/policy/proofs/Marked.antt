-- What the code finds in the filter, and the check as it goes on: `Checked` is what is known where the walk has come to an entry, with one law for each way on. Assumes nothing.
use Prim.Native.Nat.{ℕ, ◌+◌, ◌≤◌, ◌<◌}
use mathlib.Core.Path.{◌≡◌, refl, sym, ap, subst, ◌∙◌}
use mathlib.Core.List.{List, [], ◌∷◌, ◌++◌, append_assoc}
use mathlib.Core.Bool.{Bool, true, false, ◌||◌, false≢true}
use native.Mathlib.Omega.{arith}
use lib.ListN.{length, get_or, take, drop, set, length-set}
use lib.Seq.{get_or-set_same, get_or-set_other}
use lib.Dec.{eqb, leb}
use borrow.Author.Tests.{eq-eqb, ne_eqb, le-leb, lt-leb, eqb-true, eqb-false}
use Rattle.limits.specs.Limits.{namespace_at, max_entries, policy_bytes}
use Rattle.slices.specs.Test.{◌and◌}
use Rattle.slices.proofs.TestLaws.{and_no, and_yes, forced_off}
use Rattle.slices.specs.Bytes.{Bytes, le32, part, all_are}
use native.Mathlib.Nat.{le_refl}
use Rattle.slices.proofs.PartLaws.{part_of, part_rest}
use Rattle.slices.specs.Hash.{hash_from}
use Rattle.slices.specs.Chunks.{flat, contains, distinct}
use Rattle.slices.proofs.ItemsLaws.{or_off, or_right_off, contains_append, contains_one, distinct_apart, distinct_left, distinct_append}
use Rattle.entry.specs.Entry.{name_of, well_formed, same_target}
use Rattle.entry.proofs.EntryLaws.{sized, namespace_start, same_target-sym, same_target-alike}
use Rattle.policy.specs.declared.Extent.{Extent}
use Rattle.std.specs.Prelude.{Option, None}
use Rattle.std.specs.Bool.{then_some}
use Rattle.policy.specs.Policy.{entry_length, entries_of, sizes_sum, valid_within, check_within, policy_check}
use Rattle.policy.proofs.PolicyLaws.{within_invalid}
use Rattle.policy.specs.Filter.{key_at, key_of, slot_of, fingerprint_of, Marks, marks_with}
use Rattle.policy.proofs.FilterLaws.{unmet, unmet_test, marks_more}
use Rattle.policy.specs.Walk.{At, EntryEnds}
use Rattle.policy.proofs.Walk.{at_start, at_next, all_met, sum_met, count_met, more_left, whole, grown}

-- ---- the key
pub key_is : {h n : ℕ} {m : Bytes} (e : Bytes) → n ≡ le32 e namespace_at → m ≡ name_of e → h ≡ hash_from n m → key_at h ≡ key_of e
unfolding key_of
key_is e a b c = rw (c, a, b, namespace_start e)

-- ---- the filter
-- what the code finds in the slot s of an entry whose fingerprint is f
module _ (e : Bytes) {s f : ℕ} (k : s ≡ slot_of e) (l : f ≡ fingerprint_of e) (t : Bytes) where
  -- the filter afterwards, if it was free and if not
  pub marks_first : get_or t s 0 ≡ 0 → set t s f ≡ marks_with t e
  marks_first z = let z' : get_or t (slot_of e) 0 ≡ 0 = rw k at z in rw (k, l, eq-eqb (get_or t (slot_of e) 0) 0 z')

  pub marks_several : (get_or t s 0 ≡ 0 → ⊥) → set t s 255 ≡ marks_with t e
  marks_several z = let z' : get_or t (slot_of e) 0 ≡ 0 → ⊥ = rw k at z in rw (k, ne_eqb (get_or t (slot_of e) 0) 0 z')

  -- it is free
  pub free : (es : List Bytes) → Marks t es → get_or t s 0 ≡ 0 → false ≡ contains (same_target e) es
  free es m z =
      let z' : get_or t (slot_of e) 0 ≡ 0 = rw k at z in
      sym (unmet t e es m (λ q. omega arith) (λ q. omega arith))

  -- or has another fingerprint
  pub unmarked : (es : List Bytes) → Marks t es → (eqb (get_or t s 0) 255 || eqb (get_or t s 0) f) ≡ false → false ≡ contains (same_target e) es
  unmarked es m z =
      let z' : (eqb (get_or t (slot_of e) 0) 255 || eqb (get_or t (slot_of e) 0) (fingerprint_of e)) ≡ false = rw (k, l) at z in
      sym (unmet_test t e es m z')

-- ---- an entry that was met before
last_apart : (xs : List Bytes) (q : Bytes) → distinct same_target (xs ++ (q ∷ [])) ≡ true → contains (same_target q) xs ≡ false
unfolding contains
last_apart [] q e = refl
last_apart (x ∷ xs) q e =
    let w = distinct_apart same_target x (xs ++ (q ∷ [])) e in
    let k : same_target x q ≡ false = sym (contains_one (same_target x) q) ∙ or_right_off (contains (same_target x) xs) (contains (same_target x) (q ∷ [])) (sym (contains_append (same_target x) xs (q ∷ [])) ∙ w.here) in
    or_off (same_target q x) (contains (same_target q) xs) (same_target-sym q x ∙ k) (last_apart xs q w.rest)

pub repeated : (xs : List Bytes) (q : Bytes) (ys : List Bytes) → contains (same_target q) xs ≡ true → distinct same_target (xs ++ (q ∷ ys)) ≡ false
repeated xs q ys h = forced_off (distinct same_target (xs ++ (q ∷ ys))) (λ d.
    sym (last_apart xs q (distinct_left same_target (xs ++ (q ∷ [])) ys (ap (distinct same_target) (append_assoc xs (q ∷ []) ys) ∙ d))) ∙ h)

-- ---- the answer, under any limit of bytes
module _ (bytes : ℕ) (p : Bytes) where
  abbrev valid : Bool
  valid = valid_within well_formed max_entries bytes p

  pub invalid : valid ≡ false → None ≡ check_within bytes p
  unfolding check_within
  invalid e = rw e

  many : max_entries < length (entries_of p) → valid ≡ false
  unfolding valid_within ◌and◌
  many h = rw (lt-leb (length (entries_of p)) max_entries h) (and_no (eqb (length p) bytes))

  double : distinct same_target (entries_of p) ≡ false → valid ≡ false
  unfolding valid_within
  double h = rw (h, and_no (all_are 0 (drop (sizes_sum p) p)), and_no (leb (length (entries_of p)) max_entries)) (and_no (eqb (length p) bytes))

pub invalid_length : (p : Bytes) → (length p ≡ policy_bytes → ⊥) → None ≡ policy_check p
unfolding check_within valid_within ◌and◌
invalid_length p h = rw (ne_eqb (length p) policy_bytes h)

-- ---- where the entries before index i end
pub record Noted (ends : List ℕ) (p : Bytes) (i : ℕ) : Type 0 where
  pub room : length ends ≡ max_entries
  pub noted : (k : ℕ) → k < i → get_or ends k 0 ≡ length (flat (take (k + 1) (entries_of p)))

pub noted_none : (ends : List ℕ) (p : Bytes) → length ends ≡ max_entries → Noted ends p 0
noted_none ends p h = record { room = h; noted = λ k z. absurd (omega arith) }

pub noted_more : (ends : List ℕ) (p : Bytes) (i at : ℕ) → Noted ends p i → i < max_entries → At p (i + 1) at → Noted (set ends i at) p (i + 1)
noted_more ends p i at m h w = record { room = length-set ends i at ∙ m.room; noted = λ k z. go k z (eqb k i) refl }
  where
    go : (k : ℕ) → k < i + 1 → (b : Bool) → eqb k i ≡ b → get_or (set ends i at) k 0 ≡ length (flat (take (k + 1) (entries_of p)))
    go k z true q =
        let e = eqb-true k i q in
        rw e (get_or-set_same ends i at 0 (omega (arith, m.room)) ∙ sym w.sum)
    go k z false q =
        let d = eqb-false k i q in
        get_or-set_other ends i k at 0 d ∙ m.noted k (omega arith)

-- ---- a check that has come to the entry at index i, whose first byte is at
pub record Checked (p : Bytes) (t : Bytes) (i at : ℕ) : Type 0 where
  pub walk : At p i at
  pub few : i ≤ max_entries
  pub apart : distinct same_target (take i (entries_of p)) ≡ true
  pub filter : Marks t (take i (entries_of p))

pub checked_start : (p : Bytes) (t : Bytes) → Marks t [] → Checked p t 0 0
unfolding distinct
checked_start p t m = record { walk = at_start p; few = omega arith; apart = refl; filter = m }

module _ (p : Bytes) (t : Bytes) (i at n : ℕ) (w : Checked p t i at) (e : entry_length (drop at p) ≡ n) where
  pub too_many_lem : 0 < n → i ≡ max_entries → None ≡ check_within (length p) p
  too_many_lem h k = invalid (length p) p (many (length p) p (omega (arith, more_left p i at w.walk n e h)))

  module _ {r : Bool} (k : r ≡ contains (same_target (part at (at + n) p)) (take i (entries_of p))) where
    met : r ≡ contains (same_target (take n (drop at p))) (take i (entries_of p))
    met = rw part_of at k

    pub met_before : 0 < n → r ≡ true → None ≡ check_within (length p) p
    met_before h z =
        invalid (length p) p
        (double (length p) p
        (ap (distinct same_target) (whole p i at w.walk n e h)
        ∙ repeated (take i (entries_of p)) (take n (drop at p)) (entries_of (drop (at + n) p)) (sym met ∙ z)))

    pub checked_more : {t' : Bytes} → 0 < n → (i ≡ max_entries → ⊥) → r ≡ false → t' ≡ marks_with t (part at (at + n) p) → Checked p t' (i + 1) (at + n)
    checked_more {t' = t'} h l z u =
        let g = grown p i at w.walk n e h in
        let u' : t' ≡ marks_with t (take n (drop at p)) = rw part_of at u in
        record {
          walk = at_next p i at w.walk n e h;
          few = omega (arith, w.few);
          apart = rw g (distinct_append same_target same_target-sym same_target-alike (take n (drop at p)) (take i (entries_of p)) (sym met ∙ z) w.apart);
          filter = rw (g, u') (marks_more t (take i (entries_of p)) (take n (drop at p)) w.filter);
        }

  -- no entry is left
  module _ (z : n ≡ 0) where
    valid_is : valid_within well_formed max_entries (length p) p ≡ all_are 0 (drop at p)
    unfolding valid_within ◌and◌
    valid_is =
        let k = e ∙ z in
        let d : distinct same_target (entries_of p) ≡ true = ap (distinct same_target) (all_met p i at w.walk k) ∙ w.apart in
        rw (eq-eqb (length p) (length p) refl, d, sum_met p i at w.walk k, count_met p i at w.walk k, le-leb i max_entries w.few) (and_yes (all_are 0 (drop at p)))

    pub checked_end : {r : Bool} → r ≡ all_are 0 (drop at p) → check_within (length p) p ≡ then_some r (record { count = i; used = at })
    unfolding check_within
    checked_end k = rw (valid_is, ← k, sum_met p i at w.walk (e ∙ z), count_met p i at w.walk (e ∙ z))

    pub noted_end : {ends : List ℕ} → Noted ends p i → EntryEnds ends p
    noted_end m =
        let c = count_met p i at w.walk (e ∙ z) in
        record { few = omega (arith, c, w.few); end = λ k h. m.noted k (omega (arith, c)) }

-- the entry e begins what is left from byte at on
pub record Next (p : Bytes) (at : ℕ) (e : Bytes) : Type 0 where
  pub here : entry_length (drop at p) ≡ length e
  pub some : 0 < length e
  pub own : e ≡ part at (at + length e) p

module _ (p : Bytes) (at : ℕ) where
  rest : part at (length p) p ≡ drop at p
  rest = part_rest at (length p) p (le_refl (length p))

  pub next : (e : Bytes) → well_formed e ≡ true
      → (e ≡ take (entry_length (part at (length p) p)) (part at (length p) p)) × (length e ≡ entry_length (part at (length p) p)) → Next p at e
  next e w f =
      let h : entry_length (drop at p) ≡ length e = sym (f.1 ∙ ap entry_length rest) in
      record {
        here = h;
        some = omega (arith, (sized e w).least);
        own = f.0 ∙ ap (λ (q : Bytes). take (entry_length q) q) rest ∙ ap (λ (n : ℕ). take n (drop at p)) h ∙ sym (part_of at (length e) p);
      }

  pub none_next : entry_length (part at (length p) p) ≡ 0 → entry_length (drop at p) ≡ 0
  none_next z = sym (ap entry_length rest) ∙ z

-- of what is not valid nothing was promised
pub invalid_promise : {A : Type 0} (bytes : ℕ) (p : Bytes) → None ≡ check_within bytes p → valid_within well_formed max_entries bytes p ≡ true → A
invalid_promise bytes p e v = absurd (false≢true (sym (within_invalid bytes p (sym e)) ∙ v))

-- what holds of a record of just its own length, where that is the right one
pub of_length : {r : Option Extent} {A : Type 0} (n : ℕ) (p : Bytes) → length p ≡ n
    → (r ≡ check_within (length p) p) × (valid_within well_formed max_entries (length p) p ≡ true → A)
    → (r ≡ check_within n p) × (valid_within well_formed max_entries n p ≡ true → A)
of_length {r} {A} n p e h = subst (λ (m : ℕ). (r ≡ check_within m p) × (valid_within well_formed max_entries m p ≡ true → A)) e h
