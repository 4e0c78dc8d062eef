-- Laws of well-formed entries. Assumes nothing.
use Rattle.std.specs.Prelude.{ℕ, ◌+◌, ◌-◌, ◌%◌, ◌≤◌, ◌<◌, ◌≡◌, refl, [], Bool, true, false, cond, ◌||◌, ◌⊎◌, length, take, drop, eqb, leb}
use Rattle.std.proofs.Common.{sym, ap, ap₂, ◌∙◌, inl, inr, arith, le_refl, take-take}
use Rattle.std.proofs.lemmas.Bool.{false≢true}
use borrow.Author.Tests.{eq-eqb, ne_eqb, leb-true, eqb-true}
use Rattle.lists.specs.Lists.{Among}
use Rattle.limits.specs.Limits.{max_name_bytes, max_name_size, namespace_bytes, namespace_at, whole_namespace_rank, entry_header, trigger_name_at, max_entry_bytes}
use Rattle.slices.specs.Test.{◌and◌}
use Rattle.slices.proofs.TestLaws.{and_left, and_right, and_intro}
use Rattle.slices.specs.Bytes.{Bytes, le32, part, same}
use Rattle.slices.proofs.NumberLaws.{le32_take, le32_drop}
use Rattle.slices.proofs.BytesLaws.{pairwise_length, same_eq, same_sym, same_of}
use Rattle.slices.proofs.PartLaws.{length_part, part_none}
use Rattle.names.specs.Name.{is_name, is_terminated, is_plain_terminated, units, Variable, named, number_sign, unit_matches, matches, wildcards}
use Rattle.names.proofs.NameLaws.{is_name-length, is_name-even, named_name, is_terminated-length, is_terminated-name, plain_terminated, plain_wildcards, units_length, wildcards_le, sign_in_name}
use Rattle.entry.specs.Entry.{header_ok, lock_ok, name_ok, well_formed, size_field, offset_to_name, lock_policy_type, name_is_empty, name_of, namespace_of, targets, rank, same_target}

-- ---- lengths and places
pub record Sized (e : Bytes) : Type 0 where
  pub least : entry_header ≤ length e
  pub most : length e ≤ max_entry_bytes
  pub stated : size_field e ≡ length e
  pub offset_least : entry_header ≤ offset_to_name e
  pub offset_most : offset_to_name e ≤ length e

name_most : (e : Bytes) (t : Bool) → name_is_empty e ≡ t → (t || is_terminated (part (offset_to_name e) (length e) e)) ≡ true → offset_to_name e ≤ length e → length e ≤ offset_to_name e + max_name_size
name_most e true q h l = omega (arith, eqb-true (offset_to_name e) (length e) q)
name_most e false q h l =
    omega (arith, is_terminated-length (part (offset_to_name e) (length e) e) h, length_part (offset_to_name e) (length e) e (omega arith))

lock_bounds : (e : Bytes) (t : Bool) → leb (lock_policy_type e) 2 ≡ t → lock_ok e ≡ true → (entry_header ≤ offset_to_name e) × (offset_to_name e ≤ trigger_name_at + max_name_size)
unfolding lock_ok
lock_bounds e true q h =
    let h₁ : eqb (offset_to_name e) entry_header ≡ true = rw q at h in
    let k = eqb-true (offset_to_name e) entry_header h₁ in
    (omega arith, omega arith)
lock_bounds e false q h =
    let h₁ = rw q at h in
    let h₂ = and_right _ _ (and_right _ _ h₁) in
    let k = leb-true trigger_name_at (offset_to_name e) (and_left _ _ (and_right _ _ h₁)) in
    let n = is_terminated-length (part trigger_name_at (offset_to_name e) e) (plain_terminated _ (and_right _ _ h₂)) in
    let m = length_part trigger_name_at (offset_to_name e) e (leb-true (offset_to_name e) (length e) (and_left _ _ h₂)) in
    (omega arith, omega (arith, n, m))

-- what the header alone tells
module _ (e : Bytes) (h : header_ok e ≡ true) where
  pub header_least : entry_header ≤ length e
  unfolding header_ok
  header_least = leb-true entry_header (length e) (and_left _ _ h)

  pub header_stated : size_field e ≡ length e
  unfolding header_ok
  header_stated = eqb-true (size_field e) (length e) (and_left _ _ (and_right _ _ (and_right _ _ h)))

pub well_formed_header : (e : Bytes) → well_formed e ≡ true → header_ok e ≡ true
unfolding well_formed
well_formed_header e w = and_left _ _ w

pub sized : (e : Bytes) → well_formed e ≡ true → Sized e
unfolding well_formed name_ok
sized e w =
    let h = well_formed_header e w in
    let n = and_right _ _ (and_right _ _ w) in
    let l = leb-true (offset_to_name e) (length e) (and_left _ _ n) in
    let k = lock_bounds e (leb (lock_policy_type e) 2) refl (and_left _ _ (and_right _ _ w)) in
    record {
      least = header_least e h;
      most = omega (arith, k, name_most e (name_is_empty e) refl (and_right _ _ n) l);
      stated = header_stated e h;
      offset_least = k.0;
      offset_most = l;
    }

-- ---- the name
-- a part without its last two bytes
pub part_shorter : (a b : ℕ) (e : Bytes) → b ≤ length e → take (length (part a b e) - 2) (part a b e) ≡ part a (b - 2) e
part_shorter a b e h =
    let k : b - a - 2 ≡ b - 2 - a = omega arith in
    rw (length_part a b e h, k) (take-take (b - 2 - a) (b - a) (drop a e) (omega arith))

pub name_of-empty : (e : Bytes) → name_is_empty e ≡ true → name_of e ≡ []
unfolding name_of
name_of-empty e q = part_none (offset_to_name e) (length e - 2) e (omega (arith, eqb-true (offset_to_name e) (length e) q))

-- the entry's name is empty, or a name that step 1 of a set takes
pub name_of-name : (e : Bytes) → well_formed e ≡ true → (name_of e ≡ []) ⊎ (is_name (name_of e) ≡ true)
unfolding well_formed name_ok name_of
name_of-name e w = go (name_is_empty e) refl (and_right _ _ (and_right _ _ (and_right _ _ w)))
  where
    go : (t : Bool) → name_is_empty e ≡ t → (t || is_terminated (part (offset_to_name e) (length e) e)) ≡ true
        → (part (offset_to_name e) (length e - 2) e ≡ []) ⊎ (is_name (part (offset_to_name e) (length e - 2) e) ≡ true)
    go true q h = inl (name_of-empty e q)
    go false q h = inr (rw (part_shorter (offset_to_name e) (length e) e (le_refl (length e))) at (is_terminated-name _ h))

-- a name that is not empty has at least one unit and its zero unit
pub name_least : (e : Bytes) → well_formed e ≡ true → name_is_empty e ≡ false → offset_to_name e + 4 ≤ length e
unfolding well_formed name_ok
name_least e w q =
    let h : is_terminated (part (offset_to_name e) (length e) e) ≡ true = rw q at (and_right _ _ (and_right _ _ (and_right _ _ w))) in
    omega (arith, is_terminated-length (part (offset_to_name e) (length e) e) h, length_part (offset_to_name e) (length e) e (le_refl (length e)))

-- so the name is empty exactly if it has no bytes
pub name_of-none : (e : Bytes) → well_formed e ≡ true → name_is_empty e ≡ eqb (length (name_of e)) 0
unfolding name_of
name_of-none e w = go (name_is_empty e) refl
  where
    go : (t : Bool) → name_is_empty e ≡ t → t ≡ eqb (length (part (offset_to_name e) (length e - 2) e)) 0
    go true q = sym (eq-eqb _ 0 (ap length (name_of-empty e q)))
    go false q = sym (ne_eqb (length (part (offset_to_name e) (length e - 2) e)) 0 (λ z. omega (arith, name_least e w q, length_part (offset_to_name e) (length e - 2) e (omega arith))))

-- a name that is not empty and its zero unit go to the entry's end
pub name_of-closed : (e : Bytes) → well_formed e ≡ true → name_is_empty e ≡ false → length (name_of e) + 2 ≡ length e - offset_to_name e
unfolding name_of
name_of-closed e w q = omega (arith, name_least e w q, length_part (offset_to_name e) (length e - 2) e (omega arith))

pub name_of-even : (e : Bytes) → well_formed e ≡ true → length (name_of e) % 2 ≡ 0
name_of-even e w = go (name_of-name e w)
  where
    go : (name_of e ≡ []) ⊎ (is_name (name_of e) ≡ true) → length (name_of e) % 2 ≡ 0
    go (inl h) = rw h
    go (inr h) = is_name-even (name_of e) h

pub name_of-most : (e : Bytes) → well_formed e ≡ true → length (name_of e) ≤ max_name_bytes
name_of-most e w = go (name_of-name e w)
  where
    go : (name_of e ≡ []) ⊎ (is_name (name_of e) ≡ true) → length (name_of e) ≤ max_name_bytes
    go (inl z) = omega (arith, ap length z)
    go (inr h) = (is_name-length (name_of e) h).1

-- a name has at most 64 '#', and a whole namespace has rank 65
pub rank_most : (e : Bytes) → well_formed e ≡ true → rank e ≤ whole_namespace_rank
unfolding rank
rank_most e w = go (name_is_empty e)
  where
    go : (t : Bool) → cond t whole_namespace_rank (wildcards (units (name_of e))) ≤ whole_namespace_rank
    go true = omega arith
    go false = omega (arith, wildcards_le (units (name_of e)), units_length (name_of e), name_of-most e w)

-- ---- entries that target a variable
pub target_namespace : (e : Bytes) (v : Variable) → targets e v ≡ true → namespace_of e ≡ v.namespace
unfolding targets
target_namespace e v h = same_eq (namespace_of e) v.namespace (and_left _ _ h)

-- by its name: the name matches, and has at most 64 '#'
pub target_name : (e : Bytes) (v : Variable) → name_is_empty e ≡ false → targets e v ≡ true → matches (units (name_of e)) (units v.name) ≡ true
unfolding targets
target_name e v z h = rw z at (and_right _ _ h)

pub rank_of_name : (e : Bytes) (v : Variable) → named v ≡ true → targets e v ≡ true → name_is_empty e ≡ false → rank e < whole_namespace_rank
unfolding rank
rank_of_name e v n h z =
    let m = pairwise_length unit_matches (units (name_of e)) (units v.name) (target_name e v z h) in
    rw z (omega (arith, m, is_name-length v.name (named_name v n), wildcards_le (units (name_of e)), units_length v.name))

-- as one for its whole namespace
pub rank_of_namespace : (e : Bytes) → name_is_empty e ≡ true → rank e ≡ whole_namespace_rank
unfolding rank
rank_of_namespace e z = rw z

-- A VARIABLE WITH '#' IN ITS NAME IS TARGETED BY NO ENTRY WITH A NAME, only by one for its whole namespace
pub guarded_by_namespace : (e : Bytes) (v : Variable) → Among number_sign (units v.name) → targets e v ≡ true → name_is_empty e ≡ true
unfolding targets
guarded_by_namespace e v h t = go (name_is_empty e) (and_right _ _ t)
  where
    go : (b : Bool) → (b || matches (units (name_of e)) (units v.name)) ≡ true → b ≡ true
    go true k = refl
    go false k = absurd (false≢true (sym (sign_in_name (units (name_of e)) (units v.name) h) ∙ k))

-- ---- the trigger of a type 3 entry
module _ (e : Bytes) (w : well_formed e ≡ true) (q : leb (lock_policy_type e) 2 ≡ false) where
  trigger_tests : (eqb (lock_policy_type e) 3 and leb trigger_name_at (offset_to_name e) and leb (offset_to_name e) (length e) and is_plain_terminated (part trigger_name_at (offset_to_name e) e)) ≡ true
  unfolding well_formed lock_ok
  trigger_tests = rw q at (and_left _ _ (and_right _ _ w))

  pub type_3 : lock_policy_type e ≡ 3
  type_3 = eqb-true (lock_policy_type e) 3 (and_left _ _ trigger_tests)

  pub trigger_least : trigger_name_at ≤ offset_to_name e
  trigger_least = leb-true trigger_name_at (offset_to_name e) (and_left _ _ (and_right _ _ trigger_tests))

  trigger_plain : is_plain_terminated (part trigger_name_at (offset_to_name e) e) ≡ true
  trigger_plain = and_right _ _ (and_right _ _ (and_right _ _ trigger_tests))

  pub trigger_terminated : is_terminated (part trigger_name_at (offset_to_name e) e) ≡ true
  trigger_terminated = plain_terminated (part trigger_name_at (offset_to_name e) e) trigger_plain

  pub trigger_length : length (part trigger_name_at (offset_to_name e) e) ≡ offset_to_name e - trigger_name_at
  trigger_length = length_part trigger_name_at (offset_to_name e) e (sized e w).offset_most

  pub trigger_part : take (length (part trigger_name_at (offset_to_name e) e) - 2) (part trigger_name_at (offset_to_name e) e) ≡ part trigger_name_at (offset_to_name e - 2) e
  trigger_part = part_shorter trigger_name_at (offset_to_name e) e (sized e w).offset_most

  pub trigger_name : is_name (part trigger_name_at (offset_to_name e - 2) e) ≡ true
  trigger_name = rw trigger_part at (is_terminated-name (part trigger_name_at (offset_to_name e) e) trigger_terminated)

  -- its name has no '#'
  pub trigger_wildcards : wildcards (units (part trigger_name_at (offset_to_name e - 2) e)) ≡ 0
  trigger_wildcards = rw trigger_part at (plain_wildcards (part trigger_name_at (offset_to_name e) e) trigger_plain)

-- ---- whole units: an entry and its name's place are even
offset_even : (e : Bytes) → well_formed e ≡ true → (t : Bool) → leb (lock_policy_type e) 2 ≡ t → offset_to_name e % 2 ≡ 0
unfolding well_formed lock_ok
offset_even e w true q =
    let h : eqb (offset_to_name e) entry_header ≡ true = rw q at (and_left _ _ (and_right _ _ w)) in
    omega (arith, eqb-true (offset_to_name e) entry_header h)
offset_even e w false q =
    let n = is_name-even (part trigger_name_at (offset_to_name e - 2) e) (trigger_name e w q) in
    let l = length_part trigger_name_at (offset_to_name e - 2) e (omega (arith, (sized e w).offset_most)) in
    omega (arith, n, l, trigger_length e w q, is_terminated-length _ (trigger_terminated e w q))

pub entry_even : (e : Bytes) → well_formed e ≡ true → (length e % 2 ≡ 0) × (offset_to_name e % 2 ≡ 0)
entry_even e w = (go (name_is_empty e) refl, at)
  where
    at : offset_to_name e % 2 ≡ 0
    at = offset_even e w (leb (lock_policy_type e) 2) refl

    go : (t : Bool) → name_is_empty e ≡ t → length e % 2 ≡ 0
    go true q = omega (arith, at, eqb-true (offset_to_name e) (length e) q)
    go false q = omega (arith, at, name_of-even e w, name_of-closed e w q, (sized e w).offset_most)

-- ---- the same namespace and name
-- the namespace's first bytes in the entry
pub namespace_start : (e : Bytes) → le32 (namespace_of e) 0 ≡ le32 e namespace_at
namespace_start e = le32_take namespace_bytes (drop namespace_at e) 0 (omega arith) ∙ le32_drop namespace_at e 0

pub record Same (e f : Bytes) : Type 0 where
  pub namespace : namespace_of e ≡ namespace_of f
  pub name : name_of e ≡ name_of f

pub same_target-same : (e f : Bytes) → same_target e f ≡ true → Same e f
unfolding same_target
same_target-same e f h = record { namespace = same_eq _ _ (and_left _ _ h); name = same_eq _ _ (and_right _ _ h) }

pub same_target-of : (e f : Bytes) → Same e f → same_target e f ≡ true
unfolding same_target
same_target-of e f s = and_intro _ _ (same_of _ _ s.namespace) (same_of _ _ s.name)

pub same_target-sym : (e f : Bytes) → same_target e f ≡ same_target f e
unfolding same_target
same_target-sym e f = ap₂ ◌and◌ (same_sym (namespace_of e) (namespace_of f)) (same_sym (name_of e) (name_of f))

-- what has the same target is alike to every other
pub same_target-alike : (e f : Bytes) → same_target e f ≡ true → (g : Bytes) → same_target e g ≡ same_target f g
unfolding same_target
same_target-alike e f h g =
    let s = same_target-same e f h in
    ap₂ (λ n m. same n (namespace_of g) and same m (name_of g)) s.namespace s.name
