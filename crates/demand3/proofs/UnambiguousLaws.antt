-- The condition on another order, `Unambiguous`, speaks of variables whose namespace and name are lists of any numbers. Of
-- entries that are bytes it is enough to know it of the variables that are bytes, which are all that a caller can name.
-- A variable that two entries target at one rank is spelled anew in bytes: its namespace is the entries' own, and each unit of
-- its name is a unit of an entry or a hex digit. Assumes nothing.
use Rattle.std.specs.Prelude.{ℕ, suc, ◌+◌, ◌-◌, ◌*◌, ◌%◌, ◌<◌, ◌≡◌, refl, List, [], ◌∷◌, Bool, false, ◌||◌, ◌⊎◌, length}
use Rattle.std.proofs.Common.{ap, ap₂, ◌∙◌, subst, inl, inr, arith, eq-eqb}
use Rattle.std.proofs.Math.Bool.{true}
use Rattle.std.proofs.lemmas.Bool.{false≢true}
use Rattle.limits.specs.Limits.{namespace_bytes}
use Rattle.lists.specs.Lists.{All, nil, more, Pairs, RanksDiffer}
use Rattle.lists.proofs.ListsLaws.{all_here, all_rest, all_map}
use Rattle.slices.specs.Test.{◌and◌}
use Rattle.slices.proofs.TestLaws.{and_left, and_right, and_intro}
use Rattle.slices.specs.Bytes.{Bytes, AreBytes, pairwise}
use Rattle.slices.proofs.PartLaws.{bytes_part}
use Rattle.names.specs.Name.{Variable, units, each, is_name, named, unit_matches}
use Rattle.names.proofs.NameLaws.{is_name-even, named_namespace, named_name, unit_cases}
use Rattle.entry.specs.Entry.{offset_to_name, name_is_empty, name_of, targets, rank}
use Rattle.entry.proofs.EntryLaws.{target_namespace, target_name, rank_of_name, rank_of_namespace}
use Rattle.history.specs.History.{Unambiguous}
use Rattle.demand3.specs.Machine.{machine}

-- a variable as a caller can name it, by a name that step 1 takes
pub record NamedInBytes (v : Variable) : Type 0 where
  pub namespace : AreBytes v.namespace
  pub name : AreBytes v.name
  pub taken : named v ≡ true

-- no two entries of equal rank target one such variable
abbrev pub UnambiguousInBytes : List Bytes → Type 0
UnambiguousInBytes ds = (v : Variable) → NamedInBytes v → Pairs (RanksDiffer rank (λ e. targets e v)) ds

-- ---- parts of an entry

bytes_name : (e : Bytes) → AreBytes e → AreBytes (name_of e)
unfolding name_of
bytes_name e h = bytes_part (offset_to_name e) (length e - 2) e h

-- ---- a name spelled anew in bytes: the same units

record Spelled (s : Bytes) : Type 0 where
  bytes : Bytes
  are_bytes : AreBytes bytes
  same_units : units bytes ≡ units s
  same_length : length bytes ≡ length s

-- one unit and the rest
spell_unit : (a b c d : ℕ) (s : Bytes) → a < 256 → b < 256 → (a + 256 * b ≡ c + 256 * d) ⊎ (c + 256 * d < 256) → Spelled s
    → Spelled (c ∷ d ∷ s)
unfolding units
spell_unit a b c d s ha hb (inl e) r =
    record {
      bytes = a ∷ b ∷ r.bytes;
      are_bytes = more ha (more hb r.are_bytes);
      same_units = ap₂ ◌∷◌ e r.same_units;
      same_length = ap (λ n. suc (suc n)) r.same_length;
    }
spell_unit a b c d s ha hb (inr l) r =
    let e : c + 256 * d + 256 * 0 ≡ c + 256 * d = omega arith in
    record {
      bytes = (c + 256 * d) ∷ 0 ∷ r.bytes;
      are_bytes = more l (more {a = 0} (omega arith) r.are_bytes);
      same_units = ap₂ ◌∷◌ e r.same_units;
      same_length = ap (λ n. suc (suc n)) r.same_length;
    }

spell : (p s : Bytes) → AreBytes p → length s % 2 ≡ 0 → pairwise unit_matches (units p) (units s) ≡ true → Spelled s
unfolding units pairwise
spell p [] h e m = record { bytes = []; are_bytes = nil; same_units = refl; same_length = refl }
spell p (c ∷ []) h e m = absurd (omega arith)
spell [] (c ∷ d ∷ s) h e m = absurd (false≢true m)
spell (a ∷ []) (c ∷ d ∷ s) h e m = absurd (false≢true m)
spell (a ∷ b ∷ p) (c ∷ d ∷ s) (more ha (more hb h)) e m =
    spell_unit a b c d s ha hb (unit_cases (a + 256 * b) (c + 256 * d) (and_left _ _ m))
    (spell p s h (omega arith) (and_right _ _ m))

-- ---- what stays of a variable with its name spelled anew

abbrev respelled : Variable → Bytes → Variable
respelled v name = record { namespace = v.namespace; name = name }

named_respelled : (v : Variable) (r : Spelled v.name) → named (respelled v r.bytes) ≡ named v
unfolding named is_name
named_respelled v r = rw (r.same_units, r.same_length)

targets_respelled : (e : Bytes) (v : Variable) (r : Spelled v.name) → targets e (respelled v r.bytes) ≡ targets e v
unfolding targets
targets_respelled e v r = rw r.same_units

-- ---- two entries of equal rank

-- two entries that target one variable at one rank, the first of them bytes, so target a variable in bytes
module _ (e f : Bytes) (v : Variable) (h : AreBytes e) (n : named v ≡ true) (p : targets e v ≡ true) (q : targets f v ≡ true)
    (k : rank e ≡ rank f) (differ : (w : Variable) → NamedInBytes w → RanksDiffer rank (λ x. targets x w) e f) where
  namespace_bytes_lem : AreBytes v.namespace
  namespace_bytes_lem = subst AreBytes (target_namespace e v p) (bytes_part 8 24 e h)

  -- by name: the same variable, spelled anew
  by_name : name_is_empty e ≡ false → ⊥
  by_name z =
      let r = spell (name_of e) v.name (bytes_name e h) (is_name-even v.name (named_name v n)) (target_name e v z p) in
      differ (respelled v r.bytes) (record { namespace = namespace_bytes_lem; name = r.are_bytes; taken = named_respelled v r ∙ n })
      (targets_respelled e v r ∙ p) (targets_respelled f v r ∙ q) k

  -- both by namespace: any name serves, as "A"
  abbrev letter_a : Bytes
  letter_a = 0x41 ∷ 0 ∷ []

  targets_A : (x : Bytes) → name_is_empty x ≡ true → targets x v ≡ true → targets x (respelled v letter_a) ≡ true
  unfolding targets
  targets_A x z t =
      let y : (name_is_empty x || pairwise unit_matches (units (name_of x)) (units letter_a)) ≡ true = rw z in
      and_intro _ _ (and_left _ _ t) y

  named_A : named (respelled v letter_a) ≡ true
  unfolding named is_name units each ◌and◌
  named_A = rw (eq-eqb (length v.namespace) namespace_bytes (named_namespace v n))

  by_namespace : name_is_empty e ≡ true → name_is_empty f ≡ true → ⊥
  by_namespace z y =
      differ (respelled v letter_a) (record { namespace = namespace_bytes_lem; name = more (omega arith) (more (omega arith) nil); taken = named_A })
      (targets_A e z p) (targets_A f y q) k

  never_both : ⊥
  never_both = go (name_is_empty e) (name_is_empty f) refl refl
    where
      go : (x y : Bool) → name_is_empty e ≡ x → name_is_empty f ≡ y → ⊥
      go false y a b = by_name a
      go true true a b = by_namespace a b
      go true false a b = omega (arith, k, rank_of_namespace e a, rank_of_name f v n q b)

-- ---- BYTES ARE ENOUGH

-- what holds of each pair with every variable
all_each : {A W : Type 0} (P : W → Type 0) (R : W → A → Type 0) (l : List A) → ((w : W) → P w → All (R w) l)
    → All (λ a. (w : W) → P w → R w a) l
all_each P R [] h = nil
all_each P R (a ∷ l) h = more (λ w p. all_here (h w p)) (all_each P R l (λ w p. all_rest (h w p)))

pub unambiguous : (ds : List Bytes) → All AreBytes ds → UnambiguousInBytes ds → Unambiguous machine ds
unambiguous [] b u v n = tt
unambiguous (e ∷ ds) (more b bs) u v n = (
  all_map (λ f differ p q k. never_both e f v b n p q k differ) ds
      (all_each NamedInBytes (λ w. RanksDiffer rank (λ x. targets x w) e) ds (λ w r. (u w r).0)),
  unambiguous ds bs (λ w r. (u w r).1) v n,
)
