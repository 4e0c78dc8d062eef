-- Laws of a filter over items, each with a slot and a fingerprint that is not 0: it has the item that was met, keeps those that it had, and where it
-- has neither the fingerprint of an item nor several, no item like it was met. Assumes nothing.
use Rattle.std.specs.Prelude.{ℕ, ◌<◌, ◌≡◌, Bool, true, false, length, set, eqb}
use Rattle.std.proofs.Math.Path.{refl}
use Rattle.std.proofs.Common.{sym, ap, ◌∙◌, arith, get_or-set_same, get_or-set_other, eqb-true}
use mathlib.Core.List.{List, [], ◌∷◌, ◌++◌}
use Rattle.std.proofs.Math.ListN.{get_or}
use Rattle.std.proofs.lemmas.Bool.{eqb-false}
use Rattle.lists.specs.Lists.{All, nil, more}
use Rattle.lists.proofs.ListsLaws.{all_append, all_map}
use Rattle.slices.proofs.TestLaws.{forced_off}
use Rattle.slices.specs.Bytes.{Bytes}
use Rattle.slices.specs.Chunks.{contains}
use Rattle.slices.specs.Filter.{joined, Marked, several, this}

-- ---- one slot, after an item with slot k and fingerprint f was met
module _ (t : Bytes) (k f : ℕ) (h : k < length t) where
  abbrev after : Bytes
  after = set t k (joined (get_or t k 0) f)

  marked_self : Marked after k f
  marked_self = go (eqb (get_or t k 0) 0) refl
    where
      go : (b : Bool) → eqb (get_or t k 0) 0 ≡ b → Marked after k f
      go true q = this (get_or-set_same t k (joined (get_or t k 0) f) 0 h ∙ rw q)
      go false q = several (get_or-set_same t k (joined (get_or t k 0) f) 0 h ∙ rw q)

  marked_kept : (j g : ℕ) → 0 < g → Marked t j g → Marked after j g
  marked_kept j g n m = go (eqb j k) refl
    where
      same_slot : j ≡ k → (b : Bool) → eqb (get_or t k 0) 0 ≡ b → Marked t j g → Marked after j g
      same_slot e true z (several y) = absurd (let w = eqb-true (get_or t k 0) 0 z in let y' = rw e at y in omega arith)
      same_slot e true z (this y) = absurd (let w = eqb-true (get_or t k 0) 0 z in let y' = rw e at y in omega arith)
      same_slot e false z m = several (ap (λ (i : ℕ). get_or after i 0) e ∙ get_or-set_same t k (joined (get_or t k 0) f) 0 h ∙ rw z)

      other_slot : (j ≡ k → ⊥) → Marked t j g → Marked after j g
      other_slot e (several y) = several (get_or-set_other t k j (joined (get_or t k 0) f) 0 e ∙ y)
      other_slot e (this y) = this (get_or-set_other t k j (joined (get_or t k 0) f) 0 e ∙ y)

      go : (b : Bool) → eqb j k ≡ b → Marked after j g
      go true z = same_slot (eqb-true j k z) (eqb (get_or t k 0) 0) refl m
      go false z = other_slot (eqb-false j k z) m

-- ---- items
module _ (slot_of fingerprint_of : Bytes → ℕ) where
  abbrev pub MarkedIn : Bytes → Bytes → Type 0
  MarkedIn t r = Marked t (slot_of r) (fingerprint_of r)

  -- the filter after r was met has r behind the others
  pub filter_met : ((r : Bytes) → 0 < fingerprint_of r) → (t r : Bytes) (rs : List Bytes) → slot_of r < length t → All (MarkedIn t) rs
      → All (MarkedIn (set t (slot_of r) (joined (get_or t (slot_of r) 0) (fingerprint_of r)))) (rs ++ (r ∷ []))
  filter_met n t r rs h m =
      all_append rs (r ∷ [])
      (all_map (λ q a. marked_kept t (slot_of r) (fingerprint_of r) h (slot_of q) (fingerprint_of q) (n q) a) rs m)
      (more (marked_self t (slot_of r) (fingerprint_of r) h) nil)

  -- a slot that says neither the fingerprint nor several: nothing like r was met
  pub filter_unmet : (like : Bytes → Bytes → Bool)
      → ((r q : Bytes) → like r q ≡ true → (slot_of q ≡ slot_of r) × (fingerprint_of q ≡ fingerprint_of r))
      → (t r : Bytes) (rs : List Bytes) → All (MarkedIn t) rs → (get_or t (slot_of r) 0 ≡ 255 → ⊥) → (get_or t (slot_of r) 0 ≡ fingerprint_of r → ⊥)
      → contains (like r) rs ≡ false
  unfolding contains
  filter_unmet like alike t r [] nil a b = refl
  filter_unmet like alike t r (q ∷ rs) (more m ms) a b = rw (forced_off (like r q) (λ e. absurd (hit m (alike r q e)))) (filter_unmet like alike t r rs ms a b)
    where
      hit : MarkedIn t q → (slot_of q ≡ slot_of r) × (fingerprint_of q ≡ fingerprint_of r) → ⊥
      hit (several x) k = a (rw k.0 at x)
      hit (this x) k = b (ap (λ (i : ℕ). get_or t i 0) (sym k.0) ∙ x ∙ k.1)
