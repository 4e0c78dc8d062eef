-- The place of an entry in a list: of the chosen entry it is how many stand before it, and the one that the choice with its place has.
-- Assumes nothing.
use Prim.Native.Nat.{ℕ, suc, ◌+◌, ◌≤◌, ◌<◌}
use Rattle.std.specs.Prelude.{◌≡◌, Bool, Option, Some, None, cond, get_or}
use Rattle.std.proofs.Math.Path.{refl, ap, ap₂, subst⁻¹}
use Rattle.std.proofs.Common.{sym, subst, ◌∙◌, inl, inr, zero-add}
use mathlib.Core.List.{List, [], ◌∷◌, ◌++◌}
use Rattle.std.proofs.Math.Bool.{true, false}
use Rattle.std.proofs.lemmas.Bool.{false≢true}
use Rattle.std.proofs.Math.Option.{some}
use native.Mathlib.Omega.{arith}
use Rattle.std.proofs.Math.ListN.{length, length-append}
use Rattle.std.proofs.Math.Dec.{ltb}
use borrow.Author.Tests.{lt-ltb, ltb-true}
use Rattle.lists.specs.Lists.{All, more, Among}
use Rattle.lists.proofs.ListsLaws as lists
use Rattle.lists.proofs.ListsLaws.{all_map, all_right, all_rest}
use Rattle.slices.specs.Test.{◌and◌}
use Rattle.slices.proofs.TestLaws.{forced_off}
use Rattle.slices.specs.Bytes.{Bytes, same}
use Rattle.slices.proofs.BytesLaws.{same_eq, same_refl, same_of}
use Rattle.slices.specs.Chunks.{flat}
use Rattle.names.specs.Name.{Variable}
use Rattle.entry.specs.Entry.{targets, rank}
use Rattle.policy.specs.declared.Chosen.{Chosen}
use Rattle.policy.specs.Choice.{chosen, chosen_at, place_of, beats, better, choice_from, choice_of}

-- ---- the place of an entry

-- behind entries that are all others
place_behind : (xs : List Bytes) (e : Bytes) (ys : List Bytes) → All (λ x. x ≡ e → ⊥) xs → place_of (xs ++ (e ∷ ys)) e ≡ length xs
unfolding place_of
place_behind [] e ys h = rw (same_refl e)
place_behind (x ∷ xs) e ys (more d h) = rw (forced_off (same x e) (λ k. absurd (d (same_eq x e k)))) (ap suc (place_behind xs e ys h))

-- what stands in a list stands at its place
pub record StandsAt (es : List Bytes) (e : Bytes) : Type 0 where
  pub within : place_of es e < length es
  pub is : get_or es (place_of es e) [] ≡ e

pub stands_at : (es : List Bytes) (e : Bytes) → Among e es → StandsAt es e
unfolding place_of
stands_at [] e a = absurd a
stands_at (x ∷ es) e a = go (same x e) refl a (λ b. stands_at es e b)
  where
    go : (t : Bool) → same x e ≡ t → Among e (x ∷ es) → (Among e es → StandsAt es e) → StandsAt (x ∷ es) e
    go true h a f = record { within = rw h (omega arith); is = rw h (same_eq x e h) }
    go false h (inl k) f = absurd (false≢true (sym h ∙ same_of x e (sym k)))
    go false h (inr b) f = let k = f b in record { within = rw h (let l = k.within in omega arith); is = rw h k.is }

-- ---- of the chosen entry

module _ (v : Variable) (e : Bytes) where
  abbrev IsChosen : List Bytes → Type 0
  IsChosen es = lists.Chosen rank (λ x. targets x v) es e

  pub chosen_place : (es : List Bytes) (c : IsChosen es) → place_of es e ≡ length c.before
  chosen_place es c =
      ap (λ l. place_of l e) c.place
      ∙ place_behind c.before e c.after (all_map (λ x h k. let t = subst⁻¹ (λ y. targets y v ≡ true) k c.target in let q = ap rank k in let l = h t in omega arith) c.before c.first)

  -- while the entries before it are walked over, the best so far stays worse than it
  record Walked (xs rest : List Bytes) (best : Option Chosen) (k at : ℕ) : Type 0 where
    left : Option Chosen
    worse : beats (rank e) left ≡ true
    same : choice_from best k at (xs ++ rest) v ≡ choice_from left (k + length xs) (at + length (flat xs)) rest v

  before : (xs rest : List Bytes) (best : Option Chosen) (k at : ℕ) → beats (rank e) best ≡ true → All (λ x. targets x v ≡ true → rank e < rank x) xs → Walked xs rest best k at
  unfolding choice_from flat better ◌and◌
  before [] rest best k at b h =
      let m : k ≡ k + 0 = omega arith in
      let n : at ≡ at + 0 = omega arith in record { left = best; worse = b; same = ap₂ (λ (i j : ℕ). choice_from best i j rest v) m n }
  before (x ∷ xs) rest best k at b (more q h) =
      let w = before xs rest (better best k at x v) (k + 1) (at + length x) (next (targets x v) refl) h in
      let m : k + 1 + length xs ≡ k + suc (length xs) = omega arith in
      let n : at + length x + length (flat xs) ≡ at + length (x ++ flat xs) = let l = length-append x (flat xs) in omega arith in
      record { left = w.left; worse = w.worse; same = w.same ∙ ap₂ (λ (i j : ℕ). choice_from w.left i j rest v) m n }
    where
      kept : (t : Bool) → rank e < rank x → beats (rank e) (cond t (chosen_at k at (rank x)) best) ≡ true
      kept true l = lt-ltb (rank e) (rank x) l
      kept false l = b

      next : (t : Bool) → targets x v ≡ t → beats (rank e) (cond (t and beats (rank x) best) (chosen_at k at (rank x)) best) ≡ true
      next false f = b
      next true f = kept (beats (rank x) best) (q f)

  -- what comes behind it does not rank lower
  after : (ys : List Bytes) (i a r k at : ℕ) → All (λ x. targets x v ≡ true → r ≤ rank x) ys → choice_from (chosen_at i a r) k at ys v ≡ chosen_at i a r
  unfolding choice_from better ◌and◌
  after [] i a r k at h = refl
  after (x ∷ ys) i a r k at (more q h) = go (targets x v) refl (after ys i a r (k + 1) (at + length x) h)
    where
      go : (t : Bool) → targets x v ≡ t → choice_from (chosen_at i a r) (k + 1) (at + length x) ys v ≡ chosen_at i a r
          → choice_from (cond (t and ltb (rank x) r) (chosen_at k at (rank x)) (chosen_at i a r)) (k + 1) (at + length x) ys v ≡ chosen_at i a r
      go false f e = e
      go true f e = rw (forced_off (ltb (rank x) r) (λ u. absurd (let l = ltb-true (rank x) r u in let m = q f in omega arith))) e

  chosen_choice : (es : List Bytes) (c : IsChosen es) → choice_of es v ≡ chosen_at (0 + length c.before) (0 + length (flat c.before)) (rank e)
  unfolding choice_from better ◌and◌
  chosen_choice es c =
      let w = before c.before (e ∷ c.after) None 0 0 refl c.first in
      ap (λ l. choice_of l v) c.place ∙ w.same
      ∙ rw (c.target, w.worse) (after c.after _ _ (rank e) _ _ (all_rest (all_right c.before (e ∷ c.after) (subst (All _) c.place c.lowest))))

-- the place that the choice has
abbrev index_in : Option Chosen → ℕ
index_in None = 0
index_in (Some x) = x.index

pub choice_place : (es : List Bytes) (v : Variable) (e : Bytes) (x : Chosen) → chosen es v ≡ some e → choice_of es v ≡ Some x → place_of es e ≡ x.index
unfolding chosen
choice_place es v e x h k =
    let c = lists.chosen_some rank (λ x. targets x v) es e h in
    chosen_place v e es c ∙ sym (zero-add (length c.before)) ∙ ap index_in (sym (chosen_choice v e es c) ∙ k)
