-- Laws of items that stand end to end, over any `first` that tells no more than the list has.
-- `chunks` and `packed` are inverse: `chunks_packed` and `packed_chunks`.
-- Assumes nothing.
use Prim.Native.Nat.{ℕ, zero, suc, ◌+◌, ◌-◌, ◌≤◌, ◌<◌, zero-le}
use Rattle.std.specs.Prelude.{◌≡◌, true}
use Rattle.std.proofs.Math.Path.{refl, ap}
use Rattle.std.proofs.Common.{sym, ◌∙◌, arith, le_refl, take-append-drop, drop-drop, take_at}
use mathlib.Core.List.{List, [], ◌∷◌, ◌++◌, append_assoc}
use Rattle.std.proofs.Math.ListN.{length, take, drop, replicate, length-append, length-drop}
use Rattle.std.proofs.lemmas.List.{length-replicate}
use Rattle.std.proofs.Math.Seq.{length-take-le, take-add, drop_at}
pub use Rattle.lists.specs.Lists.{All, nil, more}
pub use Rattle.lists.proofs.ListsLaws.{flat_append, flat_one}
use Rattle.slices.specs.Bytes.{Bytes, all_are, padded}
use Rattle.slices.proofs.BytesLaws.{all_are-is, all_are-replicate}
use Rattle.slices.specs.Chunks.{flat, next, chunks_from, chunks, used, packed}

pub length_packed : (n v : ℕ) (cs : List Bytes) → length (flat cs) ≤ n → length (packed n v cs) ≡ n
unfolding packed padded
length_packed n v cs h = simp (length-append, length-replicate) (omega arith)

pub packed_behind : (n v : ℕ) (cs : List Bytes) → drop (length (flat cs)) (packed n v cs) ≡ replicate (n - length (flat cs)) v
unfolding packed padded
packed_behind n v cs = drop_at (flat cs) (replicate (n - length (flat cs)) v) (length (flat cs)) refl

module _ (first : Bytes → ℕ) where
  -- the first k bytes are skipped
  pub chunks_from-drop : (k : ℕ) (l : Bytes) → chunks_from first k l ≡ chunks_from first 0 (drop k l)
  unfolding chunks_from
  chunks_from-drop zero l = refl
  chunks_from-drop (suc k) [] = refl
  chunks_from-drop (suc k) (b ∷ l) = chunks_from-drop k l

  -- no item begins the list
  pub chunks_stop : (l : Bytes) → first l ≡ 0 → chunks first l ≡ []
  unfolding chunks chunks_from
  chunks_stop [] e = refl
  chunks_stop (b ∷ l) e = ap (λ (n : ℕ). next n (b ∷ l) (λ n. chunks_from first n l)) e

  pub used_stop : (l : Bytes) → first l ≡ 0 → used first l ≡ 0
  unfolding used flat
  used_stop l e = rw (chunks_stop l e)

  pub length_chunks : (l : Bytes) → length (flat (chunks first l)) ≡ used first l
  unfolding used
  length_chunks l = refl

module _ (first : Bytes → ℕ) (within : (l : Bytes) → first l ≤ length l) where
  -- an item of n bytes begins the list
  pub chunks_step : (n : ℕ) (l : Bytes) → first l ≡ n → 0 < n → chunks first l ≡ take n l ∷ chunks first (drop n l)
  unfolding chunks chunks_from
  chunks_step zero l e h = absurd (omega arith)
  chunks_step (suc n) [] e h = absurd (omega (arith, e, within []))
  chunks_step (suc n) (b ∷ l) e h =
      ap (λ (n : ℕ). next n (b ∷ l) (λ n. chunks_from first n l)) e ∙ ap (λ (cs : List Bytes). take (suc n) (b ∷ l) ∷ cs) (chunks_from-drop first n l)

  pub used_step : (n : ℕ) (l : Bytes) → first l ≡ n → 0 < n → used first l ≡ n + used first (drop n l)
  unfolding used flat
  used_step n l e h =
      let k : n ≤ length l = omega (arith, within l) in
      rw (chunks_step n l e h, length-append, length-take-le n l k)

  -- what holds where no item begins, and of a list that begins with an item if it holds of what is behind, holds of every list
  module _ (P : Bytes → Type 0) (stop : (l : Bytes) → first l ≡ 0 → P l)
      (step : (l : Bytes) (n : ℕ) → first l ≡ n → 0 < n → n ≤ length l → P (drop n l) → P l) where
    by_first : (l : Bytes) → ((m : Bytes) → length m < length l → P m) → (n : ℕ) → first l ≡ n → P l
    by_first l ih zero e = stop l e
    by_first l ih (suc n) e =
        let k : suc n ≤ length l = omega (arith, within l) in
        step l (suc n) e (omega arith) k (ih (drop (suc n) l) (rw length-drop (omega arith)))

    by_length : (f : ℕ) (l : Bytes) → length l ≤ f → P l
    by_length zero l h = by_first l (λ m k. absurd (omega arith)) (first l) refl
    by_length (suc f) l h = by_first l (λ m k. by_length f m (omega arith)) (first l) refl

    pub by_chunks : (l : Bytes) → P l
    by_chunks l = by_length (length l) l (le_refl (length l))

  -- ---- how many bytes the items take
  pub used_within : (l : Bytes) → used first l ≤ length l
  used_within = by_chunks (λ l. used first l ≤ length l)
      (λ l e. rw (used_stop first l e) zero-le)
      (λ l n e h k ih. let ih' = rw length-drop at ih in rw (used_step n l e h) (omega arith))

  -- the items' bytes are the list's first
  pub flat_chunks : (l : Bytes) → flat (chunks first l) ≡ take (used first l) l
  unfolding flat
  flat_chunks = by_chunks (λ l. flat (chunks first l) ≡ take (used first l) l)
      (λ l e. rw (chunks_stop first l e, used_stop first l e))
      (λ l n e h k ih. rw (chunks_step n l e h, used_step n l e h, take-add, ih))

  -- ---- a walk that has come to the index at
  module _ (at n : ℕ) (s : Bytes) (e : first (drop at s) ≡ n) where
    pub at_within : at ≤ length s → at + n ≤ length s
    at_within h = let k = rw length-drop at (within (drop at s)) in omega arith

    pub used_here : n ≡ 0 → used first s ≡ at + used first (drop at s) → at ≡ used first s
    used_here z q = let k = used_stop first (drop at s) (e ∙ z) in omega arith

    pub used_again : 0 < n → used first s ≡ at + used first (drop at s) → used first s ≡ at + n + used first (drop (at + n) s)
    used_again h q = let k = rw drop-drop at (used_step n (drop at s) e h) in omega arith

  -- ---- from bytes to items and back
  -- all of a list from the end of its items on
  pub packed_chunks : (v : ℕ) (s : Bytes) → all_are v (drop (used first s) s) ≡ true → packed (length s) v (chunks first s) ≡ s
  unfolding packed padded
  packed_chunks v s e =
      let k : length (take (used first s) s) ≡ used first s = length-take-le (used first s) s (used_within s) in
      let d : drop (used first s) s ≡ replicate (length s - used first s) v = all_are-is v (drop (used first s) s) e ∙ rw length-drop in
      rw (flat_chunks s, k, ← d) (take-append-drop (used first s) s)

  -- the bytes are one item, also before any others
  pub record IsItem (c : Bytes) : Type 0 where
    pub some : 0 < length c
    pub whole : (m : Bytes) → first (c ++ m) ≡ length c

  -- from items to bytes and back
  pub chunks_flat : (cs : List Bytes) (m : Bytes) → All IsItem cs → first m ≡ 0 → chunks first (flat cs ++ m) ≡ cs
  unfolding flat
  chunks_flat [] m nil e = chunks_stop first m e
  chunks_flat (c ∷ cs) m (more i a) e =
      ap (chunks first) (append_assoc c (flat cs) m)
      ∙ chunks_step (length c) (c ++ (flat cs ++ m)) (i.whole (flat cs ++ m)) i.some
      ∙ rw (take_at c (flat cs ++ m) (length c) refl, drop_at c (flat cs ++ m) (length c) refl, chunks_flat cs m a e)

  -- the same with a byte v that no item begins with behind them
  module _ (v : ℕ) (free : (k : ℕ) → first (replicate k v) ≡ 0) where
    pub chunks_packed : (n : ℕ) (cs : List Bytes) → All IsItem cs → chunks first (packed n v cs) ≡ cs
    unfolding packed padded
    chunks_packed n cs a = chunks_flat cs (replicate (n - length (flat cs)) v) a (free (n - length (flat cs)))

    pub used_packed : (n : ℕ) (cs : List Bytes) → All IsItem cs → used first (packed n v cs) ≡ length (flat cs)
    unfolding used
    used_packed n cs a = rw (chunks_packed n cs a)

    -- what is behind the items is only v
    pub free_packed : (n : ℕ) (cs : List Bytes) → All IsItem cs → all_are v (drop (used first (packed n v cs)) (packed n v cs)) ≡ true
    free_packed n cs a = rw (used_packed n cs a, packed_behind n v cs) (all_are-replicate v (n - length (flat cs)))

  -- the chunks of a list are items, if an item does not look behind its end
  module _ (local : (l m : Bytes) (n : ℕ) → first l ≡ n → 0 < n → first (take n l ++ m) ≡ n) where
    pub item_first : (n : ℕ) (l : Bytes) → first l ≡ n → 0 < n → IsItem (take n l)
    item_first n l e h =
        let k : n ≤ length l = omega (arith, within l) in
        let q : length (take n l) ≡ n = length-take-le n l k in
        record { some = rw q h; whole = λ m. local l m n e h ∙ sym q }

    pub chunks_items : (l : Bytes) → All IsItem (chunks first l)
    chunks_items = by_chunks (λ l. All IsItem (chunks first l))
        (λ l e. rw (chunks_stop first l e) nil)
        (λ l n e h k ih. rw (chunks_step n l e h) (more (item_first n l e h) ih))
