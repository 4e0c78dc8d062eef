-- The choice with its place is the chosen entry of the list. Assumes nothing.
use Rattle.std.specs.Prelude.{ℕ, suc, ◌+◌, ◌≤◌, ◌<◌, ◌≡◌, refl, Bool, true, false, cond, length, take, ltb, Option, Some, None}
use Rattle.std.proofs.Common.{sym, ◌∙◌, subst, arith, length-append, length-drop, take-append-drop, drop_at, take_at}
use Rattle.std.proofs.Math.Path.{ap}
use mathlib.Core.List.{List, [], ◌∷◌, ◌++◌, append_assoc}
use Rattle.std.proofs.Math.Option as maybe
use Rattle.std.proofs.Math.Option.{none, some}
use Rattle.std.proofs.Math.ListN.{drop}
use Rattle.std.proofs.Math.Seq.{take-append_seam, drop-append_seam, drop-append-add}
use Rattle.limits.specs.Limits.{size_at}
use Rattle.lists.specs.Lists as lists
use Rattle.lists.specs.Lists.{All}
use Rattle.lists.proofs.ListsLaws.{all_right, all_here}
use Rattle.slices.specs.Test.{◌and◌}
use Rattle.slices.specs.Bytes.{Bytes, AreBytes, le16, part}
use Rattle.slices.proofs.NumberLaws.{le16_take, le16_drop}
use Rattle.slices.proofs.PartLaws.{part_of, bytes_part}
use Rattle.slices.specs.Chunks.{flat}
use Rattle.slices.proofs.ChunksLaws.{flat_append, flat_one, flat_chunks}
use Rattle.names.specs.Name.{Variable}
use Rattle.entry.specs.Entry.{well_formed, targets, rank}
use Rattle.entry.proofs.EntryLaws.{sized}
use Rattle.policy.specs.declared.Chosen.{Chosen}
use Rattle.policy.specs.Policy.{entry_length, entries_of, sizes_sum}
use Rattle.policy.proofs.PolicyLaws.{entry_length-within, entries_of-formed}
use Rattle.policy.specs.Choice.{chosen, chosen_at, beats, better, choice_from, choice_of}

-- e is the entry at index i of the list, its first byte is at, its rank r, and it targets the variable
pub record Place (es : List Bytes) (v : Variable) (i at r : ℕ) (e : Bytes) : Type 0 where
  pub index : drop i es ≡ e ∷ drop (i + 1) es
  pub start : length (flat (take i es)) ≡ at
  pub ranks : rank e ≡ r
  pub target : targets e v ≡ true

-- a choice with its place says what the choice says
abbrev pub Agrees : List Bytes → Variable → Option Chosen → maybe.Option Bytes → Type 0
Agrees es v None none = Unit
Agrees es v None (some e) = ⊥
Agrees es v (Some x) none = ⊥
Agrees es v (Some x) (some e) = Place es v x.index x.at x.rank e

here : (pre : List Bytes) (e : Bytes) (es : List Bytes) (v : Variable) → targets e v ≡ true → Place (pre ++ (e ∷ es)) v (length pre) (length (flat pre)) (rank e) e
here pre e es v t = record {
  index = drop-append_seam pre (e ∷ es) ∙ ap (λ (l : List Bytes). e ∷ l) (sym (drop-append-add pre (e ∷ es) 1));
  start = ap (λ (l : List Bytes). length (flat l)) (take-append_seam pre (e ∷ es));
  ranks = refl;
  target = t;
}

abbrev next : (v : Variable) → maybe.Option Bytes → Bytes → Bool → maybe.Option Bytes
next v o e t = lists.better rank (λ x. targets x v) o e t

step : (pre : List Bytes) (e : Bytes) (es : List Bytes) (v : Variable) (c : Option Chosen) (o : maybe.Option Bytes) → Agrees (pre ++ (e ∷ es)) v c o
    → Agrees (pre ++ (e ∷ es)) v (better c (length pre) (length (flat pre)) e v) (next v o e (targets e v))
unfolding better ◌and◌
step pre e es v c o a = go c o a (targets e v) refl
  where
    old : (x : Chosen) (b : Bytes) → Place (pre ++ (e ∷ es)) v x.index x.at x.rank b → targets e v ≡ true → (s : Bool)
        → Agrees (pre ++ (e ∷ es)) v (cond s (chosen_at (length pre) (length (flat pre)) (rank e)) (Some x)) (lists.lower rank (λ x. targets x v) b e s)
    old x b p t true = here pre e es v t
    old x b p t false = p

    go : (c : Option Chosen) (o : maybe.Option Bytes) → Agrees (pre ++ (e ∷ es)) v c o → (t : Bool) → targets e v ≡ t
        → Agrees (pre ++ (e ∷ es)) v (cond (t and beats (rank e) c) (chosen_at (length pre) (length (flat pre)) (rank e)) c) (next v o e t)
    go c o a false f = a
    go None none a true f = here pre e es v f
    go None (some b) a true f = absurd a
    go (Some x) none a true f = absurd a
    go (Some x) (some b) a true f = rw a.ranks (old x b a f (ltb (rank e) x.rank))

agrees : (pre es : List Bytes) (v : Variable) (c : Option Chosen) (o : maybe.Option Bytes) → Agrees (pre ++ es) v c o
    → Agrees (pre ++ es) v (choice_from c (length pre) (length (flat pre)) es v) (lists.best rank (λ x. targets x v) o es)
unfolding choice_from
agrees pre [] v c o a = a
agrees pre (e ∷ es) v c o a =
    let q : (pre ++ (e ∷ [])) ++ es ≡ pre ++ (e ∷ es) = append_assoc pre (e ∷ []) es in
    let l : length (pre ++ (e ∷ [])) ≡ length pre + 1 = length-append pre (e ∷ []) in
    let f : length (flat (pre ++ (e ∷ []))) ≡ length (flat pre) + length e = ap length (flat_append pre (e ∷ [])) ∙ rw (flat_one, length-append) in
    let b = better c (length pre) (length (flat pre)) e v in
    let n = next v o e (targets e v) in
    rw (q, l, f) at (agrees (pre ++ (e ∷ [])) es v b n (subst (λ (t : List Bytes). Agrees t v b n) (sym q) (step pre e es v c o a)))

pub choice_agrees : (es : List Bytes) (v : Variable) → Agrees es v (choice_of es v) (chosen es v)
unfolding chosen flat
choice_agrees es v = agrees [] es v None none tt

-- ---- nothing is chosen exactly if no entry is
pub choice_none : (es : List Bytes) (v : Variable) → choice_of es v ≡ None → chosen es v ≡ none
choice_none es v e = go (chosen es v) (rw e at (choice_agrees es v))
  where
    go : (o : maybe.Option Bytes) → Agrees es v None o → o ≡ none
    go none a = refl
    go (some b) a = absurd a

-- ---- what is chosen is the entry at that place
pub record Speaks (es : List Bytes) (v : Variable) (i at r : ℕ) : Type 0 where
  pub entry : Bytes
  pub is : chosen es v ≡ some entry
  pub place : Place es v i at r entry

pub choice_some : (es : List Bytes) (v : Variable) (x : Chosen) → choice_of es v ≡ Some x → Speaks es v x.index x.at x.rank
choice_some es v x e = go (chosen es v) refl (rw e at (choice_agrees es v))
  where
    go : (o : maybe.Option Bytes) → chosen es v ≡ o → Agrees es v (Some x) o → Speaks es v x.index x.at x.rank
    go none q a = absurd a
    go (some b) q a = record { entry = b; is = q; place = a }

-- ---- where its bytes stand
module _ (es : List Bytes) (v : Variable) (i at r : ℕ) (e : Bytes) (k : Place es v i at r e) where
  place_split : es ≡ take i es ++ (e ∷ drop (i + 1) es)
  place_split = sym (take-append-drop i es) ∙ ap (λ (l : List Bytes). take i es ++ l) k.index

  pub place_within : i < length es
  place_within =
      let d : length (drop i es) ≡ suc (length (drop (i + 1) es)) = ap length k.index in
      let l = length-drop i es in omega arith

  place_flat : (m : Bytes) → flat es ++ m ≡ flat (take i es) ++ (e ++ (flat (drop (i + 1) es) ++ m))
  unfolding flat
  place_flat m =
      ap (λ (l : List Bytes). flat l ++ m) place_split
      ∙ rw (flat_append (take i es) (e ∷ drop (i + 1) es), append_assoc (flat (take i es)) (e ++ flat (drop (i + 1) es)) m, append_assoc e (flat (drop (i + 1) es)) m)

  pub place_bytes : (m : Bytes) → take (length e) (drop at (flat es ++ m)) ≡ e
  place_bytes m =
      rw (place_flat m, drop_at (flat (take i es)) (e ++ (flat (drop (i + 1) es) ++ m)) at k.start)
      (take_at e (flat (drop (i + 1) es) ++ m) (length e) refl)

  pub place_end : (m : Bytes) → at + length e ≤ length (flat es ++ m)
  place_end m = rw (place_flat m, length-append, length-append) (omega (arith, k.start))

  pub place_all : {P : Bytes → Type 0} → All P es → P e
  place_all {P} a = all_here (all_right (take i es) (e ∷ drop (i + 1) es) (rw place_split at a))

-- ---- in a policy record
module _ (p : Bytes) (v : Variable) (i at r : ℕ) (e : Bytes) (k : Place (entries_of p) v i at r e) where
  record_split : flat (entries_of p) ++ drop (sizes_sum p) p ≡ p
  record_split = ap (λ (l : Bytes). l ++ drop (sizes_sum p) p) (flat_chunks entry_length entry_length-within p) ∙ take-append-drop (sizes_sum p) p

  pub chosen_formed : well_formed e ≡ true
  chosen_formed = place_all (entries_of p) v i at r e k (entries_of-formed p)

  pub chosen_within : at + length e ≤ length p
  chosen_within = rw record_split at (place_end (entries_of p) v i at r e k (drop (sizes_sum p) p))

  pub chosen_bytes : take (length e) (drop at p) ≡ e
  chosen_bytes = rw record_split at (place_bytes (entries_of p) v i at r e k (drop (sizes_sum p) p))

  -- its Size
  pub chosen_size : le16 p (at + size_at) ≡ length e
  chosen_size =
      sym (le16_drop at p size_at)
      ∙ sym (le16_take (length e) (drop at p) size_at (omega (arith, (sized e chosen_formed).least)))
      ∙ ap (λ (l : Bytes). le16 l size_at) chosen_bytes
      ∙ (sized e chosen_formed).stated

  pub chosen_entry_lem : part at (at + le16 p (at + size_at)) p ≡ e
  chosen_entry_lem = rw (chosen_size, part_of at (length e) p) chosen_bytes

-- ---- the chosen entry of a record of bytes is bytes
pub chosen_in_bytes : (p : Bytes) (v : Variable) (e : Bytes) → AreBytes p → chosen (entries_of p) v ≡ some e → AreBytes e
chosen_in_bytes p v e h k = go (choice_of (entries_of p) v) (rw k at (choice_agrees (entries_of p) v))
  where
    go : (c : Option Chosen) → Agrees (entries_of p) v c (some e) → AreBytes e
    go None a = absurd a
    go (Some x) a = subst AreBytes (chosen_entry_lem p v x.index x.at x.rank e a) (bytes_part x.at _ p h)
