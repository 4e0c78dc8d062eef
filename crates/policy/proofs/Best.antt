-- How the choice moves on as the code walks: the best so far as three numbers (`as_choice`) says what `better` says, entry by entry, and one turn of the
-- walk is one of `passed_by`, `at_zero`, `at_lower` and `at_kept`. Assumes nothing.
use Prim.Native.Nat.{ℕ, ◌+◌, ◌≤◌, ◌<◌}
use mathlib.Core.Path.{◌≡◌, refl, sym, ap, subst, ◌∙◌}
use mathlib.Core.List.{List, [], ◌∷◌}
use mathlib.Core.Bool.{Bool, true, false, cond}
use native.Mathlib.Omega.{arith}
use lib.ListN.{length, get_or, take, drop, drop_of_length-le}
use lib.Dec.{eqb, ltb}
use borrow.Author.Tests.{ne_eqb, lt-ltb, le-ltb, eqb-true}
use Rattle.limits.specs.Limits.{whole_namespace_rank, no_rank}
use Rattle.slices.specs.Test.{◌and◌}
use Rattle.slices.specs.Bytes.{Bytes, part}
use Rattle.names.specs.Name.{Variable}
use Rattle.entry.specs.Entry.{targets, rank}
use Rattle.entry.proofs.EntryLaws.{rank_most}
use Rattle.std.specs.Prelude.{Option, not}
use Rattle.std.specs.Bool.{then_some}
use Rattle.policy.specs.declared.Chosen.{Chosen}
use Rattle.policy.specs.Policy.{entry_length, entries_of}
use Rattle.policy.proofs.PolicyLaws.{WellFormed}
use Rattle.policy.specs.Choice.{chosen_at, beats, better, choice_from, choice_of}
use Rattle.policy.specs.Best.{as_choice}
use Rattle.policy.specs.Walk.{At, EntryEnds, Passed, start_of, PassedTo}
use Rattle.policy.proofs.Walk.{Hand, begins, entry_length_lem, split, behind, at_index, hand_at, entry_at}

pub as_choice-some : (b i at : ℕ) → (b ≡ no_rank → ⊥) → chosen_at i at b ≡ as_choice b i at
unfolding as_choice
as_choice-some b i at e = rw (ne_eqb b no_rank e)

-- a rank that counts is compared with the number
beats_number : (r b i at : ℕ) → r ≤ whole_namespace_rank → b ≤ no_rank → beats r (as_choice b i at) ≡ ltb r b
unfolding as_choice
beats_number r b i at h k = go (eqb b no_rank) refl
  where
    go : (t : Bool) → eqb b no_rank ≡ t → beats r (then_some (not t) (record { index = i; at = at; rank = b })) ≡ ltb r b
    go true q = sym (lt-ltb r b (omega (arith, eqb-true b no_rank q)))
    go false q = refl

-- an entry that does not target the variable leaves the best so far
stays : (v : Variable) (best : Option Chosen) (index here : ℕ) (e : Bytes) → targets e v ≡ false → better best index here e v ≡ best
unfolding better ◌and◌
stays v best index here e q = rw q

module _ (v : Variable) (e : Bytes) (w : WellFormed e) (b i at index here : ℕ) (most : b ≤ no_rank) (r : ℕ) (s : r ≡ cond (targets e v) (rank e) no_rank) where
  better_by : (t : Bool) → targets e v ≡ t → better (as_choice b i at) index here e v ≡ cond (t and ltb (rank e) b) (chosen_at index here (rank e)) (as_choice b i at)
  unfolding better ◌and◌
  better_by true k = rw (k, beats_number (rank e) b i at (rank_most e w) most)
  better_by false k = rw k

  -- lower than the best so far
  lower : r < b → better (as_choice b i at) index here e v ≡ as_choice r index here
  unfolding ◌and◌
  lower h = go (targets e v) refl s
    where
      go : (t : Bool) → targets e v ≡ t → r ≡ cond t (rank e) no_rank → better (as_choice b i at) index here e v ≡ as_choice r index here
      go true k z = better_by true k ∙ rw (← z, lt-ltb r b h) (as_choice-some r index here (λ y. omega arith))
      go false k z = absurd (omega arith)

  not_lower : b ≤ r → better (as_choice b i at) index here e v ≡ as_choice b i at
  unfolding ◌and◌
  not_lower h = go (targets e v) refl s
    where
      go : (t : Bool) → targets e v ≡ t → r ≡ cond t (rank e) no_rank → better (as_choice b i at) index here e v ≡ as_choice b i at
      go true k z = better_by true k ∙ rw (← z, le-ltb r b h)
      go false k z = better_by false k

-- ---- a walk over the entries
choice_from-cons : (best : Option Chosen) (index at : ℕ) (e : Bytes) (es : List Bytes) (v : Variable)
    → choice_from best index at (e ∷ es) v ≡ choice_from (better best index at e v) (index + 1) (at + length e) es v
unfolding choice_from
choice_from-cons best index at e es v = refl

-- one entry on
choice_step : (v : Variable) (best : Option Chosen) (p : Bytes) (i at n : ℕ) (w : At p i at) → entry_length (drop at p) ≡ n → 0 < n
    → choice_from best i at (drop i (entries_of p)) v ≡ choice_from (better best i at (take n (drop at p)) v) (i + 1) (at + n) (drop (i + 1) (entries_of p)) v
choice_step v best p i at n w e h =
    ap (λ (es : List Bytes). choice_from best i at es v) (split p i at w n e h)
    ∙ choice_from-cons best i at (take n (drop at p)) (entries_of (drop (at + n) p)) v
    ∙ rw (entry_length_lem p i at w n e h, behind p i at w n e h)

-- none is left
pub choice_end : (best : Option Chosen) (i at : ℕ) (es : List Bytes) (v : Variable) → length es ≤ i → choice_from best i at (drop i es) v ≡ best
unfolding choice_from
choice_end best i at es v h = rw (drop_of_length-le es h)

-- a rank of 0 is not beaten
zero_kept : (i at index here : ℕ) (e : Bytes) (v : Variable) → better (chosen_at i at 0) index here e v ≡ chosen_at i at 0
unfolding better ◌and◌
zero_kept i at index here e v = go (targets e v)
  where
    go : (t : Bool) → cond (t and ltb (rank e) 0) (chosen_at index here (rank e)) (chosen_at i at 0) ≡ chosen_at i at 0
    go true = rw (le-ltb (rank e) 0 (omega arith))
    go false = refl

choice_zero : (i at index here : ℕ) (es : List Bytes) (v : Variable) → choice_from (chosen_at i at 0) index here es v ≡ chosen_at i at 0
unfolding choice_from
choice_zero i at index here [] v = refl
choice_zero i at index here (e ∷ es) v = rw (zero_kept i at index here e v) (choice_zero i at (index + 1) (here + length e) es v)

-- one turn of the walk over the entry at hand, which ends at `end`
module _ (p : Bytes) (v : Variable) (i at end : ℕ) (w : At p i at) (g : Hand p i at end) where
  abbrev entry : Bytes
  entry = take g.size (drop at p)

  entry_formed : WellFormed entry
  entry_formed = (begins p i at w g.size g.here (omega (arith, g.least))).formed

  on : (best c : Option Chosen) → better best i at entry v ≡ c → choice_from best i at (drop i (entries_of p)) v ≡ choice_from c (i + 1) end (drop (i + 1) (entries_of p)) v
  on best c k =
      choice_step v best p i at g.size w g.here (omega (arith, g.least))
      ∙ ap (λ (d : Option Chosen). choice_from d (i + 1) (at + g.size) (drop (i + 1) (entries_of p)) v) k
      ∙ ap (λ (t : ℕ). choice_from c (i + 1) t (drop (i + 1) (entries_of p)) v) (sym g.ends)

  -- it does not target the variable: a walk may leave it out
  pub pass : (j to : ℕ) → Passed p v j to i at → targets (part at end p) v ≡ false → Passed p v j to (i + 1) end
  pass j to f q = λ best. f best ∙ on best best (stays v best i at entry (rw g.own at q))

  -- the best so far, as three numbers, and what the entry adds
  module _ (b bi ba : ℕ) (most : b ≤ no_rank) (inv : choice_of (entries_of p) v ≡ choice_from (as_choice b bi ba) i at (drop i (entries_of p)) v)
      (r : ℕ) (k : r ≡ cond (targets (part at end p) v) (rank (part at end p)) no_rank) where
    spoken : r ≡ cond (targets entry v) (rank entry) no_rank
    spoken = rw g.own at k

    lowered : r < b → choice_of (entries_of p) v ≡ choice_from (as_choice r i at) (i + 1) end (drop (i + 1) (entries_of p)) v
    lowered l = inv ∙ on (as_choice b bi ba) (as_choice r i at) (lower v entry entry_formed b bi ba i at most r spoken l)

    kept : b ≤ r → choice_of (entries_of p) v ≡ choice_from (as_choice b bi ba) (i + 1) end (drop (i + 1) (entries_of p)) v
    kept l = inv ∙ on (as_choice b bi ba) (as_choice b bi ba) (not_lower v entry entry_formed b bi ba i at most r spoken l)

    pub on_zero : r ≡ 0 → 0 < b → chosen_at i at r ≡ choice_of (entries_of p) v
    on_zero y l =
        let f : as_choice r i at ≡ chosen_at i at 0 = sym (as_choice-some r i at (λ x. omega arith)) ∙ ap (chosen_at i at) y in
        ap (chosen_at i at) y
        ∙ sym (lowered (omega arith)
        ∙ ap (λ (d : Option Chosen). choice_from d (i + 1) end (drop (i + 1) (entries_of p)) v) f
        ∙ choice_zero i at (i + 1) end (drop (i + 1) (entries_of p)) v)

-- the same of the entry at index i of those whose ends were noted
module _ (ends : List ℕ) (p : Bytes) {count : ℕ} (i : ℕ) (c : count ≡ length (entries_of p)) (q : EntryEnds ends p) (h : i < count) (v : Variable) where
  met : At p i (start_of p i)
  met = at_index p i (omega (arith, c, h))

  pub passed_by : {at : ℕ} (j : ℕ) → at ≡ start_of p i → PassedTo p v j i → targets (part at (get_or ends i 0) p) v ≡ false → PassedTo p v j (i + 1)
  passed_by j e f t =
      let g = hand_at ends p i c q h in
      subst (λ (n : ℕ). Passed p v j (start_of p j) (i + 1) n) (sym g.next.sum) (pass p v i (start_of p i) (get_or ends i 0) met g j (start_of p j) f (rw e at t))

  -- the best so far is the entry at index bi, and the search went on at index j
  module _ (b bi j : ℕ) (most : b ≤ no_rank) (inv : choice_of (entries_of p) v ≡ choice_from (as_choice b bi (start_of p bi)) j (start_of p j) (drop j (entries_of p)) v)
      (f : PassedTo p v j i) {r : ℕ} {e : Bytes} (a : e ≡ get_or (entries_of p) i []) (k : r ≡ cond (targets e v) (rank e) no_rank) where
    its_rank : r ≡ cond (targets (part (start_of p i) (get_or ends i 0) p) v) (rank (part (start_of p i) (get_or ends i 0) p)) no_rank
    its_rank = subst (λ (x : Bytes). r ≡ cond (targets x v) (rank x) no_rank) (a ∙ sym (entry_at ends p i c q h refl).is) k

    come : choice_of (entries_of p) v ≡ choice_from (as_choice b bi (start_of p bi)) i (start_of p i) (drop i (entries_of p)) v
    come = inv ∙ f (as_choice b bi (start_of p bi))

    pub at_zero : {at : ℕ} → at ≡ start_of p i → r ≡ 0 → 0 < b → chosen_at i at r ≡ choice_of (entries_of p) v
    at_zero e y l =
        rw e (on_zero p v i (start_of p i) (get_or ends i 0) met (hand_at ends p i c q h) b bi (start_of p bi) most come r its_rank y l)

    pub at_lower : {b' bi' : ℕ} → r < b → b' ≡ r → bi' ≡ i
        → choice_of (entries_of p) v ≡ choice_from (as_choice b' bi' (start_of p bi')) (i + 1) (start_of p (i + 1)) (drop (i + 1) (entries_of p)) v
    at_lower l eb ei =
        let g = hand_at ends p i c q h in
        rw (eb, ei, g.next.sum) (lowered p v i (start_of p i) (get_or ends i 0) met g b bi (start_of p bi) most come r its_rank l)

    pub at_kept : {b' bi' : ℕ} → b ≤ r → b' ≡ b → bi' ≡ bi
        → choice_of (entries_of p) v ≡ choice_from (as_choice b' bi' (start_of p bi')) (i + 1) (start_of p (i + 1)) (drop (i + 1) (entries_of p)) v
    at_kept l eb ei =
        let g = hand_at ends p i c q h in
        rw (eb, ei, g.next.sum) (kept p v i (start_of p i) (get_or ends i 0) met g b bi (start_of p bi) most come r its_rank l)
