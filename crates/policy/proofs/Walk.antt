-- A walk over the entries of a policy record that has come to the entry at index i, whose first byte is at.
-- Assumes nothing.
use Prim.Native.Nat.{ℕ, zero, suc, ◌+◌, ◌-◌, ◌≤◌, ◌<◌}
use mathlib.Core.Path.{◌≡◌, refl, sym, ap, subst, ◌∙◌}
use mathlib.Core.List.{List, [], ◌∷◌, ◌++◌}
use mathlib.Core.Bool.{Bool, true, false, ◌||◌}
use native.Mathlib.Omega.{arith}
use lib.ListN.{length, get_or, take, drop, length-append, length-drop, take-append-drop}
use lib.Seq.{length-take-le, take-add, drop-drop, take_all, get_or-drop}
use Rattle.limits.specs.Limits.{size_at, entry_header}
use Rattle.slices.specs.Bytes.{Bytes, le16, part}
use Rattle.slices.proofs.PartLaws.{part_of}
use Rattle.slices.proofs.NumberLaws.{le16_drop}
use Rattle.slices.specs.Chunks.{flat, contains}
use Rattle.slices.proofs.ChunksLaws.{flat_append, flat_one}
use Rattle.entry.specs.Entry.{well_formed}
use Rattle.policy.specs.Policy.{entry_length, entries_of, sizes_sum}
use Rattle.policy.specs.Walk.{At, EntryEnds, start_of}
use Rattle.policy.proofs.PolicyLaws.{Begins, entry_length-begins, entries_of-stop, entries_of-step, sizes_sum-flat}

pub at_start : (p : Bytes) → At p 0 0
unfolding flat
at_start p = record { within = omega arith; met = omega arith; rest = refl; sum = refl }

module _ (p : Bytes) (i at : ℕ) (w : At p i at) where
  -- no entry begins here: all were met
  module _ (e : entry_length (drop at p) ≡ 0) where
    pub count_met : length (entries_of p) ≡ i
    count_met =
        let k : length (drop i (entries_of p)) ≡ 0 = ap length (w.rest ∙ entries_of-stop (drop at p) e) in
        omega (arith, length-drop i (entries_of p), w.met)

    pub all_met : entries_of p ≡ take i (entries_of p)
    all_met = sym (take_all i (entries_of p) (omega (arith, count_met)))

    pub sum_met : sizes_sum p ≡ at
    sum_met = sizes_sum-flat p ∙ ap (λ (es : List Bytes). length (flat es)) all_met ∙ w.sum

  -- an entry of n bytes begins here
  module _ (n : ℕ) (e : entry_length (drop at p) ≡ n) (h : 0 < n) where
    pub begins : Begins (drop at p) n
    begins = entry_length-begins n (drop at p) e h

    pub formed : well_formed (take n (drop at p)) ≡ true
    formed = begins.formed

    pub size_here : le16 p (at + size_at) ≡ n
    size_here = sym (le16_drop at p size_at) ∙ begins.field

    pub fits : at + n ≤ length p
    fits = let k = rw length-drop at begins.within in omega (arith, w.within)

    pub entry_length_lem : length (take n (drop at p)) ≡ n
    entry_length_lem = length-take-le n (drop at p) begins.within

    pub split : drop i (entries_of p) ≡ take n (drop at p) ∷ entries_of (drop (at + n) p)
    split = w.rest ∙ entries_of-step n (drop at p) e h ∙ rw drop-drop

    pub more_left : i < length (entries_of p)
    more_left =
        let k = ap length split in
        omega (arith, length-drop i (entries_of p))

    pub grown : take (i + 1) (entries_of p) ≡ take i (entries_of p) ++ (take n (drop at p) ∷ [])
    grown = take-add i 1 (entries_of p) ∙ rw split

    pub whole : entries_of p ≡ take i (entries_of p) ++ (take n (drop at p) ∷ entries_of (drop (at + n) p))
    whole = sym (take-append-drop i (entries_of p)) ∙ ap (λ (es : List Bytes). take i (entries_of p) ++ es) split

    pub behind : drop (i + 1) (entries_of p) ≡ entries_of (drop (at + n) p)
    behind = sym (drop-drop 1 i (entries_of p)) ∙ ap (drop 1) split

    pub at_next : At p (i + 1) (at + n)
    at_next = record {
      within = fits;
      met = omega (arith, more_left);
      rest = behind;
      sum =
          ap (λ (es : List Bytes). length (flat es)) grown
          ∙ rw (flat_append (take i (entries_of p)) (take n (drop at p) ∷ []), flat_one, length-append, w.sum, entry_length_lem);
    }

  -- some entry is left: one begins here, of the Size that it states
  module _ (h : i < length (entries_of p)) where
    some_here : 0 < entry_length (drop at p)
    some_here = go (entry_length (drop at p)) refl
      where
        go : (n : ℕ) → entry_length (drop at p) ≡ n → 0 < n
        go zero e =
            let k : length (drop i (entries_of p)) ≡ 0 = ap length (w.rest ∙ entries_of-stop (drop at p) e) in
            absurd (omega (arith, length-drop i (entries_of p)))
        go (suc n) e = omega arith

    pub stated : entry_length (drop at p) ≡ le16 p (at + size_at)
    stated = sym (size_here (entry_length (drop at p)) refl some_here)

    pub stated_least : entry_header ≤ le16 p (at + size_at)
    stated_least = omega (arith, stated, (begins (entry_length (drop at p)) refl some_here).least)

    pub stated_fits : at + le16 p (at + size_at) ≤ length p
    stated_fits = omega (arith, stated, fits (entry_length (drop at p)) refl some_here)

-- the entry at hand, which ends at `end`
pub record Hand (p : Bytes) (i at end : ℕ) : Type 0 where
  pub size : ℕ
  pub here : entry_length (drop at p) ≡ size
  pub least : entry_header ≤ size
  pub ends : end ≡ at + size
  pub inside : end ≤ length p
  pub own : part at end p ≡ take size (drop at p)
  pub formed : well_formed (part at end p) ≡ true
  pub next : At p (i + 1) end

pub hand : (ends : List ℕ) (p : Bytes) (i at : ℕ) → EntryEnds ends p → At p i at → i < length (entries_of p) → Hand p i at (get_or ends i 0)
hand ends p i at q w h =
    let n = entry_length (drop at p) in
    let l : entry_header ≤ n = omega (arith, stated p i at w h, stated_least p i at w h) in
    let a : At p (i + 1) (at + n) = at_next p i at w n refl (omega arith) in
    let e : get_or ends i 0 ≡ at + n = q.end i h ∙ a.sum in
    let o : part at (get_or ends i 0) p ≡ take n (drop at p) = ap (λ (t : ℕ). part at t p) e ∙ part_of at n p in
    record {
      size = n;
      here = refl;
      least = l;
      ends = e;
      inside = omega (arith, a.within);
      own = o;
      formed = rw o (begins p i at w n refl (omega arith)).formed;
      next = rw e a;
    }

-- ---- the entry at an index, where its end and that of the one before it were noted
pub at_index : (p : Bytes) (i : ℕ) → i ≤ length (entries_of p) → At p i (length (flat (take i (entries_of p))))
unfolding flat
at_index p zero h = at_start p
at_index p (suc i) h =
    let w = at_index p i (omega arith) in
    let a = at_next p i _ w _ refl (some_here p i _ w (omega arith)) in
    let n : i + 1 ≡ suc i = omega arith in
    subst (λ (m : ℕ). At p m (length (flat (take m (entries_of p))))) n (rw a.sum a)

pub hand_at : (ends : List ℕ) (p : Bytes) {count : ℕ} (i : ℕ) → count ≡ length (entries_of p) → EntryEnds ends p → i < count → Hand p i (start_of p i) (get_or ends i 0)
hand_at ends p i c q h = hand ends p i _ q (at_index p i (omega (arith, c, h))) (omega (arith, c, h))

pub record EntryAt (p : Bytes) (i start end : ℕ) : Type 0 where
  pub inside : end ≤ length p
  pub behind : start ≤ end
  pub is : part start end p ≡ get_or (entries_of p) i []
  pub formed : well_formed (part start end p) ≡ true

-- the entry at an index, of count, begins where the one before it ends
module _ (ends : List ℕ) (p : Bytes) {count : ℕ} (i : ℕ) (c : count ≡ length (entries_of p)) (q : EntryEnds ends p) where
  pub first_start : i ≡ 0 → 0 ≡ length (flat (take i (entries_of p)))
  unfolding flat
  first_start z = rw z

  pub later_start : i ≤ count → (i ≡ 0 → ⊥) → get_or ends (i - 1) 0 ≡ length (flat (take i (entries_of p)))
  later_start h z =
      let n : i - 1 + 1 ≡ i = omega arith in
      q.end (i - 1) (omega (arith, c, h)) ∙ ap (λ (m : ℕ). length (flat (take m (entries_of p)))) n

  pub entry_at : {start : ℕ} → i < count → start ≡ length (flat (take i (entries_of p))) → EntryAt p i start (get_or ends i 0)
  entry_at {start = start} h e =
      let w = at_index p i (omega (arith, c, h)) in
      let g = hand_at ends p i c q h in
      let n : i ≡ i + 0 = omega arith in
      let k : get_or (entries_of p) i [] ≡ take g.size (drop (length (flat (take i (entries_of p)))) p) =
      ap (λ (m : ℕ). get_or (entries_of p) m []) n ∙ sym (get_or-drop i (entries_of p) 0 []) ∙ ap (λ (l : List Bytes). get_or l 0 []) (split p i _ w g.size g.here (omega (arith, g.least))) in
      record { inside = g.inside; behind = omega (arith, g.ends, e); is = ap (λ (m : ℕ). part m (get_or ends i 0) p) e ∙ g.own ∙ sym k; formed = rw e g.formed }

-- ---- a search among the first count entries
module _ (f : Bytes → Bool) (p : Bytes) (count i at n : ℕ) (w : At p i at) (e : entry_length (drop at p) ≡ n) (h : 0 < n) (q : i < count) where
  among_step : contains f (take (count - i) (drop i (entries_of p)))
      ≡ (f (take n (drop at p)) || contains f (take (count - (i + 1)) (drop (i + 1) (entries_of p))))
  unfolding contains
  among_step =
      let k : count - i ≡ suc (count - (i + 1)) = omega arith in
      rw (k, split p i at w n e h, behind p i at w n e h)

  pub among_hit : f (take n (drop at p)) ≡ true → contains f (take (count - i) (drop i (entries_of p))) ≡ true
  among_hit t = among_step ∙ rw t

  pub among_miss : f (take n (drop at p)) ≡ false
      → contains f (take (count - i) (drop i (entries_of p))) ≡ contains f (take (count - (i + 1)) (drop (i + 1) (entries_of p)))
  among_miss t = among_step ∙ rw t

pub among_end : (f : Bytes → Bool) (es : List Bytes) (count i : ℕ) → count ≤ i → contains f (take (count - i) (drop i es)) ≡ false
unfolding contains
among_end f es count i h =
    let k : count - i ≡ 0 = omega arith in
    rw k
