-- How the code judges an entry that stands behind the good ones. Assumes nothing.
use Prim.Native.Nat.{ℕ, ◌+◌, ◌-◌, ◌≤◌, ◌<◌}
use mathlib.Core.Path.{◌≡◌, refl, sym, ap, ◌∙◌}
use mathlib.Core.List.{◌∷◌}
use mathlib.Core.Bool.{Bool, true, false, not, ◌||◌, cond}
use native.Mathlib.Omega.{arith}
use lib.ListN.{length, take, drop, set}
use lib.Seq.{take-take, drop-drop}
use lib.Dec.{eqb}
use borrow.Author.Tests.{lt-ltb, le-ltb}
use Rattle.limits.specs.Limits.{max_entries, policy_bytes}
use Rattle.slices.specs.Test.{◌and◌}
use Rattle.slices.specs.Bytes.{Bytes, part}
use Rattle.slices.proofs.PartLaws.{part_of, length_part, drop_take}
use Rattle.slices.specs.Chunks.{contains}
use Rattle.slices.specs.Filter.{joined}
use Rattle.entry.specs.Entry.{well_formed}
use Rattle.policy.specs.Policy.{entry_length, entries_of}
use Rattle.policy.proofs.PolicyLaws.{entry_length-begins, entries_of-stop, entries_of-step}
use Rattle.policy.specs.Stated.{stated_of, repeats}
use Rattle.policy.specs.Filter.{slot_of, fingerprint_of}
use Rattle.reader.specs.Reader.{filter_at, good_at, count_at, reader_bytes, held, good, count, put, stop, rest, seen, admits, accepted, judged, stopped_if_decided, all_judged}
use Rattle.reader.specs.Reading.{decided}
use Rattle.reader.proofs.AcceptedLaws.{accepted_size, accepted_held, accepted_good, accepted_part}

-- the entry e, and how many good ones there are before it
module _ (r e : Bytes) {n : ℕ} (c : n ≡ count r) where
  -- one too many
  pub full : max_entries ≤ n → false ≡ admits r e
  unfolding admits ◌and◌
  full h = rw (← c, le-ltb n max_entries h)

  -- s is what the filter has in its slot, f its fingerprint, b whether it repeats one before it, which end at byte g
  module _ {s f g : ℕ} {b : Bool} (l : n < max_entries) (q : s ≡ seen r e) (k : f ≡ fingerprint_of e) (o : g ≡ good r)
      (t : b ≡ ((eqb s 255 || eqb s f) and contains (repeats e) (stated_of (take g r)))) where
    judgement : not b ≡ admits r e
    unfolding admits ◌and◌
    judgement = rw (t, q, k, o, ← c, lt-ltb n max_entries l)

    pub repeated : b ≡ true → false ≡ admits r e
    repeated z = ap not (sym z) ∙ judgement

    pub admitted : b ≡ false → true ≡ admits r e
    admitted z = ap not (sym z) ∙ judgement

    -- z is the reader with it: it ends at byte h, its slot is i, m is what the slot then holds, and x the number of entries
    pub with_it : {z : Bytes} {i h m x : ℕ} → z ≡ put (put (set r i m) good_at h) count_at x → i ≡ filter_at + slot_of e → m ≡ joined s f → h ≡ g + length e → x ≡ n + 1
        → z ≡ accepted r e
    unfolding accepted
    with_it a u v w y = a ∙ rw (u, v, w, y, q, k, o, c)

-- ---- the entry of n bytes that stands from byte at on, of the bytes up to byte to
pub record Hand (r : Bytes) (at to n : ℕ) : Type 0 where
  pub inside : at + n ≤ to
  pub size : length (part at (at + n) r) ≡ n
  pub formed : well_formed (part at (at + n) r) ≡ true
  pub split : entries_of (part at to r) ≡ part at (at + n) r ∷ entries_of (part (at + n) to r)

pub hand : (r : Bytes) (at to n : ℕ) → at ≤ to → to ≤ length r → n ≡ entry_length (part at to r) → 0 < n → Hand r at to n
hand r at to n l m e h =
    let b = entry_length-begins n (part at to r) (sym e) h in
    let k : length (part at to r) ≡ to - at = length_part at to r m in
    let i : n ≤ to - at = omega (arith, b.within) in
    let t : take n (part at to r) ≡ part at (at + n) r = take-take n (to - at) (drop at r) i ∙ sym (part_of at n r) in
    let j : to - at - n ≡ to - (at + n) = omega arith in
    let d : drop n (part at to r) ≡ part (at + n) to r = drop_take (to - at) n (drop at r) ∙ rw (drop-drop, j) in
    record {
      inside = omega arith;
      size = length_part at (at + n) r (omega arith) ∙ omega arith;
      formed = rw t at b.formed;
      split = entries_of-step n (part at to r) (sym e) h ∙ rw (t, d);
    }

-- ---- a walk over the decided entries from byte from on, which has come to byte at; r is the reader now, o the one before
pub record Judging (o : Bytes) (from to : ℕ) (r : Bytes) (at : ℕ) : Type 0 where
  pub size : length r ≡ reader_bytes
  pub place : at ≡ good r
  pub within : at ≤ to
  pub holds : held r ≡ held o
  pub rest : judged o (entries_of (part from to o)) ≡ judged r (entries_of (part at to r))

pub judging_start : (r : Bytes) (from to : ℕ) → length r ≡ reader_bytes → from ≡ good r → from ≤ to → Judging r from to r from
judging_start r from to n g l = record { size = n; place = g; within = l; holds = refl; rest = refl }

-- no entry is left
pub judging_end : {o r : Bytes} {from to at : ℕ} → Judging o from to r at → entry_length (part at to r) ≡ 0 → r ≡ judged o (entries_of (part from to o))
unfolding judged
judging_end {o} {r} {from} {to} {at} w e = sym (w.rest ∙ ap (judged r) (entries_of-stop (part at to r) e))

-- an entry of n bytes: b says whether it is admitted, and s is the reader then
module _ {o r s : Bytes} {from to at n : ℕ} {b : Bool} (w : Judging o from to r at) (l : to ≤ policy_bytes) (e : n ≡ entry_length (part at to r)) (h : 0 < n)
    (t : b ≡ admits r (part at (at + n) r)) (q : s ≡ cond b (accepted r (part at (at + n) r)) r) where
  here : Hand r at to n
  here = hand r at to n w.within (omega (arith, w.size)) e h

  abbrev E : Bytes
  E = part at (at + n) r

  judging_step : judged o (entries_of (part from to o)) ≡ cond b (judged (accepted r E) (entries_of (part (at + n) to r))) r
  unfolding judged
  judging_step = w.rest ∙ ap (judged r) here.split ∙ rw (← t)

  pub judging_kept : b ≡ false → s ≡ r
  judging_kept z = q ∙ ap (λ (c : Bool). cond c (accepted r E) r) z

  pub judging_refused : b ≡ false → s ≡ judged o (entries_of (part from to o))
  judging_refused z = judging_kept z ∙ sym (judging_step ∙ rw z)

  pub judging_more : b ≡ true → Judging o from to s (at + n)
  judging_more z =
      let k : s ≡ accepted r E = q ∙ rw z in
      let g : good r + length E ≡ at + n = omega (arith, here.size, w.place) in
      let u : judged o (entries_of (part from to o)) ≡ judged (accepted r E) (entries_of (part (at + n) to (accepted r E))) =
      judging_step ∙ rw (z, accepted_part r E w.size (at + n) to l) in
      rw k (record {
        size = accepted_size r E w.size;
        place = sym (accepted_good r E w.size (omega (arith, here.inside)) ∙ g);
        within = here.inside;
        holds = accepted_held r E w.size ∙ w.holds;
        rest = u;
      })

-- ---- the reader once all are judged: k is the one that the walk left, which has come to byte a, and b says whether a decided entry is left there
module _ {g h a : ℕ} {k : Bytes} {b : Bool} (r : Bytes) (u : g ≡ good r) (v : h ≡ held r) (q : k ≡ judged r (entries_of (part g h r))) (p : a ≡ good k)
    (w : held k ≡ held r) (t : b ≡ decided (part a h k)) where
  rest_is : k ≡ judged r (entries_of (rest r))
  rest_is = q ∙ rw (u, v)

  left : decided (rest k) ≡ b
  left = sym (t ∙ rw (p, v, ← w))

  all_judged_is : all_judged r ≡ cond b (stop k) k
  unfolding stopped_if_decided
  all_judged_is = ap stopped_if_decided (sym rest_is) ∙ rw left

  pub judged_stopped : {s : Bytes} → b ≡ true → s ≡ stop k → s ≡ all_judged r
  judged_stopped z e = e ∙ sym (all_judged_is ∙ rw z)

  pub judged_going : b ≡ false → k ≡ all_judged r
  judged_going z = sym (all_judged_is ∙ rw z)
