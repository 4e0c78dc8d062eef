-- A reader judges the entries behind the good ones as the rule does (`judged_has`): it admits one just where it may stand there (`admits_follows`), since the filter has every
-- good entry and so never passes by a repeated one. Assumes nothing.
use Rattle.std.specs.Prelude.{ℕ, ◌+◌, ◌≤◌, ◌<◌, ◌≡◌, List, [], ◌∷◌, ◌++◌, Bool, cond, get_or, take, drop, set}
use Rattle.std.proofs.Math.Path.{refl, sym}
use Rattle.std.proofs.Common.{ap, ◌∙◌, append_assoc, append-nil, arith, length-append, take-append-drop, take-take}
use Rattle.std.proofs.Math.Bool.{true, false}
use Rattle.std.proofs.Math.ListN.{length}
use Rattle.std.proofs.Math.Seq.{take-append_seam, drop-append_seam}
use borrow.Author.Tests.{le-leb}
use Rattle.limits.specs.Limits.{max_entries, policy_bytes}
use Rattle.lists.specs.Lists.{All, nil, more}
use Rattle.lists.proofs.ListsLaws.{all_append}
use Rattle.slices.specs.Test.{◌and◌}
use Rattle.slices.specs.Bytes.{Bytes, part}
use Rattle.slices.proofs.PartLaws.{part_take, part_rest, get_d-middle}
use Rattle.slices.specs.Filter.{joined}
use Rattle.slices.specs.Chunks.{flat, contains}
use Rattle.slices.proofs.ChunksLaws.{flat_append, flat_one, flat_chunks}
use Rattle.entry.specs.Entry.{same_target}
use Rattle.policy.specs.Policy.{entry_length, entries_of, sizes_sum}
use Rattle.policy.proofs.PolicyLaws.{WellFormed, entry_length-within, entries_of-formed}
use Rattle.policy.specs.Stated.{stated_of}
use Rattle.policy.proofs.StatedLaws.{stated_flat, contains_repeats}
use Rattle.policy.specs.Filter.{slots, slot_of, fingerprint_of, Marks, marks_with}
use Rattle.policy.proofs.FilterLaws.{unmet_test, marks_more}
use Rattle.reader.specs.Reading.{may_follow, good_from}
use Rattle.reader.proofs.ReadingLaws.{follows_is}
use Rattle.reader.specs.Reader.{filter_at, held_at, good, rest, seen, may_repeat, admits, accepted, judged}
use Rattle.reader.proofs.AcceptedLaws.{accepted_size, accepted_held, accepted_good, accepted_count, accepted_bytes, accepted_filter}
use Rattle.reader.specs.HasRead.{Has}

-- ---- an entry is admitted where it may stand behind the good ones
module _ {r b : Bytes} {es : List Bytes} (h : Has r b es) where
  seen_marks : (e : Bytes) → seen r e ≡ get_or (part filter_at held_at r) (slot_of e) 0
  seen_marks e = sym (get_d-middle r filter_at slots (slot_of e) (omega arith))

  -- where the filter tells that no entry like e was met, none is like it
  filter_passes : (e : Bytes) → (may_repeat r e and contains (same_target e) es) ≡ contains (same_target e) es
  unfolding ◌and◌
  filter_passes e = go (may_repeat r e) refl
    where
      go : (t : Bool) → may_repeat r e ≡ t → (t and contains (same_target e) es) ≡ contains (same_target e) es
      go true q = refl
      go false q = sym (unmet_test (part filter_at held_at r) e es h.marks (rw seen_marks at q))

  -- the bytes of the good entries come apart into them
  good_read : All WellFormed es → stated_of (take (good r) r) ≡ es
  good_read a = ap (λ (n : ℕ). stated_of (take n r)) h.tells.goods ∙ ap stated_of h.tells.bytes ∙ stated_flat es a

  pub admits_follows : All WellFormed es → (e : Bytes) → length (flat es) + length e ≤ policy_bytes → admits r e ≡ may_follow es e
  unfolding admits may_follow ◌and◌
  admits_follows a e l =
      rw (good_read a, contains_repeats e es a, filter_passes e, h.tells.counts, le-leb (length (flat es) + length e) policy_bytes l)

-- the good entries' bytes are the first of those that were taken
pub good_taken : (r b : Bytes) (es : List Bytes) (x : Bytes) → take (length b) r ≡ b → flat es ++ x ≡ b → take (length (flat es)) r ≡ flat es
good_taken r b es x t f =
    let l : length (flat es) ≤ length b = omega (arith, ap length f, length-append (flat es) x) in
    sym (take-take (length (flat es)) (length b) r l) ∙ ap (take (length (flat es))) (t ∙ sym f) ∙ take-append_seam (flat es) x

-- ---- one entry more
module _ {r b : Bytes} {es : List Bytes} (h : Has r b es) (e x : Bytes) (f : flat (es ++ (e ∷ [])) ++ x ≡ b) where
  -- the lengths of what is good
  grown_flat : length (flat es) + length e ≡ length (flat (es ++ (e ∷ [])))
  grown_flat = sym (rw (flat_append es (e ∷ []), flat_one, length-append))

  grown_room : good r + length e ≤ policy_bytes
  grown_room = omega (arith, grown_flat, h.tells.goods, h.room, ap length f, length-append (flat (es ++ (e ∷ []))) x)

  accepted_marks : Marks (part filter_at held_at (accepted r e)) (es ++ (e ∷ []))
  accepted_marks =
      let q : part filter_at held_at (accepted r e) ≡ marks_with (part filter_at held_at r) e =
      accepted_filter r e h.size ∙ ap (λ (v : ℕ). set (part filter_at held_at r) (slot_of e) (joined v (fingerprint_of e))) (seen_marks h e) in
      rw q (marks_more (part filter_at held_at r) es e h.marks)

  pub accepted_has : length es < max_entries → Has (accepted r e) b (es ++ (e ∷ []))
  accepted_has l =
      let t : take (length b) (accepted r e) ≡ b = accepted_bytes r e h.size (length b) h.room ∙ h.bytes in
      record {
        size = accepted_size r e h.size;
        room = h.room;
        holds = accepted_held r e h.size ∙ h.holds;
        bytes = t;
        tells = record {
          goods = accepted_good r e h.size grown_room ∙ ap (λ (n : ℕ). n + length e) h.tells.goods ∙ grown_flat;
          counts = accepted_count r e h.size (omega (arith, h.tells.counts)) ∙ rw (h.tells.counts, length-append);
          bytes = good_taken (accepted r e) b (es ++ (e ∷ [])) x t f;
        };
        marks = accepted_marks;
      }

-- ---- entries that stand behind the good ones, one after the other
-- the first of them
first_stands : (es : List Bytes) (e : Bytes) (l : List Bytes) (x b : Bytes) → flat (es ++ (e ∷ l)) ++ x ≡ b → flat (es ++ (e ∷ [])) ++ (flat l ++ x) ≡ b
first_stands es e l x b f =
    sym (append_assoc (flat (es ++ (e ∷ []))) (flat l) x)
    ∙ ap (λ (s : Bytes). s ++ x) (sym (flat_append (es ++ (e ∷ [])) l) ∙ ap flat (append_assoc es (e ∷ []) l)) ∙ f

-- A READER JUDGES AS THE RULE: it accepts those up to the first that may not stand there
pub judged_has : {r b : Bytes} {es : List Bytes} → Has r b es → All WellFormed es → (l : List Bytes) → All WellFormed l → (x : Bytes) → flat (es ++ l) ++ x ≡ b
    → Has (judged r l) b (es ++ good_from es l)
unfolding judged good_from
judged_has {r} {b} {es} h a [] nil x f = rw (append-nil es) h
judged_has {r} {b} {es} h a (e ∷ l) (more w v) x f =
    rw (admits_follows h a e (omega (arith, grown_flat h e (flat l ++ x) s, h.tells.goods, grown_room h e (flat l ++ x) s)))
    (go (may_follow es e) refl
    (λ k. judged_has {r = accepted r e} {es = es ++ (e ∷ [])} k (all_append es (e ∷ []) a (more w nil)) l v x (rw (append_assoc es (e ∷ []) l) f)))
  where
    s : flat (es ++ (e ∷ [])) ++ (flat l ++ x) ≡ b
    s = first_stands es e l x b f

    go : (t : Bool) → may_follow es e ≡ t → (Has (accepted r e) b (es ++ (e ∷ [])) → Has (judged (accepted r e) l) b ((es ++ (e ∷ [])) ++ good_from (es ++ (e ∷ [])) l))
        → Has (cond t (judged (accepted r e) l) r) b (es ++ cond t (e ∷ good_from (es ++ (e ∷ [])) l) [])
    go true j ih = rw append_assoc at (ih (accepted_has h e (flat l ++ x) s (follows_is es e j).few))
    go false j ih = rw (append-nil es) h

-- ---- the bytes behind the good entries
pub rest_is : {r b : Bytes} {es : List Bytes} → Has r b es → (q : Bytes) → flat es ++ q ≡ b → rest r ≡ q
rest_is {r} {b} {es} h q f =
    rw (h.tells.goods, h.holds)
    (sym (part_take (length (flat es)) (length b) (length b) r (omega arith))
    ∙ ap (part (length (flat es)) (length b)) h.bytes
    ∙ part_rest (length (flat es)) (length b) b (omega arith)
    ∙ ap (drop (length (flat es))) (sym f)
    ∙ drop-append_seam (flat es) q)

-- their entries were judged
pub rest_judged : {r b : Bytes} {es : List Bytes} → Has r b es → All WellFormed es → (q : Bytes) → flat es ++ q ≡ b
    → Has (judged r (entries_of (rest r))) b (es ++ good_from es (entries_of q))
rest_judged {r} {b} {es} h a q f =
    let x = drop (sizes_sum q) q in
    let s : flat (es ++ entries_of q) ++ x ≡ b =
    ap (λ (l : Bytes). l ++ x) (flat_append es (entries_of q)) ∙ append_assoc (flat es) (flat (entries_of q)) x
    ∙ ap (λ (l : Bytes). flat es ++ l) (ap (λ (l : Bytes). l ++ x) (flat_chunks entry_length entry_length-within q) ∙ take-append-drop (sizes_sum q) q) ∙ f in
    rw (rest_is h q f) (judged_has h a (entries_of q) (entries_of-formed q) x s)
