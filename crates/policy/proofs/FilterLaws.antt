-- What the filter tells: an entry whose slot is free, or has another fingerprint, has the target of none that was met, since entries with one target have
-- one slot and one fingerprint. Assumes nothing.
use Rattle.std.specs.Prelude.{◌≡◌, List, [], ◌∷◌, ◌++◌, true, false, ◌||◌, length, get_or, eqb}
use Rattle.std.proofs.Common.{sym, ap₂, ◌∙◌, arith, length-set}
use Rattle.std.proofs.lemmas.Bool.{eqb-false}
use Rattle.slices.specs.Bytes.{Bytes, le32}
use Rattle.slices.specs.Hash.{hash_from}
use Rattle.slices.specs.Filter.{joined}
use Rattle.slices.proofs.FilterLaws.{filter_met, filter_unmet}
use Rattle.slices.specs.Chunks.{contains}
use Rattle.slices.proofs.ItemsLaws.{or_left_off, or_right_off}
use Rattle.lists.specs.Lists.{nil}
use Rattle.entry.specs.Entry.{same_target}
use Rattle.entry.proofs.EntryLaws.{same_target-same}
use Rattle.policy.specs.Filter.{slots, key_at, key_of, slot_of, fingerprint_of, Marks, marks_with}

key_same : (e f : Bytes) → same_target e f ≡ true → key_of f ≡ key_of e
unfolding key_of
key_same e f h =
    let s = same_target-same e f h in
    ap₂ (λ n m. key_at (hash_from (le32 n 0) m)) (sym s.namespace) (sym s.name)

-- neither several nor one like e was met in its slot
pub unmet : (t e : Bytes) (es : List Bytes) → Marks t es → (get_or t (slot_of e) 0 ≡ 255 → ⊥) → (get_or t (slot_of e) 0 ≡ fingerprint_of e → ⊥)
    → contains (same_target e) es ≡ false
unmet t e es m a b = filter_unmet slot_of fingerprint_of same_target (λ x y h. (rw (key_same x y h), rw (key_same x y h))) t e es m.marks a b

pub unmet_test : (t e : Bytes) (es : List Bytes) → Marks t es → (eqb (get_or t (slot_of e) 0) 255 || eqb (get_or t (slot_of e) 0) (fingerprint_of e)) ≡ false
    → contains (same_target e) es ≡ false
unmet_test t e es m z =
    let a = eqb (get_or t (slot_of e) 0) 255 in
    let b = eqb (get_or t (slot_of e) 0) (fingerprint_of e) in
    unmet t e es m (eqb-false _ _ (or_left_off a b z)) (eqb-false _ _ (or_right_off a b z))

-- a filter without a mark has no entry, and one more is met
pub marks_none : (t : Bytes) → length t ≡ slots → Marks t []
marks_none t e = record { room = e; marks = nil }

pub marks_more : (t : Bytes) (es : List Bytes) (e : Bytes) → Marks t es → Marks (marks_with t e) (es ++ (e ∷ []))
marks_more t es e m =
    record {
      room = length-set t (slot_of e) (joined (get_or t (slot_of e) 0) (fingerprint_of e)) ∙ m.room;
      marks = filter_met slot_of fingerprint_of (λ q. omega arith) t e es (rw m.room (omega arith)) m.marks;
    }
