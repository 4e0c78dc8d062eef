-- What a reader with any bytes has once an entry was taken among the good ones. Assumes nothing.
use Rattle.std.specs.Prelude.{ℕ, ◌+◌, ◌≤◌, ◌≡◌, take, drop, set}
use Rattle.std.proofs.Common.{sym, ◌∙◌, arith, length-set}
use Rattle.std.proofs.Math.Path.{ap}
use Rattle.std.proofs.Math.ListN.{length}
use Rattle.std.proofs.Math.Seq.{take-set-le, take-set-lt}
use Rattle.std.proofs.lemmas.List.{drop-set-add}
use Rattle.limits.specs.Limits.{policy_bytes}
use Rattle.slices.specs.Bytes.{Bytes, part}
use Rattle.slices.proofs.PartLaws.{part_take}
use Rattle.slices.specs.Filter.{joined}
use Rattle.policy.specs.Filter.{slots, slot_of, fingerprint_of}
use Rattle.reader.specs.Reader.{filter_at, held_at, good_at, count_at, reader_bytes, held, good, count, put, seen, accepted}
use Rattle.reader.proofs.ReaderLaws.{take_put, length_put, put_same, put_before, part_put, le16_set}

module _ (r e : Bytes) (n : length r ≡ reader_bytes) where
  abbrev slot : ℕ
  slot = filter_at + slot_of e

  abbrev mark : ℕ
  mark = joined (seen r e) (fingerprint_of e)

  abbrev noted : Bytes
  noted = set r slot mark

  abbrev grown : Bytes
  grown = put noted good_at (good r + length e)

  length_noted : length noted ≡ reader_bytes
  length_noted = length-set r slot mark ∙ n

  length_grown : length grown ≡ reader_bytes
  length_grown = length_put noted good_at (good r + length e) (omega (arith, length_noted)) ∙ length_noted

  -- the numbers
  pub accepted_size : length (accepted r e) ≡ reader_bytes
  unfolding accepted
  accepted_size = length_put grown count_at (count r + 1) (omega (arith, length_grown)) ∙ length_grown

  pub accepted_held : held (accepted r e) ≡ held r
  unfolding accepted
  accepted_held =
      put_before grown count_at (count r + 1) (omega (arith, length_grown)) held_at (omega arith)
      ∙ put_before noted good_at (good r + length e) (omega (arith, length_noted)) held_at (omega arith)
      ∙ le16_set r slot mark (omega arith) held_at (omega arith)

  pub accepted_good : good r + length e ≤ policy_bytes → good (accepted r e) ≡ good r + length e
  unfolding accepted
  accepted_good l =
      put_before grown count_at (count r + 1) (omega (arith, length_grown)) good_at (omega arith)
      ∙ put_same noted good_at (good r + length e) (omega (arith, length_noted)) (omega arith)

  pub accepted_count : count r ≤ policy_bytes → count (accepted r e) ≡ count r + 1
  unfolding accepted
  accepted_count l = put_same grown count_at (count r + 1) (omega (arith, length_grown)) (omega arith)

  -- the bytes that arrived
  pub accepted_bytes : (k : ℕ) → k ≤ policy_bytes → take k (accepted r e) ≡ take k r
  unfolding accepted
  accepted_bytes k l =
      take_put grown count_at (count r + 1) (omega (arith, length_grown)) k (omega arith)
      ∙ take_put noted good_at (good r + length e) (omega (arith, length_noted)) k (omega arith)
      ∙ take-set-le k r slot mark (omega arith)

  pub accepted_part : (a b : ℕ) → b ≤ policy_bytes → part a b (accepted r e) ≡ part a b r
  accepted_part a b l =
      sym (part_take a b policy_bytes (accepted r e) l) ∙ ap (part a b) (accepted_bytes policy_bytes (omega arith)) ∙ part_take a b policy_bytes r l

  -- the filter
  pub accepted_filter : part filter_at held_at (accepted r e) ≡ set (part filter_at held_at r) (slot_of e) mark
  unfolding accepted
  accepted_filter =
      part_put grown count_at (count r + 1) (omega (arith, length_grown)) filter_at held_at (omega arith)
      ∙ part_put noted good_at (good r + length e) (omega (arith, length_noted)) filter_at held_at (omega arith)
      ∙ ap (take slots) (drop-set-add filter_at r (slot_of e) mark)
      ∙ take-set-lt slots (drop filter_at r) (slot_of e) mark (omega arith)
