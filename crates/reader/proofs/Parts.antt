-- Whether it is decided what begins a part of the reader's bytes, as the code tests it. Assumes nothing.
use Prim.Native.Nat.{ℕ, ◌+◌, ◌-◌, ◌≤◌, ◌<◌}
use mathlib.Core.Path.{◌≡◌, refl, sym, ◌∙◌}
use mathlib.Core.Bool.{Bool, true, false, ◌||◌, false≢true}
use native.Mathlib.Omega.{arith}
use lib.ListN.{length, drop, length-take}
use lib.Dec.{leb, ltb}
use borrow.Author.Tests.{le-leb, lt-leb, leb-true, leb-false}
use Rattle.limits.specs.Limits.{size_at, entry_header, max_entry_bytes}
use Rattle.slices.specs.Test.{◌and◌}
use Rattle.slices.specs.Bytes.{Bytes, le16, part}
use Rattle.slices.proofs.PartLaws.{length_part}
use Rattle.slices.proofs.NumberLaws.{le16_take, le16_drop}
use Rattle.entry.specs.Entry.{size_field}
use Rattle.reader.specs.Reading.{decided}

module _ (a e : ℕ) (s : Bytes) where
  -- no header fits
  pub part_short : e < a + entry_header → false ≡ decided (part a e s)
  unfolding decided ◌and◌
  part_short h =
      let k : length (part a e s) < entry_header = omega (arith, length-take (e - a) (drop a s)) in
      rw (lt-leb entry_header (length (part a e s)) k)

  -- a header fits, and its Size is n
  pub part_stated : {n : ℕ} → a + entry_header ≤ e → e ≤ length s → n ≡ le16 s (a + size_at) → (leb n (e - a) || ltb max_entry_bytes n) ≡ decided (part a e s)
  unfolding decided ◌and◌
  part_stated {n} h l q =
      let k : length (part a e s) ≡ e - a = length_part a e s l in
      let f : size_field (part a e s) ≡ n = le16_take (e - a) (drop a s) size_at (omega arith) ∙ le16_drop a s size_at ∙ sym q in
      let m : entry_header ≤ length (part a e s) = omega arith in
      rw (le-leb entry_header (length (part a e s)) m, f, k)

  -- so the part is not empty where that is decided
  pub part_order : decided (part a e s) ≡ true → a ≤ e
  part_order c = go (leb a e) refl
    where
      go : (t : Bool) → leb a e ≡ t → a ≤ e
      go true q = leb-true a e q
      go false q = absurd (false≢true (part_short (omega (arith, leb-false a e q)) ∙ c))
