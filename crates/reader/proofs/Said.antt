-- What the reader says, from the numbers that the code reads. Assumes nothing.
use Prim.Native.Nat.{ℕ}
use mathlib.Core.Path.{◌≡◌, refl, sym, ap, ◌∙◌}
use mathlib.Core.Bool.{Bool, true, false, not, ◌&&◌}
use native.Mathlib.Omega.{arith}
use lib.ListN.{length, get_or, take}
use lib.Seq.{length-take-le}
use lib.Dec.{eqb, leb, ltb}
use borrow.Author.Tests.{ne_eqb, leb-true, leb-false, lt-ltb, le-ltb}
use Rattle.limits.specs.Limits.{policy_bytes, lock_type_at}
use Rattle.slices.proofs.TestLaws.{and_eager}
use Rattle.slices.specs.Bytes.{Bytes, part}
use Rattle.entry.specs.Entry.{well_formed, rank}
use Rattle.entry.proofs.EntryLaws.{sized}
use Rattle.policy.specs.Policy.{entry_length}
use Rattle.policy.proofs.PolicyLaws.{entry_length-within}
use Rattle.reader.specs.declared.Verdict.{Verdict}
use Rattle.std.specs.Prelude.{Some, None}
use Rattle.reader.specs.Reading.{listing}
use Rattle.reader.specs.Reader.{held, good, count, verdict_in, listing_in}

above : (a b : ℕ) → ltb b a ≡ not (leb a b)
above a b = go (leb a b) refl
  where
    go : (t : Bool) → leb a b ≡ t → ltb b a ≡ not t
    go true q = le-ltb b a (leb-true a b q)
    go false q = lt-ltb b a (omega (arith, leb-false a b q))

pub verdict_is : {h g n : ℕ} (r : Bytes) → h ≡ held r → g ≡ good r → n ≡ count r
    → ◌≡◌ {A = Verdict} (record { whole = leb h policy_bytes && eqb g h; ended = ltb policy_bytes h; entries = n; bytes = g }) (verdict_in r)
unfolding verdict_in
verdict_is {h} {g} r a b c = rw (and_eager (leb h policy_bytes) (eqb g h), above h policy_bytes, a, b, c)

-- the entry that begins p, which is the good bytes from `at` on
module _ {p : Bytes} {g : ℕ} (r : Bytes) (at : ℕ) (a : p ≡ part at g r) (b : g ≡ good r) where
  bytes_is : part at (good r) r ≡ p
  bytes_is = sym (a ∙ ap (λ (k : ℕ). part at k r) b)

  pub nothing_there : entry_length p ≡ 0 → None ≡ listing_in r at
  unfolding listing_in listing
  nothing_there z = rw (bytes_is, z)

  -- it is e, l is its lock type and k its rank
  pub listed_there : {e : Bytes} {l k : ℕ} → e ≡ take (entry_length p) p → well_formed e ≡ true → l ≡ get_or e lock_type_at 0 → k ≡ rank e
      → Some (record { size = length e; lock = l; rank = k }) ≡ listing_in r at
  unfolding listing_in listing
  listed_there {e} q f u v =
      let m : length e ≡ entry_length p = ap length q ∙ length-take-le (entry_length p) p (entry_length-within p) in
      let some : entry_length p ≡ 0 → ⊥ = λ z. omega (arith, (sized e f).least, m, z) in
      rw (bytes_is, ne_eqb (entry_length p) 0 some, ← q, u, v)
