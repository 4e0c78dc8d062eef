use Prim.Native.Nat.{ℕ, ◌≤◌}
use mathlib.Core.Path.{◌≡◌, sym, ap, ◌∙◌}
use mathlib.Core.Bool.{true, false}
use borrow.Author.Tests.{le-leb, lt-leb}
use lib.ListN.{length, take}
use lib.Seq.{length-take-le}
use Rattle.std.specs.Prelude.{Option, Some, None, MatchOption}
use Rattle.slices.specs.Test.{◌and◌}
use Rattle.slices.specs.Bytes.{Bytes}
use Rattle.entry.specs.Entry.{size_field, well_formed}
use Rattle.entry.specs.declared.packed.Packed.{Packed}
use Rattle.policy.specs.Policy.{length_by, entry_length}
use Rattle.policy.proofs.PolicyLaws.{entry_length-short}
use Rattle.policy.proofs.first_entry.Goals as goal

-- the bytes that its Size says are there: they are an entry or not
module _ (p : Bytes) (n : ℕ) (s : n ≡ size_field p) (h : n ≤ length p) where
  no-entry : well_formed (take n p) ≡ false → entry_length p ≡ 0
  unfolding ◌and◌ length_by
  no-entry w = simp (← s, le-leb n (length p) h, w)

  its-length : well_formed (take n p) ≡ true → n ≡ entry_length p
  unfolding ◌and◌ length_by
  its-length w = simp (← s, le-leb n (length p) h, w)

  found : (o : Option Packed) → MatchOption o (well_formed (take n p) ≡ false) (λ e. e.bytes.now ≡ take n p)
      → MatchOption o (entry_length p ≡ 0) (λ e. (e.bytes.now ≡ take (entry_length p) p) × (length e.bytes.now ≡ entry_length p))
  found None w = no-entry w
  found (Some e) a =
      let l = its-length (sym (ap well_formed a) ∙ e.formed) in
      (a ∙ ap (λ (m : ℕ). take m p) l, ap length a ∙ length-take-le n p h ∙ l)

pub returns-then-p-lt-ENTRY_HEADER : goal.returns-then-p-lt-ENTRY_HEADER
returns-then-p-lt-ENTRY_HEADER c = entry_length-short _ c.if-p-lt-ENTRY_HEADER.true

pub returns-then-p-n : goal.returns-then-p-n
unfolding ◌and◌ length_by
returns-then-p-n c = simp (← c.get16-n.ensures.is, lt-leb _ _ c.if-p-n.true)

pub returns : goal.returns
returns c = found c.args.p.now c.get16-n.result c.get16-n.ensures.is c.if-p-n.false _ c.new.ensures
