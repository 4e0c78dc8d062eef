use Prim.Native.Nat.{◌<◌}
use native.Mathlib.Omega.{arith}
use borrow.Author.Tests.{eq-eqb, ne_eqb}
use Rattle.entry.specs.Entry.{lock_of}
use Rattle.entry.proofs.EntryLaws.{sized}
use Rattle.entry.proofs.packed.Packed.lock.Goals as goal

pub returns-in-0 : goal.returns-in-0
unfolding lock_of
returns-in-0 c = simp (← c.byte.ensures, eq-eqb _ _ c.in-0.is)

pub returns-in-1 : goal.returns-in-1
unfolding lock_of
returns-in-1 c = simp (← c.byte.ensures, c.in-1.is)

pub returns-in-2 : goal.returns-in-2
unfolding lock_of
returns-in-2 c = simp (← c.byte.ensures, c.in-2.is)

pub overflow_sub-result : goal.overflow_sub-result
overflow_sub-result c = omega (arith, (sized _ c.args.self.formed).offset_least, c.le16.ensures)

pub returns-in_default : goal.returns-in_default
unfolding lock_of
returns-in_default c =
    let k : 2 < c.byte.result = omega arith in
    simp (← c.byte.ensures, ← c.byte-in_default.ensures, ← c.le16.ensures, ne_eqb c.byte.result 0 (λ z. omega arith), ne_eqb c.byte.result 1 (λ z. omega arith), ne_eqb c.byte.result 2 (λ z. omega arith))
