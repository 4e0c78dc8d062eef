use native.Mathlib.Omega.{arith}
use Rattle.slices.proofs.NumberLaws.{eight_told}
use Rattle.slices.proofs.eight.Goals as goal

pub returns : goal.returns
returns c =
    let a = c.args in
    rw (c.get64.ensures, c.get64-2.ensures)
    (eight_told a.a.now a.b.now a.i c.requires.0 c.requires.1 (λ j. omega (arith, c.type_inv.a j)) (λ j. omega (arith, c.type_inv.b j)))
