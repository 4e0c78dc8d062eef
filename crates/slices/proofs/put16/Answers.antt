use native.Mathlib.Omega.{arith}
use Rattle.slices.proofs.Writes.{two_put}
use Rattle.slices.proofs.put16.Goals as goal

pub returns : goal.returns
returns c =
    let a = c.args in
    two_put a.s.now a.at a.n c.requires (rw c.to_le_bytes.ensures (omega arith)) (rw c.to_le_bytes.ensures (omega arith))
