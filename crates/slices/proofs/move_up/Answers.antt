use Prim.Native.Nat.{◌+◌, ◌-◌, ◌*◌, ◌%◌}
use native.Mathlib.Omega.{arith}
use Rattle.slices.proofs.Writes.{move_up_next}
use Rattle.slices.proofs.move_up.Goals as goal

pub loop-k-preserved : goal.loop-k-preserved
loop-k-preserved c =
    let a = c.args in (
      move_up_next c.loop-k.s a.from a.to (a.n % 128 + 128 * (c.loop-k.k - 1)) 128 (a.n % 128 + 128 * c.loop-k.k) (omega arith) (omega arith) (omega arith) c.loop-k.invariant.0 c.move_block.ensures,
      omega arith,
    )
