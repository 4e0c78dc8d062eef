use Prim.Native.Nat.{ℕ, ◌+◌, ◌-◌, ◌*◌, ◌/◌}
use mathlib.Core.Path.{◌≡◌, refl, subst}
use native.Mathlib.Omega.{arith}
use lib.ListN.{take, drop}
use Rattle.slices.specs.Bytes.{overwrite}
use Rattle.slices.proofs.OverwriteLaws.{overwrite_none}
use Rattle.slices.proofs.Writes.{move_down_next}
use Rattle.slices.proofs.move_down.Goals as goal

pub loop-k-init : goal.loop-k-init
loop-k-init c = (overwrite_none _ _, refl)

pub loop-k-preserved : goal.loop-k-preserved
loop-k-preserved c =
    let a = c.args in (
      move_down_next a.s.now a.from a.to (128 * c.loop-k.k) 128 (128 * (c.loop-k.k + 1)) (omega arith) (omega arith) (omega arith) c.loop-k.invariant.0 c.move_block.ensures,
      omega arith,
    )

pub returns : goal.returns
returns c =
    let a = c.args in
    let e : c.loop-k.k ≡ a.n / 128 = omega arith in
    let moved = subst (λ (k : ℕ). c.loop-k.s ≡ overwrite a.s.now a.to (take (128 * k) (drop a.from a.s.now))) e c.loop-k.invariant.0 in
    move_down_next a.s.now a.from a.to (128 * (a.n / 128)) (a.n - 128 * (a.n / 128)) a.n (omega arith) (omega arith) (omega arith) moved c.move_block-2.ensures
