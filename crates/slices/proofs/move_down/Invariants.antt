use mathlib.Core.Path.{◌≡◌}
use Prim.Native.Nat.{◌*◌}
use lib.ListN.{length, take, drop}
use Rattle.slices.specs.Bytes.{overwrite}
use Rattle.slices.proofs.move_down.Given as goal

abbrev pub invariant-loop-k : goal.invariant-loop-k
invariant-loop-k l = (l.s ≡ overwrite l.initial.s l.to (take (128 * l.k) (drop l.from l.initial.s))) × (length l.s ≡ length l.initial.s)
