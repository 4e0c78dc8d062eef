use mathlib.Core.Path.{◌≡◌}
use Prim.Native.Nat.{◌+◌, ◌*◌}
use lib.ListN.{length, take, drop}
use Rattle.slices.specs.Bytes.{overwrite}
use Rattle.slices.proofs.move_up.Given as goal

abbrev pub invariant-loop-k : goal.invariant-loop-k
invariant-loop-k l = (overwrite l.s l.to (take (l.first + 128 * l.k) (drop l.from l.s)) ≡ overwrite l.initial.s l.to (take l.n (drop l.from l.initial.s))) × (length l.s ≡ length l.initial.s)
