use Prim.Native.Nat.{◌-◌}
use Rattle.reader.proofs.Judged.{Judging}
use Rattle.reader.proofs.take_good.Given as goal

abbrev pub invariant-loop-e : goal.invariant-loop-e
invariant-loop-e l = Judging l.initial.r l.from l.to l.r l.at

abbrev pub decreases-loop-e : goal.decreases-loop-e
decreases-loop-e l = l.to - l.at
