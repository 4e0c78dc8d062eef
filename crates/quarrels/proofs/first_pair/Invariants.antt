use Prim.Native.Nat.{◌-◌}
use Rattle.std.specs.Prelude.{◌≡◌, None}
use Rattle.policy.specs.Policy.{entries_of}
use Rattle.quarrels.proofs.Places.{Clear, Walks}
use Rattle.quarrels.proofs.first_pair.Given as goal

abbrev pub invariant-loop-j : goal.invariant-loop-j
invariant-loop-j l = (l.found ≡ None) × Walks (entries_of l.grouped.dump.entries.bytes.now) l.i l.j

abbrev pub decreases-loop-j : goal.decreases-loop-j
decreases-loop-j l = l.count - l.j

abbrev pub invariant-pairs : goal.invariant-pairs
invariant-pairs l = (l.found ≡ None) × Clear (entries_of l.grouped.dump.entries.bytes.now) l.i 0
