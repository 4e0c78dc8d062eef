use Rattle.stores.proofs.Seen.{Seen}
use Rattle.store.specs.Store.{records_of}
use lib.ListN.{length}
use Prim.Native.Nat.{◌-◌}
use Rattle.stores.proofs.scan.Given as goal

abbrev pub invariant-loop-n : goal.invariant-loop-n
invariant-loop-n l = Seen l.nonvolatile l.at l.s (records_of l.others.nonvolatile l.others.s.now) l.t

abbrev pub decreases-loop-n : goal.decreases-loop-n
decreases-loop-n l = length l.s - l.at
