-- The measure of the two functions that call each other is twice the links left, and one more for `settled`: it falls at each call, also at the one that keeps
-- the links.
use Prim.Native.Nat.{◌+◌, ◌*◌}
use Rattle.settled.proofs.+lock_holds_settled.Given as goal

abbrev pub decreases-lock_holds : goal.decreases-lock_holds
decreases-lock_holds l = l.links * 2

abbrev pub decreases-settled : goal.decreases-settled
decreases-settled l = l.links * 2 + 1
