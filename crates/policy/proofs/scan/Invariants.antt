use Prim.Native.Nat.{◌-◌}
use Rattle.limits.specs.Limits.{max_entries}
use Rattle.policy.proofs.Marked.{Checked, Noted}
use Rattle.policy.proofs.scan.Given as goal

abbrev pub invariant-loop-e : goal.invariant-loop-e
invariant-loop-e l = Checked l.policy l.marks l.count l.used × Noted l.ends l.policy l.count

abbrev pub decreases-loop-e : goal.decreases-loop-e
decreases-loop-e l = max_entries - l.count
