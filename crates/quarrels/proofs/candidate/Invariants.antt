use Prim.Native.Nat.{◌-◌, ◌≤◌}
use Rattle.limits.specs.Limits.{max_entries}
use Rattle.quarrels.specs.Group.{Skipped}
use Rattle.quarrels.proofs.candidate.Given as goal

abbrev pub invariant-loop-j : goal.invariant-loop-j
invariant-loop-j l = Skipped l.grouped.links.now.next l.grouped.notes.now.masks l.grouped.notes.now.shown l.own.shown l.own.mask l.from l.j × (l.j ≤ max_entries)

abbrev pub decreases-loop-j : goal.decreases-loop-j
decreases-loop-j l = max_entries - l.j
