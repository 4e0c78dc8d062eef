use Prim.Native.Nat.{◌-◌, ◌≤◌}
use mathlib.Core.Path.{◌≡◌}
use lib.ListN.{take, drop}
use Rattle.slices.specs.Chunks.{contains}
use Rattle.entry.specs.Entry.{same_target}
use Rattle.policy.specs.Policy.{entries_of}
use Rattle.policy.specs.Walk.{At}
use Rattle.policy.proofs.is_among.Given as goal

abbrev pub invariant-loop : goal.invariant-loop
invariant-loop l =
    (l.counter ≤ l.count) × At l.policy l.counter l.at
    × (contains (same_target l.e.bytes.now) (take l.count (entries_of l.policy)) ≡ contains (same_target l.e.bytes.now) (take (l.count - l.counter) (drop l.counter (entries_of l.policy))))
