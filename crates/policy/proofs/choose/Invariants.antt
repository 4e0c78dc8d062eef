use Prim.Native.Nat.{◌-◌, ◌≤◌, ◌<◌}
use mathlib.Core.Path.{◌≡◌}
use lib.ListN.{drop}
use Rattle.limits.specs.Limits.{no_rank}
use Rattle.names.specs.Name.{variable}
use Rattle.policy.specs.Policy.{entries_of}
use Rattle.policy.specs.Choice.{choice_from, choice_of}
use Rattle.policy.specs.Walk.{start_of}
use Rattle.policy.specs.Best.{as_choice}
use Rattle.policy.proofs.choose.Given as goal

abbrev pub invariant-loop-index : goal.invariant-loop-index
invariant-loop-index l =
    let p = l.entries.bytes.now in
    let v = variable l.search.namespace.now l.search.name.now in
    (l.best ≤ no_rank) × (0 < l.best) × (l.best_index ≤ l.entries.count) × (l.first ≤ l.entries.count)
    × (choice_of (entries_of p) v ≡ choice_from (as_choice l.best l.best_index (start_of p l.best_index)) l.first (start_of p l.first) (drop l.first (entries_of p)) v)

abbrev pub decreases-loop-index : goal.decreases-loop-index
decreases-loop-index l = l.entries.count - l.first
