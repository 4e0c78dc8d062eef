use mathlib.Core.Path.{◌≡◌}
use Rattle.names.specs.Name.{variable}
use Rattle.policy.specs.Walk.{start_of, PassedTo}
use Rattle.policy.proofs.search.Search.candidate.Given as goal

abbrev pub invariant-loop-index : goal.invariant-loop-index
invariant-loop-index l = (l.at ≡ start_of l.entries.bytes.now l.index) × PassedTo l.entries.bytes.now (variable l.self.namespace.now l.self.name.now) l.first l.index
