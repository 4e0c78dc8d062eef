use Rattle.policy.specs.Policy.{entries_of}
use Rattle.quarrels.proofs.Linked.{Linked}
use Rattle.quarrels.proofs.link.Given as goal

abbrev pub invariant-loop-i : goal.invariant-loop-i
invariant-loop-i l = Linked (entries_of l.entries.bytes.now) l.heads l.links.next l.links.first l.noted.masks l.noted.shown l.i
