use Rattle.slices.proofs.TestLaws.{and_no, and_yes}
use Rattle.entry.specs.Entry.{same_target}
use Rattle.entry.proofs.packed.Packed.same_target.Goals as goal

pub returns-then-same_name : goal.returns-then-same_name
unfolding same_target
returns-then-same_name c =
    simp (← c.namespace.ensures.is, ← c.namespace-then-same_name.ensures.is, ← c.name.ensures, ← c.name-2.ensures, ← c.same_name.ensures, c.if-same_name.true, and_yes) c.same_namespace.ensures

pub returns-else-same_name : goal.returns-else-same_name
unfolding same_target
returns-else-same_name c = simp (← c.name.ensures, ← c.name-2.ensures, ← c.same_name.ensures, c.if-same_name.false, and_no)
