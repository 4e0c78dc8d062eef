use Rattle.slices.specs.Test.{◌and◌}
use Rattle.entry.specs.Entry.{targets, rank}
use Rattle.entry.proofs.EntryLaws.{name_of-none}
use Rattle.policy.proofs.search.Search.rank_for.Goals as goal

pub returns-then-not-same_namespace : goal.returns-then-not-same_namespace
unfolding targets ◌and◌
returns-then-not-same_namespace c = simp (← c.namespace.ensures.is, ← c.same_namespace.ensures, c.if-not-same_namespace.true)

pub returns-then-is_empty : goal.returns-then-is_empty
unfolding targets rank ◌and◌
returns-then-is_empty c =
    simp (← c.namespace.ensures.is, ← c.same_namespace.ensures, c.if-not-same_namespace.false, name_of-none c.args.e.bytes.now c.args.e.formed, ← c.name-own.ensures, ← c.is_empty.ensures, c.if-is_empty.true)

pub returns-then-matches : goal.returns-then-matches
unfolding targets rank ◌and◌
returns-then-matches c =
    simp (← c.namespace.ensures.is, ← c.same_namespace.ensures, c.if-not-same_namespace.false, name_of-none c.args.e.bytes.now c.args.e.formed, ← c.name-own.ensures, ← c.is_empty.ensures, c.if-is_empty.false, ← c.matches.ensures, c.if-matches.true) c.wildcards.ensures

pub returns : goal.returns
unfolding targets rank ◌and◌
returns c =
    simp (← c.namespace.ensures.is, ← c.same_namespace.ensures, c.if-not-same_namespace.false, name_of-none c.args.e.bytes.now c.args.e.formed, ← c.name-own.ensures, ← c.is_empty.ensures, c.if-is_empty.false, ← c.matches.ensures, c.if-matches.false)
