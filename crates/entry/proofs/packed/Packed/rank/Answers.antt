use Rattle.entry.specs.Entry.{rank}
use Rattle.entry.proofs.EntryLaws.{name_of-none}
use Rattle.entry.proofs.packed.Packed.rank.Goals as goal

pub returns-then-is_empty : goal.returns-then-is_empty
unfolding rank
returns-then-is_empty c =
    simp (name_of-none c.args.self.bytes.now c.args.self.formed, ← c.name-name.ensures, ← c.is_empty.ensures, c.if-is_empty.true)

pub returns : goal.returns
unfolding rank
returns c =
    simp (name_of-none c.args.self.bytes.now c.args.self.formed, ← c.name-name.ensures, ← c.is_empty.ensures, c.if-is_empty.false) c.wildcards.ensures
