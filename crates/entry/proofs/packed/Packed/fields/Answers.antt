use Rattle.entry.specs.Entry.{entry_of}
use Rattle.entry.proofs.packed.Packed.fields.Goals as goal

pub returns : goal.returns
unfolding entry_of
returns c = simp (← c.lock-lock.ensures, ← c.le16.ensures, ← c.le32.ensures, ← c.le32-2.ensures, ← c.le32-3.ensures, ← c.le32-4.ensures)
