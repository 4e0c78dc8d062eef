use Rattle.std.proofs.Common.{rules, get_or, ◌+◌}
use Rattle.noted.specs.Noted.{NoteOf, keys}
use Rattle.noted.proofs.find.Goals as goal

pub try_note-first-requires : goal.try_note-first-requires
try_note-first-requires c = c.requires.2 _

pub or_else-requires : goal.or_else-requires
or_else-requires c =
    let h : NoteOf c.args.nonvolatile c.args.s.now (get_or c.args.table.now (keys + c.args.k) 0) = c.requires.2 (keys + c.args.k) in
    search (rules, h)
