use mathlib.Core.Path.{sym, ◌∙◌}
use Rattle.quarrels.proofs.Places.{fronts_differ, tails_differ}
use Rattle.quarrels.proofs.quarrel_at.Goals as goal

pub returns-then-not-agree : goal.returns-then-not-agree
returns-then-not-agree c =
    fronts_differ c.args.grouped.now.dump.entries.bytes.now c.args.grouped.now.dump.valid c.args.grouped.now.dump.fit c.args.grouped.now.notes.now.masks c.args.grouped.now.notes.now.shown c.args.earlier c.args.later c.args.grouped.now.masked c.args.grouped.now.shows c.requires
    (sym c.agree.ensures ∙ c.if-not-agree.true)

pub returns-then-not-agree-2 : goal.returns-then-not-agree-2
returns-then-not-agree-2 c =
    tails_differ c.args.grouped.now.dump.entries.bytes.now c.args.grouped.now.dump.valid c.args.grouped.now.dump.fit c.args.grouped.now.notes.now.masks c.args.grouped.now.notes.now.shown c.args.earlier c.args.later c.args.grouped.now.masked c.args.grouped.now.shows c.requires
    (sym c.agree-2.ensures ∙ c.if-not-agree-2.true)
