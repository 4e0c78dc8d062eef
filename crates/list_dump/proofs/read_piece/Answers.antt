-- What one read gave is fed, and the lines of the entries that are good since are written. Assumes nothing.
use Rattle.std.proofs.Common.{arith, [], inl}
use Rattle.slices.specs.Bytes.{Bytes}
use Rattle.reader.specs.HasRead.{HasRead}
use Rattle.list_dump.specs.Runs.{Took}
use Rattle.list_dump.proofs.Runs.{was_read, was_written, end_took, piece_took, says_ended, after_turn, same_error, at_input, took_nothing}
use Rattle.list_dump.proofs.read_piece.Goals as goal

pub returns-then-n-eq0-clause-ok : goal.returns-then-n-eq0-clause-ok
returns-then-n-eq0-clause-ok g c d h room most =
    let k = was_read _ c.read.result c.in_ok-n.n _ _ c.read.new.buf c.in_ok-n.ensures.cases c.read.ensures.bound c.read.ensures.bytes in
    ([], end_took c.read.new.buf c.in_ok-n.n _ _ _ h c.if-n-eq0.true k.1, inl (k.2 c.if-n-eq0.true (omega (arith, room, c.read.auto.buf))))

pub returns-clause-ok : goal.returns-clause-ok
returns-clause-ok g c d h room most =
    let k = was_read _ c.read.result c.in_ok-n.n _ _ c.read.new.buf c.in_ok-n.ensures.cases c.read.ensures.bound c.read.ensures.bytes in
    let w = was_written _ c.list_entries.result c.in_ok-map_err.field-0 c.in_ok-map_err.ensures.cases c.list_entries.ensures in
    let t =
    piece_took c.read.new.buf c.in_ok-n.n _ _ _ _ h c.verdict_of-before.ensures c.if-n-eq0.false k.0 (omega (arith, most, c.read.auto.buf)) k.1 c.feed.ensures.after w in
    (_, t.0, after_turn _ _ _ c.verdict_of.result.ended t.1 (λ e. says_ended t.0.reads c.verdict_of.ensures e))

pub returns-in_err-n-clause-unread : goal.returns-in_err-n-clause-unread
returns-in_err-n-clause-unread g c =
    let nothing : (d : Bytes) → HasRead c.args.reader.now d
    → Took d [] (g.R.Read.remaining c.args.input.now) (g.R.Read.remaining c.read.new.self) (g.W.Write.contents c.args.output.now) (g.W.Write.contents c.args.output.now) c.args.reader.now =
    λ d h. took_nothing _ c.read.result c.in_err-n.field-0.0 _ _ _ c.read.new.buf c.in_err-n.ensures.cases c.read.ensures.bytes h in
    same_error _ _ _ c.from_residual.ensures.1 (at_input _ nothing)
