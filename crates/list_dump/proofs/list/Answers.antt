-- All that is left to read is listed, from a reader to which nothing was fed. Assumes nothing.
use Rattle.std.proofs.Common.{refl, []}
use Rattle.std.specs.Io.KnownBytes.{Appends, Consumes}
use Rattle.slices.specs.Bytes.{Bytes}
use Rattle.reader.specs.HasRead.{HasRead}
use Rattle.list_dump.specs.Runs.{Took, entry_lines}
use Rattle.list_dump.proofs.Runs.{was_written, started, all_listed, same_error, on_input, some_listed}
use Rattle.list_dump.proofs.list.Goals as goal

pub returns-clause-ok : goal.returns-clause-ok
returns-clause-ok g c =
    let h = started _ c.start.ensures refl in
    let t = c.in_ok-read_all.ensures.ok [] h in
    let w = was_written _ c.write_closing.result c.in_ok-map_err.field-0 c.in_ok-map_err.ensures.cases c.write_closing.ensures in
    all_listed _ _ _ _ _ t.1 t.2 c.verdict_of.ensures w

pub returns-in_err-read_all-clause-unread : goal.returns-in_err-read_all-clause-unread
returns-in_err-read_all-clause-unread g c =
    let listed : ((d : Bytes) → HasRead c.start.new.reader d
    → (p : Bytes) × Took d p (g.R.Read.remaining c.args.input.now) (g.R.Read.remaining c.read_all.new.input) (g.W.Write.contents c.args.output.now) (g.W.Write.contents c.read_all.new.output) c.read_all.new.reader)
    → (p : Bytes) × Consumes (g.R.Read.remaining c.args.input.now) (g.R.Read.remaining c.read_all.new.input) p
    × Appends (g.W.Write.contents c.args.output.now) (g.W.Write.contents c.read_all.new.output) (entry_lines p) =
    λ a. let t = a [] (started _ c.start.ensures refl) in (t.0, t.1.consumed, some_listed _ _ _ _ t.1) in
    same_error _ _ _ c.from_residual.ensures.1 (on_input _ c.in_err-read_all.ensures.unread listed)
