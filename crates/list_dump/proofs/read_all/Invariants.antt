-- Each turn feeds a piece that has a byte. Assumes nothing.
use Rattle.std.proofs.Common.{◌≤◌, ◌≡◌, length}
use Rattle.slices.specs.Bytes.{Bytes}
use Rattle.reader.specs.HasRead.{HasRead}
use Rattle.list_dump.specs.Runs.{Took}
use Rattle.list_dump.proofs.read_all.Given as goal

abbrev pub invariant-loop : goal.invariant-loop
invariant-loop g l =
    (4096 ≡ length l.buffer)
    × ((d : Bytes) → HasRead l.fn.reader d
    → (p : Bytes) × Took d p (g.R.Read.remaining l.fn.input) (g.R.Read.remaining l.input) (g.W.Write.contents l.fn.output) (g.W.Write.contents l.output) l.reader × (l.counter ≤ length p))
