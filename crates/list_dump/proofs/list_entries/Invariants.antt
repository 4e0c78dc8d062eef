-- The measure is how many of the reader's bytes are left, and an entry has at least one. The invariant bounds the number of the entry: it has not grown by more
-- than the bytes; and the lines of the entries up to the one at hand are written. Assumes nothing.
use Rattle.std.proofs.Common.{◌-◌, ◌+◌, ◌≤◌, ◌<◌, ◌^◌, List, length}
use Rattle.reader.specs.declared.Listing.{Listing}
use Rattle.reader.specs.Pieces.{HandsOut}
use Rattle.list_dump.proofs.Runs.{Listed}
use Rattle.list_dump.proofs.list_entries.Given as goal

abbrev pub invariant-loop-listing : goal.invariant-loop-listing
invariant-loop-listing g l =
    (l.i + l.from ≤ l.at + l.index) × (l.index < 2 ^ 32)
    × ((ls : List Listing) → HandsOut l.reader l.from ls → Listed l.reader ls l.index (g.W.Write.contents l.initial.output) l.i l.at (g.W.Write.contents l.output))

abbrev pub decreases-loop-listing : goal.decreases-loop-listing
decreases-loop-listing g l = length l.reader - l.at
