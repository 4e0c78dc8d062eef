use Prim.Native.Nat.{ℕ}
use mathlib.Core.Path.{◌≡◌}
use lib.ListN.{length}
use Rattle.slices.specs.Bytes.{Bytes}
use Rattle.lists.specs.Lists.{All}
use Rattle.store.specs.Store.{standing}
use Rattle.noted.specs.Noted.{notes, Begins, Noted}
use Rattle.noted.proofs.note.Given as goal

abbrev pub invariant-loop-record : goal.invariant-loop-record
invariant-loop-record l =
    let left = l.record-iterator in
    (goal.iterator-loop-record).can_next left × (goal.iterator-loop-record).is_finite left
    × All (λ (x : ℕ × Bytes). Begins l.nonvolatile l.s x.0) (standing left.nonvolatile left.at left.store.now)
    × (length l.table ≡ notes) × Noted l.nonvolatile l.s l.table
