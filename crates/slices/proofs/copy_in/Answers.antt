use mathlib.Core.Path.{refl}
use lib.ListN.{length}
use Rattle.slices.proofs.Writes.{part_written}
use Rattle.slices.proofs.copy_in.Goals as goal

pub returns : goal.returns
returns c =
    let a = c.args in
    part_written a.s.now a.at (length a.src.now) a.src.now c.copy_from_slice.ensures.after refl
