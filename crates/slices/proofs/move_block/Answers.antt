use Rattle.slices.proofs.Writes.{part_through}
use Rattle.slices.proofs.move_block.Goals as goal

pub returns : goal.returns
returns c =
    let a = c.args in
    part_through a.s.now a.from a.to a.n _ c.requires.1 c.copy_from_slice.ensures.after c.copy_from_slice-2.ensures.after
