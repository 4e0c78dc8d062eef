use mathlib.Core.Path.{◌∙◌}
use lib.ListN.{replicate, length-replicate}
use native.Mathlib.Nat.{add-sub_cancel_left}
use Rattle.slices.proofs.PartLaws.{length_middle}
use Rattle.slices.proofs.Writes.{part_written}
use Rattle.slices.proofs.fill.Goals as goal

pub returns : goal.returns
returns c =
    let a = c.args in
    part_written a.s.now a.at a.n (replicate a.n a.v) (c.fill.ensures.after (λ y e. e) ∙ rw (add-sub_cancel_left, length_middle a.s.now a.at a.n c.requires)) (length-replicate _ _)
