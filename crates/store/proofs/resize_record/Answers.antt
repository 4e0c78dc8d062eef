use Rattle.store.proofs.Resize.{resized_same, resized_up, resized_down}
use native.Mathlib.Omega.{arith}
use Rattle.store.proofs.resize_record.Goals as goal

pub returns-then-new-old : goal.returns-then-new-old
returns-then-new-old c =
    let a = c.args in
    resized_same a.s.now a.at a.old a.new a.end c.requires.0 c.requires.1 c.requires.2 c.requires.3 (omega arith)

pub returns-then-new-old-2 : goal.returns-then-new-old-2
returns-then-new-old-2 c =
    let a = c.args in
    let p = c.requires in
    resized_down a.s.now a.at a.old a.new a.end p.0 p.1 p.2 p.3 c.move_down.ensures (omega arith) c.fill.ensures

pub returns-else-new-old-2 : goal.returns-else-new-old-2
returns-else-new-old-2 c =
    let a = c.args in
    resized_up a.s.now a.at a.old a.new a.end c.requires.0 c.requires.1 c.requires.2 c.requires.3 c.move_up.ensures (omega arith)
