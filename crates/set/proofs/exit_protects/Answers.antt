use Rattle.set.proofs.Shown.{protects_before, protects_absent, protects_after}
use mathlib.Core.Bool.{not}
use mathlib.Core.Path.{ap}
use Rattle.set.proofs.exit_protects.Goals as goal

-- ---- the needs
pub returns-then-not-exited : goal.returns-then-not-exited
returns-then-not-exited c = let a = c.args in protects_before _ a.nv.now a.vol.now a.place (ap not c.if-not-exited.true)

pub returns-then-not-is_somewhere : goal.returns-then-not-is_somewhere
returns-then-not-is_somewhere c =
    let a = c.args in
    protects_absent _ a.nv.now a.vol.now a.place c.is_somewhere.ensures (ap not c.if-not-is_somewhere.true)

pub returns : goal.returns
returns c =
    let a = c.args in
    protects_after _ a.nv.now a.vol.now a.place c.is_somewhere.ensures (ap not c.if-not-is_somewhere.false) (ap not c.if-not-exited.false) c.attributes_at.ensures c.has_nv.ensures
