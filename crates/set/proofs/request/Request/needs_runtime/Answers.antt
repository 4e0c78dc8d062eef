use Rattle.set.proofs.Requests.{not_exited, deletion_passes, runtime_asked}
use mathlib.Core.Bool.{not}
use mathlib.Core.Path.{ap}
use Rattle.set.proofs.request.Request.needs_runtime.Goals as goal

pub returns-then-not-exited : goal.returns-then-not-exited
returns-then-not-exited c = not_exited _ _ _ (ap not c.if-not-exited.true)

pub returns-then-is_deletion : goal.returns-then-is_deletion
returns-then-is_deletion c = deletion_passes _ _ _ (ap not c.if-not-exited.false) c.is_deletion.ensures c.if-is_deletion.true

pub returns : goal.returns
returns c =
    runtime_asked _ _ _ (ap not c.if-not-exited.false) c.is_deletion.ensures c.if-is_deletion.false c.has_nv.ensures c.has_bs.ensures c.has_rt.ensures
