use Rattle.engine.proofs.Registered.{lock_step_lem}
use Rattle.engine.proofs.lock.Goals as goal

pub returns : goal.returns
returns c = lock_step_lem _ c.lock.ensures
