use Rattle.engine.proofs.Registered.{exit_step}
use Rattle.engine.proofs.exit.Goals as goal

pub returns : goal.returns
returns c = exit_step _ c.exit.ensures
