use Rattle.engine.proofs.Registered.{disable_step}
use Rattle.engine.proofs.disable.Goals as goal

pub returns : goal.returns
returns c = disable_step _ c.disable.ensures
