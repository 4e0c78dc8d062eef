use Rattle.names.specs.Name.{is_plain_terminated}
use Rattle.names.proofs.is_plain_terminated.Goals as goal

pub returns : goal.returns
unfolding is_plain_terminated
returns c = c.check_terminated.ensures
