use Rattle.reader.specs.Reader.{fresh}
use Rattle.reader.proofs.start.Goals as goal

pub returns : goal.returns
unfolding fresh
returns c = c.fill.ensures
