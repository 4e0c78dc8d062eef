use Rattle.reader.proofs.Said.{verdict_is}
use Rattle.reader.proofs.verdict_of.Goals as goal

pub returns : goal.returns
returns c = verdict_is c.args.reader.now c.get16-held.ensures.is c.get16-good.ensures.is c.get16.ensures.is
