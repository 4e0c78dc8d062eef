use Rattle.reader.specs.Reader.{put}
use Rattle.reader.proofs.stop.Goals as goal

pub returns : goal.returns
unfolding put
returns c = c.put16.ensures
