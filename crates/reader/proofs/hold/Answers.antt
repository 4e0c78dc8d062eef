use Rattle.std.proofs.Common.{rules}
use Rattle.reader.specs.Reader.{put}
use Rattle.reader.proofs.Taken.{hold_tells}
use Rattle.reader.proofs.hold.Goals as goal

pub returns : goal.returns
unfolding put
returns c =
    record { after = c.put16.ensures; answer = hold_tells c.args.r.now c.args.to (search rules) c.requires c.put16.ensures c.get16-good.ensures.is c.is_decided.ensures }
