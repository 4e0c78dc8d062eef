use Rattle.phases.proofs.Written.{header_writes}
use Rattle.phases.proofs.put_header.Goals as goal

pub returns : goal.returns
returns c =
    header_writes c.args.s.now c.args.namespace.now c.args.rest.now c.args.size c.args.offset c.requires.1
    c.copy_in.ensures c.put16.ensures c.put16-2.ensures c.copy_in-2.ensures c.copy_in-3.ensures
