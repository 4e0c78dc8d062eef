use Rattle.names.specs.Name.{variable}
use Rattle.phases.proofs.Written.{lock_writes}
use Rattle.phases.proofs.put_lock.Goals as goal

pub returns : goal.returns
returns c =
    lock_writes c.args.phase.now (variable c.args.namespace.now c.args.name.now) c.requires.1 c.requires.4 c.args.s.now c.requires.2
    c.put_header.ensures c.copy_in.ensures c.copy_in-2.ensures c.copy_in-3.ensures c.fill.ensures
