use Rattle.names.proofs.NameLaws.{unit_nears}
use Rattle.names.proofs.unit_near.Goals as goal

pub returns-clause-needed : goal.returns-clause-needed
returns-clause-needed c = unit_nears c.args.p c.args.u
