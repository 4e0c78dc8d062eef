use Rattle.std.proofs.Common.{rules}
use Rattle.names.proofs.NameLaws.{units_none, units_read}
use Rattle.names.proofs.units.UnitsIterator.next.Goals as goal

pub returns-in_err-unit-clause-steps : goal.returns-in_err-unit-clause-steps
returns-in_err-unit-clause-steps c = search (rules, units_none)

pub returns-clause-steps : goal.returns-clause-steps
returns-clause-steps c = search (rules, units_read)

pub returns-clause-goes : goal.returns-clause-goes
returns-clause-goes c = search (rules, units_read)
