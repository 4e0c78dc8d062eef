use Rattle.varpolicy.proofs.Readings.{read_exported}
use Rattle.varpolicy.proofs.varpolicy_read_e10.Goals as goal

pub returns-clause-answers : goal.returns-clause-answers
returns-clause-answers c = read_exported c.from.ensures _ _ _ c.read-reading.result c.from-2.ensures c.read-reading.ensures.answers
