use Rattle.std.proofs.Common.{rules}
use Rattle.rules.specs.Report.{report_for}
use Rattle.set.proofs.report_for.Goals as goal

pub returns-in-None : goal.returns-in-None
unfolding report_for
returns-in-None c = search rules

pub returns-in-Some-SizeGround : goal.returns-in-Some-SizeGround
unfolding report_for
returns-in-Some-SizeGround c = search rules

pub returns-in-Some-LockGround : goal.returns-in-Some-LockGround
unfolding report_for
returns-in-Some-LockGround c = search rules
