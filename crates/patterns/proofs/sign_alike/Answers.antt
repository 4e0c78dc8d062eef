use Rattle.patterns.proofs.CommonLaws.{alike_tests}
use Rattle.patterns.proofs.sign_alike.Goals as goal

pub returns : goal.returns
returns c = alike_tests _ _
