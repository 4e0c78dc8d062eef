use Rattle.names.proofs.NameLaws.{unit_tests}
use Rattle.names.proofs.unit_matches.Goals as goal

pub returns : goal.returns
returns c = rw c.is_hex_digit.ensures (unit_tests c.args.p c.args.u)
