use Rattle.slices.proofs.TestLaws.{and_eager}
use Rattle.names.specs.Name.{is_hex_digit}
use Rattle.names.proofs.is_hex_digit.Goals as goal

pub returns : goal.returns
unfolding is_hex_digit
returns c = simp and_eager
