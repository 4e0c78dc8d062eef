use native.Mathlib.Omega.{arith}
use Rattle.slices.specs.Bytes.{le16}
use Rattle.slices.proofs.get16.Goals as goal

pub returns-clause-is : goal.returns-clause-is
unfolding le16
returns-clause-is c = omega arith
