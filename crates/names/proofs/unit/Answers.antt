use native.Mathlib.Omega.{arith}
use Rattle.slices.specs.Bytes.{le16}
use Rattle.names.proofs.unit.Goals as goal

pub returns : goal.returns
unfolding le16
returns c = omega arith
