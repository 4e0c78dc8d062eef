use Rattle.names.proofs.NameLaws.{units_length}
use native.Mathlib.Omega.{arith}
use Rattle.names.proofs.unit_count.Goals as goal

pub returns : goal.returns
returns c = omega (arith, units_length c.args.s.now)
