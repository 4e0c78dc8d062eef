use mathlib.Core.Path.{refl}
use Prim.Native.Nat.{◌-◌}
use native.Mathlib.Omega.{arith}
use lib.ListN.{length}
use Rattle.names.specs.Name.{unit_matches}
use Rattle.names.proofs.NameLaws.{pairs_first, pairs_last}
use Rattle.names.proofs.ends_near.Goals as goal

pub returns : goal.returns
returns c m =
    let p = c.args.p.now in
    let v = c.args.v.now in
    c.unit_near.ensures.needed
    (pairs_first unit_matches p v (length v - 2) (omega (arith, c.requires.0, c.requires.2)) (omega (arith, c.requires.2)) c.unit.ensures c.unit-2.ensures
    (pairs_last unit_matches p v c.requires.1 m 2 c.requires.2 refl))
