use native.Mathlib.Omega.{arith}
use Rattle.slices.specs.Bytes.{le16}
use Rattle.slices.proofs.NumberLaws.{le16_rest}
use Rattle.slices.proofs.le16.Goals as goal

pub returns : goal.returns
unfolding le16
returns c =
    let a = c.args in
    rw (c.from_le_bytes.ensures, c.byte.ensures, c.byte-2.ensures, c.rest-s.ensures) (omega (arith, le16_rest a.s.now a.at))
