use mathlib.Core.Path.{◌≡◌}
use native.Mathlib.Omega.{arith}
use Rattle.std.proofs.Common.{rules}
use lib.ListN.{length}
use Rattle.reader.specs.Reader.{reader_bytes}
use Rattle.reader.proofs.Parts.{part_short, part_stated}
use Rattle.reader.proofs.is_decided.Goals as goal

pub returns-then-to-from : goal.returns-then-to-from
returns-then-to-from c = let a = c.args in part_short a.from a.to a.r.now c.if-to-from.true

pub returns : goal.returns
returns c =
    let a = c.args in
    let size : length a.r.now ≡ reader_bytes = search rules in
    part_stated a.from a.to a.r.now (omega (arith, c.if-to-from.false)) (omega (arith, size, c.requires.1)) c.get16-size.ensures.is
