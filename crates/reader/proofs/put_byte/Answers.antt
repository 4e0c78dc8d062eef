use mathlib.Core.Path.{◌≡◌}
use native.Mathlib.Omega.{arith}
use Rattle.std.proofs.Common.{rules}
use lib.ListN.{length}
use Rattle.slices.proofs.OverwriteLaws.{set_overwrites}
use Rattle.reader.specs.Reader.{reader_bytes}
use Rattle.reader.proofs.put_byte.Goals as goal

pub returns : goal.returns
returns c =
    let size : length c.args.r.now ≡ reader_bytes = search rules in
    set_overwrites c.args.r.now c.args.at c.args.byte (omega (arith, size, c.requires))
