use Rattle.store.proofs.Resize.{header_bytes_lem}
use native.Mathlib.Omega.{arith}
use Rattle.store.proofs.header.Goals as goal

pub returns : goal.returns
returns c = header_bytes_lem c.args.attributes c.args.n c.args.d (omega arith) c.requires.0 c.requires.1 (rw c.to_le_bytes.ensures (omega arith)) (rw c.to_le_bytes.ensures (omega arith))
