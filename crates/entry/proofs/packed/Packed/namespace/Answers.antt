use native.Mathlib.Omega.{arith}
use Rattle.entry.proofs.EntryLaws.{sized}
use Rattle.entry.proofs.packed.Packed.namespace.Goals as goal

pub slice_bounds-result-end : goal.slice_bounds-result-end
slice_bounds-result-end c = omega (arith, (sized c.args.self.bytes.now c.args.self.formed).least)
