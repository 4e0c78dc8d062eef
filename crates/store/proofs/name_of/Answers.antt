use Rattle.store.specs.Record.{name_of}
use Rattle.slices.specs.Bytes.{part}
use Prim.Native.Nat.{ℕ, ◌+◌}
use mathlib.Core.Path.{ap}
use Rattle.store.proofs.name_of.Goals as goal

pub returns : goal.returns
unfolding name_of
returns c =
    ap (λ (n : ℕ). part 32 (30 + n) c.args.r.now) c.get32.ensures.is
