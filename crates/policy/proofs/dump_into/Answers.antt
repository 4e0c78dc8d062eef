use mathlib.Core.Path.{ap, ◌∙◌}
use Prim.Native.Nat.{ℕ}
use native.Mathlib.Omega.{arith}
use lib.ListN.{length-take, take}
use Rattle.slices.specs.Bytes.{Bytes, overwrite}
use Rattle.policy.proofs.PolicyLaws.{sizes_sum-within}
use Rattle.policy.proofs.Writes.{dumped}
use Rattle.policy.proofs.dump_into.Goals as goal

pub slice_bounds-copy_in-end : goal.slice_bounds-copy_in-end
slice_bounds-copy_in-end c =
    simp length-take (omega (arith, c.requires.0, sizes_sum-within c.args.policy.now))

pub returns : goal.returns
returns c =
    c.copy_in.ensures
    ∙ ap (λ (n : ℕ). overwrite c.args.buffer.now 0 (take n c.args.policy.now)) c.requires.0
    ∙ ap (λ (l : Bytes). overwrite c.args.buffer.now 0 l) (dumped c.args.policy.now)
