use mathlib.Core.Path.{ap, ◌∙◌}
use Prim.Native.Nat.{ℕ}
use native.Mathlib.Omega.{arith}
use Rattle.slices.specs.Bytes.{overwrite}
use Rattle.policy.proofs.PolicyLaws.{policy_valid-length}
use Rattle.policy.proofs.Writes.{appended}
use Rattle.policy.proofs.append.Goals as goal

pub copy_in-requires : goal.copy_in-requires
copy_in-requires c =
    omega (arith, policy_valid-length c.args.policy.now c.requires.0, c.requires.2)

pub returns : goal.returns
returns c =
    let p = c.args.policy.now in
    c.copy_in.ensures
    ∙ ap (λ (n : ℕ). overwrite p n c.args.e.now) c.requires.1
    ∙ appended p c.args.e.now c.requires.0
