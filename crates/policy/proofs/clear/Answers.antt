use mathlib.Core.Path.{◌∙◌}
use Rattle.limits.specs.Limits.{policy_bytes}
use Rattle.policy.proofs.Writes.{cleared}
use Rattle.policy.proofs.clear.Goals as goal

pub returns : goal.returns
returns c =
    c.fill.ensures ∙ cleared policy_bytes 0 c.args.policy.now c.requires
