use Rattle.policy.proofs.Marked.{invalid_length, invalid_promise}
use Rattle.policy.proofs.check_noting.Goals as goal

pub returns-then-policy-ne-POLICY_BYTES : goal.returns-then-policy-ne-POLICY_BYTES
returns-then-policy-ne-POLICY_BYTES c =
    let p = c.args.policy.now in
    let a = invalid_length p c.if-policy-ne-POLICY_BYTES.true in
    record { answer = a; noted = invalid_promise _ p a }
