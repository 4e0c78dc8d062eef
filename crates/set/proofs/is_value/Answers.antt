use Rattle.set.proofs.Requests.{other_length, one_byte}
use Rattle.set.proofs.is_value.Goals as goal

pub returns-then-payload-ne1 : goal.returns-then-payload-ne1
returns-then-payload-ne1 c = other_length _ _ c.if-payload-ne1.true

pub returns : goal.returns
returns c = one_byte _ _ c.if-payload-ne1.false
