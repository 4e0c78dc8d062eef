use Rattle.set.proofs.Requests.{no_need, runtime_needs, append_needs}
use Rattle.set.proofs.request.Request.needs_bs.Goals as goal

pub returns-then-has_bs : goal.returns-then-has_bs
returns-then-has_bs c = no_need _ c.has_bs.ensures c.if-has_bs.true

pub returns-then-has_rt : goal.returns-then-has_rt
returns-then-has_rt c = runtime_needs _ c.has_bs.ensures c.if-has_bs.false c.has_rt.ensures c.if-has_rt.true

pub returns : goal.returns
returns c = append_needs _ c.has_bs.ensures c.if-has_bs.false c.has_rt.ensures c.if-has_rt.false c.has_append.ensures
