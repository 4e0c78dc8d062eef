use Rattle.set.proofs.Requests.{empty_is}
use Rattle.rules.specs.Set.{is_empty_append}
use Rattle.slices.specs.Test.{◌and◌}
use Rattle.set.proofs.request.Request.is_empty_append.Goals as goal

pub returns-then-has_append : goal.returns-then-has_append
unfolding ◌and◌ is_empty_append
returns-then-has_append c = simp (← c.has_append.ensures, c.if-has_append.true) (empty_is _)

pub returns : goal.returns
unfolding ◌and◌ is_empty_append
returns c = simp (← c.has_append.ensures, c.if-has_append.false)
