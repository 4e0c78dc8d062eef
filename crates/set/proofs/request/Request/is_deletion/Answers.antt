use Rattle.set.proofs.Requests.{empty_length, some_length}
use Rattle.rules.specs.Set.{is_deletion}
use Rattle.slices.specs.Test.{◌and◌}
use Rattle.set.proofs.request.Request.is_deletion.Goals as goal

pub returns-then-has_append : goal.returns-then-has_append
unfolding ◌and◌ is_deletion
returns-then-has_append c = simp (← c.has_append.ensures, c.if-has_append.true)

pub returns-then-self-eq0 : goal.returns-then-self-eq0
unfolding ◌and◌ is_deletion
returns-then-self-eq0 c = simp (← c.has_append.ensures, c.if-has_append.false, empty_length c.args.self.payload.now c.if-self-eq0.true)

pub returns-then-has_bs : goal.returns-then-has_bs
unfolding ◌and◌ is_deletion
returns-then-has_bs c = simp (← c.has_append.ensures, c.if-has_append.false, some_length c.args.self.payload.now c.if-self-eq0.false, ← c.has_bs.ensures, c.if-has_bs.true)

pub returns : goal.returns
unfolding ◌and◌ is_deletion
returns c = simp (← c.has_append.ensures, c.if-has_append.false, some_length c.args.self.payload.now c.if-self-eq0.false, ← c.has_bs.ensures, c.if-has_bs.false, ← c.has_rt.ensures)
