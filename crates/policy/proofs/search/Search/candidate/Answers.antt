use mathlib.Core.Path.{sym, ◌∙◌}
use native.Mathlib.Omega.{arith}
use Rattle.slices.proofs.TestLaws.{forced_off}
use Rattle.names.specs.Name.{variable}
use Rattle.policy.proofs.Walk.{hand_at}
use Rattle.policy.proofs.Best.{passed_by, choice_end}
use Rattle.policy.proofs.search.Search.candidate.Goals as goal

pub may_target-requires : goal.may_target-requires
may_target-requires c =
    let e = c.args.entries.now in
    let g = hand_at e.ends.now e.bytes.now c.loop-index.index e.counted e.noted c.loop-index-test.true in
    (g.inside, rw c.loop-index.invariant.0 g.formed)

pub loop-index-preserved : goal.loop-index-preserved
loop-index-preserved c =
    let e = c.args.entries.now in
    let l = c.loop-index in
    let g = hand_at e.ends.now e.bytes.now l.index e.counted e.noted c.loop-index-test.true in (
      sym g.next.sum,
      passed_by e.ends.now e.bytes.now l.index e.counted e.noted c.loop-index-test.true (variable c.args.self.now.namespace.now c.args.self.now.name.now) c.args.first l.invariant.0 l.invariant.1
          (forced_off _ (λ t. sym c.if-may_target.false ∙ c.may_target.ensures t)),
    )

pub returns : goal.returns
returns c = λ best. c.loop-index.invariant.1 best ∙ choice_end best _ _ _ _ (omega (arith, c.args.entries.now.counted, c.loop-index-test.false))
