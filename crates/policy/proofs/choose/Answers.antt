use mathlib.Core.Path.{refl, sym, ◌∙◌}
use native.Mathlib.Omega.{arith}
use Rattle.slices.specs.Chunks.{flat}
use Rattle.names.specs.Name.{Variable, variable}
use Rattle.policy.specs.Best.{as_choice}
use Rattle.policy.proofs.Best.{at_zero, at_lower, at_kept}
use Rattle.policy.proofs.choose.Goals as goal
use Rattle.policy.proofs.choose.Goals.{then-rank-best, else-rank-best}

pub loop-index-init : goal.loop-index-init
unfolding as_choice flat
loop-index-init c = (omega arith, omega arith, omega arith, omega arith, refl)

pub returns-then-rank-eq0 : goal.returns-then-rank-eq0
returns-then-rank-eq0 c =
    let e = c.args.entries in
    let l = c.loop-index in
    let Asked : Variable = variable c.new-search.result.namespace.now c.new-search.result.name.now in
    rw (← c.new-search.ensures.0, ← c.new-search.ensures.1)
    (at_zero e.ends.now e.bytes.now c.in-Some.index e.counted e.noted c.in-Some.ensures.1 Asked l.best l.best_index l.first l.invariant.0 l.invariant.4 c.in-Some.ensures.2
    c.get.ensures c.rank_for-rank.ensures c.start-at.ensures c.if-rank-eq0.true l.invariant.1)

pub loop-index-smaller : goal.loop-index-smaller
loop-index-smaller c = omega (arith, c.in-Some.ensures.0, c.in-Some.ensures.1)

pub loop-index-preserved : goal.loop-index-preserved
loop-index-preserved c =
    let e = c.args.entries in
    let l = c.loop-index in
    let Asked : Variable = variable c.new-search.result.namespace.now c.new-search.result.name.now in
    elim c.if-rank-best.branch [
      | then-rank-best w ↦ (
        omega (arith, w.if-rank-best.true),
        omega (arith, c.if-rank-eq0.false),
        omega (arith, c.in-Some.ensures.1),
        omega (arith, c.in-Some.ensures.1),
        at_lower e.ends.now e.bytes.now c.in-Some.index e.counted e.noted c.in-Some.ensures.1 Asked l.best l.best_index l.first l.invariant.0 l.invariant.4 c.in-Some.ensures.2
            c.get.ensures c.rank_for-rank.ensures w.if-rank-best.true w.best-is w.best_index-is,
      )
      | else-rank-best w ↦ (
        omega arith,
        omega arith,
        omega arith,
        omega (arith, c.in-Some.ensures.1),
        at_kept e.ends.now e.bytes.now c.in-Some.index e.counted e.noted c.in-Some.ensures.1 Asked l.best l.best_index l.first l.invariant.0 l.invariant.4 c.in-Some.ensures.2
            c.get.ensures c.rank_for-rank.ensures w.if-rank-best.false w.best-is w.best_index-is,
      )
    ]

pub returns : goal.returns
returns c =
    let l = c.loop-index in
    c.choice_of.ensures ∙ rw (c.start.ensures, ← c.new-search.ensures.0, ← c.new-search.ensures.1) (sym (l.invariant.4 ∙ c.in_default.ensures _))
