use Prim.Native.Nat.{◌<◌}
use native.Mathlib.Omega.{arith}
use lib.ListN.{length}
use Rattle.entry.proofs.EntryLaws.{sized}
use Rattle.reader.proofs.Judged.{hand, judging_end, judging_refused, judging_more}
use Rattle.reader.proofs.take_good.Goals as goal

pub returns-then-not-accept-clause-after : goal.returns-then-not-accept-clause-after
returns-then-not-accept-clause-after c =
    let some : 0 < length c.in-Some.e.bytes.now = omega (arith, (sized _ c.in-Some.e.formed).least) in
    judging_refused c.loop-e.invariant c.requires.2 c.in-Some.ensures.1 some c.accept.ensures.answer c.accept.ensures.after c.if-not-accept.true

pub loop-e-smaller : goal.loop-e-smaller
loop-e-smaller c =
    let l = c.loop-e in
    let some : 0 < length c.in-Some.e.bytes.now = omega (arith, (sized _ c.in-Some.e.formed).least) in
    omega (arith, some, (hand l.r l.at c.args.to _ l.invariant.within (omega (arith, l.invariant.size, c.requires.2)) c.in-Some.ensures.1 some).inside)

pub loop-e-preserved : goal.loop-e-preserved
loop-e-preserved c =
    let some : 0 < length c.in-Some.e.bytes.now = omega (arith, (sized _ c.in-Some.e.formed).least) in
    judging_more c.loop-e.invariant c.requires.2 c.in-Some.ensures.1 some c.accept.ensures.answer c.accept.ensures.after c.if-not-accept.false

pub returns-clause-after : goal.returns-clause-after
returns-clause-after c = judging_end c.loop-e.invariant c.in_default.ensures
