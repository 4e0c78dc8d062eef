use Rattle.std.proofs.Common.{rules}
use Rattle.store.proofs.Standing.{standing_end, header_left, next_here, standing_next}
use Rattle.store.proofs.Walk.{Here, rest_at}
use native.Mathlib.Omega.{arith}
use Rattle.store.proofs.records.RecordsIterator.next.Goals as goal

pub returns-then-self-clause-steps : goal.returns-then-self-clause-steps
returns-then-self-clause-steps c =
    let a = c.args.self.now in
    let e = standing_end a.nonvolatile a.at a.store.now a.within a.behind (omega (arith, a.ends, c.if-self.true)) in
    (e, e)

pub get32-requires : goal.get32-requires
get32-requires c =
    let a = c.args.self.now in
    omega (arith, header_left a.nonvolatile a.at a.store.now a.within a.behind (omega (arith, a.ends, c.if-self.false)))

pub get32-requires-2 : goal.get32-requires-2
get32-requires-2 c =
    let a = c.args.self.now in
    omega (arith, header_left a.nonvolatile a.at a.store.now a.within a.behind (omega (arith, a.ends, c.if-self.false)))

pub invariant_of-self : goal.invariant_of-self
invariant_of-self c =
    let a = c.args.self.now in
    let w : Here a.nonvolatile a.at c.record_size-size.result a.store.now = next_here _ _ _ a.within a.behind (omega (arith, a.ends, c.if-self.false)) c.get32.ensures.is c.get32-2.ensures.is c.record_size-size.ensures in
    record { ends = a.ends; within = w.next; behind = w.step }

pub invariant_of-result : goal.invariant_of-result
invariant_of-result c =
    let a = c.args.self.now in
    let w : Here a.nonvolatile a.at c.record_size-size.result a.store.now = next_here _ _ _ a.within a.behind (omega (arith, a.ends, c.if-self.false)) c.get32.ensures.is c.get32-2.ensures.is c.record_size-size.ensures in
    record { fits = rw rest_at w.fits; body = rw rest_at w.body }

pub returns-clause-steps : goal.returns-clause-steps
returns-clause-steps c =
    let a = c.args.self.now in
    standing_next _ _ _ a.within a.behind (omega (arith, a.ends, c.if-self.false)) c.get32.ensures.is c.get32-2.ensures.is c.record_size-size.ensures

pub returns-clause-goes : goal.returns-clause-goes
returns-clause-goes c =
    let a = c.args.self.now in
    let e = standing_next a.nonvolatile a.at a.store.now a.within a.behind (omega (arith, a.ends, c.if-self.false)) c.get32.ensures.is c.get32-2.ensures.is c.record_size-size.ensures in
    search (rules, e)
