use mathlib.Core.Path.{◌≡◌, sym, ◌∙◌}
use native.Mathlib.Omega.{arith}
use lib.Seq.{length-take-le}
use Rattle.policy.specs.Stated.{stated_length}
use Rattle.policy.proofs.StatedLaws.{stated_short, stated_small, stated_none, stated_there}
use Rattle.policy.proofs.stated_entry.Goals as goal

pub returns-then-p-lt-ENTRY_HEADER : goal.returns-then-p-lt-ENTRY_HEADER
returns-then-p-lt-ENTRY_HEADER c = stated_short c.args.p.now c.if-p-lt-ENTRY_HEADER.true

pub returns-then-n-lt-ENTRY_HEADER : goal.returns-then-n-lt-ENTRY_HEADER
returns-then-n-lt-ENTRY_HEADER c = stated_small c.args.p.now (omega (arith, c.get16-n.ensures.is, c.if-n-lt-ENTRY_HEADER.true))

pub returns-then-p-n : goal.returns-then-p-n
returns-then-p-n c =
    stated_none c.args.p.now (omega (arith, c.get16-n.ensures.is, c.if-n-lt-ENTRY_HEADER.false)) (omega (arith, c.get16-n.ensures.is, c.if-p-n.true))

pub returns : goal.returns
returns c =
    let p = c.args.p.now in
    let n = c.get16-n.result in
    let e : n ≡ stated_length p =
    c.get16-n.ensures.is ∙ sym (stated_there p (omega (arith, c.get16-n.ensures.is, c.if-n-lt-ENTRY_HEADER.false)) (omega (arith, c.get16-n.ensures.is, c.if-p-n.false))) in
    let l = length-take-le n p (omega (arith, c.if-p-n.false)) in
    (rw e, l ∙ e, omega (arith, l, c.if-n-lt-ENTRY_HEADER.false))
