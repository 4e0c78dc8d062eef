use Prim.Native.Nat.{ℕ, ◌+◌}
use Rattle.std.proofs.Common.{rules}
use lib.ListN.{length}
use Rattle.reader.proofs.Taken.{ready, none_judged, taken_is}
use Rattle.reader.proofs.take_bytes.Goals as goal

pub judge-requires : goal.judge-requires
judge-requires c =
    let To : ℕ = c.args.from + length c.args.bytes.now in
    let k = ready c.copy_in.new.s To (search rules) c.requires.1 c.hold.ensures.after c.hold.ensures.answer c.if-hold.true in
    (k.1, k.2)

pub returns-then-hold : goal.returns-then-hold
returns-then-hold c = taken_is c.args.r.now c.args.bytes.now c.requires.0 c.copy_in.ensures c.hold.ensures.after c.judge.ensures

pub returns-else-hold : goal.returns-else-hold
returns-else-hold c =
    let To : ℕ = c.args.from + length c.args.bytes.now in
    taken_is c.args.r.now c.args.bytes.now c.requires.0 c.copy_in.ensures c.hold.ensures.after (none_judged c.copy_in.new.s To (search rules) c.requires.1 c.hold.ensures.after c.hold.ensures.answer c.if-hold.false)
