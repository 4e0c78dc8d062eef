use Prim.Native.Nat.{ℕ, ◌+◌, ◌≤◌}
use mathlib.Core.Path.{◌∙◌}
use mathlib.Core.List.{[], ◌∷◌}
use native.Mathlib.Omega.{arith}
use Rattle.std.proofs.Common.{rules}
use Rattle.limits.specs.Limits.{policy_bytes}
use Rattle.reader.proofs.Taken.{ready, none_judged, taken_is, fed_room}
use Rattle.reader.proofs.take_byte.Goals as goal

pub judge-requires : goal.judge-requires
judge-requires c =
    let To : ℕ = c.get16-from.result + 1 in
    let within : To ≤ policy_bytes = omega (arith, c.get16-from.ensures.is, c.requires) in
    let k = ready c.put_byte.new.r To (search rules) within c.hold.ensures.after c.hold.ensures.answer c.if-hold.true in
    (k.1, k.2)

pub returns-then-hold : goal.returns-then-hold
returns-then-hold c =
    let r = c.args.r.now in
    let p = c.args.byte ∷ [] in
    taken_is r p c.get16-from.ensures.is c.put_byte.ensures c.hold.ensures.after c.judge.ensures
    ∙ fed_room r p (omega (arith, c.requires)) (omega (arith, c.requires))

pub returns-else-hold : goal.returns-else-hold
returns-else-hold c =
    let To : ℕ = c.get16-from.result + 1 in
    let within : To ≤ policy_bytes = omega (arith, c.get16-from.ensures.is, c.requires) in
    let r = c.args.r.now in
    let p = c.args.byte ∷ [] in
    taken_is r p c.get16-from.ensures.is c.put_byte.ensures c.hold.ensures.after (none_judged c.put_byte.new.r To (search rules) within c.hold.ensures.after c.hold.ensures.answer c.if-hold.false)
    ∙ fed_room r p (omega (arith, c.requires)) (omega (arith, c.requires))
