use Prim.Native.Nat.{ℕ, ◌-◌, ◌≤◌, ◌<◌}
use mathlib.Core.Path.{◌≡◌, ◌∙◌}
use native.Mathlib.Omega.{arith}
use lib.ListN.{length, take}
use Rattle.limits.specs.Limits.{policy_bytes}
use Rattle.slices.specs.Bytes.{Bytes}
use Rattle.reader.specs.Reader.{held, stop, taken, fed}
use Rattle.reader.proofs.Taken.{fed_stopped, fed_room, fed_past}
use Rattle.reader.proofs.take_piece.Goals as goal

-- more bytes than there is room for; f is the number held
past : {f : ℕ} {s t : Bytes} (r p : Bytes) → f ≡ held r → held r ≤ policy_bytes → policy_bytes - f < length p → s ≡ taken r (take (policy_bytes - f) p) → t ≡ stop s → t ≡ fed r p
past r p e h l u v =
    let l' : policy_bytes - held r < length p = rw e at l in
    v ∙ rw (u, e) (fed_past r p h l')

pub returns-then-from-gt-POLICY_BYTES : goal.returns-then-from-gt-POLICY_BYTES
returns-then-from-gt-POLICY_BYTES c = fed_stopped c.args.r.now c.args.piece.now (omega (arith, c.get16-from.ensures.is, c.if-from-gt-POLICY_BYTES.true))

pub returns-then-piece-room : goal.returns-then-piece-room
returns-then-piece-room c =
    let opened : held c.args.r.now ≤ policy_bytes = omega (arith, c.get16-from.ensures.is, c.if-from-gt-POLICY_BYTES.false) in
    c.take_bytes.ensures ∙ fed_room c.args.r.now c.args.piece.now (opened) (omega (arith, c.get16-from.ensures.is, c.if-piece-room.true))

pub returns : goal.returns
returns c =
    let opened : held c.args.r.now ≤ policy_bytes = omega (arith, c.get16-from.ensures.is, c.if-from-gt-POLICY_BYTES.false) in
    past c.args.r.now c.args.piece.now c.get16-from.ensures.is (opened) (omega (arith, c.if-piece-room.false)) c.take_bytes-2.ensures c.stop.ensures
