use Rattle.set.proofs.WriteSteps.{too_long_lem, no_room_lem, stored}
use mathlib.Core.Path.{sym}
use Rattle.set.proofs.located.Located.decide_store.Goals as goal

pub returns-then-n-gt-MAX_PAYLOAD : goal.returns-then-n-gt-MAX_PAYLOAD
returns-then-n-gt-MAX_PAYLOAD c = too_long_lem _ _ _ _ c.length_after-n.ensures c.if-n-gt-MAX_PAYLOAD.true

pub returns-then-has_room : goal.returns-then-has_room
returns-then-has_room c =
    stored _ _ _ _ c.length_after-n.ensures c.if-n-gt-MAX_PAYLOAD.false (c.has_room.ensures _ (sym c.length_after-n.ensures)) c.if-has_room.true

pub returns : goal.returns
returns c =
    no_room_lem _ _ _ _ c.length_after-n.ensures c.if-n-gt-MAX_PAYLOAD.false (c.has_room.ensures _ (sym c.length_after-n.ensures)) c.if-has_room.false
