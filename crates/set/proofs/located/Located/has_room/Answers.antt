use Rattle.set.proofs.Puts.{namespace_length, name_most, knows, end_nv, end_vol, found_alike}
use mathlib.Core.Bool.{true, false}
use mathlib.Core.Path.{sym, ◌∙◌}
use Rattle.set.proofs.located.Located.has_room.Goals as goal

pub has_room-requires : goal.has_room-requires
has_room-requires c =
    let w = knows c.args.self in
    (end_nv _ _ _ _ w, found_alike _ _ _ _ w _ true (sym c.has_nv.ensures ∙ c.if-has_nv.true) c.requires.1, namespace_length _ c.requires.0, name_most _ c.requires.0, c.requires.2)

pub has_room-requires-2 : goal.has_room-requires-2
has_room-requires-2 c =
    let w = knows c.args.self in
    (end_vol _ _ _ _ w, found_alike _ _ _ _ w _ false (sym c.has_nv.ensures ∙ c.if-has_nv.false) c.requires.1, namespace_length _ c.requires.0, name_most _ c.requires.0, c.requires.2)
