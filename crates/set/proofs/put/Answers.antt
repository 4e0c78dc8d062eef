use Rattle.set.proofs.Puts.{put_storable, put_room, put_is, joined_some}
use Rattle.set.proofs.WriteSteps.{after_plain, after_append}
use mathlib.Core.Path.{sym, ◌∙◌}
use Rattle.set.proofs.put.Goals as goal

pub append-requires : goal.append-requires
append-requires c =
    let e = after_append _ _ _ (sym c.has_append.ensures ∙ c.if-has_append.true) in
    (c.requires.2.ok, c.requires.0, c.requires.1, put_storable _ _ _ c.requires.2 _ e (joined_some _ _ _ c.requires.2), put_room _ _ _ c.requires.2 _ e (joined_some _ _ _ c.requires.2))

pub write-requires : goal.write-requires
write-requires c =
    let e = after_plain _ _ _ (sym c.has_append.ensures ∙ c.if-has_append.false) in
    (c.requires.2.ok, c.requires.0, c.requires.1, put_storable _ _ _ c.requires.2 _ e c.requires.2.some, put_room _ _ _ c.requires.2 _ e c.requires.2.some)

pub returns-then-has_append : goal.returns-then-has_append
returns-then-has_append c =
    put_is _ _ _ c.requires.2 _ (after_append _ _ _ (sym c.has_append.ensures ∙ c.if-has_append.true)) (joined_some _ _ _ c.requires.2) c.append.ensures

pub returns-else-has_append : goal.returns-else-has_append
returns-else-has_append c =
    put_is _ _ _ c.requires.2 _ (after_plain _ _ _ (sym c.has_append.ensures ∙ c.if-has_append.false)) c.requires.2.some c.write.ensures
