use Rattle.set.proofs.Puts.{end_nv, end_vol, found_alike, writable, stored_nv, stored_vol_lem}
use mathlib.Core.Bool.{true, false}
use mathlib.Core.Path.{sym, ◌∙◌}
use Rattle.set.proofs.put_variable.Goals as goal

pub put-requires : goal.put-requires
put-requires c =
    let h = sym c.has_nv.ensures ∙ c.if-has_nv.true in
    (end_nv _ _ _ _ c.requires.1, found_alike _ _ _ _ c.requires.1 _ true h c.requires.2.alike, writable _ _ _ c.requires.0 c.requires.2 true h)

pub put-requires-else-has_nv : goal.put-requires-else-has_nv
put-requires-else-has_nv c =
    let h = sym c.has_nv.ensures ∙ c.if-has_nv.false in
    (end_vol _ _ _ _ c.requires.1, found_alike _ _ _ _ c.requires.1 _ false h c.requires.2.alike, writable _ _ _ c.requires.0 c.requires.2 false h)

pub returns-then-has_nv : goal.returns-then-has_nv
returns-then-has_nv c =
    let both = stored_nv _ _ _ c.requires.0 c.requires.2 (sym c.has_nv.ensures ∙ c.if-has_nv.true) c.put.ensures in record { nv_after = both.0; vol_after = both.1 }

pub returns-else-has_nv : goal.returns-else-has_nv
returns-else-has_nv c =
    let both = stored_vol_lem _ _ _ c.requires.0 c.requires.2 (sym c.has_nv.ensures ∙ c.if-has_nv.false) c.put-else-has_nv.ensures in record { nv_after = both.0; vol_after = both.1 }
