use Rattle.set.proofs.Puts.{end_nv, end_vol, found_there, deleted_nv, deleted_vol}
use Rattle.stores.proofs.PairLaws.{sound_nv, sound_vol}
use mathlib.Core.Bool.{true, false}
use Rattle.set.proofs.delete.Goals as goal

pub remove-requires : goal.remove-requires
remove-requires c =
    (sound_nv _ _ c.requires.0, end_nv _ _ _ _ c.requires.1, found_there _ _ _ _ c.requires.1 true c.if-place.true)

pub remove-requires-else-place : goal.remove-requires-else-place
remove-requires-else-place c =
    (sound_vol _ _ c.requires.0, end_vol _ _ _ _ c.requires.1, found_there _ _ _ _ c.requires.1 false c.if-place.false)

pub returns-then-place : goal.returns-then-place
returns-then-place c =
    let both = deleted_nv _ _ _ _ c.requires.1 c.requires.0 c.if-place.true c.remove.ensures in record { nv_after = both.0; vol_after = both.1 }

pub returns-else-place : goal.returns-else-place
returns-else-place c =
    let both = deleted_vol _ _ _ _ c.requires.1 c.requires.0 c.if-place.false c.remove-else-place.ensures in record { nv_after = both.0; vol_after = both.1 }
