use Rattle.std.proofs.Math.Path.{ap}
use Rattle.std.specs.Prelude.{true, false}
use Rattle.store.proofs.StoreLaws.{store_ok-length}
use Rattle.stores.proofs.PairLaws.{sound_nv, sound_vol}
use Rattle.noted.proofs.Walks.{fresh}
use Rattle.noted.proofs.notes.Notes.new.Goals as goal

pub note-requires : goal.note-requires
note-requires c =
    let s = c.args.stores in
    let n = fresh true s.nv.now c.requires.0 in
    (ap (λ e. e.nv) s.ended, store_ok-length true _ (sound_nv _ s.vol.now s.checked), n.0, n.1)

pub note-requires-2 : goal.note-requires-2
note-requires-2 c =
    let s = c.args.stores in
    let n = fresh false s.vol.now c.requires.1 in
    (ap (λ e. e.vol) s.ended, store_ok-length false _ (sound_vol s.nv.now _ s.checked), n.0, n.1)
