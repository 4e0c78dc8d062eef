use Rattle.noted.proofs.Walks.{located_nv, located_vol}
use Rattle.noted.proofs.Once.{noted_once}
use Rattle.noted.proofs.notes.Notes.locate.Goals as goal

pub find-first-requires : goal.find-first-requires
find-first-requires c = (c.key-k.ensures, c.args.self.now.long_nv, noted_once _ _ _ c.args.self.now.noted_nv)

pub returns-then-is_some : goal.returns-then-is_some
returns-then-is_some c =
    let both = located_nv _ _ _ c.args.self.now.stores.checked c.find-first.ensures c.is_some.ensures c.if-is_some.true in record { is = both.0; within = both.1 }

pub find-second-requires : goal.find-second-requires
find-second-requires c = (c.key-k.ensures, c.args.self.now.long_vol, noted_once _ _ _ c.args.self.now.noted_vol)

pub returns-then-is_some-2 : goal.returns-then-is_some-2
returns-then-is_some-2 c =
    let both = located_vol _ _ _ c.args.self.now.stores.checked c.find-second.ensures c.is_some-2.ensures c.if-is_some-2.true in record { is = both.0; within = both.1 }
