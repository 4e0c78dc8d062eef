use Rattle.entry.specs.Entry.{entry_of}
use Rattle.stores.specs.Pair.{lookup}
use Rattle.set.specs.Asked.{asked}
use Rattle.set.proofs.Grounds.{by_request, by_lock}
use mathlib.Core.Path.{ap, ◌∙◌}
use Rattle.set.proofs.entry_ground.Goals as goal

pub returns-in-Some : goal.returns-in-Some
returns-in-Some c =
    let l = c.args.located in
    by_request c.args.e.now (lookup l.stores.nv.now l.stores.vol.now) (asked l.request) c.length_after-n.ensures (c.request_ground.ensures _ c.fields-entry.ensures) c.in-Some.ground c.in-Some.is

pub locks-requires : goal.locks-requires
unfolding entry_of
locks-requires c = ap (λ x. x.lock) c.fields-entry.ensures

pub returns : goal.returns
returns c =
    let l = c.args.located in
    c.then_some.ensures
    ∙ by_lock c.args.e.now (lookup l.stores.nv.now l.stores.vol.now) (asked l.request) c.length_after-n.ensures (c.request_ground.ensures _ c.fields-entry.ensures) c.in_default.is c.locks.ensures
