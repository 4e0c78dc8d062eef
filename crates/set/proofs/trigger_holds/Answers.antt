use Rattle.set.proofs.LockRules.{trigger_by}
use Rattle.set.proofs.trigger_holds.Goals as goal

pub returns : goal.returns
returns g c =
    trigger_by (g.L.Lookup.found c.args.stores.now) _ c.is_value.ensures c.payload_of.ensures c.part-namespace.ensures c.part-name.ensures
