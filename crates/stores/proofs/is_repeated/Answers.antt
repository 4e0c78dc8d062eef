use Rattle.stores.proofs.Seen.{search_is}
use Rattle.stores.proofs.is_repeated.Goals as goal

pub returns : goal.returns
returns c =
    search_is _ _ _ c.namespace_of-namespace.ensures c.name_of-name.ensures c.has.ensures c.has-2.ensures
