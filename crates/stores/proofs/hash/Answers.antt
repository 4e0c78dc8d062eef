use Rattle.stores.proofs.Hashed.{hash_is}
use Rattle.stores.proofs.hash.Goals as goal

pub returns : goal.returns
returns c =
    hash_is _ c.namespace_of.ensures c.name_of.ensures c.hash.ensures c.hash-h.ensures
