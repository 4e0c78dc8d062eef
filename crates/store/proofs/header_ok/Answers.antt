use Rattle.store.proofs.Tests.{header_is}
use Rattle.store.proofs.header_ok.Goals as goal

pub returns : goal.returns
returns c =
    header_is _ _ c.requires c.get32-n.ensures.is c.get32-d.ensures.is c.get32.ensures.is c.attributes_ok.ensures
