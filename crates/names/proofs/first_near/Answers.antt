use Rattle.names.specs.Name.{unit_matches}
use Rattle.names.proofs.NameLaws.{pairs_first}
use Rattle.names.proofs.first_near.Goals as goal

pub returns : goal.returns
returns c m =
    c.unit_near.ensures.needed (pairs_first unit_matches c.args.p.now c.args.v.now 0 c.requires.0 c.requires.1 c.unit.ensures c.unit-2.ensures m)
