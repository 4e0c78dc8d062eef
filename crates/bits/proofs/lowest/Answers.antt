use borrow.Author.Rules.{rules}
use Rattle.bits.proofs.Counts.{lowest_is}
use Rattle.bits.proofs.lowest.Goals as goal

pub returns : goal.returns
returns c = lowest_is c.args.must c.args.attributes (search rules) (search rules) c.args.cant
