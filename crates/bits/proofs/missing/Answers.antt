use borrow.Author.Rules.{rules}
use Rattle.bits.proofs.Counts.{missing_is}
use Rattle.bits.proofs.missing.Goals as goal

pub returns : goal.returns
returns c = missing_is c.args.must c.args.attributes (search rules) (search rules)
