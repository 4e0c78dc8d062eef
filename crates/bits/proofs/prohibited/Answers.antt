use borrow.Author.Rules.{rules}
use Rattle.bits.proofs.Counts.{prohibited_is}
use Rattle.bits.proofs.prohibited.Goals as goal

pub returns : goal.returns
returns c = prohibited_is c.args.cant c.args.attributes (search rules) (search rules)
