use Rattle.std.proofs.Common.{rules}
use Rattle.patterns.specs.Literals.{literal_mask}
use Rattle.patterns.proofs.LiteralsLaws.{literals_tail}
use Rattle.patterns.proofs.literals.Goals as goal

pub returns : goal.returns
returns c = literals_tail _ (c.tail_by.ensures literal_mask (λ u m h. search rules))
