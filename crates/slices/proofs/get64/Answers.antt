use Rattle.slices.specs.Bytes.{le64}
use borrow.Author.Rules.{rules}
use Rattle.slices.proofs.get64.Goals as goal

pub returns : goal.returns
unfolding le64
returns c = search rules
