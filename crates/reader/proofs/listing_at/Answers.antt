use mathlib.Core.Path.{◌∙◌}
use native.Mathlib.Omega.{arith}
use Rattle.entry.proofs.EntryLaws.{rank_most}
use Rattle.reader.proofs.Said.{nothing_there, listed_there}
use Rattle.reader.proofs.listing_at.Goals as goal

pub returns-in_err-e : goal.returns-in_err-e
returns-in_err-e c = c.from_residual.ensures ∙ nothing_there c.args.reader.now c.args.at c.part-p.ensures c.get16.ensures.is c.in_err-e.ensures

pub overflow_cast-result-3 : goal.overflow_cast-result-3
overflow_cast-result-3 c = omega (arith, c.rank.ensures, rank_most _ c.in_ok-e.e.formed)

pub returns : goal.returns
returns c =
    let e = c.in_ok-e in
    listed_there c.args.reader.now c.args.at c.part-p.ensures c.get16.ensures.is e.ensures.0 e.e.formed c.byte.ensures c.rank.ensures
