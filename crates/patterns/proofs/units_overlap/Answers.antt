use Rattle.patterns.proofs.CommonLaws.{overlap_tests}
use Rattle.patterns.proofs.units_overlap.Goals as goal

pub returns : goal.returns
returns c =
    rw (c.unit_matches.ensures, c.unit_matches-2.ensures) (overlap_tests c.args.p c.args.q)
