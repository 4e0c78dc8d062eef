use Rattle.policy.proofs.FilterLaws.{marks_none}
use Rattle.policy.proofs.scan_noting.Goals as goal

pub scan-requires : goal.scan-requires
scan-requires c =
    (c.requires.0, marks_none c.no_marks-marks.result c.no_marks-marks.ensures, c.requires.1)
