use Rattle.set.proofs.Reports.{attribute_report}
use Rattle.set.proofs.attribute_report.Goals as goal

pub returns : goal.returns
returns c =
    attribute_report _ _ _ c.requires c.le32-must.ensures c.le32-cant.ensures c.missing.ensures c.prohibited.ensures c.lowest.ensures
