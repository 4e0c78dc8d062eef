use Rattle.std.proofs.Common.{rules}
use Rattle.store.proofs.Tests.{attributes_low, attributes_high}
use Rattle.store.proofs.attributes_ok.Goals as goal
use Rattle.store.proofs.attributes_ok.Goals.{then-attributes-le7, else-attributes-le7}

pub returns-then-has_bs : goal.returns-then-has_bs
returns-then-has_bs c =
    attributes_low _ _ (elim c.if-attributes-le7.branch [ then-attributes-le7 w ↦ search rules | else-attributes-le7 w ↦ search rules ]) c.if-has_bs.true c.has_nv.ensures

pub returns-else-has_bs : goal.returns-else-has_bs
returns-else-has_bs c =
    attributes_high _ _ (elim c.if-attributes-le7.branch [ then-attributes-le7 w ↦ search rules | else-attributes-le7 w ↦ search rules ]) c.if-has_bs.false
