use Rattle.stores.proofs.Located.{place_nv, place_vol}
use mathlib.Core.Path.{sym, ◌∙◌}
use Rattle.stores.proofs.locate.Goals as goal

pub returns-then-is_some : goal.returns-then-is_some
returns-then-is_some c = place_nv _ _ _ c.find_within-in_nv.ensures (sym c.is_some.ensures ∙ c.if-is_some.true)

pub returns : goal.returns
returns c = place_vol _ _ _ c.find_within-in_nv.ensures (sym c.is_some.ensures ∙ c.if-is_some.false) c.find_within-in_vol.ensures
