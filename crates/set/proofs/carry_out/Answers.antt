use Rattle.std.specs.Prelude.{Ok}
use Rattle.set.proofs.Puts.{carried, refused_left, kept_left, deleted_left}
use Rattle.rules.proofs.DecisionLaws.{stored_facts}
use Rattle.rules.specs.Decision.{Delete, Keep}
use mathlib.Core.Path.{sym, ap, ◌∙◌}
use Rattle.set.proofs.carry_out.Goals as goal

pub put_variable-requires : goal.put_variable-requires
put_variable-requires c =
    (c.requires.0, c.requires.1, stored_facts c.requires.2.0 c.requires.2.1 _ _ _ (sym c.requires.2.2 ∙ c.in-Ok.is ∙ ap Ok c.in-Store.is))

pub returns-in_default : goal.returns-in_default
returns-in_default c =
    let both = carried _ _ _ _ _ c.in_default.is (refused_left _ _ _ _ _) in record { nv_after = both.0; vol_after = both.1 }

pub returns-in-Delete : goal.returns-in-Delete
returns-in-Delete c =
    let both = carried _ _ _ _ Delete (c.in-Ok.is ∙ ap Ok c.in-Delete.is) (deleted_left _ _ _ _ c.delete.ensures.nv_after c.delete.ensures.vol_after) in record { nv_after = both.0; vol_after = both.1 }

pub returns-in-Keep : goal.returns-in-Keep
returns-in-Keep c =
    let both = carried _ _ _ _ Keep (c.in-Ok.is ∙ ap Ok c.in-Keep.is) (kept_left _ _ _ _) in record { nv_after = both.0; vol_after = both.1 }
