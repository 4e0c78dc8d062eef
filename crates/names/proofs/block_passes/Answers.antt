use Rattle.std.proofs.Common.{rules, refl, ◌∙◌, ◌&&◌, true}
use Rattle.std.proofs.lemmas.Iterator.Consumers.{fold_from_yields_List, YieldsList-from_first}
use Rattle.names.specs.Name.{units}
use Rattle.names.proofs.NameLaws.{fold_each}
use Rattle.names.proofs.block_passes.Goals as goal

pub returns : goal.returns
returns g c t h =
    fold_from_yields_List _ (λ ok u. ok && t u) true _ c.fold.ensures.ran (YieldsList-from_first (λ u. u) (λ s. units s.0.now) _ refl) (λ ok u b q k. search rules)
    ∙ fold_each t (units c.args.block.now)
