use Rattle.store.proofs.Tests.{other_name, same_name}
use mathlib.Core.Path.{◌∙◌}
use Rattle.store.proofs.is_of.Goals as goal

pub returns-then-same_name : goal.returns-then-same_name
returns-then-same_name c =
    same_name _ _ _ c.name_of.ensures c.same_name.ensures c.if-same_name.true c.namespace_of.ensures c.same_name-then-same_name.ensures

pub returns-else-same_name : goal.returns-else-same_name
returns-else-same_name c =
    c.if-same_name.false ∙ other_name _ _ _ c.name_of.ensures c.same_name.ensures c.if-same_name.false
