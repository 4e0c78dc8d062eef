use Rattle.set.proofs.Grounds.{size_by, attributes_by, deletion_ground, size_ground, no_ground, attribute_ground}
use mathlib.Core.Path.{sym, ◌∙◌}
use Rattle.set.proofs.request_ground.Goals as goal

pub returns-then-is_deletion : goal.returns-then-is_deletion
returns-then-is_deletion c = λ e q. deletion_ground e _ _ (sym c.is_deletion.ensures ∙ c.if-is_deletion.true)

pub returns-then-not-size_allowed : goal.returns-then-not-size_allowed
returns-then-not-size_allowed c =
    λ e q. size_ground e _ _ (sym c.is_deletion.ensures ∙ c.if-is_deletion.false)
    (sym (size_by e _ _ c.size_allowed.ensures q) ∙ c.if-not-size_allowed.true)

pub returns-then-attributes_allowed : goal.returns-then-attributes_allowed
returns-then-attributes_allowed c =
    λ e q. no_ground e _ _ (sym c.is_deletion.ensures ∙ c.if-is_deletion.false)
    (sym (size_by e _ _ c.size_allowed.ensures q) ∙ c.if-not-size_allowed.false)
    (sym (attributes_by e _ _ c.attributes_allowed.ensures q) ∙ c.if-attributes_allowed.true)

pub returns : goal.returns
returns c =
    λ e q. attribute_ground e _ _ (sym c.is_deletion.ensures ∙ c.if-is_deletion.false)
    (sym (size_by e _ _ c.size_allowed.ensures q) ∙ c.if-not-size_allowed.false)
    (sym (attributes_by e _ _ c.attributes_allowed.ensures q) ∙ c.if-attributes_allowed.false)
