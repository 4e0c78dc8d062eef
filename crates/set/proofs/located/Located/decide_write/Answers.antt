use Rattle.set.proofs.LockRules.{located_within}
use Rattle.set.proofs.WriteSteps.{other_by, deletes, differs, keeps, stores}
use Rattle.rules.specs.Set.{is_deletion, other_attributes}
use Rattle.set.specs.Known.{stored}
use mathlib.Core.Bool.{false}
use mathlib.Core.Path.{◌≡◌, sym, ◌∙◌}
use Rattle.set.proofs.located.Located.decide_write.Goals as goal

pub returns-then-is_deletion : goal.returns-then-is_deletion
returns-then-is_deletion c = deletes _ _ _ _ _ (sym c.is_deletion.ensures ∙ c.if-is_deletion.true) c.decide_delete.ensures

pub attributes_at-requires : goal.attributes_at-requires
attributes_at-requires c = located_within c.args.self

pub returns-then-found-attributes_at : goal.returns-then-found-attributes_at
returns-then-found-attributes_at c =
    let writes : is_deletion c.args.self.request.attributes c.args.self.request.payload.now ≡ false = sym c.is_deletion.ensures ∙ c.if-is_deletion.false in
    differs _ _ _ _ _ (writes) (other_by _ _ _ _ _ c.args.self.stands c.is_somewhere-found.ensures c.attributes_at.ensures ∙ c.if-found-attributes_at.true)

pub returns-then-is_empty_append : goal.returns-then-is_empty_append
returns-then-is_empty_append c =
    let writes : is_deletion c.args.self.request.attributes c.args.self.request.payload.now ≡ false = sym c.is_deletion.ensures ∙ c.if-is_deletion.false in
    let alike : other_attributes (stored c.args.self) c.args.self.request.attributes ≡ false = other_by _ _ _ _ _ c.args.self.stands c.is_somewhere-found.ensures c.attributes_at.ensures ∙ c.if-found-attributes_at.false in
    keeps _ _ _ _ _ (writes) (alike) (sym c.is_empty_append.ensures ∙ c.if-is_empty_append.true)

pub decide_store-requires : goal.decide_store-requires
decide_store-requires c =
    let alike : other_attributes (stored c.args.self) c.args.self.request.attributes ≡ false = other_by _ _ _ _ _ c.args.self.stands c.is_somewhere-found.ensures c.attributes_at.ensures ∙ c.if-found-attributes_at.false in
    (c.requires, alike)

pub returns : goal.returns
returns c =
    let writes : is_deletion c.args.self.request.attributes c.args.self.request.payload.now ≡ false = sym c.is_deletion.ensures ∙ c.if-is_deletion.false in
    let alike : other_attributes (stored c.args.self) c.args.self.request.attributes ≡ false = other_by _ _ _ _ _ c.args.self.stands c.is_somewhere-found.ensures c.attributes_at.ensures ∙ c.if-found-attributes_at.false in
    stores _ _ _ _ _ (writes) (alike) (sym c.is_empty_append.ensures ∙ c.if-is_empty_append.false) c.decide_store.ensures
