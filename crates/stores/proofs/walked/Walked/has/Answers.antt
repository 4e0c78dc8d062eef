use Rattle.store.proofs.PlaceLaws.{contains_place}
use Rattle.store.specs.Parts.{is_found}
use mathlib.Core.Path.{sym, ap, ◌∙◌}
use Rattle.stores.proofs.walked.Walked.has.Goals as goal

pub returns : goal.returns
returns c = c.is_some.ensures ∙ ap is_found c.find_within.ensures ∙ sym (contains_place _ _ _)
