use Rattle.set.proofs.LockRules.{located_within}
use Rattle.set.proofs.WriteSteps.{after_place, append_length, plain_length}
use mathlib.Core.Path.{sym, ◌∙◌}
use Rattle.set.proofs.located.Located.length_after.Goals as goal

pub payload_at-stored-requires : goal.payload_at-stored-requires
payload_at-stored-requires c = located_within c.args.self

pub returns-then-has_append : goal.returns-then-has_append
returns-then-has_append c =
    after_place _ _ _ _ _ _ c.args.self.stands (append_length _ _ _ (sym c.has_append.ensures ∙ c.if-has_append.true) c.payload_at-stored.ensures)

pub returns : goal.returns
returns c = plain_length _ _ _ (sym c.has_append.ensures ∙ c.if-has_append.false)
