-- What is decided of a set, under the names that the rules have for it: to refuse it with a status, or by a ground of step 4; or what is done.
-- Assumes nothing: these are definitions.
use Rattle.std.specs.Prelude.{Result, Ok, Err}
use Rattle.status.specs.declared.Status.{Status}
use Rattle.rules.specs.declared.Ground.{Ground}
use Rattle.rules.specs.declared.Change.{Change}
use Rattle.rules.specs.declared.Change.TheVariants as change
use Rattle.rules.specs.declared.Refusal.{Refusal}
use Rattle.rules.specs.declared.Refusal.TheVariants.{ByStatus, ByGround}

abbrev pub Decision : Type 0
Decision = Result Change Refusal

pattern abbrev pub Refuse : Status → Decision
Refuse n = Err (ByStatus n)

pattern abbrev pub Block : Ground → Decision
Block g = Err (ByGround g)

pattern abbrev pub Delete : Decision
Delete = Ok change.Delete

pattern abbrev pub Keep : Decision
Keep = Ok change.Keep

pattern abbrev pub Store : Decision
Store = Ok change.Store
