use mathlib.Core.Path.{sym, ap, ◌∙◌}
use native.Mathlib.Omega.{arith}
use Rattle.std.specs.Prelude.{Ok}
use Rattle.quarrels.proofs.QuarrelLaws.{found_places}
use Rattle.varpolicy.proofs.varpolicy_quarrels.Goals as goal

pub overflow_cast-result : goal.overflow_cast-result
overflow_cast-result c =
    let q = c.in-Ok-Some.first in
    omega (arith, (found_places _ q.pair.earlier q.pair.later q.length (sym c.quarrels.ensures.answer ∙ c.in-Ok-Some.is ∙ ap Ok c.in-Ok-Some.field-0-is)).0)

pub overflow_cast-result-in-Ok-Some : goal.overflow_cast-result-in-Ok-Some
overflow_cast-result-in-Ok-Some c =
    let q = c.in-Ok-Some.first in
    omega (arith, (found_places _ q.pair.earlier q.pair.later q.length (sym c.quarrels.ensures.answer ∙ c.in-Ok-Some.is ∙ ap Ok c.in-Ok-Some.field-0-is)).1)
