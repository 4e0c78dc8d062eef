use Rattle.std.specs.Prelude.{ℕ, Option}
use Rattle.std.proofs.Common.{ap, ap₂, ◌∙◌}
use Rattle.std.specs.Bool.{then_some}
use Rattle.status.proofs.StatusLaws.{equals_success}
use Rattle.switches.specs.declared.SwitchBytes.{SwitchBytes}
use Rattle.switches.specs.declared.BytesAnswer.{BytesAnswer}
use Rattle.switches.proofs.bytes_answer.Goals as goal

pub returns : goal.returns
returns c =
    ap₂ {C = BytesAnswer} (λ (n : ℕ) (w : Option SwitchBytes). record { status = n; written = w }) c.from.ensures
    (c.then_some.ensures ∙ ap (λ b. then_some b c.args.new) (c.eq.ensures ∙ equals_success c.args.status))
