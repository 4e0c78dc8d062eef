use mathlib.Core.Path.{refl}
use Rattle.switches.specs.Switches.{exit_answer}
use Rattle.switches.specs.SwitchBytes.{exited_bytes}
use Rattle.switches.proofs.SwitchBytesLaws.{exit_left}
use Rattle.rules.specs.Engine.Call.{exit}
use Rattle.engine.proofs.Registered.{exit_step}
use Rattle.varpolicy.proofs.Lent.{leaves}
use Rattle.varpolicy.proofs.varpolicy_exit.Goals as goal

pub returns : goal.returns
returns c =
    let told = c.on_switches.ensures in
    leaves exit exit_answer exited_bytes (λ w. exit_step w refl) exit_left c.args.switches.now told.0 told.2.1 told.3.1 told.4 told.5
