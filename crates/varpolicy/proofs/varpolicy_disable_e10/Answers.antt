use mathlib.Core.Path.{refl}
use Rattle.switches.specs.Switches.{disable_answer}
use Rattle.switches.specs.SwitchBytes.{disabled_bytes}
use Rattle.switches.proofs.SwitchBytesLaws.{disable_left}
use Rattle.rules.specs.Engine.Call.{disable}
use Rattle.engine.proofs.Registered.{disable_step}
use Rattle.varpolicy.proofs.Lent.{leaves}
use Rattle.varpolicy.proofs.varpolicy_disable_e10.Goals as goal

pub returns : goal.returns
returns c =
    let told = c.on_switches.ensures in
    leaves disable disable_answer disabled_bytes (λ w. disable_step w refl) disable_left c.args.switches.now told.0 told.2.1 told.3.1 told.4 told.5
