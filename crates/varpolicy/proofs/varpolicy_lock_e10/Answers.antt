use mathlib.Core.Path.{refl}
use Rattle.switches.specs.Switches.{lock_answer}
use Rattle.switches.specs.SwitchBytes.{locked_bytes}
use Rattle.switches.proofs.SwitchBytesLaws.{lock_left}
use Rattle.rules.specs.Engine.Call.{lock}
use Rattle.engine.proofs.Registered.{lock_step_lem}
use Rattle.varpolicy.proofs.Lent.{leaves}
use Rattle.varpolicy.proofs.varpolicy_lock_e10.Goals as goal

pub returns : goal.returns
returns c =
    let told = c.on_switches.ensures in
    leaves lock lock_answer locked_bytes (λ w. lock_step_lem w refl) lock_left c.args.switches.now told.0 told.2.1 told.3.1 told.4 told.5
