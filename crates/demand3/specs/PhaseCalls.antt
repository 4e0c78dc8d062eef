-- DEMAND 3 WITH THE CALLS OF PHASES (RULES.md, 10.15 and 12.1): what each of the six calls makes, and the machine of all seventeen kinds of calls.
-- Assumes nothing: these are definitions.
use Rattle.std.specs.Prelude.{cond}
use Rattle.std.proofs.Math.Option.{Option, none, some}
use Rattle.rules.specs.Engine.{Call}
use Rattle.rules.specs.Engine.Call.{register, set}
use Rattle.rules.specs.Phases.{end_of_dxe_name, ready_to_boot_name, flag_entry, lock_entry, flag, lockable, PhaseCall, phase_step}
use Rattle.rules.specs.Phases.PhaseCall.{phase_policy, write_once_policy, lock_variable, end_of_dxe, ready_to_boot, exit_flag}
use Rattle.history.specs.History.{Machine}
use Rattle.history.specs.MoreCalls.{CallOr, with_more}
use Rattle.demand3.specs.Machine.{machine}

-- the call of the engine that each makes; a lock whose name is none to lock makes none
abbrev pub phase_makes : PhaseCall → Option Call
phase_makes (phase_policy phase) = some (register (flag_entry phase))
phase_makes (write_once_policy namespace) = some (register (flag_entry namespace))
phase_makes (lock_variable phase v) = cond (lockable v) (some (register (lock_entry phase v))) none
phase_makes (end_of_dxe phase) = some (set (flag phase end_of_dxe_name))
phase_makes (ready_to_boot phase) = some (set (flag phase ready_to_boot_name))
phase_makes (exit_flag phase name) = some (set (flag phase name))

-- a call of the engine, or one of phases
abbrev pub AnyCall : Type 0
AnyCall = CallOr Call PhaseCall

-- THE MACHINE: the engine's states and answers; its step is the rules' `step` of the engine's calls and `phase_step` of the others
abbrev pub phase_machine : Machine
phase_machine = with_more machine PhaseCall phase_makes phase_step
