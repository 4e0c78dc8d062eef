-- The switches of the engine (RULES.md, 8.1), and the calls on them alone.
-- Assumes nothing: these are definitions.
use Rattle.std.specs.Prelude.{Bool, true, false, cond}
use Rattle.status.specs.declared.Status.{Status}
use Rattle.status.specs.declared.Status.TheVariants.{Success, Unsupported, WriteProtected, AlreadyStarted}
use Rattle.status.specs.Status.{is_success}
use Rattle.switches.specs.declared.Switches.{Switches}
use Rattle.switches.specs.declared.SwitchAnswer.{SwitchAnswer}

-- after a power-on or restart with answer 0: enabled, unlocked, with leave to disable as given, and not exited
abbrev pub fresh_switches : Bool → Switches
fresh_switches allowed = record { enabled = true; locked = false; disabling_allowed = allowed; exited = false }

-- what a refused start hands back: an engine that neither registers nor can be disabled
abbrev pub refused_switches : Switches
refused_switches = record { enabled = true; locked = true; disabling_allowed = false; exited = false }

-- the switches with one of them moved
abbrev pub with_locked : Switches → Switches
with_locked s = record { enabled = s.enabled; locked = true; disabling_allowed = s.disabling_allowed; exited = s.exited }

abbrev pub with_disabled : Switches → Switches
with_disabled s = record { enabled = false; locked = s.locked; disabling_allowed = s.disabling_allowed; exited = s.exited }

abbrev pub with_exited : Switches → Switches
with_exited s = record { enabled = s.enabled; locked = s.locked; disabling_allowed = s.disabling_allowed; exited = true }

-- the status of a call that is not to be had after exit (RULES.md, 8.1): 3 then, before all that the call itself asks
abbrev pub unless_exited : Switches → Status → Status
unless_exited s n = cond s.exited Unsupported n

-- lock (RULES.md, 10.5)
abbrev pub lock_status : Switches → Status
lock_status s = unless_exited s (cond s.locked WriteProtected Success)

-- disable (RULES.md, 10.6)
abbrev pub disable_status : Switches → Status
disable_status s = unless_exited s (cond s.enabled (cond s.locked WriteProtected (cond s.disabling_allowed Success WriteProtected)) AlreadyStarted)

-- exit (RULES.md, 10.13)
abbrev pub exit_status : Switches → Status
exit_status s = unless_exited s Success

-- what a call on the switches leaves, with its status: the new ones beside 0, and else the old
abbrev pub moved_by : Status → Switches → Switches → SwitchAnswer
moved_by n new old = record { status = n; switches = cond (is_success n) new old }

abbrev pub lock_answer : Switches → SwitchAnswer
lock_answer s = moved_by (lock_status s) (with_locked s) s

abbrev pub disable_answer : Switches → SwitchAnswer
disable_answer s = moved_by (disable_status s) (with_disabled s) s

abbrev pub exit_answer : Switches → SwitchAnswer
exit_answer s = moved_by (exit_status s) (with_exited s) s
