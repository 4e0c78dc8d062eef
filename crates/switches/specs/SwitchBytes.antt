-- The switches as a caller keeps and lends them: a byte each, and what each of its 256 values says.
-- Assumes nothing: these are definitions.
use Rattle.std.specs.Prelude.{ℕ, Bool, not, cond, eqb, Option, None, Some}
use Rattle.std.specs.Bool.{then_some}
use Rattle.status.specs.declared.Status.{Status}
use Rattle.status.specs.Status.{status_number, is_success}
use Rattle.switches.specs.declared.Switches.{Switches}
use Rattle.switches.specs.declared.SwitchBytes.{SwitchBytes}
use Rattle.switches.specs.declared.BytesAnswer.{BytesAnswer}
use Rattle.switches.specs.Switches.{lock_status, disable_status, exit_status}

-- enabled, locked, exited: set by any byte but 0. Entries are then enforced, and none is registered
abbrev pub is_set : ℕ → Bool
is_set byte = not (eqb byte 0)

-- leave to disable: given by 1, and by no other byte
abbrev pub gives_leave : ℕ → Bool
gives_leave byte = eqb byte 1

abbrev pub switches_of : SwitchBytes → Switches
switches_of b =
    record {
      enabled = is_set b.enabled;
      locked = is_set b.locked;
      disabling_allowed = gives_leave b.disabling_allowed;
      exited = is_set b.exited;
    }

-- the bytes of switches that are handed back: 1 if set, 0 if clear
abbrev pub byte_of : Bool → ℕ
byte_of b = cond b 1 0

abbrev pub bytes_of : Switches → SwitchBytes
bytes_of s =
    record {
      enabled = byte_of s.enabled;
      locked = byte_of s.locked;
      disabling_allowed = byte_of s.disabling_allowed;
      exited = byte_of s.exited;
    }

-- the bytes with one of them written
abbrev pub locked_bytes : SwitchBytes → SwitchBytes
locked_bytes b = record { enabled = b.enabled; locked = 1; disabling_allowed = b.disabling_allowed; exited = b.exited }

abbrev pub disabled_bytes : SwitchBytes → SwitchBytes
disabled_bytes b = record { enabled = 0; locked = b.locked; disabling_allowed = b.disabling_allowed; exited = b.exited }

abbrev pub exited_bytes : SwitchBytes → SwitchBytes
exited_bytes b = record { enabled = b.enabled; locked = b.locked; disabling_allowed = b.disabling_allowed; exited = 1 }

-- a call on lent bytes: the number of its status, and the bytes to be written if it is granted
abbrev pub bytes_answer : Status → SwitchBytes → BytesAnswer
bytes_answer n new = record { status = status_number n; written = then_some (is_success n) new }

abbrev pub lock_bytes : SwitchBytes → BytesAnswer
lock_bytes b = bytes_answer (lock_status (switches_of b)) (locked_bytes b)

abbrev pub disable_bytes : SwitchBytes → BytesAnswer
disable_bytes b = bytes_answer (disable_status (switches_of b)) (disabled_bytes b)

abbrev pub exit_bytes : SwitchBytes → BytesAnswer
exit_bytes b = bytes_answer (exit_status (switches_of b)) (exited_bytes b)

-- the bytes that a call leaves: the new ones if it is granted, and else the old
abbrev pub written_over : Option SwitchBytes → SwitchBytes → SwitchBytes
written_over None old = old
written_over (Some new) old = new

abbrev pub left_by : BytesAnswer → SwitchBytes → SwitchBytes
left_by a old = written_over a.written old
