-- Laws of the switches in bytes: what is handed back reads as the switches it stands for, and a call on lent bytes leaves bytes that read as what
-- the call on switches leaves. Assumes nothing.
use Rattle.std.specs.Prelude.{◌≡◌, refl, Bool, true, false, cond, eqb}
use Rattle.std.proofs.Common.{sym, ap, ◌∙◌}
use Rattle.std.specs.Bool.{then_some}
use Rattle.status.specs.declared.Status.{Status}
use Rattle.status.specs.Status.{status_number, is_success}
use Rattle.status.proofs.StatusLaws.{zero_success}
use Rattle.switches.specs.declared.Switches.{Switches}
use Rattle.switches.specs.declared.SwitchBytes.{SwitchBytes}
use Rattle.switches.specs.Switches.{lock_status, with_locked, moved_by, lock_answer, disable_status, with_disabled, disable_answer, exit_status, with_exited, exit_answer}
use Rattle.switches.specs.SwitchBytes.{is_set, gives_leave, switches_of, byte_of, bytes_of, locked_bytes, disabled_bytes, exited_bytes, bytes_answer, lock_bytes, disable_bytes, exit_bytes, written_over, left_by}

set_byte : (b : Bool) → is_set (byte_of b) ≡ b
set_byte true = refl
set_byte false = refl

leave_byte : (b : Bool) → gives_leave (byte_of b) ≡ b
leave_byte true = refl
leave_byte false = refl

pub bytes_read_back : (s : Switches) → switches_of (bytes_of s) ≡ s
bytes_read_back s = simp (set_byte s.enabled, set_byte s.locked, leave_byte s.disabling_allowed, set_byte s.exited)

-- the new bytes are left exactly beside success
pub left_granted : (x : Bool) (new old : SwitchBytes) → written_over (then_some x new) old ≡ cond x new old
left_granted true new old = refl
left_granted false new old = refl

-- and so exactly beside 0
pub left_at_zero : (n : Status) (new old : SwitchBytes) → left_by (bytes_answer n new) old ≡ cond (eqb (status_number n) 0) new old
left_at_zero n new old = left_granted (is_success n) new old ∙ ap (λ b. cond b new old) (sym (zero_success n))

module _ (b : SwitchBytes) where
  -- what is written reads as the switches that the call leaves, whatever its status
  left_reads : (n : Status) (new : SwitchBytes) (w : Switches) → switches_of new ≡ w → switches_of (left_by (bytes_answer n new) b) ≡ (moved_by n w (switches_of b)).switches
  left_reads n new w e = go (is_success n)
    where
      go : (x : Bool) → switches_of (written_over (then_some x new) b) ≡ cond x w (switches_of b)
      go true = e
      go false = refl

  pub lock_left : switches_of (left_by (lock_bytes b) b) ≡ (lock_answer (switches_of b)).switches
  lock_left = left_reads (lock_status (switches_of b)) (locked_bytes b) (with_locked (switches_of b)) refl

  pub disable_left : switches_of (left_by (disable_bytes b) b) ≡ (disable_answer (switches_of b)).switches
  disable_left = left_reads (disable_status (switches_of b)) (disabled_bytes b) (with_disabled (switches_of b)) refl

  pub exit_left : switches_of (left_by (exit_bytes b) b) ≡ (exit_answer (switches_of b)).switches
  exit_left = left_reads (exit_status (switches_of b)) (exited_bytes b) (with_exited (switches_of b)) refl
