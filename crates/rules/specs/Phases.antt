-- Phases (RULES.md, 10.15): what the calls above the engine write, and what each of them is: one call of the engine, on bytes of its own, or none where a name to lock is bad.
-- Assumes nothing: these are definitions.
use Rattle.std.specs.Prelude.{ℕ, suc, ◌+◌, ◌≤◌, ◌≡◌, List, [], ◌∷◌, Bool, true, false, cond, eqb, length}
use Rattle.limits.specs.Limits.{max_entries, policy_bytes}
use Rattle.lists.specs.Lists.{Among}
use Rattle.slices.specs.Test.{◌and◌}
use Rattle.slices.specs.Bytes.{Bytes}
use Rattle.slices.specs.Chunks.{flat, contains}
use Rattle.names.specs.Name.{Variable, named, units, wildcards, number_sign}
use Rattle.entry.specs.Entry.{same_target}
use Rattle.entry.specs.Encoding.{Fields, encode_entry}
use Rattle.entry.specs.Encoding.Lock.{plain, on_var_state}
use Rattle.policy.specs.Policy.{entries_of, policy_valid}
use Rattle.store.specs.Record.{attributes_of, payload_of}
use Rattle.status.specs.declared.Status.{Status}
use Rattle.status.specs.declared.Status.TheVariants.{InvalidParameter, VolumeCorrupted}
use Rattle.rules.specs.Set.{Request, request_of}
use Rattle.rules.specs.Engine.{State, Answer, only_status, step}
use Rattle.rules.specs.Engine.Call.{register, set}
use Rattle.rules.specs.Grounds.{Not, Named, HasEntries, RecordOf, ChosenFor, Answers}

-- ---- the entries

-- the name of the flag that the end of DXE sets, "EOD"
abbrev pub end_of_dxe_name : Bytes
end_of_dxe_name = 0x45 ∷ 0 ∷ 0x4F ∷ 0 ∷ 0x44 ∷ 0 ∷ []

-- and of that which ready to boot sets, "RTB"
abbrev pub ready_to_boot_name : Bytes
ready_to_boot_name = 0x52 ∷ 0 ∷ 0x54 ∷ 0 ∷ 0x42 ∷ 0 ∷ []

-- BS and RT, and NV
abbrev pub boot_and_runtime : ℕ
boot_and_runtime = 6

abbrev pub non_volatile : ℕ
non_volatile = 1

-- the policy of a whole namespace of flags, the phase namespace or the write-once one: one byte, BS and RT, not NV, lock on create
abbrev pub flag_fields : Bytes → Fields
flag_fields namespace =
    record {
      namespace = namespace;
      min_size = 1;
      max_size = 1;
      must_have = boot_and_runtime;
      cant_have = non_volatile;
      lock = plain 2;
      reserved = 0 ∷ 0 ∷ 0 ∷ [];
      name = [];
    }

-- the older lock of one variable (EDK2's Variable Lock Protocol): any size and attributes, locked while "EOD" of the phase namespace holds 1
abbrev pub lock_fields : Bytes → Variable → Fields
lock_fields phase v =
    record {
      namespace = v.namespace;
      min_size = 0;
      max_size = 0xFFFFFFFF;
      must_have = 0;
      cant_have = 0;
      lock = on_var_state phase 1 0 end_of_dxe_name;
      reserved = 0 ∷ 0 ∷ 0 ∷ [];
      name = v.name;
    }

-- their bytes
unfoldable pub flag_entry : Bytes → Bytes
flag_entry namespace = encode_entry (flag_fields namespace)

unfoldable pub lock_entry : Bytes → Variable → Bytes
lock_entry phase v = encode_entry (lock_fields phase v)

-- ---- the flags

-- the variable of a flag, and the set that creates it: BS and RT alone, payload 01
abbrev pub flag_variable : Bytes → Bytes → Variable
flag_variable phase name = record { namespace = phase; name = name }

abbrev pub flag : Bytes → Bytes → Request
flag phase name = request_of phase name boot_and_runtime (1 ∷ [])

-- ---- the calls

-- a name to lock: one that a set takes, and without '#', which in an entry stands for a hex digit and not for itself
unfoldable pub lockable : Variable → Bool
lockable v = named v and eqb (wildcards (units v.name)) 0

-- the older lock: 10 first, then 2 for a name that is none to lock, and then what the engine says
unfoldable pub lock_step : State → Bytes → Variable → Answer × State
lock_step s phase v =
    cond (lockable v) (step s (register (lock_entry phase v)))
    (only_status (cond (policy_valid s.policy) InvalidParameter VolumeCorrupted), s)

-- the calls, with what each is given beside the state: the phase namespace, or the write-once one; of a lock then the variable, of an exit flag its name
pub data PhaseCall : Type 0 where
  phase_policy : Bytes → PhaseCall
  write_once_policy : Bytes → PhaseCall
  lock_variable : Bytes → Variable → PhaseCall
  end_of_dxe : Bytes → PhaseCall
  ready_to_boot : Bytes → PhaseCall
  exit_flag : Bytes → Bytes → PhaseCall

-- WHAT EACH CALL IS, by the engine's step
abbrev pub phase_step : State → PhaseCall → Answer × State
phase_step s (phase_policy phase) = step s (register (flag_entry phase))
phase_step s (write_once_policy namespace) = step s (register (flag_entry namespace))
phase_step s (lock_variable phase v) = lock_step s phase v
phase_step s (end_of_dxe phase) = step s (set (flag phase end_of_dxe_name))
phase_step s (ready_to_boot phase) = step s (set (flag phase ready_to_boot_name))
-- a name that is none is 2 in step 1 of the set, behind 10 alone
phase_step s (exit_flag phase name) = step s (set (flag phase name))

-- ---- the older lock said a second time, as Grounds.antt says the engine's calls

-- a name to lock: one that step 1 takes, no unit of which is '#'
pub record Lockable (v : Variable) : Type 0 where
  pub called : Named v
  pub without_sign : Not (Among number_sign (units v.name))

-- what the call answers: where the name is none to lock 10 for a bad record and else 2, and otherwise what register answers
pub data LockAnswers (s : State) (phase : Bytes) (v : Variable) : Status → Type 0 where
  bad_record : Not (Lockable v) → ((es : List Bytes) → Not (HasEntries s es)) → LockAnswers s phase v VolumeCorrupted
  bad_name : (es : List Bytes) → Not (Lockable v) → HasEntries s es → LockAnswers s phase v InvalidParameter
  registers : {n : Status} → Lockable v → Answers s (register (lock_entry phase v)) n → LockAnswers s phase v n

-- ---- what is said of them

-- the engine takes a new entry e: the record is valid, the engine has not exited and is unlocked, no entry of the same namespace and name stands, and there is room
pub record CanRegister (s : State) (e : Bytes) : Type 0 where
  pub valid : policy_valid s.policy ≡ true
  pub before : s.switches.exited ≡ false
  pub unlocked : s.switches.locked ≡ false
  pub new : contains (same_target e) (entries_of s.policy) ≡ false
  pub few : suc (length (entries_of s.policy)) ≤ max_entries
  pub room : length (flat (entries_of s.policy)) + length e ≤ policy_bytes

-- "EOD" holds 01 under the phase policy
pub record EndedDxe (s : State) (phase : Bytes) : Type 0 where
  pub policy : ChosenFor s (flag_variable phase end_of_dxe_name) (flag_entry phase)
  pub flag : Bytes
  pub stands : RecordOf s (flag_variable phase end_of_dxe_name) flag
  pub holds : payload_of flag ≡ 1 ∷ []

-- the flag of this name stands with payload 01 and BS and RT alone
pub record FlagStands (s : State) (phase name : Bytes) : Type 0 where
  pub flag : Bytes
  pub stands : RecordOf s (flag_variable phase name) flag
  pub holds : payload_of flag ≡ 1 ∷ []
  pub attributes : attributes_of flag ≡ boot_and_runtime
