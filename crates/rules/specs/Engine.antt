-- The rules' engine (RULES.md, 9 and 10): one function from a state and a call to the answer and the state afterwards.
-- Assumes nothing: these are definitions.
use Rattle.std.specs.Prelude.{ℕ, suc, ◌+◌, List, [], ◌∷◌, ◌++◌, Bool, true, false, not, cond, length, replicate, eqb, leb}
use Rattle.std.proofs.Math.Option.{Option, none, some}
use Rattle.limits.specs.Limits.{max_entries, policy_bytes, max_links, max_store}
use Rattle.slices.specs.Test.{◌and◌}
use Rattle.slices.specs.Bytes.{Bytes, overwrite}
use Rattle.slices.specs.Chunks.{flat, contains}
use Rattle.names.specs.Name.{Variable, named}
use Rattle.entry.specs.Entry.{well_formed, same_target}
use Rattle.policy.specs.Policy.{entries_of, pack_policy, empty_policy, policy_valid}
use Rattle.policy.specs.Choice.{chosen}
use Rattle.stores.specs.Pair.{sound, sound_alone, lookup}
use Rattle.store.specs.Parts.{attributes_in, payload_in}
use Rattle.status.specs.declared.Status.{Status}
use Rattle.status.specs.declared.Status.TheVariants.{Success, InvalidParameter, BufferTooSmall, WriteProtected, OutOfResources, VolumeCorrupted, NotFound, AlreadyStarted}
use Rattle.status.specs.Status.{is_success, status_number}
use Rattle.switches.specs.declared.Switches.{Switches}
use Rattle.switches.specs.Switches.{fresh_switches, refused_switches, with_locked, with_disabled, with_exited, unless_exited, lock_status, disable_status, exit_status}
use Rattle.rules.specs.Decision.{Decision}
use Rattle.rules.specs.Decision.{Refuse}
use Rattle.rules.specs.declared.Report.{Report}
use Rattle.rules.specs.Set.{Request, exists, shown, decision, decision_status, decision_store}
use Rattle.rules.specs.Report.{decision_report}
use Rattle.rules.specs.Settled.{settled_in}

-- ---- what the engine is

-- a state (RULES.md, 1.2)
pub record State : Type 0 where
  pub nv : Bytes
  pub vol : Bytes
  pub policy : Bytes
  pub switches : Switches

abbrev pub state_of : Bytes → Bytes → Bytes → Switches → State
state_of nv vol policy switches = record { nv = nv; vol = vol; policy = policy; switches = switches }

-- the calls, with what each is given beside the state; a dump is given its buffer with its old bytes
pub data Call : Type 0 where
  -- whether disabling is allowed
  power_on : Bool → Call
  restart : Bool → Call
  register : Bytes → Call
  dump : Bytes → Call
  lock : Call
  disable : Call
  exit : Call
  query : Call
  read : Variable → Call
  set : Request → Call
  settled : Variable → Call

-- an answer: its status, and what stands beside it
pub record Answer : Type 0 where
  pub status : Status
  -- a dump's needed or written length, a read's attributes, a query's switch (1 or 0), whether a variable is settled (1 or 0)
  pub number : ℕ
  -- a read's payload, a dump's whole buffer
  pub bytes : Bytes
  -- the switches that a power-on or restart hands back
  pub switches : Option Switches
  -- of a set: what step 4 said
  pub report : Option Report

-- ---- what each call is lent and writes: one row to a call

-- the parts of a state
pub record Parts : Type 0 where
  pub nv : Bool
  pub vol : Bool
  pub policy : Bool
  pub switches : Bool

abbrev pub parts : Bool → Bool → Bool → Bool → Parts
parts nv vol policy switches = record { nv = nv; vol = vol; policy = policy; switches = switches }

-- the parts that a call is lent, on which its answer depends; those that it writes where it is done; and what stands beside its
-- refusal: the needed length at 5, a buffer as it was, switches handed back, the report on a request
pub record Uses : Type 0 where
  pub lent : Parts
  pub writes : Parts
  pub tells_needed : Bool
  pub refused_bytes : Bytes
  pub hands_back : Option Switches
  pub reports : Option Request

-- a call with nothing beside a refusal
abbrev pub plain : Parts → Parts → Uses
plain lent writes = record { lent = lent; writes = writes; tells_needed = false; refused_bytes = []; hands_back = none; reports = none }

-- a power-on or restart, which hands back refused switches
abbrev pub start : Parts → Parts → Uses
start lent writes =
    record { lent = lent; writes = writes; tells_needed = false; refused_bytes = []; hands_back = some refused_switches; reports = none }

abbrev pub uses : Call → Uses
uses (power_on allowed) = start (parts true true true false) (parts false true true true)
uses (restart allowed) = start (parts true true true false) (parts false false true true)
uses (register e) = plain (parts false false true true) (parts false false true false)
uses (dump buffer) =
    record {
      lent = parts false false true true;
      writes = parts false false false false;
      tells_needed = true;
      refused_bytes = buffer;
      hands_back = none;
      reports = none;
    }
uses lock = plain (parts false false false true) (parts false false false true)
uses disable = plain (parts false false false true) (parts false false false true)
uses exit = plain (parts false false false true) (parts false false false true)
uses query = plain (parts false false false true) (parts false false false false)
uses (read v) = plain (parts true true false true) (parts false false false false)
uses (set r) =
    record {
      lent = parts true true true true;
      writes = parts true true false false;
      tells_needed = false;
      refused_bytes = [];
      hands_back = none;
      reports = some r;
    }
uses (settled v) = plain (parts true true true false) (parts false false false false)

-- ---- the status: the first ground in its order (RULES.md, 9.2)

-- power-on (RULES.md, 10.1)
unfoldable pub power_on_status : Bytes → Bytes → Bytes → Status
power_on_status nv vol policy =
    cond (sound_alone nv and leb (length vol) max_store and eqb (length policy) policy_bytes) Success VolumeCorrupted

-- restart (RULES.md, 10.2)
unfoldable pub restart_status : Bytes → Bytes → Bytes → Status
restart_status nv vol policy = cond (sound nv vol and eqb (length policy) policy_bytes) Success VolumeCorrupted

-- register (RULES.md, 10.3), before exit
unfoldable pub register_status : Bool → List Bytes → Bytes → Status
register_status locked es e =
    cond locked WriteProtected
    (cond (not (well_formed e)) InvalidParameter
    (cond (contains (same_target e) es) AlreadyStarted
    (cond (leb (suc (length es)) max_entries and leb (length (flat es) + length e) policy_bytes) Success OutOfResources)))

-- dump (RULES.md, 10.4), before exit
unfoldable pub dump_status : List Bytes → Bytes → Status
dump_status es buffer = cond (leb (length (flat es)) (length buffer)) Success BufferTooSmall

-- read (RULES.md, 10.8)
unfoldable pub read_status : Bool → Bytes → Bytes → Variable → Status
read_status exited nv vol v = cond (named v) (cond (exists (shown exited (lookup nv vol v))) Success NotFound) InvalidParameter

-- settled (RULES.md, 10.14)
unfoldable pub settled_status : Variable → Status
settled_status v = cond (named v) Success InvalidParameter

-- the entry that speaks: none where the engine is disabled
abbrev pub speaking : Bool → Option Bytes → Option Bytes
speaking true e = e
speaking false e = none

-- what a set decides, by the choice of every variable alone, and not by the list of entries
unfoldable pub decision_by : (Variable → Option Bytes) → Switches → Bytes → Bytes → Request → Decision
decision_by choice w nv vol r = decision w.exited (speaking w.enabled (choice r.variable)) nv vol r

-- what a set decides in a state, over sound stores and by a valid policy record
abbrev pub decision_in : State → Request → Decision
decision_in s r = decision_by (chosen (entries_of s.policy)) s.switches s.nv s.vol r

-- and in any state
abbrev pub set_decision : State → Request → Decision
set_decision s r = cond (sound s.nv s.vol and policy_valid s.policy) (decision_in s r) (Refuse VolumeCorrupted)

abbrev pub status : State → Call → Status
status s (power_on allowed) = power_on_status s.nv s.vol s.policy
status s (restart allowed) = restart_status s.nv s.vol s.policy
status s (register e) =
    cond (policy_valid s.policy) (unless_exited s.switches (register_status s.switches.locked (entries_of s.policy) e)) VolumeCorrupted
status s (dump buffer) = cond (policy_valid s.policy) (unless_exited s.switches (dump_status (entries_of s.policy) buffer)) VolumeCorrupted
status s lock = lock_status s.switches
status s disable = disable_status s.switches
status s exit = exit_status s.switches
status s query = Success
status s (read v) = cond (sound s.nv s.vol) (read_status s.switches.exited s.nv s.vol v) VolumeCorrupted
status s (set r) = decision_status (set_decision s r)
status s (settled v) = cond (sound s.nv s.vol and policy_valid s.policy) (settled_status v) VolumeCorrupted

-- ---- what stands beside a status (RULES.md, 9.3 and 10)

-- a status, a number, bytes, and switches handed back; no report
abbrev pub answer_of : Status → ℕ → Bytes → Option Switches → Answer
answer_of status number bytes switches = record { status = status; number = number; bytes = bytes; switches = switches; report = none }

abbrev pub only_status : Status → Answer
only_status n = answer_of n 0 [] none

abbrev pub hand_back : Status → Switches → Answer
hand_back n w = answer_of n 0 [] (some w)

-- a status and a report
abbrev pub with_report : Status → Report → Answer
with_report n p = record { status = n; number = 0; bytes = []; switches = none; report = some p }

-- the report of a set (RULES.md, 10.10), of the decision that its status is of
abbrev pub set_report : State → Request → Report
set_report s r =
    decision_report (set_decision s r) (entries_of s.policy) (chosen (entries_of s.policy) r.variable) r.attributes

-- of the request that a call's row names, if it names one
abbrev pub report_on : State → Option Request → Option Report
report_on s none = none
report_on s (some r) = some (set_report s r)

-- whether a variable is settled, over at most 16 links; the switches are not asked
abbrev pub is_settled : State → Variable → Bool
is_settled s v = settled_in max_links (chosen (entries_of s.policy)) (lookup s.nv s.vol) v

-- the sum of Sizes of the entries that stand
abbrev pub entries_length : State → ℕ
entries_length s = length (flat (entries_of s.policy))

-- beside 0
abbrev pub given : State → Call → Answer
given s (power_on allowed) = hand_back Success (fresh_switches allowed)
given s (restart allowed) = hand_back Success (fresh_switches allowed)
given s (register e) = only_status Success
-- the written length, and the entries from the buffer's start, later bytes as they were
given s (dump buffer) = answer_of Success (entries_length s) (overwrite buffer 0 (flat (entries_of s.policy))) none
given s lock = only_status Success
given s disable = only_status Success
given s exit = only_status Success
-- the enabled switch
given s query = answer_of Success (cond s.switches.enabled 1 0) [] none
-- the attributes, and the payload
given s (read v) = answer_of Success (attributes_in (lookup s.nv s.vol v)) (payload_in (lookup s.nv s.vol v)) none
given s (set r) = with_report Success (set_report s r)
-- yes or no
given s (settled v) = answer_of Success (cond (is_settled s v) 1 0) [] none

-- beside a refusal: what the call's row says
abbrev pub refusal : State → Call → Status → Answer
refusal s c n =
    record {
      status = n;
      number = cond (uses c).tells_needed (cond (eqb (status_number n) 5) (entries_length s) 0) 0;
      bytes = (uses c).refused_bytes;
      switches = (uses c).hands_back;
      report = report_on s (uses c).reports;
    }

abbrev pub answer : State → Call → Status → Answer
answer s c n = cond (is_success n) (given s c) (refusal s c n)

-- ---- what a call that answers 0 leaves

abbrev pub erased : Bytes → Bytes
erased s = replicate (length s) 255

abbrev pub effect : State → Call → State
effect s (power_on allowed) = record { nv = s.nv; vol = erased s.vol; policy = empty_policy; switches = fresh_switches allowed }
effect s (restart allowed) = record { nv = s.nv; vol = s.vol; policy = empty_policy; switches = fresh_switches allowed }
effect s (register e) = record { nv = s.nv; vol = s.vol; policy = pack_policy (entries_of s.policy ++ (e ∷ [])); switches = s.switches }
effect s (dump buffer) = s
effect s lock = record { nv = s.nv; vol = s.vol; policy = s.policy; switches = with_locked s.switches }
effect s disable = record { nv = s.nv; vol = s.vol; policy = s.policy; switches = with_disabled s.switches }
effect s exit = record { nv = s.nv; vol = s.vol; policy = s.policy; switches = with_exited s.switches }
effect s query = s
effect s (read v) = s
effect s (set r) =
    record {
      nv = decision_store (decision_in s r) true s.nv (lookup s.nv s.vol r.variable) r;
      vol = decision_store (decision_in s r) false s.vol (lookup s.nv s.vol r.variable) r;
      policy = s.policy;
      switches = s.switches;
    }
effect s (settled v) = s

-- a refused call leaves the state as it was
abbrev pub after : State → Call → Status → State
after s c n = cond (is_success n) (effect s c) s

-- THE ENGINE
unfoldable pub step : State → Call → Answer × State
step s c = (answer s c (status s c), after s c (status s c))
