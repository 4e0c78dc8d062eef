-- The definitions that E10 changed, as they stood in the edition before, for the claim that before exit nothing has changed (`before_exit` in ExitLaws.antt).
-- What is not said again here E10 left to the letter: it is shared, so that the claim is about E10, and what a later edition changes there it changes in both.
-- No contract rests on this file. Assumes nothing: these are definitions.
use Rattle.std.specs.Prelude.{true, false, cond, eqb}
use Rattle.std.proofs.Math.Option.{Option, none, some}
use Rattle.slices.specs.Test.{◌and◌}
use Rattle.slices.specs.Bytes.{Bytes}
use Rattle.names.specs.Name.{named}
use Rattle.policy.specs.Policy.{entries_of, policy_valid}
use Rattle.policy.specs.Choice.{chosen}
use Rattle.stores.specs.Pair.{sound, lookup}
use Rattle.status.specs.declared.Status.{Status}
use Rattle.status.specs.declared.Status.TheVariants.{Success, InvalidParameter, Unsupported, WriteProtected, VolumeCorrupted, NotFound, AlreadyStarted}
use Rattle.status.specs.Status.{is_success, status_number}
use Rattle.rules.specs.Decision.{Decision}
use Rattle.rules.specs.Decision.{Refuse, Delete, Keep}
use Rattle.rules.specs.declared.Report.{Report}
use Rattle.rules.specs.Set.{Request, exists, bad_request, unsupported_bit, needs_bs, ground_by, is_deletion, other_attributes, is_empty_append, store_decision, refuse_or, block_or, decision_status, decision_store}
use Rattle.rules.specs.Report.{decision_report}
use Rattle.rules.specs.Engine.{State, Call, Answer, uses, power_on_status, restart_status, register_status, dump_status, speaking, with_report, entries_length, status, given, effect}
use Rattle.rules.specs.Engine.Call.{power_on, restart, register, dump, lock, disable, exit, query, read, set, settled}

-- ---- set

abbrev earlier_request_status : Request → Status
earlier_request_status r =
    cond (bad_request r.variable r.payload) InvalidParameter
    (cond (unsupported_bit r.attributes) Unsupported
    (cond (needs_bs r.attributes) InvalidParameter Success))

abbrev earlier_write_decision : Bytes → Bytes → Option Bytes → Request → Decision
earlier_write_decision nv vol found r =
    -- 5
    cond (is_deletion r.attributes r.payload) (cond (exists found) Delete (Refuse NotFound))
    -- 6
    (cond (other_attributes found r.attributes) (Refuse InvalidParameter)
    -- 7
    (cond (is_empty_append r.attributes r.payload) Keep (store_decision nv vol found r)))

unfoldable pub earlier_decision : Option Bytes → Bytes → Bytes → Request → Decision
earlier_decision speaking nv vol r =
    refuse_or (earlier_request_status r)
    (block_or (ground_by speaking (lookup nv vol) r) (earlier_write_decision nv vol (lookup nv vol r.variable) r))

abbrev pub earlier_decision_in : State → Request → Decision
earlier_decision_in s r = earlier_decision (speaking s.switches.enabled (chosen (entries_of s.policy) r.variable)) s.nv s.vol r

abbrev pub earlier_set_decision : State → Request → Decision
earlier_set_decision s r = cond (sound s.nv s.vol and policy_valid s.policy) (earlier_decision_in s r) (Refuse VolumeCorrupted)

abbrev pub earlier_report : State → Request → Report
earlier_report s r =
    decision_report (earlier_set_decision s r) (entries_of s.policy) (chosen (entries_of s.policy) r.variable) r.attributes

-- ---- the status of each call. Exit was no call then: its rows stand for nothing, and the claim leaves it out. Settled is younger still, and is as it is

abbrev pub earlier_status : State → Call → Status
earlier_status s (power_on allowed) = power_on_status s.nv s.vol s.policy
earlier_status s (restart allowed) = restart_status s.nv s.vol s.policy
earlier_status s (register e) = cond (policy_valid s.policy) (register_status s.switches.locked (entries_of s.policy) e) VolumeCorrupted
earlier_status s (dump buffer) = cond (policy_valid s.policy) (dump_status (entries_of s.policy) buffer) VolumeCorrupted
earlier_status s lock = cond s.switches.locked WriteProtected Success
earlier_status s disable =
    cond s.switches.enabled (cond s.switches.locked WriteProtected (cond s.switches.disabling_allowed Success WriteProtected)) AlreadyStarted
earlier_status s exit = Unsupported
earlier_status s query = Success
earlier_status s (read v) =
    cond (sound s.nv s.vol) (cond (named v) (cond (exists (lookup s.nv s.vol v)) Success NotFound) InvalidParameter) VolumeCorrupted
earlier_status s (set r) = decision_status (earlier_set_decision s r)
earlier_status s (settled v) = status s (settled v)

-- ---- what stands beside it, and what is left: of a set by the decision of then, of any other call as it is

abbrev pub earlier_given : State → Call → Answer
earlier_given s (power_on allowed) = given s (power_on allowed)
earlier_given s (restart allowed) = given s (restart allowed)
earlier_given s (register e) = given s (register e)
earlier_given s (dump buffer) = given s (dump buffer)
earlier_given s lock = given s lock
earlier_given s disable = given s disable
earlier_given s exit = given s exit
earlier_given s query = given s query
earlier_given s (read v) = given s (read v)
earlier_given s (set r) = with_report Success (earlier_report s r)
earlier_given s (settled v) = given s (settled v)

abbrev pub earlier_report_on : State → Option Request → Option Report
earlier_report_on s none = none
earlier_report_on s (some r) = some (earlier_report s r)

abbrev pub earlier_refusal : State → Call → Status → Answer
earlier_refusal s c n =
    record {
      status = n;
      number = cond (uses c).tells_needed (cond (eqb (status_number n) 5) (entries_length s) 0) 0;
      bytes = (uses c).refused_bytes;
      switches = (uses c).hands_back;
      report = earlier_report_on s (uses c).reports;
    }

abbrev pub earlier_effect : State → Call → State
earlier_effect s (power_on allowed) = effect s (power_on allowed)
earlier_effect s (restart allowed) = effect s (restart allowed)
earlier_effect s (register e) = effect s (register e)
earlier_effect s (dump buffer) = effect s (dump buffer)
earlier_effect s lock = effect s lock
earlier_effect s disable = effect s disable
earlier_effect s exit = s
earlier_effect s query = effect s query
earlier_effect s (read v) = effect s (read v)
earlier_effect s (set r) =
    record {
      nv = decision_store (earlier_decision_in s r) true s.nv (lookup s.nv s.vol r.variable) r;
      vol = decision_store (earlier_decision_in s r) false s.vol (lookup s.nv s.vol r.variable) r;
      policy = s.policy;
      switches = s.switches;
    }
earlier_effect s (settled v) = effect s (settled v)

abbrev earlier_beside : State → Call → Status → Answer × State
earlier_beside s c n = (cond (is_success n) (earlier_given s c) (earlier_refusal s c n), cond (is_success n) (earlier_effect s c) s)

-- THE ENGINE OF THEN
abbrev pub earlier_step : State → Call → Answer × State
earlier_step s c = earlier_beside s c (earlier_status s c)
