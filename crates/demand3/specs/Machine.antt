-- The rules' engine as the machine that demand 3 is about: its states, calls, answers and `step` are the rules' own. Here is
-- what the words "granted", "registration", "dump", "entry", "targets", "rank" and "rebuild" are of it, and what another order
-- of the entries changes. Assumes nothing: these are definitions.
use Rattle.std.specs.Prelude.{ℕ, ◌≤◌, ◌≡◌, Some, None, List, [], ◌∷◌, ◌++◌, Bool, true, false, cond, length, get_or, take}
use Rattle.std.specs.Prelude as std
use Rattle.std.proofs.Math.Option.{Option, none, some}
use Rattle.lists.specs.Lists.{over}
use Rattle.slices.specs.Bytes.{Bytes}
use Rattle.names.specs.Name.{Variable, named}
use Rattle.entry.specs.Entry.{well_formed, targets, rank}
use Rattle.policy.specs.Policy.{entries_of, sizes_sum}
use Rattle.policy.specs.Choice.{place_of}
use Rattle.status.specs.Status.{is_success}
use Rattle.rules.specs.declared.Ground.{Ground}
use Rattle.rules.specs.declared.Ground.TheVariants.{SizeGround, AttributeGround, LockGround}
use Rattle.rules.specs.declared.Report.{Report}
use Rattle.rules.specs.Report.{report_of}
use Rattle.rules.specs.Engine.{State, Answer, Call, state_of, step}
use Rattle.rules.specs.Engine.Call.{power_on, restart, register, dump, lock, disable, exit, query, read, set, settled}
use Rattle.history.specs.History.{Outcome, Kind, Machine}
use Rattle.history.specs.History.Outcome.{granted, refused}
use Rattle.history.specs.History.Kind.{starts, registers, dumps, keeps}

-- granted is status 0, refused any other; no call of this engine is cut
abbrev pub outcome_by : Bool → Outcome
outcome_by b = cond b granted refused

abbrev pub kind_of : Call → Kind Bytes
kind_of (power_on allowed) = starts
kind_of (restart allowed) = starts
kind_of (register e) = registers e
kind_of (dump buffer) = dumps
kind_of lock = keeps
kind_of disable = keeps
kind_of exit = keeps
kind_of query = keeps
kind_of (read v) = keeps
kind_of (set r) = keeps
kind_of (settled v) = keeps

-- WHAT ANOTHER ORDER CHANGES (RULES.md, 12.5), and nothing else: the entries in the policy record
abbrev pub state_in : List Bytes → State → State
state_in o s = state_of s.nv s.vol (over o s.policy) s.switches

-- and those in the buffer of a dump that answered 0
abbrev pub in_buffer : Kind Bytes → List Bytes → Bytes → Bytes
in_buffer starts o b = b
in_buffer (registers e) o b = b
in_buffer dumps o b = over o b
in_buffer keeps o b = b

-- and, in the report of a set that has a ground, the place: of the entry that has it among the entries es, its place in the order o
abbrev pub place_in : std.Option Ground → List Bytes → List Bytes → ℕ → ℕ
place_in None es o k = k
place_in (Some SizeGround) es o k = place_of o (get_or es k [])
place_in (Some AttributeGround) es o k = place_of o (get_or es k [])
place_in (Some LockGround) es o k = place_of o (get_or es k [])

abbrev pub report_in : List Bytes → List Bytes → Option Report → Option Report
report_in es o none = none
report_in es o (some p) =
    some (report_of p.ground (place_in p.ground es o p.place) p.rank p.missing p.prohibited p.lowest)

abbrev pub answer_in : Call → List Bytes → List Bytes → Answer → Answer
answer_in c es o a =
    record {
      status = a.status;
      number = a.number;
      bytes = cond (is_success a.status) (in_buffer (kind_of c) o a.bytes) a.bytes;
      switches = a.switches;
      report = report_in es o a.report;
    }

-- A REBUILD'S CALLS (RULES.md, 12.3): restart with disabling allowed as it was
abbrev pub restart_of : State → Call
restart_of k = restart k.switches.disabling_allowed

-- disable if the engine was disabled, then lock if it was locked, and exit last if it had exited
abbrev pub closing_of : State → List Call
closing_of k =
    cond k.switches.enabled [] (disable ∷ []) ++ (cond k.switches.locked (lock ∷ []) [] ++ cond k.switches.exited (exit ∷ []) [])

-- where a dump is granted, and nowhere else (`dump_exactly` in AfterExit.antt): before exit, into a buffer with room for the sum of Sizes
pub record CanDumpInto (s : State) (buffer : Bytes) : Type 0 where
  pub before : s.switches.exited ≡ false
  pub room : sizes_sum s.policy ≤ length buffer

-- THE MACHINE
abbrev pub machine : Machine
machine =
    record {
      Symbol = ℕ;
      State = State;
      Answer = Answer;
      Call = Call;
      Variable = Variable;
      step = step;
      outcome = λ a. outcome_by (is_success a.status);
      kind = kind_of;
      dumped = λ a. take a.number a.bytes;
      formed = well_formed;
      entries = λ s. entries_of s.policy;
      state_in = state_in;
      answer_in = answer_in;
      named = named;
      targets = targets;
      rank = rank;
      dump = dump;
      restart = restart_of;
      register = register;
      closing = closing_of;
      CanDump = CanDumpInto;
      -- no call of this engine is cut
      starts_after_cut = λ c. true;
    }
