-- What the exported functions answer, beside the rules' answers: the status as its number, the switches in bytes, and every other value beside it.
-- Assumes nothing: these are definitions.
use Rattle.std.specs.Prelude.{ℕ, ◌+◌, ◌-◌, ◌≤◌, ◌≡◌, [], true, false, cond, eqb, length, Some, None, Ok, Err}
use Rattle.std.specs.Prelude as std
use Rattle.std.proofs.Math.Option.{Option, none, some}
use Rattle.slices.specs.Bytes.{Bytes, part}
use Rattle.names.specs.Name.{Variable}
use Rattle.quarrels.specs.Quarrel.{Verdict, quarrels_of, buffer_after}
use Rattle.store.specs.Record.{has_nv}
use Rattle.status.specs.declared.Status.{Status}
use Rattle.status.specs.declared.Status.TheVariants.{Success, InvalidParameter, NotFound}
use Rattle.status.specs.Status.{status_number}
use Rattle.switches.specs.declared.Switches.{Switches}
use Rattle.switches.specs.declared.SwitchBytes.{SwitchBytes}
use Rattle.switches.specs.SwitchBytes.{switches_of, bytes_of}
use Rattle.rules.specs.declared.Report.{Report}
use Rattle.rules.specs.Report.{ground_number}
use Rattle.rules.specs.Engine.{State, Answer, step}
use Rattle.rules.specs.Engine.Call.{read}
use Rattle.engine.specs.declared.Reading.{Reading}
use Rattle.reader.specs.declared.Verdict as reader
use Rattle.reader.specs.declared.Listing.{Listing}
use Rattle.varpolicy.specs.declared.Started.{Started}
use Rattle.varpolicy.specs.declared.Dumped.{Dumped}
use Rattle.varpolicy.specs.declared.Queried.{Queried}
use Rattle.varpolicy.specs.declared.Read.{Read}
use Rattle.varpolicy.specs.declared.Reported.{Reported}
use Rattle.varpolicy.specs.declared.Written.{Written}
use Rattle.varpolicy.specs.declared.Settled.{Settled}
use Rattle.varpolicy.specs.declared.Quarrelled.{Quarrelled}
use Rattle.varpolicy.specs.declared.ReaderVerdict.{ReaderVerdict}
use Rattle.varpolicy.specs.declared.ReaderEntry.{ReaderEntry}

-- an answer with the number of its status, the switches in bytes, and the report in numbers
pub record Numbered : Type 0 where
  pub status : ℕ
  pub number : ℕ
  pub bytes : Bytes
  pub switches : Option SwitchBytes
  pub report : Option Reported

-- switches that are handed back, each byte 0 or 1
abbrev pub handed_back : Option Switches → Option SwitchBytes
handed_back none = none
handed_back (some s) = some (bytes_of s)

-- a report in numbers
abbrev pub reported_of : Report → Reported
reported_of p =
    let ground : ℕ = ground_number p.ground in
    record {
      ground = ground;
      place = p.place;
      rank = p.rank;
      missing = p.missing;
      prohibited = p.prohibited;
      lowest_bit = p.lowest;
    }

abbrev pub reported_beside : Option Report → Option Reported
reported_beside none = none
reported_beside (some p) = some (reported_of p)

-- a step's answer in numbers, and the state afterwards
abbrev pub numbered : Answer × State → Numbered × State
numbered x = (
  record {
    status = status_number x.0.status;
    number = x.0.number;
    bytes = x.0.bytes;
    switches = handed_back x.0.switches;
    report = reported_beside x.0.report;
  },
  x.1,
)

-- a status, a number, bytes, and switches handed back; no report
abbrev pub numbered_of : ℕ → ℕ → Bytes → Option SwitchBytes → Numbered
numbered_of status number bytes switches = record { status = status; number = number; bytes = bytes; switches = switches; report = none }

-- a status and nothing beside it
abbrev pub status_alone : ℕ → Numbered
status_alone n = numbered_of n 0 [] none

-- a power-on or restart: the switches handed back
abbrev pub started_answer : Started → Numbered
started_answer r = numbered_of r.status 0 [] (some r.switches)

-- the switches that stand after a start: those handed back beside 0, those before it beside a refusal
abbrev pub standing : Started → Switches → Switches
standing r w = cond (eqb r.status 0) (switches_of r.switches) w

-- a dump: the length, and the whole buffer
abbrev pub dumped_answer : Dumped → Bytes → Numbered
dumped_answer r buffer = numbered_of r.status r.length buffer none

-- a query: the enabled switch
abbrev pub queried_answer : Queried → Numbered
queried_answer r = numbered_of r.status (cond r.enabled 1 0) [] none

-- a set: the report
abbrev pub written_answer : Written → Numbered
written_answer r = record { status = r.status; number = 0; bytes = []; switches = none; report = some r.report }

-- settled: yes or no
abbrev pub is_settled_answer : Settled → Numbered
is_settled_answer r = numbered_of r.status (cond r.settled 1 0) [] none

-- a read: what it tells, with the number of the status
abbrev pub read_of : Reading → Read
read_of r =
    record { status = status_number r.status; attributes = r.attributes; non_volatile = r.nonvolatile; offset = r.from; length = r.to - r.from }

-- the store that is named, and the bytes of it that are named
abbrev pub store_named : Read → State → Bytes
store_named r s = cond r.non_volatile s.nv s.vol

abbrev pub bytes_named : Read → State → Bytes
bytes_named r s = part r.offset (r.offset + r.length) (store_named r s)

abbrev pub read_answer : Read → State → Numbered
read_answer r s = numbered_of r.status r.attributes (bytes_named r s) none

-- what holds of a read's answer
pub record NumberedRead (s : State) (v : Variable) (r : Read) : Type 0 where
  -- it is that of the rules, with the payload as the bytes named, and nothing is changed
  pub answers : numbered (step s (read v)) ≡ (read_answer r s, s)
  -- the non-volatile store is named for a variable that has NV, and all of the payload lies within the store named
  pub store : r.non_volatile ≡ has_nv r.attributes
  pub within : r.offset + r.length ≤ length (store_named r s)

-- the check of a dump: 2 for what is none, and else 0; without a pair every number is 0
abbrev pub no_pair : Status → Quarrelled
no_pair s = record { status = status_number s; found = false; earlier = 0; later = 0; name_length = 0 }

abbrev pub quarrelled_of : Verdict → Quarrelled
quarrelled_of (Err _) = no_pair InvalidParameter
quarrelled_of (Ok None) = no_pair Success
quarrelled_of (Ok (Some q)) = record { status = status_number Success; found = true; earlier = q.pair.earlier; later = q.pair.later; name_length = q.length }

-- and the buffer afterwards
abbrev pub quarrelled : Bytes → Bytes → Quarrelled × Bytes
quarrelled dump buffer = (quarrelled_of (quarrels_of dump), buffer_after dump buffer)

-- what a reader says of the bytes that arrived
abbrev pub reader_verdict_of : reader.Verdict → ReaderVerdict
reader_verdict_of v = record { status = status_number Success; whole = v.whole; ended = v.ended; entries = v.entries; bytes = v.bytes }

-- and of a good entry; 14 and zeros where none begins
abbrev pub reader_entry_of : std.Option Listing → ReaderEntry
reader_entry_of None = record { status = status_number NotFound; size = 0; lock = 0; rank = 0 }
reader_entry_of (Some l) = record { status = status_number Success; size = l.size; lock = l.lock; rank = l.rank }
