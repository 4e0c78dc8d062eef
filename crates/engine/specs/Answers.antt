-- What the code's answers are to the rules' answers: every value beside the status.
-- Assumes nothing: these are definitions.
use Rattle.std.specs.Prelude.{ℕ, ◌+◌, ◌≤◌, ◌≡◌, [], Bool, false, cond, length}
use Rattle.std.proofs.Math.Option.{none}
use Rattle.slices.specs.Bytes.{Bytes, part}
use Rattle.names.specs.Name.{Variable, named}
use Rattle.store.specs.Record.{has_nv}
use Rattle.stores.specs.Pair.{sound, lookup}
use Rattle.stores.specs.declared.Place.{Place}
use Rattle.stores.specs.Place.{place_in, attributes_at, bounds_at}
use Rattle.status.specs.declared.Status.{Status}
use Rattle.status.specs.declared.Status.TheVariants.{Success, InvalidParameter, VolumeCorrupted, NotFound}
use Rattle.rules.specs.Set.{exists, shown}
use Rattle.rules.specs.Engine.{State, Answer, answer_of, step}
use Rattle.rules.specs.Engine.Call.{read}
use Rattle.engine.specs.declared.DumpAnswer.{DumpAnswer}
use Rattle.engine.specs.declared.QueryAnswer.{QueryAnswer}
use Rattle.engine.specs.declared.Reading.{Reading}
use Rattle.engine.specs.declared.SettledAnswer.{SettledAnswer}

-- a dump: the length, and the whole buffer
abbrev pub dump_answer : DumpAnswer → Bytes → Answer
dump_answer r buffer = answer_of r.status r.length buffer none

-- a query: the enabled switch
abbrev pub query_answer : QueryAnswer → Answer
query_answer r = answer_of r.status (cond r.enabled 1 0) [] none

-- settled: yes or no; refused, no
abbrev pub settled_answer : SettledAnswer → Answer
settled_answer r = answer_of r.status (cond r.settled 1 0) [] none

abbrev pub not_settled : Status → SettledAnswer
not_settled n = record { status = n; settled = false }

-- ---- a read

-- refused: zeros beside the status
abbrev pub refused_reading : Status → Reading
refused_reading n = record { status = n; attributes = 0; nonvolatile = false; from = 0; to = 0 }

-- of the record at a place
abbrev pub reading_at : Bytes → Bytes → Place → Reading
reading_at nv vol p =
    record {
      status = Success;
      attributes = attributes_at nv vol p;
      nonvolatile = p.nonvolatile;
      from = (bounds_at nv vol p).from;
      to = (bounds_at nv vol p).to;
    }

-- what a read tells, before exit or after it: 10, 2, 14, or the record where the variable stands
unfoldable pub reading_of : Bool → Bytes → Bytes → Variable → Reading
reading_of exited nv vol v =
    cond (sound nv vol)
    (cond (named v) (cond (exists (shown exited (lookup nv vol v))) (reading_at nv vol (place_in nv vol v)) (refused_reading NotFound)) (refused_reading InvalidParameter))
    (refused_reading VolumeCorrupted)

-- the store that a reading names, and the bytes of it that it names
abbrev pub store_read : Reading → State → Bytes
store_read r s = cond r.nonvolatile s.nv s.vol

abbrev pub read_answer : Reading → State → Answer
read_answer r s = answer_of r.status r.attributes (part r.from r.to (store_read r s)) none

-- what holds of a reading
pub record ReadStep (s : State) (v : Variable) (r : Reading) : Type 0 where
  -- it is the answer of the rules, with the payload as the bytes named, and nothing is changed
  pub answers : step s (read v) ≡ (read_answer r s, s)
  -- the non-volatile store is named for a variable that has NV, and the payload lies within the store named
  pub store : r.nonvolatile ≡ has_nv r.attributes
  pub ordered : r.from ≤ r.to
  pub within : r.to ≤ length (store_read r s)

-- where the bytes that a reading names lie: the block and the offset of the store's first byte, and how far behind it they begin
abbrev pub payload_place : ℕ × ℕ → ℕ × ℕ → Reading → ℕ × ℕ
payload_place nv vol r = cond r.nonvolatile (nv.0, nv.1 + r.from) (vol.0, vol.1 + r.from)
