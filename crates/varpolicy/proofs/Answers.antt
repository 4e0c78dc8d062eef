-- The exported answers, by those of the engine's calls. Assumes nothing.
use Rattle.std.specs.Prelude.{Option}
use Prim.Native.Nat.{ℕ}
use mathlib.Core.Path.{◌≡◌, sym, ap, ap₂, subst, ◌∙◌}
use mathlib.Core.Bool.{Bool, cond}
use Rattle.slices.specs.Bytes.{Bytes}
use Rattle.status.specs.declared.Status.{Status}
use Rattle.status.specs.declared.Status.TheVariants.{Success}
use Rattle.status.specs.Status.{status_number, is_success}
use Rattle.status.proofs.StatusLaws.{zero_success}
use Rattle.switches.specs.declared.Switches.{Switches}
use Rattle.switches.specs.declared.SwitchAnswer.{SwitchAnswer}
use Rattle.switches.specs.SwitchBytes.{bytes_of}
use Rattle.switches.proofs.SwitchBytesLaws.{bytes_read_back}
use Rattle.quarrels.specs.Quarrel.{Verdict, quarrels_of, buffer_after}
use Rattle.rules.specs.Engine.{State, Answer, Call, state_of, only_status, hand_back, with_report, step}
use Rattle.engine.specs.declared.DumpAnswer.{DumpAnswer}
use Rattle.engine.specs.declared.QueryAnswer.{QueryAnswer}
use Rattle.engine.specs.declared.SetAnswer.{SetAnswer}
use Rattle.engine.specs.declared.SettledAnswer.{SettledAnswer}
use Rattle.engine.specs.Answers.{dump_answer, query_answer, settled_answer}
use Rattle.varpolicy.specs.declared.Started.{Started}
use Rattle.varpolicy.specs.declared.Reported.{Reported}
use Rattle.reader.specs.declared.Verdict as reader
use Rattle.reader.specs.declared.Listing.{Listing}
use Rattle.varpolicy.specs.declared.Quarrelled.{Quarrelled}
use Rattle.varpolicy.specs.declared.ReaderVerdict.{ReaderVerdict}
use Rattle.varpolicy.specs.declared.ReaderEntry.{ReaderEntry}
use Rattle.varpolicy.specs.Exports.{Numbered, numbered, status_alone, started_answer, standing, dumped_answer, queried_answer, reported_of, written_answer, is_settled_answer, quarrelled_of, quarrelled, reader_verdict_of, reader_entry_of}

module _ {x : Answer × State} {s : State} where
  pub status_numbered : {n : ℕ} (a : Status) → x ≡ (only_status a, s) → n ≡ status_number a → numbered x ≡ (status_alone n, s)
  status_numbered a e k = ap numbered e ∙ ap (λ m. (status_alone m, s)) (sym k)

  dump_numbered : {n : ℕ} (a : DumpAnswer) (b : Bytes) → x ≡ (dump_answer a b, s) → n ≡ status_number a.status
      → numbered x ≡ (dumped_answer (record { status = n; length = a.length }) b, s)
  dump_numbered a b e k = ap numbered e ∙ ap (λ m. (dumped_answer (record { status = m; length = a.length }) b, s)) (sym k)

  pub query_numbered : {n : ℕ} (a : QueryAnswer) → x ≡ (query_answer a, s) → n ≡ status_number a.status
      → numbered x ≡ (queried_answer (record { status = n; enabled = a.enabled }), s)
  query_numbered a e k = ap numbered e ∙ ap (λ m. (queried_answer (record { status = m; enabled = a.enabled }), s)) (sym k)

  pub settled_numbered : {n : ℕ} (a : SettledAnswer) → x ≡ (settled_answer a, s) → n ≡ status_number a.status
      → numbered x ≡ (is_settled_answer (record { status = n; settled = a.settled }), s)
  settled_numbered a e k = ap numbered e ∙ ap (λ m. (is_settled_answer (record { status = m; settled = a.settled }), s)) (sym k)

-- a call at switches u, which are those that the bytes say
module _ {u w : Switches} (same : u ≡ w) where
  -- of any step that a state makes
  pub status_by : {n : ℕ} (f : State → Answer × State) (nv vol policy nv' vol' policy' : Bytes) (a : Status)
      → f (state_of nv vol policy u) ≡ (only_status a, state_of nv' vol' policy' u) → n ≡ status_number a
      → numbered (f (state_of nv vol policy w)) ≡ (status_alone n, state_of nv' vol' policy' w)
  status_by {n = n} f nv vol policy nv' vol' policy' a e k =
      subst (λ t. numbered (f (state_of nv vol policy t)) ≡ (status_alone n, state_of nv' vol' policy' t)) same (status_numbered a e k)

  pub status_at : {n : ℕ} (call : Call) (nv vol policy nv' vol' policy' : Bytes) (a : Status)
      → step (state_of nv vol policy u) call ≡ (only_status a, state_of nv' vol' policy' u) → n ≡ status_number a
      → numbered (step (state_of nv vol policy w) call) ≡ (status_alone n, state_of nv' vol' policy' w)
  status_at call = status_by (λ s. step s call)

  pub set_at : {n : ℕ} {p : Reported} (call : Call) (nv vol policy nv' vol' : Bytes) (a : SetAnswer)
      → step (state_of nv vol policy u) call ≡ (with_report a.status a.report, state_of nv' vol' policy u) → n ≡ status_number a.status → p ≡ reported_of a.report
      → numbered (step (state_of nv vol policy w) call) ≡ (written_answer (record { status = n; report = p }), state_of nv' vol' policy w)
  set_at {n = n} {p = p} call nv vol policy nv' vol' a e k l =
      subst (λ t. numbered (step (state_of nv vol policy t) call) ≡ (written_answer (record { status = n; report = p }), state_of nv' vol' policy t)) same
      (ap numbered e ∙ ap₂ (λ m q. (written_answer (record { status = m; report = q }), state_of nv' vol' policy u)) (sym k) (sym l))

  pub dump_at : {n : ℕ} (call : Call) (nv vol policy : Bytes) (a : DumpAnswer) (b : Bytes)
      → step (state_of nv vol policy u) call ≡ (dump_answer a b, state_of nv vol policy u) → n ≡ status_number a.status
      → numbered (step (state_of nv vol policy w) call) ≡ (dumped_answer (record { status = n; length = a.length }) b, state_of nv vol policy w)
  dump_at {n = n} call nv vol policy a b e k =
      subst (λ t. numbered (step (state_of nv vol policy t) call) ≡ (dumped_answer (record { status = n; length = a.length }) b, state_of nv vol policy t))
      same (dump_numbered a b e k)

  pub query_at : {n : ℕ} (call : Call) (nv vol policy : Bytes) (a : QueryAnswer)
      → step (state_of nv vol policy u) call ≡ (query_answer a, state_of nv vol policy u) → n ≡ status_number a.status
      → numbered (step (state_of nv vol policy w) call) ≡ (queried_answer (record { status = n; enabled = a.enabled }), state_of nv vol policy w)
  query_at {n = n} call nv vol policy a e k =
      subst (λ t. numbered (step (state_of nv vol policy t) call) ≡ (queried_answer (record { status = n; enabled = a.enabled }), state_of nv vol policy t))
      same (query_numbered a e k)

-- a start, with leave to disable as the byte says
module _ (nv vol policy : Bytes) (w : Switches) (a : SwitchAnswer) where
  abbrev started : Started
  started = record { status = status_number a.status; switches = bytes_of a.switches }

  abbrev leaves : Bool → Switches → Numbered × State
  leaves granted t = (started_answer started, state_of nv vol policy (cond granted t w))

  pub start_numbered : (call : Bool → Call) {u v : Bool} (s : State) {r : Started} → u ≡ v
      → step s (call u) ≡ (hand_back a.status a.switches, state_of nv vol policy (cond (is_success a.status) a.switches w)) → r ≡ started
      → numbered (step s (call v)) ≡ (started_answer r, state_of nv vol policy (standing r w))
  start_numbered call s same e k =
      ap (λ b. numbered (step s (call b))) (sym same) ∙ ap numbered e
      ∙ ap₂ leaves (sym (zero_success a.status)) (sym (bytes_read_back a.switches))
      ∙ ap (λ r. (started_answer r, state_of nv vol policy (standing r w))) (sym k)

-- ---- the check of a dump
-- its verdict v, and b in the buffer, is what the record r says
pub quarrelled_is : {v w : Verdict} {r : Quarrelled} {b : Bytes} (dump buffer : Bytes) → v ≡ quarrels_of dump → b ≡ buffer_after dump buffer → v ≡ w → r ≡ quarrelled_of w → quarrelled dump buffer ≡ (r, b)
quarrelled_is dump buffer e k m h = ap₂ (λ (x : Quarrelled) (y : Bytes). (x, y)) (ap quarrelled_of (sym e ∙ m) ∙ sym h) (sym k)

-- ---- the reader of a dump
-- the number of the status that it answered
pub same_number : {n : ℕ} {s t : Status} → s ≡ t → n ≡ status_number s → n ≡ status_number t
same_number e k = k ∙ ap status_number e

-- its verdict v, with that number beside it
pub verdict_numbered : {n : ℕ} {w : reader.Verdict} (v : reader.Verdict) → v ≡ w → n ≡ status_number Success
    → record { status = n; whole = v.whole; ended = v.ended; entries = v.entries; bytes = v.bytes } ≡ reader_verdict_of w
verdict_numbered v e k =
    ap {B = ReaderVerdict} (λ (n : ℕ). record { status = n; whole = v.whole; ended = v.ended; entries = v.entries; bytes = v.bytes }) k ∙ ap reader_verdict_of e

-- what it tells of an entry, l, is what the record r says
pub listing_numbered : {l m w : Option Listing} {r : ReaderEntry} → l ≡ w → l ≡ m → r ≡ reader_entry_of m → r ≡ reader_entry_of w
listing_numbered e k h = h ∙ ap reader_entry_of (sym k ∙ e)
