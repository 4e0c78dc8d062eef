-- What stands beside a status, and what a call leaves, said a second time: the answers and the states afterwards, case by case. Which
-- status it is, `Answers` says; the report of a set goes by where the first ground stands. Engine.antt computes the same (EffectsLaws.antt), so a reader may believe either.
-- Assumes nothing: these are definitions.
use Rattle.std.specs.Prelude.{ℕ, suc, ◌≤◌, ◌<◌, ◌≡◌, Some, None, List, [], ◌∷◌, ◌++◌, Bool, true, false, ◌⊎◌, ◌↔◌, length, drop, replicate}
use Rattle.std.proofs.Math.Option.{none, some}
use Rattle.limits.specs.Limits.{policy_bytes, max_links}
use Rattle.lists.specs.Lists.{Among}
use Rattle.slices.specs.Bytes.{Bytes}
use Rattle.slices.specs.Chunks.{flat}
use Rattle.names.specs.Name.{Variable}
use Rattle.entry.specs.Entry.{attributes_must_have, attributes_cant_have}
use Rattle.store.specs.Record.{attributes_of, payload_of, variable_of}
use Rattle.status.specs.declared.Status.{Status}
use Rattle.status.specs.declared.Status.TheVariants.{Success, BufferTooSmall}
use Rattle.switches.specs.declared.Switches.{Switches}
use Rattle.rules.specs.declared.Ground.TheVariants.{SizeGround, AttributeGround, LockGround}
use Rattle.rules.specs.declared.Report.{Report}
use Rattle.rules.specs.Set.{Request}
use Rattle.rules.specs.Report.{report_of}
use Rattle.rules.specs.Engine.{State, Call, Answer, state_of, answer_of, with_report}
use Rattle.rules.specs.Engine.Call.{power_on, restart, register, dump, lock, disable, exit, query, read, set, settled}
use Rattle.rules.specs.Grounds.{Not, Bit, NV, Ranks, PolicyEntries, HasEntries, sum_of_sizes, PairRecords, SoundStores, RecordOf, Absent, SettledWithin, Deletion, EmptyAppend, SameAttributes, Enforced, PayloadAfter, Storing, FirstAt}

-- a status other than 0
abbrev pub Refusal : Status → Type 0
Refusal n = Not (n ≡ Success)

-- ---- what stands beside a status (RULES.md, 9.3 and 10)

-- the switches: enabled, locked, disabling allowed, exited
abbrev pub switches_of : Bool → Bool → Bool → Bool → Switches
switches_of enabled locked allowed exited = record { enabled = enabled; locked = locked; disabling_allowed = allowed; exited = exited }

-- ---- the report of a set (RULES.md, 10.10)

-- n of the numbers below k are so
pub data Count (P : ℕ → Type 0) : ℕ → ℕ → Type 0 where
  no : Count P 0 0
  this : {k n : ℕ} → P k → Count P k n → Count P (suc k) (suc n)
  other : {k n : ℕ} → Not (P k) → Count P k n → Count P (suc k) n

-- i is the lowest of the numbers below k that are so, and k where none is
pub record Lowest (P : ℕ → Type 0) (k i : ℕ) : Type 0 where
  pub most : i ≤ k
  pub is : i < k → P i
  pub below : (j : ℕ) → j < i → Not (P j)

-- the bit i is required and missing; prohibited and set; one of both
abbrev pub Missing : Bytes → Request → ℕ → Type 0
Missing e r i = Bit i (attributes_must_have e) × Not (Bit i r.attributes)

abbrev pub Prohibited : Bytes → Request → ℕ → Type 0
Prohibited e r i = Bit i (attributes_cant_have e) × Bit i r.attributes

abbrev pub Offending : Bytes → Request → ℕ → Type 0
Offending e r i = Missing e r i ⊎ Prohibited e r i

-- the entry that is enforced on the request, behind k others, and its rank
pub record Speaks (s : State) (r : Request) (k rank : ℕ) : Type 0 where
  pub entry : Bytes
  pub enforced : Enforced s r entry
  pub place : length enforced.choice.before ≡ k
  pub ranks : Ranks entry rank

-- by where the first ground that applies stands in the order of a set: at 41 it is the size, at 42 attributes, at 43 the lock, and elsewhere no
-- ground of step 4
pub data Reports (s : State) (r : Request) (n : Status) : Report → Type 0 where
  silent : (at : ℕ) → FirstAt s (set r) at n → Not ((41 ≤ at) × (at ≤ 43)) → Reports s r n (report_of None 0 0 0 0 0)
  by_size : {k rank : ℕ} → FirstAt s (set r) 41 n → Speaks s r k rank → Reports s r n (report_of (Some SizeGround) k rank 0 0 0)
  by_attributes : {k rank missing prohibited lowest : ℕ} → FirstAt s (set r) 42 n → (w : Speaks s r k rank)
      → Count (Missing w.entry r) 32 missing → Count (Prohibited w.entry r) 32 prohibited → Lowest (Offending w.entry r) 32 lowest
      → Reports s r n (report_of (Some AttributeGround) k rank missing prohibited lowest)
  by_lock : {k rank : ℕ} → FirstAt s (set r) 43 n → Speaks s r k rank → Reports s r n (report_of (Some LockGround) k rank 0 0 0)

-- ---- the answers

-- THE ANSWERS of each call: status, number, bytes, switches handed back; of a set the status and the report
pub data Beside (s : State) : Call → Answer → Type 0 where
  -- Power-on and restart: the switches of a granted start, and those of a refused one
  powered_on : {allowed : Bool} → Beside s (power_on allowed) (answer_of Success 0 [] (some (switches_of true false allowed false)))
  power_on_refused : {allowed : Bool} (n : Status) → Refusal n → Beside s (power_on allowed) (answer_of n 0 [] (some (switches_of true true false false)))
  restarted : {allowed : Bool} → Beside s (restart allowed) (answer_of Success 0 [] (some (switches_of true false allowed false)))
  restart_refused : {allowed : Bool} (n : Status) → Refusal n → Beside s (restart allowed) (answer_of n 0 [] (some (switches_of true true false false)))
  -- Dump: the sum of Sizes, and the entries from the buffer's start, its later bytes as they were; too short, the sum and the buffer as it
  -- was; otherwise refused, the buffer as it was
  dumped : {buffer : Bytes} (es : List Bytes) → HasEntries s es
      → Beside s (dump buffer) (answer_of Success (sum_of_sizes es) (flat es ++ drop (sum_of_sizes es) buffer) none)
  dump_short : {buffer : Bytes} (es : List Bytes) → HasEntries s es → Beside s (dump buffer) (answer_of BufferTooSmall (sum_of_sizes es) buffer none)
  dump_refused : {buffer : Bytes} (n : Status) → Refusal n → Not (n ≡ BufferTooSmall) → Beside s (dump buffer) (answer_of n 0 buffer none)
  -- State query: the enabled switch, 1 or 0
  is_enabled : s.switches.enabled ≡ true → Beside s query (answer_of Success 1 [] none)
  is_disabled : s.switches.enabled ≡ false → Beside s query (answer_of Success 0 [] none)
  -- Read: attributes and payload
  was_read : {v : Variable} (r : Bytes) → RecordOf s v r → Beside s (read v) (answer_of Success (attributes_of r) (payload_of r) none)
  read_refused : {v : Variable} (n : Status) → Refusal n → Beside s (read v) (answer_of n 0 [] none)
  -- the others: the status alone, whichever it is
  of_register : {e : Bytes} (n : Status) → Beside s (register e) (answer_of n 0 [] none)
  of_lock : (n : Status) → Beside s lock (answer_of n 0 [] none)
  of_disable : (n : Status) → Beside s disable (answer_of n 0 [] none)
  of_exit : (n : Status) → Beside s exit (answer_of n 0 [] none)
  -- Set: the status with the report
  of_set : {r : Request} (n : Status) (p : Report) → Reports s r n p → Beside s (set r) (with_report n p)
  -- Settled: 1 for yes, 0 for no
  is_settled : {v : Variable} → SettledWithin max_links s v → Beside s (settled v) (answer_of Success 1 [] none)
  not_settled : {v : Variable} (es : List Bytes) → SoundStores s.nv s.vol → HasEntries s es → Not (SettledWithin max_links s v)
      → Beside s (settled v) (answer_of Success 0 [] none)
  settled_refused : {v : Variable} (n : Status) → Refusal n → Beside s (settled v) (answer_of n 0 [] none)

-- ---- what a call leaves

-- ps is rs without the variable's record, the gap closed; rs itself where it has none
pub data Taken (v : Variable) (rs ps : List Bytes) : Type 0 where
  out : (xs : List Bytes) (x : Bytes) (ys : List Bytes) → rs ≡ xs ++ (x ∷ ys) → variable_of x ≡ v → ps ≡ xs ++ ys → Taken v rs ps
  absent : ((x : Bytes) → Among x rs → Not (variable_of x ≡ v)) → ps ≡ rs → Taken v rs ps

-- nothing but bytes within the stores changes
pub record OnlyStores (s t : State) : Type 0 where
  pub nv : length t.nv ≡ length s.nv
  pub vol : length t.vol ≡ length s.vol
  pub policy : t.policy ≡ s.policy
  pub switches : t.switches ≡ s.switches

-- a set that answers 0: rs and qs are the records before
pub data SetLeaves (s : State) (r : Request) (t : State) : Type 0 where
  -- 5: a deletion, whichever store holds the variable
  removed : (rs qs rs' qs' : List Bytes) → Deletion r → PairRecords s.nv s.vol rs qs
      → Taken r.variable rs rs' → Taken r.variable qs qs' → PairRecords t.nv t.vol rs' qs' → OnlyStores s t → SetLeaves s r t
  -- 7: an empty append
  unchanged : EmptyAppend r → t ≡ s → SetLeaves s r t
  -- 10: stored in the store that NV names, in place or behind the last
  stored_nv : (rs qs : List Bytes) → Not (Deletion r) → Not (EmptyAppend r) → NV r.attributes → PairRecords s.nv s.vol rs qs
      → (w : Storing s r rs) → PairRecords t.nv t.vol w.records qs → t.vol ≡ s.vol → OnlyStores s t → SetLeaves s r t
  stored_vol : (rs qs : List Bytes) → Not (Deletion r) → Not (EmptyAppend r) → Not (NV r.attributes) → PairRecords s.nv s.vol rs qs
      → (w : Storing s r qs) → PairRecords t.nv t.vol rs w.records → t.nv ≡ s.nv → OnlyStores s t → SetLeaves s r t

-- the same by names, without the order of records: its variable's attributes and payload afterwards, every other variable as before
pub record SetByName (s : State) (r : Request) (t : State) : Type 0 where
  pub sound : SoundStores t.nv t.vol
  pub others : (w : Variable) → Not (r.variable ≡ w) → (q : Bytes) → RecordOf s w q ↔ RecordOf t w q
  pub deleted : Deletion r → Absent t r.variable
  pub unchanged : EmptyAppend r → t ≡ s
  pub stored : Not (Deletion r) → Not (EmptyAppend r)
      → (q : Bytes) × RecordOf t r.variable q × SameAttributes (attributes_of q) r.attributes × (attributes_of q ≤ 7)
      × PayloadAfter s r (payload_of q)

-- THE STATES AFTERWARDS: of a refused call the state before; of a call that answers 0 by its kind
pub data Leaves (s : State) : Call → Status → State → Type 0 where
  refused : {c : Call} {n : Status} → Refusal n → Leaves s c n s
  -- Power-on: the volatile store filled with 0xFF, the policy record with zeros; restart leaves both stores
  powers_on : {allowed : Bool} → Leaves s (power_on allowed) Success
      (state_of s.nv (replicate (length s.vol) 255) (replicate policy_bytes 0) (switches_of true false allowed false))
  restarts : {allowed : Bool} → Leaves s (restart allowed) Success (state_of s.nv s.vol (replicate policy_bytes 0) (switches_of true false allowed false))
  -- Register: the entry behind the others
  registers : {e : Bytes} (es : List Bytes) (policy : Bytes) → HasEntries s es → PolicyEntries policy (es ++ (e ∷ []))
      → Leaves s (register e) Success (state_of s.nv s.vol policy s.switches)
  -- Lock, disable and exit: one switch
  locks : Leaves s lock Success
      (state_of s.nv s.vol s.policy (switches_of s.switches.enabled true s.switches.disabling_allowed s.switches.exited))
  disables : Leaves s disable Success
      (state_of s.nv s.vol s.policy (switches_of false s.switches.locked s.switches.disabling_allowed s.switches.exited))
  exits : Leaves s exit Success
      (state_of s.nv s.vol s.policy (switches_of s.switches.enabled s.switches.locked s.switches.disabling_allowed true))
  -- Dump, query, read and settled: nothing
  dumps : {buffer : Bytes} → Leaves s (dump buffer) Success s
  queries : Leaves s query Success s
  reads : {v : Variable} → Leaves s (read v) Success s
  asks : {v : Variable} → Leaves s (settled v) Success s
  sets : {r : Request} (t : State) → SetLeaves s r t → Leaves s (set r) Success t
