-- The status of every call, said a second time: each ground as a proposition on numbers, lists and records, with its place in the
-- call's order. A call answers the first that applies. Engine.antt and Set.antt compute the same (GroundsLaws.antt), so a reader may believe
-- either. Assumes nothing: these are definitions.
use Rattle.std.specs.Prelude.{ℕ, zero, suc, ◌+◌, ◌-◌, ◌*◌, ◌/◌, ◌%◌, ◌≤◌, ◌<◌, ◌≡◌, List, [], ◌∷◌, ◌++◌, Bool, true, false, ◌⊎◌, ◌↔◌, length, get_or, replicate}
use Rattle.limits.specs.Limits.{max_units, whole_namespace_rank, namespace_bytes, max_entries, policy_bytes, max_payload, max_store}
use Rattle.lists.specs.Lists.{All, Among, Pairs}
use Rattle.slices.specs.Bytes.{Bytes}
use Rattle.slices.specs.Chunks.{flat}
use Rattle.names.specs.Name.{Variable, units, number_sign, hex_digits}
use Rattle.entry.specs.Entry.{offset_to_name, namespace_of, min_size, max_size, attributes_must_have, attributes_cant_have, lock_policy_type, name_of, well_formed, trigger_of, trigger_value, size_field}
use Rattle.store.specs.Record.{attributes_of, payload_of, record_ok, variable_of, encode_record}
use Rattle.status.specs.declared.Status.{Status}
use Rattle.status.specs.declared.Status.TheVariants.{Success, InvalidParameter, Unsupported, BufferTooSmall, WriteProtected, OutOfResources, VolumeCorrupted, NotFound, AlreadyStarted}
use Rattle.rules.specs.Set.{Request}
use Rattle.rules.specs.Engine.{State, Call}
use Rattle.rules.specs.Engine.Call.{power_on, restart, register, dump, lock, disable, exit, query, read, set, settled}

abbrev pub Not : Type 0 → Type 0
Not P = P → ⊥

-- ---- numbers and names

-- the bit i of a number is set; bit 0 has the value 1
abbrev pub Bit : ℕ → ℕ → Type 0
Bit zero a = a % 2 ≡ 1
Bit (suc i) a = Bit i (a / 2)

-- the attributes, by their bits
abbrev pub NV : ℕ → Type 0
NV = Bit 0

abbrev pub BS : ℕ → Type 0
BS = Bit 1

abbrev pub RT : ℕ → Type 0
RT = Bit 2

abbrev pub Append : ℕ → Type 0
Append = Bit 6

-- the bits of 0x47
abbrev pub known_bits : List ℕ
known_bits = 0 ∷ 1 ∷ 2 ∷ 6 ∷ []

-- the bytes of a name: 1 to 64 whole units, none zero
pub record Name (s : Bytes) : Type 0 where
  pub count : ℕ
  pub whole : length s ≡ 2 * count
  pub some : 1 ≤ count
  pub most : count ≤ max_units
  pub nonzero : (k : ℕ) → k < count → Not (get_or s (2 * k) 0 + 256 * get_or s (2 * k + 1) 0 ≡ 0)

-- a variable that a call can be given, with a name that step 1 takes
pub record Named (v : Variable) : Type 0 where
  pub namespace : length v.namespace ≡ namespace_bytes
  pub name : Name v.name

-- ---- which policy speaks

-- a unit of an entry's name against one of a variable's: '#' over one of the 22 hex digits, or another unit over itself
abbrev pub UnitMatches : ℕ → ℕ → Type 0
UnitMatches p u = ((p ≡ number_sign) × Among u hex_digits) ⊎ (Not (p ≡ number_sign) × (p ≡ u))

-- as many units, each matching
abbrev pub Matches : List ℕ → List ℕ → Type 0
Matches [] [] = Unit
Matches [] (u ∷ us) = ⊥
Matches (p ∷ ps) [] = ⊥
Matches (p ∷ ps) (u ∷ us) = UnitMatches p u × Matches ps us

-- the entry's name is empty: it is for the whole namespace
abbrev pub WholeNamespace : Bytes → Type 0
WholeNamespace e = offset_to_name e ≡ length e

-- targets (RULES.md, 4.1): one namespace for both, and a pattern that is empty or matches
abbrev pub Targets : Bytes → Variable → Type 0
Targets e v = (namespace_of e ≡ v.namespace) × (WholeNamespace e ⊎ Matches (units (name_of e)) (units v.name))

-- n of the units are '#'
pub data Signs : List ℕ → ℕ → Type 0 where
  none : Signs [] 0
  sign : {us : List ℕ} {n : ℕ} → Signs us n → Signs (number_sign ∷ us) (suc n)
  other : {u : ℕ} {us : List ℕ} {n : ℕ} → Not (u ≡ number_sign) → Signs us n → Signs (u ∷ us) n

-- rank (RULES.md, 4.2): how many '#' its name has; of a whole namespace, one more than any name can have
pub data Ranks (e : Bytes) : ℕ → Type 0 where
  whole : WholeNamespace e → Ranks e whole_namespace_rank
  named : {n : ℕ} → Not (WholeNamespace e) → Signs (units (name_of e)) n → Ranks e n

-- the chosen entry of a list: it targets the variable, none that does ranks lower, and none before it that does ranks equal
pub record IsChosen (es : List Bytes) (v : Variable) (e : Bytes) : Type 0 where
  pub before : List Bytes
  pub after : List Bytes
  pub place : es ≡ before ++ (e ∷ after)
  pub target : Targets e v
  pub lowest : (f : Bytes) (m n : ℕ) → Among f es → Targets f v → Ranks e m → Ranks f n → m ≤ n
  pub first : (f : Bytes) (m n : ℕ) → Among f before → Targets f v → Ranks e m → Ranks f n → m < n

-- ---- what a state holds

-- es are the entries of a policy record of `bytes` bytes: well formed by the rule `ok` of an edition (today's rule is said again in EncodingLaws.antt: the
-- encoding of fields in range), at most `most` of them, no two of one namespace and name, end to end, then only zeros
pub record EntriesWithin (ok : Bytes → Bool) (most bytes : ℕ) (policy : Bytes) (es : List Bytes) : Type 0 where
  pub formed : All (λ e. ok e ≡ true) es
  pub few : length es ≤ most
  pub apart : Pairs (λ e f. Not ((namespace_of e ≡ namespace_of f) × (name_of e ≡ name_of f))) es
  pub room : length (flat es) ≤ bytes
  pub is : policy ≡ flat es ++ replicate (bytes - length (flat es)) 0

-- the entries of a policy record within the limits (RULES.md, 7 and 11)
abbrev pub PolicyEntries : Bytes → List Bytes → Type 0
PolicyEntries policy es = EntriesWithin well_formed max_entries policy_bytes policy es

abbrev pub HasEntries : State → List Bytes → Type 0
HasEntries s es = PolicyEntries s.policy es

-- the sum of Sizes
abbrev pub sum_of_sizes : List Bytes → ℕ
sum_of_sizes [] = 0
sum_of_sizes (e ∷ es) = size_field e + sum_of_sizes es

-- rs are the records of a store: well formed (EncodeLaws.antt says it again), end to end, then only 0xFF, in at most 32,768 bytes
pub record StoreRecords (non_volatile : Bool) (store : Bytes) (rs : List Bytes) : Type 0 where
  pub formed : All (λ r. record_ok non_volatile r ≡ true) rs
  pub small : length store ≤ max_store
  pub room : length (flat rs) ≤ length store
  pub is : store ≡ flat rs ++ replicate (length store - length (flat rs)) 255

-- no variable stands twice
abbrev pub Apart : List Bytes → Type 0
Apart = Pairs (λ q r. Not (variable_of q ≡ variable_of r))

-- the two stores are sound, and these are their records
pub record PairRecords (nv vol : Bytes) (rs qs : List Bytes) : Type 0 where
  pub first : StoreRecords true nv rs
  pub second : StoreRecords false vol qs
  pub apart : Apart (rs ++ qs)

pub record SoundStores (nv vol : Bytes) : Type 0 where
  pub in_nv : List Bytes
  pub in_vol : List Bytes
  pub records : PairRecords nv vol in_nv in_vol

-- the non-volatile store by itself
pub record SoundAlone (nv : Bytes) : Type 0 where
  pub in_nv : List Bytes
  pub records : StoreRecords true nv in_nv
  pub apart : Apart in_nv

-- the variable exists: r is its record, in whichever store
pub record RecordOf (s : State) (v : Variable) (r : Bytes) : Type 0 where
  pub in_nv : List Bytes
  pub in_vol : List Bytes
  pub records : PairRecords s.nv s.vol in_nv in_vol
  pub stands : Among r (in_nv ++ in_vol)
  pub own : variable_of r ≡ v

-- it does not exist; in unsound stores nothing does
abbrev pub Absent : State → Variable → Type 0
Absent s v = (r : Bytes) → Not (RecordOf s v r)

-- after exit
abbrev pub Exited : State → Type 0
Exited s = s.switches.exited ≡ true

-- the variable's record is then told by no read and taken out by no deletion: it is without RT
pub record Hidden (s : State) (v : Variable) (r : Bytes) : Type 0 where
  pub exited : Exited s
  pub stands : RecordOf s v r
  pub without : Not (RT (attributes_of r))

-- the chosen entry locks its variable: now, on create, or on its trigger's one payload byte
pub data Locks (s : State) (e : Bytes) (v : Variable) : Type 0 where
  now : lock_policy_type e ≡ 1 → Locks s e v
  on_create : (r : Bytes) → lock_policy_type e ≡ 2 → RecordOf s v r → Locks s e v
  on_var_state : (r : Bytes) → lock_policy_type e ≡ 3 → RecordOf s (trigger_of e) r → payload_of r ≡ trigger_value e ∷ [] → Locks s e v

-- the entry is the chosen one for the variable, be the engine enabled or not
pub record ChosenFor (s : State) (v : Variable) (e : Bytes) : Type 0 where
  pub entries : List Bytes
  pub listed : HasEntries s entries
  pub choice : IsChosen entries v e

-- settled (RULES.md, 10.14), without a count: by a chain that ends at a lock now or at the lock on create of a variable that exists. Each link is a lock
-- on variable state, whose trigger holds the Value and is settled itself
pub data Settled (s : State) : Variable → Type 0 where
  now : {v : Variable} (e : Bytes) → ChosenFor s v e → lock_policy_type e ≡ 1 → Settled s v
  created : {v : Variable} (e r : Bytes) → ChosenFor s v e → lock_policy_type e ≡ 2 → RecordOf s v r → Settled s v
  link : {v : Variable} (e r : Bytes) → ChosenFor s v e → lock_policy_type e ≡ 3 → RecordOf s (trigger_of e) r → payload_of r ≡ trigger_value e ∷ []
      → Settled s (trigger_of e) → Settled s v

-- how many links a chain has
abbrev pub links_of : {s : State} {v : Variable} → Settled s v → ℕ
links_of (now e k h) = 0
links_of (created e r k h f) = 0
links_of (link e r k h f p c) = suc (links_of c)

-- settled over at most n links
abbrev pub SettledWithin : ℕ → State → Variable → Type 0
SettledWithin n s v = (c : Settled s v) × (links_of c ≤ n)

-- ---- requests

-- a deletion (RULES.md, 10.9): without append, and with no payload or with neither of BS and RT
abbrev pub Deletion : Request → Type 0
Deletion r = Not (Append r.attributes) × ((r.payload ≡ []) ⊎ Not (BS r.attributes ⊎ RT r.attributes))

-- an append of nothing
abbrev pub EmptyAppend : Request → Type 0
EmptyAppend r = Append r.attributes × (r.payload ≡ [])

-- equal NV, BS and RT
pub record SameAttributes (a b : ℕ) : Type 0 where
  pub nv : NV a ↔ NV b
  pub bs : BS a ↔ BS b
  pub rt : RT a ↔ RT b

-- the entry is enforced on the request: the engine is enabled, and it is the chosen one for the request's variable
pub record Enforced (s : State) (r : Request) (e : Bytes) : Type 0 where
  pub enabled : s.switches.enabled ≡ true
  pub entries : List Bytes
  pub listed : HasEntries s entries
  pub choice : IsChosen entries r.variable e

-- p is the payload as it would be afterwards: an append joins what is stored, any other request and an append to an absent variable
-- have the request's own
pub data PayloadAfter (s : State) (r : Request) (p : Bytes) : Type 0 where
  joined : (q : Bytes) → Append r.attributes → RecordOf s r.variable q → p ≡ payload_of q ++ r.payload → PayloadAfter s r p
  own : (Append r.attributes → Absent s r.variable) → p ≡ r.payload → PayloadAfter s r p

-- ps is rs with the record q in place of the variable's record, or behind the last where it has none
pub data Put (v : Variable) (q : Bytes) (rs ps : List Bytes) : Type 0 where
  in_place : (xs : List Bytes) (x : Bytes) (ys : List Bytes) → rs ≡ xs ++ (x ∷ ys) → variable_of x ≡ v → ps ≡ xs ++ (q ∷ ys) → Put v q rs ps
  behind : ((x : Bytes) → Among x rs → Not (variable_of x ≡ v)) → ps ≡ rs ++ (q ∷ []) → Put v q rs ps

-- what the request would store in the store whose records are rs: the payload, and that store's records afterwards
pub record Storing (s : State) (r : Request) (rs : List Bytes) : Type 0 where
  pub payload : Bytes
  pub after : PayloadAfter s r payload
  pub records : List Bytes
  pub put : Put r.variable (encode_record (r.attributes % 8) r.variable payload) rs records

-- ---- THE GROUNDS of each call, each with its place in the call's order and the status that it gives.
-- Place 0 is 10 wherever a store or the policy record is lent, and the last place of each call applies always: done. A set's places are its steps
-- times ten; of step 3, 30 is RT or append without BS and 31 what a set needs after exit; of step 4, 41 is size, 42 attributes and 43 the lock; of
-- step 5, 51 is absent or hidden, 52 volatile after exit and 53 removed. Grounds at one place give one status
pub data Applies (s : State) : Call → ℕ → Status → Type 0 where
  -- Power-on
  power_on_unsound : {allowed : Bool} → Not (SoundAlone s.nv) → Applies s (power_on allowed) 0 VolumeCorrupted
  power_on_volatile_too_long : {allowed : Bool} → max_store < length s.vol → Applies s (power_on allowed) 0 VolumeCorrupted
  power_on_bad_record : {allowed : Bool} → Not (length s.policy ≡ policy_bytes) → Applies s (power_on allowed) 0 VolumeCorrupted
  power_on_done : {allowed : Bool} → Applies s (power_on allowed) 1 Success
  -- Restart
  restart_unsound : {allowed : Bool} → Not (SoundStores s.nv s.vol) → Applies s (restart allowed) 0 VolumeCorrupted
  restart_bad_record : {allowed : Bool} → Not (length s.policy ≡ policy_bytes) → Applies s (restart allowed) 0 VolumeCorrupted
  restart_done : {allowed : Bool} → Applies s (restart allowed) 1 Success
  -- Register
  register_bad_record : {e : Bytes} → ((es : List Bytes) → Not (HasEntries s es)) → Applies s (register e) 0 VolumeCorrupted
  register_exited : {e : Bytes} → Exited s → Applies s (register e) 1 Unsupported
  register_locked : {e : Bytes} → s.switches.locked ≡ true → Applies s (register e) 2 WriteProtected
  register_malformed : {e : Bytes} → Not (well_formed e ≡ true) → Applies s (register e) 3 InvalidParameter
  register_repeated : {e : Bytes} (es : List Bytes) (f : Bytes) → HasEntries s es → Among f es
      → namespace_of e ≡ namespace_of f → name_of e ≡ name_of f → Applies s (register e) 4 AlreadyStarted
  register_too_many : {e : Bytes} (es : List Bytes) → HasEntries s es → max_entries < length es + 1 → Applies s (register e) 5 OutOfResources
  register_too_long : {e : Bytes} (es : List Bytes) → HasEntries s es → policy_bytes < sum_of_sizes es + size_field e
      → Applies s (register e) 5 OutOfResources
  register_done : {e : Bytes} → Applies s (register e) 6 Success
  -- Dump
  dump_bad_record : {buffer : Bytes} → ((es : List Bytes) → Not (HasEntries s es)) → Applies s (dump buffer) 0 VolumeCorrupted
  dump_exited : {buffer : Bytes} → Exited s → Applies s (dump buffer) 1 Unsupported
  dump_short : {buffer : Bytes} (es : List Bytes) → HasEntries s es → length buffer < sum_of_sizes es → Applies s (dump buffer) 2 BufferTooSmall
  dump_done : {buffer : Bytes} → Applies s (dump buffer) 3 Success
  -- Lock
  lock_exited : Exited s → Applies s lock 0 Unsupported
  lock_locked : s.switches.locked ≡ true → Applies s lock 1 WriteProtected
  lock_done : Applies s lock 2 Success
  -- Disable
  disable_exited : Exited s → Applies s disable 0 Unsupported
  disable_disabled : s.switches.enabled ≡ false → Applies s disable 1 AlreadyStarted
  disable_locked : s.switches.locked ≡ true → Applies s disable 2 WriteProtected
  disable_not_allowed : s.switches.disabling_allowed ≡ false → Applies s disable 2 WriteProtected
  disable_done : Applies s disable 3 Success
  -- Exit
  exit_exited : Exited s → Applies s exit 0 Unsupported
  exit_done : Applies s exit 1 Success
  -- State query
  query_done : Applies s query 0 Success
  -- Read
  read_unsound : {v : Variable} → Not (SoundStores s.nv s.vol) → Applies s (read v) 0 VolumeCorrupted
  read_bad_name : {v : Variable} → Not (Named v) → Applies s (read v) 1 InvalidParameter
  read_absent : {v : Variable} → Absent s v → Applies s (read v) 2 NotFound
  read_hidden : {v : Variable} (q : Bytes) → Hidden s v q → Applies s (read v) 2 NotFound
  read_done : {v : Variable} → Applies s (read v) 3 Success
  -- Set
  set_unsound : {r : Request} → Not (SoundStores s.nv s.vol) → Applies s (set r) 0 VolumeCorrupted
  set_bad_record : {r : Request} → ((es : List Bytes) → Not (HasEntries s es)) → Applies s (set r) 0 VolumeCorrupted
  -- 1
  set_bad_name : {r : Request} → Not (Named r.variable) → Applies s (set r) 10 InvalidParameter
  set_long_payload : {r : Request} → max_payload < length r.payload → Applies s (set r) 10 InvalidParameter
  -- 2
  set_unknown_bit : {r : Request} (i : ℕ) → Bit i r.attributes → Not (Among i known_bits) → Applies s (set r) 20 Unsupported
  -- 3
  set_runtime_without_bs : {r : Request} → RT r.attributes → Not (BS r.attributes) → Applies s (set r) 30 InvalidParameter
  set_append_without_bs : {r : Request} → Append r.attributes → Not (BS r.attributes) → Applies s (set r) 30 InvalidParameter
  set_not_runtime : {r : Request} → Exited s → Not (Deletion r) → Not (NV r.attributes × BS r.attributes × RT r.attributes)
      → Applies s (set r) 31 InvalidParameter
  -- 4
  set_too_short : {r : Request} (e p : Bytes) → Enforced s r e → Not (Deletion r) → PayloadAfter s r p → length p < min_size e
      → Applies s (set r) 41 InvalidParameter
  set_too_long : {r : Request} (e p : Bytes) → Enforced s r e → Not (Deletion r) → PayloadAfter s r p → max_size e < length p
      → Applies s (set r) 41 InvalidParameter
  set_bit_missing : {r : Request} (e : Bytes) (i : ℕ) → Enforced s r e → Not (Deletion r)
      → Bit i (attributes_must_have e) → Not (Bit i r.attributes) → Applies s (set r) 42 InvalidParameter
  set_bit_prohibited : {r : Request} (e : Bytes) (i : ℕ) → Enforced s r e → Not (Deletion r)
      → Bit i (attributes_cant_have e) → Bit i r.attributes → Applies s (set r) 42 InvalidParameter
  set_locked : {r : Request} (e : Bytes) → Enforced s r e → Locks s e r.variable → Applies s (set r) 43 WriteProtected
  -- 5
  set_absent : {r : Request} → Deletion r → Absent s r.variable → Applies s (set r) 51 NotFound
  set_hidden : {r : Request} (q : Bytes) → Deletion r → Hidden s r.variable q → Applies s (set r) 51 NotFound
  set_volatile : {r : Request} (q : Bytes) → Deletion r → Exited s → RecordOf s r.variable q → Not (NV (attributes_of q)) → Applies s (set r) 52 WriteProtected
  set_deleted : {r : Request} → Deletion r → Applies s (set r) 53 Success
  -- 6
  set_other_attributes : {r : Request} (q : Bytes) → RecordOf s r.variable q → Not (SameAttributes (attributes_of q) r.attributes)
      → Applies s (set r) 60 InvalidParameter
  -- 7
  set_empty_append : {r : Request} → EmptyAppend r → Applies s (set r) 70 Success
  -- 8
  set_append_too_long : {r : Request} (q : Bytes) → Append r.attributes → RecordOf s r.variable q
      → max_payload < length (payload_of q) + length r.payload → Applies s (set r) 80 OutOfResources
  -- 9
  set_no_room_nv : {r : Request} (rs qs : List Bytes) → NV r.attributes → PairRecords s.nv s.vol rs qs → (t : Storing s r rs)
      → length s.nv < length (flat t.records) → Applies s (set r) 90 OutOfResources
  set_no_room_vol : {r : Request} (rs qs : List Bytes) → Not (NV r.attributes) → PairRecords s.nv s.vol rs qs → (t : Storing s r qs)
      → length s.vol < length (flat t.records) → Applies s (set r) 90 OutOfResources
  -- 10
  set_done : {r : Request} → Applies s (set r) 100 Success
  -- Settled
  settled_unsound : {v : Variable} → Not (SoundStores s.nv s.vol) → Applies s (settled v) 0 VolumeCorrupted
  settled_bad_record : {v : Variable} → ((es : List Bytes) → Not (HasEntries s es)) → Applies s (settled v) 0 VolumeCorrupted
  settled_bad_name : {v : Variable} → Not (Named v) → Applies s (settled v) 1 InvalidParameter
  settled_done : {v : Variable} → Applies s (settled v) 2 Success

-- the first that applies in the call's order: its place there, and the status that it gives
pub record FirstAt (s : State) (c : Call) (place : ℕ) (n : Status) : Type 0 where
  pub applies : Applies s c place n
  pub first : (k : ℕ) (m : Status) → k < place → Not (Applies s c k m)

-- WHAT A CALL ANSWERS: the status of the first that applies
pub record Answers (s : State) (c : Call) (n : Status) : Type 0 where
  pub place : ℕ
  pub at : FirstAt s c place n

-- the rules give a ground to refuse: the first that applies gives a status other than 0
pub record Refused (s : State) (c : Call) : Type 0 where
  pub gives : Status
  pub answers : Answers s c gives
  pub other : Not (gives ≡ Success)
