-- Set: its ten steps, in their order (RULES.md, 10.9).
-- Assumes nothing: these are definitions.
use Rattle.std.specs.Prelude.{ℕ, ◌%◌, Some, None, [], ◌∷◌, ◌++◌, Bool, true, false, not, ◌||◌, cond, length, eqb, leb, ltb}
use Rattle.std.specs.Prelude as std
use Rattle.std.specs.Option.{option_or}
use Rattle.std.proofs.Math.Option.{Option, none, some}
use Rattle.std.specs.Int.Bits.{bit_and}
use Rattle.limits.specs.Limits.{known_attributes, max_payload}
use Rattle.slices.specs.Test.{◌and◌}
use Rattle.slices.specs.Bytes.{Bytes, same}
use Rattle.names.specs.Name.{Variable, named}
use Rattle.entry.specs.Entry.{min_size, max_size, attributes_must_have, attributes_cant_have, lock_of, trigger_of, trigger_value}
use Rattle.entry.specs.declared.LockRule.{LockRule}
use Rattle.entry.specs.declared.LockRule.TheVariants.{NoLock, LockNow, LockOnCreate, LockOnVarState}
use Rattle.store.specs.Record.{has_nv, has_bs, has_rt, has_append, attributes_of, payload_of, encode_record}
use Rattle.store.specs.Store.{without_variable, has_room, with_record}
use Rattle.stores.specs.Pair.{lookup}
use Rattle.status.specs.declared.Status.{Status}
use Rattle.status.specs.declared.Status.TheVariants.{Success, InvalidParameter, Unsupported, WriteProtected, OutOfResources, NotFound}
use Rattle.status.specs.Status.{is_success}
use Rattle.rules.specs.declared.Ground.{Ground}
use Rattle.rules.specs.declared.Ground.TheVariants.{SizeGround, AttributeGround, LockGround}
use Rattle.rules.specs.Decision.{Decision}
use Rattle.rules.specs.Decision.{Refuse, Block, Delete, Keep, Store}

-- what a set is given, as it arrives
pub record Request : Type 0 where
  pub variable : Variable
  pub attributes : ℕ
  pub payload : Bytes

abbrev pub request_of : Bytes → Bytes → ℕ → Bytes → Request
request_of namespace name attributes payload =
    record { variable = record { namespace = namespace; name = name }; attributes = attributes; payload = payload }

-- a variable's record, if the variable exists
abbrev pub Lookup : Type 0
Lookup = Variable → Option Bytes

unfoldable pub exists : Option Bytes → Bool
exists none = false
exists (some r) = true

unfoldable pub is_empty : Bytes → Bool
is_empty [] = true
is_empty (b ∷ l) = false

-- a deletion (RULES.md, 10.9): without append, and with no payload or with neither of BS and RT
unfoldable pub is_deletion : ℕ → Bytes → Bool
is_deletion a payload = not (has_append a) and (is_empty payload || not (has_bs a || has_rt a))

-- ---- steps 1 to 3

-- step 1: a bad name, or too long a payload
unfoldable pub bad_request : Variable → Bytes → Bool
bad_request v payload = not (named v) || ltb max_payload (length payload)

-- step 2: an attribute bit that is none of NV, BS, RT and append
unfoldable pub unsupported_bit : ℕ → Bool
unsupported_bit a = not (eqb (bit_and a known_attributes) a)

-- step 3: RT or append, and no BS
unfoldable pub needs_bs : ℕ → Bool
needs_bs a = (has_rt a || has_append a) and not (has_bs a)

-- and, after exit, a set that is no deletion without one of NV, BS and RT
unfoldable pub needs_runtime : Bool → ℕ → Bytes → Bool
needs_runtime exited a payload = exited and not (is_deletion a payload) and not (has_nv a and has_bs a and has_rt a)

unfoldable pub request_status : Bool → Request → Status
request_status exited r =
    cond (bad_request r.variable r.payload) InvalidParameter
    (cond (unsupported_bit r.attributes) Unsupported
    (cond (needs_bs r.attributes) InvalidParameter
    (cond (needs_runtime exited r.attributes r.payload) InvalidParameter Success)))

-- ---- the locks

-- a trigger that locks (RULES.md, 5): its record holds one byte of payload, the Value; an absent one does not lock
unfoldable pub holds_value : Option Bytes → ℕ → Bool
holds_value none value = false
holds_value (some r) value = same (payload_of r) (value ∷ [])

-- when a lock rule locks the entry's variable: never, always, where it exists, or by the trigger
abbrev pub rule_locks : LockRule → Bytes → Lookup → Variable → Bool
rule_locks NoLock e found v = false
rule_locks LockNow e found v = true
rule_locks LockOnCreate e found v = exists (found v)
rule_locks (LockOnVarState t) e found v = holds_value (found (trigger_of e)) (trigger_value e)

-- whether the chosen entry locks its variable (RULES.md, 5)
unfoldable pub locks : Bytes → Lookup → Variable → Bool
locks e found v = rule_locks (lock_of e) e found v

-- ---- what would be stored

-- the payload that the variable would have afterwards, by what is found of it: append joins what is stored, or creates
unfoldable pub payload_after : Option Bytes → ℕ → Bytes → Bytes
payload_after none a payload = payload
payload_after (some old) a payload = cond (has_append a) (payload_of old ++ payload) payload

-- how long that is, of an append the request's length added to what is stored: what steps 4 and 8 measure
abbrev pub length_after : Option Bytes → Request → ℕ
length_after found r = length (payload_after found r.attributes r.payload)

-- ---- step 4

unfoldable pub size_allowed : Bytes → ℕ → Bool
size_allowed e n = leb (min_size e) n and leb n (max_size e)

-- no required bit missing, no prohibited one set
unfoldable pub attributes_allowed : Bytes → ℕ → Bool
attributes_allowed e a = eqb (bit_and (attributes_must_have e) a) (attributes_must_have e) and eqb (bit_and (attributes_cant_have e) a) 0

-- what an entry says against a request that is no deletion, and whose variable would have n bytes: first its size, then its attributes
unfoldable pub request_ground : Bytes → ℕ → Request → std.Option Ground
request_ground e n r =
    cond (is_deletion r.attributes r.payload) None
    (cond (size_allowed e n) (cond (attributes_allowed e r.attributes) None (Some AttributeGround)) (Some SizeGround))

-- what it says against any request: that, by the length afterwards, and then a lock
unfoldable pub ground_of : Bytes → Lookup → Request → std.Option Ground
ground_of e found r =
    option_or (request_ground e (length_after (found r.variable) r) r) (cond (locks e found r.variable) (Some LockGround) None)

-- where no entry speaks there is no ground
abbrev pub ground_by : Option Bytes → Lookup → Request → std.Option Ground
ground_by none found r = None
ground_by (some e) found r = ground_of e found r

-- what a ground answers
abbrev pub ground_status : Ground → Status
ground_status SizeGround = InvalidParameter
ground_status AttributeGround = InvalidParameter
ground_status LockGround = WriteProtected

-- ---- steps 5 to 10

-- what a read tells and a deletion takes, of what is found of a variable: after exit, no record without RT
unfoldable pub shown : Bool → Option Bytes → Option Bytes
shown exited none = none
shown exited (some q) = cond (exited and not (has_rt (attributes_of q))) none (some q)

-- a record of the volatile store, which after exit no deletion takes
unfoldable pub exit_protects : Bool → Option Bytes → Bool
exit_protects exited none = false
exit_protects exited (some q) = exited and not (has_nv (attributes_of q))

-- step 5, by what is found of the request's variable
abbrev pub delete_decision : Bool → Option Bytes → Decision
delete_decision exited found =
    cond (exists (shown exited found)) (cond (exit_protects exited found) (Refuse WriteProtected) Delete) (Refuse NotFound)

-- stored attributes: without append; step 2 has refused every bit outside 0x47
abbrev pub stored_attributes : ℕ → ℕ
stored_attributes a = a % 8

-- step 6: the stored attributes are others
unfoldable pub other_attributes : Option Bytes → ℕ → Bool
other_attributes none a = false
other_attributes (some r) a = not (eqb (attributes_of r) (stored_attributes a))

-- an append that joins nothing
unfoldable pub is_empty_append : ℕ → Bytes → Bool
is_empty_append a payload = has_append a and is_empty payload

abbrev pub record_after : Option Bytes → Request → Bytes
record_after found r = encode_record (stored_attributes r.attributes) r.variable (payload_after found r.attributes r.payload)

-- the store that a variable with these attributes stands in
abbrev pub store_of : ℕ → Bytes → Bytes → Bytes
store_of a nv vol = cond (has_nv a) nv vol

-- steps 8 and 9, by what is found of the request's variable
abbrev pub store_decision : Bytes → Bytes → Option Bytes → Request → Decision
store_decision nv vol found r =
    -- 8
    cond (ltb max_payload (length_after found r)) (Refuse OutOfResources)
    -- 9
    (cond (has_room (has_nv r.attributes) (store_of r.attributes nv vol) r.variable (record_after found r)) Store (Refuse OutOfResources))

-- steps 5 to 9
unfoldable pub write_decision : Bool → Bytes → Bytes → Option Bytes → Request → Decision
write_decision exited nv vol found r =
    -- 5
    cond (is_deletion r.attributes r.payload) (delete_decision exited found)
    -- 6
    (cond (other_attributes found r.attributes) (Refuse InvalidParameter)
    -- 7
    (cond (is_empty_append r.attributes r.payload) Keep (store_decision nv vol found r)))

-- ---- THE DECISION

-- a status that refuses, or else the decision behind it
abbrev pub refuse_or : Status → Decision → Decision
refuse_or n later = cond (is_success n) later (Refuse n)

-- a ground of step 4, or else the decision behind it
abbrev pub block_or : std.Option Ground → Decision → Decision
block_or None later = later
block_or (Some g) later = Block g

-- all steps over sound stores, in their order, before exit or after it;
-- `speaking` is the chosen entry, none where none is chosen or the engine is disabled
unfoldable pub decision : Bool → Option Bytes → Bytes → Bytes → Request → Decision
decision exited speaking nv vol r =
    refuse_or (request_status exited r)
    (block_or (ground_by speaking (lookup nv vol) r) (write_decision exited nv vol (lookup nv vol r.variable) r))

-- the status of a decision
abbrev pub decision_status : Decision → Status
decision_status (Refuse n) = n
decision_status (Block g) = ground_status g
decision_status Delete = Success
decision_status Keep = Success
decision_status Store = Success

-- the store is the one that the attributes name
abbrev pub is_store_of : Bool → ℕ → Bool
is_store_of true a = has_nv a
is_store_of false a = not (has_nv a)

-- what a decision leaves in a store: step 10 and deletions; `found` is what was found of the request's variable
unfoldable pub decision_store : Decision → Bool → Bytes → Option Bytes → Request → Bytes
decision_store (Refuse n) non_volatile s found r = s
decision_store (Block g) non_volatile s found r = s
decision_store Delete non_volatile s found r = without_variable non_volatile s r.variable
decision_store Keep non_volatile s found r = s
decision_store Store non_volatile s found r =
    cond (is_store_of non_volatile r.attributes) (with_record non_volatile s r.variable (record_after found r)) s
