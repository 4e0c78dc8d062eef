-- The limits (RULES.md, 11), once for the rules; `src/lib.rt` has those that the code compares with.
-- Assumes nothing: these are definitions.
use Rattle.std.specs.Prelude.{ℕ, suc, ◌+◌, ◌*◌}

-- a name has 1 to 64 units, without its closing zero unit
abbrev pub max_units : ℕ
max_units = 64

abbrev pub max_name_bytes : ℕ
max_name_bytes = 2 * max_units

-- NameSize counts the closing zero unit: 4 to 130
abbrev pub max_name_size : ℕ
max_name_size = max_name_bytes + 2

-- the rank of an entry for a whole namespace: behind that of 64 '#'
abbrev pub whole_namespace_rank : ℕ
whole_namespace_rank = suc max_units

-- behind every rank: no entry
abbrev pub no_rank : ℕ
no_rank = suc whole_namespace_rank

-- the bytes of a namespace
abbrev pub namespace_bytes : ℕ
namespace_bytes = 16

-- the Version of an entry
abbrev pub entry_version : ℕ
entry_version = 0x10000

-- the byte at which each field of an entry begins; the namespace ends where MinSize begins
abbrev pub version_at : ℕ
version_at = 0

abbrev pub size_at : ℕ
size_at = 4

abbrev pub offset_to_name_at : ℕ
offset_to_name_at = 6

abbrev pub namespace_at : ℕ
namespace_at = 8

abbrev pub min_size_at : ℕ
min_size_at = 24

abbrev pub max_size_at : ℕ
max_size_at = 28

abbrev pub must_have_at : ℕ
must_have_at = 32

abbrev pub cant_have_at : ℕ
cant_have_at = 36

abbrev pub lock_type_at : ℕ
lock_type_at = 40

-- an entry has 44 bytes before what its lock type and its name add
abbrev pub entry_header : ℕ
entry_header = 44

-- the fields that lock type 3 adds; the trigger's namespace ends where its Value begins, its name, with its zero unit, at OffsetToName
abbrev pub trigger_namespace_at : ℕ
trigger_namespace_at = 44

abbrev pub trigger_value_at : ℕ
trigger_value_at = 60

abbrev pub trigger_name_at : ℕ
trigger_name_at = 62

-- the most bytes of an entry: 322
abbrev pub max_entry_bytes : ℕ
max_entry_bytes = trigger_name_at + max_name_size + max_name_size

-- the most entries of an engine
abbrev pub max_entries : ℕ
max_entries = 128

-- the most that their Sizes sum to, which is the length of the policy record
abbrev pub policy_bytes : ℕ
policy_bytes = 16384

-- the most bytes of a piece in which a dump arrives
abbrev pub max_piece : ℕ
max_piece = 4096

-- the most links from a settled variable to the last trigger
abbrev pub max_links : ℕ
max_links = 16

-- the attribute bits that a request may have
abbrev pub known_attributes : ℕ
known_attributes = 0x47

-- the most bytes of a payload
abbrev pub max_payload : ℕ
max_payload = 1024

-- the bytes of a record before its name, and the state of one that is complete
abbrev pub record_header : ℕ
record_header = 32

abbrev pub record_added : ℕ
record_added = 0x3F

-- the most bytes of a store
abbrev pub max_store : ℕ
max_store = 32768
