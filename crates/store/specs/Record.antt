-- A variable's record (RULES.md, 6.1), as its bytes.
-- Assumes nothing: these are definitions.
use Rattle.std.specs.Prelude.{ℕ, ◌+◌, ◌-◌, ◌*◌, ◌/◌, ◌%◌, [], ◌∷◌, ◌++◌, Bool, true, false, cond, length, take, drop, replicate, eqb, leb}
use Rattle.limits.specs.Limits.{max_name_size, max_payload, record_added, record_header}
use Rattle.slices.specs.Test.{◌and◌}
use Rattle.slices.specs.Bytes.{Bytes, le32, le32_bytes, part, same, all_are}
use Rattle.names.specs.Name.{Variable, is_terminated}

-- the bits of an attribute word (RULES.md, 2.3)
abbrev pub has_nv : ℕ → Bool
has_nv a = eqb (a % 2) 1

abbrev pub has_bs : ℕ → Bool
has_bs a = eqb (a / 2 % 2) 1

abbrev pub has_rt : ℕ → Bool
has_rt a = eqb (a / 4 % 2) 1

abbrev pub has_append : ℕ → Bool
has_append a = eqb (a / 64 % 2) 1

-- the fields of a record
abbrev pub attributes_of : Bytes → ℕ
attributes_of r = le32 r 4

abbrev pub name_size : Bytes → ℕ
name_size r = le32 r 8

abbrev pub data_size : Bytes → ℕ
data_size r = le32 r 12

unfoldable pub namespace_of : Bytes → Bytes
namespace_of r = part 16 record_header r

-- the name without its closing zero unit
unfoldable pub name_of : Bytes → Bytes
name_of r = part record_header (record_header - 2 + name_size r) r

unfoldable pub payload_of : Bytes → Bytes
payload_of r = part (record_header + name_size r) (record_header + name_size r + data_size r) r

-- how long the record is with a NameSize of n and a DataSize of d: a multiple of 4
abbrev pub record_size : ℕ → ℕ → ℕ
record_size n d = (record_header + 3 + n + d) / 4 * 4

-- stored attributes (RULES.md, 6.1): NV, BS and RT at most, always BS, and NV exactly in the non-volatile store
unfoldable pub attributes_ok : Bool → ℕ → Bool
attributes_ok true a = leb a 7 and has_bs a and has_nv a
attributes_ok false a = leb a 7 and has_bs a and eqb (a % 2) 0

-- 0x55AA, the state and a zero byte
abbrev pub record_mark : Bytes
record_mark = 0xAA ∷ 0x55 ∷ record_added ∷ 0 ∷ []

-- the header of a record
unfoldable pub header_ok : Bool → Bytes → Bool
header_ok non_volatile r =
    same (take 4 r) record_mark
    and attributes_ok non_volatile (attributes_of r)
    and leb 4 (name_size r) and leb (name_size r) max_name_size
    and leb 1 (data_size r) and leb (data_size r) max_payload

-- the name with its zero unit, and 0xFF behind the payload
unfoldable pub body_ok : Bytes → Bool
body_ok r = is_terminated (part record_header (record_header + name_size r) r) and all_are 255 (drop (record_header + name_size r + data_size r) r)

-- the bytes are one record of the store
unfoldable pub record_ok : Bool → Bytes → Bool
record_ok non_volatile r = eqb (length r) (record_size (name_size r) (data_size r)) and header_ok non_volatile r and body_ok r

-- the length of the record that the bytes begin with, or 0
unfoldable pub record_length : Bool → Bytes → ℕ
record_length non_volatile s =
    cond (leb (record_size (name_size s) (data_size s)) (length s)
    and record_ok non_volatile (take (record_size (name_size s) (data_size s)) s))
    (record_size (name_size s) (data_size s)) 0

-- the variable that a record is of
abbrev pub variable_of : Bytes → Variable
variable_of r = record { namespace = namespace_of r; name = name_of r }

-- a record of the variable
unfoldable pub is_of : Variable → Bytes → Bool
is_of v r = same (namespace_of r) v.namespace and same (name_of r) v.name

-- two records of one variable
abbrev pub same_variable : Bytes → Bytes → Bool
same_variable r = is_of (variable_of r)

-- the record of a variable: stored attributes, the variable, its payload
unfoldable pub encode_record : ℕ → Variable → Bytes → Bytes
encode_record attributes v payload =
    record_mark ++ le32_bytes attributes ++ le32_bytes (length v.name + 2) ++ le32_bytes (length payload)
    ++ v.namespace ++ v.name ++ (0 ∷ 0 ∷ []) ++ payload
    ++ replicate (record_size (length v.name + 2) (length payload) - (record_header + 2 + length v.name + length payload)) 255
