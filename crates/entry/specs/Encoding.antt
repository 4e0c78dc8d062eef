-- The packed entry as the encoding of its fields (RULES.md, 3), from its first byte to its last.
-- Assumes nothing: these are definitions.
use Rattle.std.specs.Prelude.{ℕ, ◌+◌, ◌≤◌, ◌<◌, ◌≡◌, [], ◌∷◌, ◌++◌, true, cond, ◌⊎◌, length, get_or, leb}
use Rattle.std.specs.Int.Bits.{bit_and}
use Rattle.limits.specs.Limits.{namespace_bytes, entry_version, entry_header}
use Rattle.lists.specs.Lists.{Among}
use Rattle.slices.specs.Bytes.{Bytes, le16_bytes, le32_bytes, part}
use Rattle.names.specs.Name.{units, is_name, number_sign}
use Rattle.entry.specs.Entry.{namespace_of, min_size, max_size, attributes_must_have, attributes_cant_have, lock_policy_type, name_of, trigger_of, trigger_value}

-- the lock rule: of types 0 to 2 the type; of type 3 the trigger's namespace, Value, the reserved byte, and its name without the zero unit
pub data Lock : Type 0 where
  plain : ℕ → Lock
  on_var_state : Bytes → ℕ → ℕ → Bytes → Lock

pub record Fields : Type 0 where
  pub namespace : Bytes
  pub min_size : ℕ
  pub max_size : ℕ
  pub must_have : ℕ
  pub cant_have : ℕ
  pub lock : Lock
  pub reserved : Bytes
  pub name : Bytes

abbrev pub type_of : Lock → ℕ
type_of (plain k) = k
type_of (on_var_state namespace value reserved name) = 3

-- a name with its zero unit; of an empty name, nothing
abbrev pub terminated : Bytes → Bytes
terminated [] = []
terminated (b ∷ l) = (b ∷ l) ++ (0 ∷ 0 ∷ [])

-- the bytes between the header and the entry's name
abbrev pub lock_bytes : Lock → Bytes
lock_bytes (plain k) = []
lock_bytes (on_var_state namespace value reserved name) = namespace ++ ((value ∷ reserved ∷ []) ++ (name ++ (0 ∷ 0 ∷ [])))

unfoldable pub offset_for : Fields → ℕ
offset_for f = entry_header + length (lock_bytes f.lock)

unfoldable pub size_for : Fields → ℕ
size_for f = offset_for f + length (terminated f.name)

-- from byte 24 on, from byte 40 on, and the whole
unfoldable pub encode_lock : Fields → Bytes
encode_lock f = type_of f.lock ∷ (f.reserved ++ (lock_bytes f.lock ++ terminated f.name))

unfoldable pub encode_numbers : Fields → Bytes
encode_numbers f = le32_bytes f.min_size ++ (le32_bytes f.max_size ++ (le32_bytes f.must_have ++ (le32_bytes f.cant_have ++ encode_lock f)))

unfoldable pub encode_entry : Fields → Bytes
encode_entry f = le32_bytes entry_version ++ (le16_bytes (size_for f) ++ (le16_bytes (offset_for f) ++ (f.namespace ++ encode_numbers f)))

-- in range (RULES.md, 3.1 and 3.2), field by field; a trigger's name has no '#'
abbrev pub LockInRange : Lock → Type 0
LockInRange (plain k) = k ≤ 2
LockInRange (on_var_state namespace value reserved name) = (length namespace ≡ namespace_bytes) × (is_name name ≡ true) × (Among number_sign (units name) → ⊥)

pub record InRange (f : Fields) : Type 0 where
  pub namespace : length f.namespace ≡ namespace_bytes
  pub sizes : f.min_size ≤ f.max_size
  pub maximum : f.max_size < 4294967296
  pub must : f.must_have < 4294967296
  pub cant : f.cant_have < 4294967296
  pub common : bit_and f.must_have f.cant_have ≡ 0
  pub lock : LockInRange f.lock
  pub reserved : length f.reserved ≡ 3
  pub name : (f.name ≡ []) ⊎ (is_name f.name ≡ true)

-- the fields of an entry
unfoldable pub lock_fields : Bytes → Lock
lock_fields e =
    cond (leb (lock_policy_type e) 2) (plain (lock_policy_type e))
    (on_var_state (trigger_of e).namespace (trigger_value e) (get_or e 61 0) (trigger_of e).name)

unfoldable pub fields_of : Bytes → Fields
fields_of e =
    record {
      namespace = namespace_of e;
      min_size = min_size e;
      max_size = max_size e;
      must_have = attributes_must_have e;
      cant_have = attributes_cant_have e;
      lock = lock_fields e;
      reserved = part 41 44 e;
      name = name_of e;
    }
