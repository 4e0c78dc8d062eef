-- The packed entry (RULES.md, 3): when its bytes are well formed, and what they say.
-- Assumes nothing: these are definitions.
use Rattle.std.specs.Prelude.{ℕ, ◌-◌, Bool, Option, Some, None, cond, ◌||◌, length, get_or, eqb, leb}
use Rattle.std.specs.Int.Bits.{bit_and}
use Rattle.limits.specs.Limits.{
  whole_namespace_rank,
  entry_version,
  version_at,
  size_at,
  offset_to_name_at,
  namespace_at,
  min_size_at,
  max_size_at,
  must_have_at,
  cant_have_at,
  lock_type_at,
  entry_header,
  trigger_namespace_at,
  trigger_value_at,
  trigger_name_at,
}
use Rattle.slices.specs.Test.{◌and◌}
use Rattle.slices.specs.Bytes.{Bytes, le16, le32, part, same}
use Rattle.names.specs.Name.{Variable, is_terminated, is_plain_terminated, units, matches, wildcards}
use Rattle.entry.specs.declared.LockRule.{LockRule}
use Rattle.entry.specs.declared.LockRule.TheVariants.{NoLock, LockNow, LockOnCreate, LockOnVarState}
use Rattle.entry.specs.declared.Entry.{Entry}

-- the fields, at their places (RULES.md, 3.1)
abbrev pub version : Bytes → ℕ
version e = le32 e version_at

abbrev pub size_field : Bytes → ℕ
size_field e = le16 e size_at

abbrev pub offset_to_name : Bytes → ℕ
offset_to_name e = le16 e offset_to_name_at

abbrev pub namespace_of : Bytes → Bytes
namespace_of e = part namespace_at min_size_at e

abbrev pub min_size : Bytes → ℕ
min_size e = le32 e min_size_at

abbrev pub max_size : Bytes → ℕ
max_size e = le32 e max_size_at

abbrev pub attributes_must_have : Bytes → ℕ
attributes_must_have e = le32 e must_have_at

abbrev pub attributes_cant_have : Bytes → ℕ
attributes_cant_have e = le32 e cant_have_at

abbrev pub lock_policy_type : Bytes → ℕ
lock_policy_type e = get_or e lock_type_at 0

-- the header's rules: 44 bytes at least, Version 0x00010000, Size the length given, MinSize ≤ MaxSize, no common bit
unfoldable pub header_ok : Bytes → Bool
header_ok e =
    leb entry_header (length e)
    and eqb (version e) entry_version
    and eqb (size_field e) (length e)
    and leb (min_size e) (max_size e)
    and eqb (bit_and (attributes_must_have e) (attributes_cant_have e)) 0

-- the lock part (RULES.md, 3.2): none for types 0 to 2; for type 3 a trigger, whose name has no '#' and ends with its zero unit at OffsetToName
unfoldable pub lock_ok : Bytes → Bool
lock_ok e =
    cond (leb (lock_policy_type e) 2) (eqb (offset_to_name e) entry_header)
    (eqb (lock_policy_type e) 3
    and leb trigger_name_at (offset_to_name e) and leb (offset_to_name e) (length e) and is_plain_terminated (part trigger_name_at (offset_to_name e) e))

-- the entry's name from OffsetToName to Size: empty, or a name with its zero unit
abbrev pub name_is_empty : Bytes → Bool
name_is_empty e = eqb (offset_to_name e) (length e)

unfoldable pub name_ok : Bytes → Bool
name_ok e = leb (offset_to_name e) (length e) and (name_is_empty e || is_terminated (part (offset_to_name e) (length e) e))

-- not malformed
unfoldable pub well_formed : Bytes → Bool
well_formed e = header_ok e and lock_ok e and name_ok e

-- the bytes of the entry's name without its zero unit; of an empty name, none
unfoldable pub name_of : Bytes → Bytes
name_of e = part (offset_to_name e) (length e - 2) e

-- of a type 3 entry: the variable that its lock watches, and the Value
unfoldable pub trigger_of : Bytes → Variable
trigger_of e = record { namespace = part trigger_namespace_at trigger_value_at e; name = part trigger_name_at (offset_to_name e - 2) e }

abbrev pub trigger_value : Bytes → ℕ
trigger_value e = get_or e trigger_value_at 0

-- the lock rule of a well-formed entry
unfoldable pub lock_of : Bytes → LockRule
lock_of e =
    cond (eqb (lock_policy_type e) 0) NoLock
    (cond (eqb (lock_policy_type e) 1) LockNow
    (cond (eqb (lock_policy_type e) 2) LockOnCreate
    (LockOnVarState (record { value = trigger_value e; namespace = trigger_namespace_at; name = trigger_name_at; name_end = offset_to_name e - 2 }))))

unfoldable pub entry_of : Bytes → Entry
entry_of e =
    record {
      size = length e;
      offset_to_name = offset_to_name e;
      min_size = min_size e;
      max_size = max_size e;
      attributes_must_have = attributes_must_have e;
      attributes_cant_have = attributes_cant_have e;
      lock = lock_of e;
    }

-- what a well-formed entry says
unfoldable pub parse : Bytes → Option Entry
parse e = cond (well_formed e) (Some (entry_of e)) None

-- targets (RULES.md, 4.1): one namespace for both, and a pattern that is empty or matches the name unit by unit
unfoldable pub targets : Bytes → Variable → Bool
targets e v = same (namespace_of e) v.namespace and (name_is_empty e || matches (units (name_of e)) (units v.name))

-- rank (RULES.md, 4.2) of a well-formed entry: how many '#' its name has; of a whole namespace, one more than any name can have
unfoldable pub rank : Bytes → ℕ
rank e = cond (name_is_empty e) whole_namespace_rank (wildcards (units (name_of e)))

-- the same entry name and namespace, of well-formed entries: what registration answers 20 to
unfoldable pub same_target : Bytes → Bytes → Bool
same_target e f = same (namespace_of e) (namespace_of f) and same (name_of e) (name_of f)
