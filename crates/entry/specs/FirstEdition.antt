-- What a well-formed entry was in the first edition, and until E7: '#' in its trigger's name did not matter. Only claims about its dumps use this.
-- An entry is well formed today exactly if it was then and its trigger's name has no '#': `since_first` (FirstEditionLaws.antt).
-- Assumes nothing: these are definitions.
use Rattle.std.specs.Prelude.{Bool, not, cond, length, eqb, leb}
use Rattle.limits.specs.Limits.{entry_header, trigger_name_at}
use Rattle.slices.specs.Test.{◌and◌}
use Rattle.slices.specs.Bytes.{Bytes, part}
use Rattle.names.specs.Name.{units, is_terminated, wildcards}
use Rattle.entry.specs.Entry.{header_ok, name_ok, offset_to_name, lock_policy_type, trigger_of}

-- its lock part: for type 3 a trigger, whose name with its zero unit ends at OffsetToName
unfoldable pub first_lock_ok : Bytes → Bool
first_lock_ok e =
    cond (leb (lock_policy_type e) 2) (eqb (offset_to_name e) entry_header)
    (eqb (lock_policy_type e) 3
    and leb trigger_name_at (offset_to_name e) and leb (offset_to_name e) (length e) and is_terminated (part trigger_name_at (offset_to_name e) e))

-- header and name have not changed since
unfoldable pub first_well_formed : Bytes → Bool
first_well_formed e = header_ok e and first_lock_ok e and name_ok e

-- what E7 refuses: an entry of type 3 with '#' in its trigger's name
unfoldable pub sign_in_trigger : Bytes → Bool
sign_in_trigger e = not (leb (lock_policy_type e) 2) and not (eqb (wildcards (units (trigger_of e).name)) 0)
