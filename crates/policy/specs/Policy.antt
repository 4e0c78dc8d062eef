-- The policy record (RULES.md, 7): `policy_bytes` of well-formed entries, no two for one namespace and name, and zeros behind them.
-- Assumes nothing: these are definitions.
use Rattle.std.specs.Prelude.{ℕ, List, [], Bool, Option, cond, length, take, drop, eqb, leb}
use Rattle.std.specs.Bool.{then_some}
use Rattle.limits.specs.Limits.{max_entries, policy_bytes}
use Rattle.slices.specs.Test.{◌and◌}
use Rattle.slices.specs.Bytes.{Bytes, all_are}
use Rattle.slices.specs.Chunks.{chunks, used, packed, distinct}
use Rattle.entry.specs.Entry.{size_field, well_formed, same_target}
use Rattle.policy.specs.declared.Extent.{Extent}

-- the length of the entry that the bytes begin with, or 0; `ok` tells what a well-formed entry is, and differs between editions
unfoldable pub length_by : (Bytes → Bool) → Bytes → ℕ
length_by ok p = cond (leb (size_field p) (length p) and ok (take (size_field p) p)) (size_field p) 0

-- by today's rule
abbrev pub entry_length : Bytes → ℕ
entry_length = length_by well_formed

-- the entries of a policy record, each as its bytes, in the order registered
abbrev pub entries_of : Bytes → List Bytes
entries_of p = chunks entry_length p

-- the sum of Sizes
abbrev pub sizes_sum : Bytes → ℕ
sizes_sum p = used entry_length p

-- the record of a list of entries
abbrev pub pack_policy : List Bytes → Bytes
pack_policy es = packed policy_bytes 0 es

-- a record without entries
abbrev pub empty_policy : Bytes
empty_policy = pack_policy []

-- valid by the rule `ok` and under limits: a record of `bytes` bytes, at most `most` entries
unfoldable pub valid_within : (Bytes → Bool) → ℕ → ℕ → Bytes → Bool
valid_within ok most bytes p =
    eqb (length p) bytes
    and leb (length (chunks (length_by ok) p)) most
    and all_are 0 (drop (used (length_by ok) p) p)
    and distinct same_target (chunks (length_by ok) p)

-- valid (RULES.md, 7): not a ground for 10
abbrev pub policy_valid : Bytes → Bool
policy_valid p = valid_within well_formed max_entries policy_bytes p

-- how many entries, and how many bytes they take
abbrev pub extent_of : Bytes → Extent
extent_of p = record { count = length (entries_of p); used = sizes_sum p }

-- what the check answers of bytes that are to be as many as `bytes`
unfoldable pub check_within : ℕ → Bytes → Option Extent
check_within bytes p = then_some (valid_within well_formed max_entries bytes p) (extent_of p)

abbrev pub policy_check : Bytes → Option Extent
policy_check p = check_within policy_bytes p
