-- The bytes of a dump (RULES.md, 10.11). Assumes nothing: these are definitions.
use Rattle.std.specs.Prelude.{Bool, Option, length, eqb, leb}
use Rattle.std.specs.Bool.{then_some}
use Rattle.limits.specs.Limits.{max_entries, policy_bytes}
use Rattle.slices.specs.Test.{◌and◌}
use Rattle.slices.specs.Bytes.{Bytes}
use Rattle.slices.specs.Chunks.{distinct}
use Rattle.entry.specs.Entry.{same_target}
use Rattle.policy.specs.declared.Extent.{Extent}
use Rattle.policy.specs.Policy.{entries_of, sizes_sum, extent_of}

-- well-formed entries end to end and nothing behind them, within the limits of a policy record, no two for one namespace and name
unfoldable pub dump_valid : Bytes → Bool
dump_valid d =
    leb (length d) policy_bytes
    and leb (length (entries_of d)) max_entries
    and eqb (sizes_sum d) (length d)
    and distinct same_target (entries_of d)

unfoldable pub dump_check : Bytes → Option Extent
dump_check d = then_some (dump_valid d) (extent_of d)
