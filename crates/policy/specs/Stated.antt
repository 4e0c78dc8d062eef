-- Entries that are told apart by their Size alone: for bytes of which nothing is known (RULES.md, 10.12). Assumes nothing: these are definitions.
use Rattle.std.specs.Prelude.{ℕ, List, Bool, cond, length, leb}
use Rattle.limits.specs.Limits.{entry_header}
use Rattle.slices.specs.Test.{◌and◌}
use Rattle.slices.specs.Bytes.{Bytes}
use Rattle.slices.specs.Chunks.{chunks}
use Rattle.entry.specs.Entry.{size_field, well_formed, same_target}

-- as many bytes as the Size says that the bytes have, if they are there and at least a header; else 0
unfoldable pub stated_length : Bytes → ℕ
stated_length p = cond (leb entry_header (size_field p) and leb (size_field p) (length p)) (size_field p) 0

abbrev pub stated_of : Bytes → List Bytes
stated_of p = chunks stated_length p

-- f is a well-formed entry and has the namespace and the name of e
unfoldable pub repeats : Bytes → Bytes → Bool
repeats e f = well_formed f and same_target e f
