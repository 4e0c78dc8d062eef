-- The two stores: the non-volatile one and the volatile one.
-- Assumes nothing: these are definitions.
use Rattle.std.specs.Prelude.{List, ◌++◌, Bool, true, false, cond, Option, Some, None}
use Rattle.std.proofs.Math.Option as maybe
use Rattle.slices.specs.Test.{◌and◌}
use Rattle.slices.specs.Bytes.{Bytes}
use Rattle.slices.specs.Chunks.{distinct, find}
use Rattle.names.specs.Name.{Variable}
use Rattle.store.specs.Record.{same_variable, is_of}
use Rattle.store.specs.Store.{records_of, end_of, store_ok}
use Rattle.stores.specs.declared.Ends.{Ends}

-- the records of both stores
abbrev pub all_records : Bytes → Bytes → List Bytes
all_records nv vol = records_of true nv ++ records_of false vol

-- sound (RULES.md, 6.3): both stores hold records and then 0xFF, and no two records of the pair are of one variable
unfoldable pub sound : Bytes → Bytes → Bool
sound nv vol = store_ok true nv and store_ok false vol and distinct same_variable (all_records nv vol)

-- the non-volatile store sound, whatever the volatile one holds: what power-on asks
unfoldable pub sound_alone : Bytes → Bool
sound_alone nv = store_ok true nv and distinct same_variable (records_of true nv)

-- where the records of each store end
abbrev pub ends_of : Bytes → Bytes → Ends
ends_of nv vol = record { nv = end_of true nv; vol = end_of false vol }

-- what the check of the pair finds: where the records end, if it is sound
unfoldable pub pair_check : Bytes → Bytes → Option Ends
pair_check nv vol = cond (sound nv vol) (Some (ends_of nv vol)) None

-- the variable's record, in whichever store holds it
unfoldable pub lookup : Bytes → Bytes → Variable → maybe.Option Bytes
lookup nv vol v = find (is_of v) (all_records nv vol)
