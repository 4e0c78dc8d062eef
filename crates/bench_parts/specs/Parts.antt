-- What the measured parts answer: the definitions of the crates below, as numbers for C.
-- Assumes nothing: these are definitions.
use Rattle.std.specs.Prelude.{ℕ, ◌+◌, Bool, Option, Some, None, not, cond, eqb, leb, length, take, drop, replicate}
use Rattle.limits.specs.Limits.{record_header}
use Rattle.slices.specs.Test.{◌and◌}
use Rattle.slices.specs.Bytes.{Bytes, overwrite}
use Rattle.names.specs.Name.{Variable}
use Rattle.policy.specs.declared.Extent.{Extent}
use Rattle.policy.specs.declared.Chosen.{Chosen}
use Rattle.policy.specs.Policy.{entries_of, policy_valid}
use Rattle.policy.specs.Choice.{choice_of}
use Rattle.store.specs.Record.{name_size, data_size, variable_of}
use Rattle.store.specs.declared.Found.{Found}
use Rattle.stores.specs.declared.Ends.{Ends}
use Rattle.stores.specs.Pair.{sound}
use Rattle.stores.specs.Filter.{hash_of, slot_of}
use Rattle.stores.specs.declared.Place.{Place}
use Rattle.stores.specs.Place.{place_in}
use Rattle.bench_parts.specs.declared.Numbers.{Numbers}

-- not valid, not sound, or not found
abbrev pub nothing : Numbers
nothing = record { kind = 0; first = 0; second = 0 }

-- how many entries, and how many bytes they take
abbrev pub of_policy : Option Extent → Numbers
of_policy (Some x) = record { kind = 1; first = x.count; second = x.used }
of_policy None = nothing

-- the first byte of the entry in the record, and its rank
abbrev pub of_choice : Option Chosen → Numbers
of_choice (Some x) = record { kind = 1; first = x.at; second = x.rank }
of_choice None = nothing

-- where the records of each store end
abbrev pub of_pair : Option Ends → Numbers
of_pair (Some ends) = record { kind = 1; first = ends.nv; second = ends.vol }
of_pair None = nothing

-- the first byte of the record in the store of that kind, and its length
abbrev pub of_found : ℕ → Option Found → Numbers
of_found kind (Some f) = record { kind = kind; first = f.at; second = f.len }
of_found kind None = nothing

-- the same of a place: 1 is the non-volatile store, 2 the volatile one
abbrev pub of_place : Place → Numbers
of_place p = of_found (cond p.nonvolatile 1 2) p.found

-- what is found, if the check holds and the variable's name is not empty
unfoldable pub if_asked : Bool → Variable → Numbers → Numbers
if_asked ok v found = cond (ok and not (eqb (length v.name) 0)) found nothing

-- the choice of a valid record
abbrev pub chosen_in : Bytes → Variable → Numbers
chosen_in p v = if_asked (policy_valid p) v (of_choice (choice_of (entries_of p) v))

-- the place in sound stores
abbrev pub found_in : Bytes → Bytes → Variable → Numbers
found_in nv vol v = if_asked (sound nv vol) v (of_place (place_in nv vol v))

-- the slot of a record in the filter, where its name and payload lie within the bytes, and 0 where they do not
unfoldable pub slot_in : Bytes → ℕ
slot_in r =
    cond (leb record_header (length r) and leb 4 (name_size r) and leb (record_header + name_size r + data_size r) (length r)) (slot_of (hash_of (variable_of r))) 0

-- n bytes from index at on set to v, where they lie within s
unfoldable pub filled : Bytes → ℕ → ℕ → ℕ → Bytes
filled s at n v = cond (leb (at + n) (length s)) (overwrite s at (replicate n v)) s

-- src copied to index at, where it lies within s
unfoldable pub copied : Bytes → ℕ → Bytes → Bytes
copied s at src = cond (leb (at + length src) (length s)) (overwrite s at src) s

-- n bytes moved from index from to index to, where both lie within s
unfoldable pub moved : Bytes → ℕ → ℕ → ℕ → Bytes
moved s from to n = cond (leb (from + n) (length s) and leb (to + n) (length s)) (overwrite s to (take n (drop from s))) s
