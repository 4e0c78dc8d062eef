-- The hash of a record's variable. Assumes nothing.
use Prim.Native.Nat.{ℕ, ◌*◌, ◌%◌}
use mathlib.Core.Path.{◌≡◌}
use Rattle.slices.specs.Bytes.{Bytes}
use Rattle.slices.specs.Hash.{hash_from}
use Rattle.store.specs.Record.{namespace_of, name_of, variable_of}
use Rattle.stores.specs.Filter.{hash_of}

pub hash_is : {x y : ℕ} {g u : Bytes} (r : Bytes) → g ≡ namespace_of r → u ≡ name_of r → x ≡ hash_from 0 g → y ≡ hash_from x u
    → y % 4294967296 * 2654435761 ≡ hash_of (variable_of r)
unfolding hash_of
hash_is r a b p q = rw (q, p, a, b)
