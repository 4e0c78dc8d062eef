-- What is answered and what is written, by what was tested. Assumes nothing.
use Prim.Native.Nat.{ℕ, ◌+◌, ◌<◌}
use mathlib.Core.Path.{◌≡◌, ap, ◌∙◌}
use mathlib.Core.Bool.{Bool, true, false, cond}
use lib.Dec.{leb}
use lib.ListN.{length, take, drop, replicate}
use borrow.Author.Tests.{eq-eqb, ne_eqb, le-leb, lt-leb}
use Rattle.limits.specs.Limits.{record_header}
use Rattle.slices.specs.Test.{◌and◌}
use Rattle.slices.proofs.TestLaws.{and_no}
use Rattle.slices.specs.Bytes.{Bytes, overwrite}
use Rattle.names.specs.Name.{Variable}
use Rattle.store.specs.Record.{name_size, data_size, variable_of}
use Rattle.store.specs.Parts.{HeaderFits}
use Rattle.store.specs.declared.Found.{Found}
use Rattle.std.specs.Prelude.{Option, None}
use Rattle.stores.specs.Pair.{sound}
use Rattle.stores.specs.Filter.{hash_of, slot_of}
use Rattle.stores.specs.declared.Place.{Place}
use Rattle.stores.specs.Place.{place_in}
use Rattle.bench_parts.specs.declared.Numbers.{Numbers}
use Rattle.bench_parts.specs.Parts.{nothing, of_found, of_place, if_asked, found_in, slot_in, filled, copied, moved}

-- ---- the answer of a place
pub place_is : (p : Place) {nonvolatile : Bool} {found : Option Found} → p.nonvolatile ≡ nonvolatile → p.found ≡ found
    → of_found (cond nonvolatile 1 2) found ≡ of_place p
place_is p e h = rw (e, h)

pub place_absent : (p : Place) → p.found ≡ None → nothing ≡ of_place p
place_absent p h = rw h

-- ---- the answer behind a check
module _ (ok : Bool) (v : Variable) (found : Numbers) where
  pub not_ok : ok ≡ false → nothing ≡ if_asked ok v found
  unfolding if_asked ◌and◌
  not_ok e = rw e

  pub not_asked : length v.name ≡ 0 → nothing ≡ if_asked ok v found
  unfolding if_asked
  not_asked e = rw (eq-eqb (length v.name) 0 e, and_no ok)

  pub asked : {a : Numbers} → ok ≡ true → (length v.name ≡ 0 → ⊥) → a ≡ found → a ≡ if_asked ok v found
  unfolding if_asked ◌and◌
  asked e h k = rw (e, ne_eqb (length v.name) 0 h) k

-- the place in sound stores
pub found_is : (nv vol : Bytes) (v : Variable) {p : Place} {a : Numbers} → sound nv vol ≡ true → (length v.name ≡ 0 → ⊥) → p ≡ place_in nv vol v
    → a ≡ of_place p → a ≡ found_in nv vol v
found_is nv vol v s h e k = asked (sound nv vol) v (of_place (place_in nv vol v)) s h (k ∙ ap of_place e)

-- ---- the slot of a record
module _ (r : Bytes) where
  pub slot_short : length r < record_header → 0 ≡ slot_in r
  unfolding slot_in ◌and◌
  slot_short h = rw (lt-leb record_header (length r) h)

  pub slot_nameless : name_size r < 4 → 0 ≡ slot_in r
  unfolding slot_in ◌and◌
  slot_nameless h = rw (lt-leb 4 (name_size r) h, and_no (leb record_header (length r)))

  pub slot_cut : length r < record_header + name_size r + data_size r → 0 ≡ slot_in r
  unfolding slot_in
  slot_cut h = rw (lt-leb (record_header + name_size r + data_size r) (length r) h, and_no (leb 4 (name_size r)), and_no (leb record_header (length r)))

  pub slot_is : HeaderFits r → slot_of (hash_of (variable_of r)) ≡ slot_in r
  unfolding slot_in ◌and◌
  slot_is h = rw (le-leb record_header (length r) h.head, le-leb 4 (name_size r) h.low, le-leb (record_header + name_size r + data_size r) (length r) h.fits)

-- ---- what is written behind a test
module _ (s : Bytes) (at n v : ℕ) where
  pub fill_done : {t : Bytes} → leb (at + n) (length s) ≡ true → t ≡ overwrite s at (replicate n v) → t ≡ filled s at n v
  unfolding filled
  fill_done e h = rw e h

  pub fill_kept : leb (at + n) (length s) ≡ false → s ≡ filled s at n v
  unfolding filled
  fill_kept e = rw e

module _ (s : Bytes) (at : ℕ) (src : Bytes) where
  pub copy_done : {t : Bytes} → leb (at + length src) (length s) ≡ true → t ≡ overwrite s at src → t ≡ copied s at src
  unfolding copied
  copy_done e h = rw e h

  pub copy_kept : leb (at + length src) (length s) ≡ false → s ≡ copied s at src
  unfolding copied
  copy_kept e = rw e

module _ (s : Bytes) (from to n : ℕ) where
  pub move_done : {t : Bytes} → leb (from + n) (length s) ≡ true → leb (to + n) (length s) ≡ true
      → t ≡ overwrite s to (take n (drop from s)) → t ≡ moved s from to n
  unfolding moved ◌and◌
  move_done e f h = rw (e, f) h

  pub move_from : leb (from + n) (length s) ≡ false → s ≡ moved s from to n
  unfolding moved ◌and◌
  move_from e = rw e

  pub move_to : leb (to + n) (length s) ≡ false → s ≡ moved s from to n
  unfolding moved
  move_to e = rw (e, and_no (leb (from + n) (length s)))
