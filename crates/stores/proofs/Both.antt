-- The scans and the tests behind them together. Assumes nothing.
use Prim.Native.Nat.{ℕ, ◌≤◌, ◌<◌}
use mathlib.Core.Path.{◌≡◌, refl, sym, subst, subst⁻¹, ◌∙◌}
use mathlib.Core.List.{List, [], ◌++◌}
use mathlib.Core.Bool.{Bool, true, false, ◌&&◌}
use native.Mathlib.Omega.{arith}
use native.Mathlib.Nat.{le_refl}
use lib.ListN.{length, drop}
use borrow.Author.Tests.{lt-leb, le-leb}
use Rattle.limits.specs.Limits.{max_store}
use Rattle.slices.specs.Test.{◌and◌}
use Rattle.slices.proofs.TestLaws.{and_no, and_off, and_yes, and_eager}
use Rattle.slices.specs.Bytes.{Bytes, part, all_are}
use Rattle.slices.proofs.PartLaws.{part_rest}
use Rattle.slices.specs.Chunks.{distinct}
use Rattle.slices.proofs.ItemsLaws.{distinct_left}
use Rattle.store.specs.Record.{same_variable}
use Rattle.store.specs.Store.{records_of, end_of, store_ok}
use Rattle.store.proofs.StoreLaws.{end_of-within}
use Rattle.stores.specs.Pair.{all_records, ends_of, sound, sound_alone, pair_check}
use Rattle.slices.proofs.ChunksLaws.{nil}
use Rattle.stores.specs.Filter.{slots, Filter, scanned}
use Rattle.std.specs.Prelude.{Option, Some, None, cond}
use Rattle.std.specs.Bool.{then_some}

-- what an answer of a scan says
pub record Ended (non_volatile : Bool) (s : Bytes) (os : List Bytes) (k : ℕ) : Type 0 where
  pub free : distinct same_variable (os ++ records_of non_volatile s) ≡ true
  pub is : k ≡ end_of non_volatile s
  pub within : k ≤ length s

module _ (non_volatile : Bool) (s : Bytes) (os : List Bytes) where
  pub ends_at : (k : ℕ) → scanned non_volatile s os ≡ Some k → Ended non_volatile s os k
  unfolding scanned
  ends_at k e = go (distinct same_variable (os ++ records_of non_volatile s)) refl
    where
      go : (b : Bool) → distinct same_variable (os ++ records_of non_volatile s) ≡ b → Ended non_volatile s os k
      go true q =
          let f : Some (end_of non_volatile s) ≡ Some k = rw q at e in
          let g : k ≡ end_of non_volatile s = cc in
          record { free = q; is = g; within = rw g (end_of-within non_volatile s) }
      go false q = let f : ◌≡◌ {A = Option ℕ} None (Some k) = rw q at e in absurd (let z : ◌≡◌ {A = ℕ} 0 1 = cc in omega arith)

  pub repeated_in : scanned non_volatile s os ≡ None → distinct same_variable (os ++ records_of non_volatile s) ≡ false
  unfolding scanned
  repeated_in e = go (distinct same_variable (os ++ records_of non_volatile s)) refl
    where
      go : (b : Bool) → distinct same_variable (os ++ records_of non_volatile s) ≡ b → distinct same_variable (os ++ records_of non_volatile s) ≡ false
      go true q = let f : ◌≡◌ {A = Option ℕ} (Some (end_of non_volatile s)) None = rw q at e in absurd (let z : ◌≡◌ {A = ℕ} 0 1 = cc in omega arith)
      go false q = q

-- no record at all: no variable twice, and a filter of zeros has them
pub empty_met : {os : List Bytes} {t : Bytes} → os ≡ [] → length t ≡ slots → (distinct same_variable os ≡ true) × Filter t os
unfolding distinct
empty_met {t = t} e h = subst⁻¹ (λ os. (distinct same_variable os ≡ true) × Filter t os) e (refl, record { room = h; marks = nil })

-- the records of a store that was scanned behind none, and the filter that has them
pub first_met : {os rs : List Bytes} {t : Bytes} → os ≡ [] → distinct same_variable rs ≡ true → (distinct same_variable (os ++ rs) ≡ true → Filter t (os ++ rs))
    → (distinct same_variable rs ≡ true) × Filter t rs
first_met {rs = rs} {t} e d f = (d, subst (λ os. distinct same_variable (os ++ rs) ≡ true → Filter t (os ++ rs)) e f d)

-- a store's own test, from the bytes behind its records
free_is : {x : Bool} {k : ℕ} (non_volatile : Bool) (s : Bytes) → length s ≤ max_store → k ≡ end_of non_volatile s → x ≡ all_are 255 (part k (length s) s) → store_ok non_volatile s ≡ x
unfolding store_ok ◌and◌
free_is {x} {k} non_volatile s h p e = rw (le-leb (length s) max_store h, e, part_rest k (length s) s (le_refl (length s)), p)

long : (non_volatile : Bool) (s : Bytes) → max_store < length s → store_ok non_volatile s ≡ false
unfolding store_ok
long non_volatile s h = rw (lt-leb (length s) max_store h) (and_off (all_are 255 (drop (end_of non_volatile s) s)))

module _ (nv vol : Bytes) where
  unsound : sound nv vol ≡ false → None ≡ pair_check nv vol
  unfolding pair_check
  unsound e = rw e

  pub long_first : max_store < length nv → None ≡ pair_check nv vol
  unfolding sound
  long_first h = unsound (rw (long true nv h) (and_off _))

  pub long_second : max_store < length vol → None ≡ pair_check nv vol
  unfolding sound ◌and◌
  long_second h = unsound (rw (long false vol h) (and_no (store_ok true nv)))

  twice : distinct same_variable (all_records nv vol) ≡ false → None ≡ pair_check nv vol
  unfolding sound
  twice h = unsound (rw (h, and_no (store_ok false vol)) (and_no (store_ok true nv)))

  pub repeated_first : distinct same_variable (records_of true nv) ≡ false → None ≡ pair_check nv vol
  repeated_first h = twice (go (distinct same_variable (all_records nv vol)) refl)
    where
      go : (b : Bool) → distinct same_variable (all_records nv vol) ≡ b → distinct same_variable (all_records nv vol) ≡ false
      go true q = absurd (let k = sym (distinct_left same_variable (records_of true nv) (records_of false vol) q) ∙ h in let z : ◌≡◌ {A = ℕ} 0 1 = cc in omega arith)
      go false q = q

  pub repeated_second : distinct same_variable (all_records nv vol) ≡ false → None ≡ pair_check nv vol
  repeated_second h = twice h

  module _ {x y : Bool} {i j : ℕ} (h : length nv ≤ max_store) (k : length vol ≤ max_store) (p : i ≡ end_of true nv) (q : Ended false vol (records_of true nv) j)
      (e : x ≡ all_are 255 (part i (length nv) nv)) (f : y ≡ all_are 255 (part j (length vol) vol)) where
    both_are : sound nv vol ≡ (x && y)
    unfolding sound
    both_are = rw (free_is true nv h p e, free_is false vol k q.is f, q.free, and_yes y) (sym (and_eager x y))

    pub check_sound : (x && y) ≡ true → Some (record { nv = i; vol = j }) ≡ pair_check nv vol
    unfolding pair_check
    check_sound z = rw (both_are ∙ z, p, q.is)

    pub check_unsound : (x && y) ≡ false → None ≡ pair_check nv vol
    check_unsound z = unsound (both_are ∙ z)

    pub check_is : then_some (x && y) (record { nv = i; vol = j }) ≡ pair_check nv vol
    unfolding pair_check
    check_is = rw (both_are, p, q.is) (go (x && y))
      where
        go : (b : Bool) → then_some b (ends_of nv vol) ≡ cond b (Some (ends_of nv vol)) None
        go true = refl
        go false = refl

-- the non-volatile store alone
pub long_alone : (nv : Bytes) → max_store < length nv → false ≡ sound_alone nv
unfolding sound_alone
long_alone nv h = sym (rw (long true nv h) (and_off (distinct same_variable (records_of true nv))))

pub repeated_alone : (nv : Bytes) → distinct same_variable (records_of true nv) ≡ false → false ≡ sound_alone nv
unfolding sound_alone
repeated_alone nv h = sym (rw h (and_no (store_ok true nv)))

pub check_alone : {x : Bool} {i : ℕ} (nv : Bytes) → length nv ≤ max_store → Ended true nv [] i → x ≡ all_are 255 (part i (length nv) nv) → x ≡ sound_alone nv
unfolding sound_alone
check_alone {x} nv h p e = sym (rw (free_is true nv h p.is e, p.free) (and_yes x))
