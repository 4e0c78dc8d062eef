-- Laws of the filter and of the scan: what has been seen holds no variable twice, and the filter has it. Assumes nothing.
use Prim.Native.Nat.{ℕ, ◌+◌, ◌≤◌, ◌<◌}
use mathlib.Core.Path.{◌≡◌, refl, sym, ap, ◌∙◌}
use mathlib.Core.List.{List, [], ◌∷◌, ◌++◌, append_assoc, append-nil}
use mathlib.Core.Bool.{Bool, true, false, ◌||◌}
use native.Mathlib.Omega.{arith}
use lib.ListN.{length, get_or, take, drop, set, length-set}
use lib.Seq.{length-take-le, take-add, drop-drop}
use lib.Dec.{eqb}
use borrow.Author.Tests.{eqb-false}
use Rattle.slices.specs.Bytes.{Bytes, part}
use Rattle.slices.proofs.PartLaws.{part_of}
use Rattle.slices.specs.Filter.{joined}
use Rattle.slices.proofs.FilterLaws.{filter_met, filter_unmet}
use Rattle.slices.specs.Chunks.{flat, chunks, chunks_from, used, contains, distinct}
use Rattle.slices.proofs.ChunksLaws.{nil, more, flat_append, flat_one, chunks_stop, chunks_step, chunks_flat, chunks_items, item_first, at_within, used_here, used_again}
use Rattle.slices.proofs.ItemsLaws.{contains_append, all_append, or_left_off, or_right_off, distinct_append, distinct_repeated}
use Rattle.store.specs.Record.{namespace_of, name_of, record_length, variable_of, is_of, same_variable}
use Rattle.store.proofs.RecordLaws.{record_length-within, record_length-local, record_length-free}
use Rattle.store.proofs.VariableLaws.{is_of-variable, same_variable-sym, same_variable-like}
use Rattle.store.specs.Parts.{variable}
use Rattle.store.specs.Store.{records_of, end_of}
use Rattle.stores.specs.Filter.{slots, hash_of, slot_of, fingerprint_of, key_of, Filter, scanned}
use Rattle.std.specs.Prelude.{Some, None}

-- ---- the filter
key_like : (r q : Bytes) → same_variable r q ≡ true → key_of q ≡ key_of r
unfolding key_of
key_like r q e = ap hash_of (sym (is_of-variable (variable_of r) q e))

-- a slot that says neither its fingerprint nor several: the variable was not seen
clear : (t r : Bytes) (rs : List Bytes) → Filter t rs → (get_or t (slot_of (key_of r)) 0 ≡ 255 → ⊥) → (get_or t (slot_of (key_of r)) 0 ≡ fingerprint_of (key_of r) → ⊥)
    → contains (same_variable r) rs ≡ false
clear t r rs f = filter_unmet (λ q. slot_of (key_of q)) (λ q. fingerprint_of (key_of q)) same_variable
    (λ x y e. (ap slot_of (key_like x y e), ap fingerprint_of (key_like x y e))) t r rs f.marks

-- the filter after r was seen
filter_more : (t r : Bytes) (rs : List Bytes) → slot_of (key_of r) < length t → Filter t rs
    → Filter (set t (slot_of (key_of r)) (joined (get_or t (slot_of (key_of r)) 0) (fingerprint_of (key_of r)))) (rs ++ (r ∷ []))
filter_more t r rs h f =
    record {
      room = simp length-set f.room;
      marks = filter_met (λ q. slot_of (key_of q)) (λ q. fingerprint_of (key_of q)) (λ q. omega arith) t r rs h f.marks;
    }

-- ---- a scan that has come to the index at, behind the records os
pub record Seen (non_volatile : Bool) (at : ℕ) (s : Bytes) (os : List Bytes) (t : Bytes) : Type 0 where
  pub within : at ≤ length s
  pub end : end_of non_volatile s ≡ at + end_of non_volatile (drop at s)
  pub split : records_of non_volatile s ≡ records_of non_volatile (take at s) ++ records_of non_volatile (drop at s)
  pub whole : flat (records_of non_volatile (take at s)) ≡ take at s
  pub free : distinct same_variable (os ++ records_of non_volatile (take at s)) ≡ true
  pub filter : Filter t (os ++ records_of non_volatile (take at s))

pub seen_start : (non_volatile : Bool) (s : Bytes) (os : List Bytes) (t : Bytes) → distinct same_variable os ≡ true → Filter t os → Seen non_volatile 0 s os t
unfolding chunks chunks_from flat
seen_start non_volatile s os t d f =
    record { within = omega arith; end = omega arith; split = refl; whole = refl; free = rw append-nil d; filter = rw append-nil f }

module _ (non_volatile : Bool) (at n : ℕ) (s : Bytes) (os : List Bytes) (t : Bytes) (w : Seen non_volatile at s os t) (e : record_length non_volatile (drop at s) ≡ n) where
  abbrev first : Bytes → ℕ
  first = record_length non_volatile

  abbrev seen : List Bytes
  seen = records_of non_volatile (take at s)

  seen_end : n ≡ 0 → records_of non_volatile s ≡ seen
  seen_end z = w.split ∙ rw (chunks_stop first (drop at s) (e ∙ z)) (append-nil seen)

  module _ (h : 0 < n) where
    -- the record at hand
    abbrev r : Bytes
    r = take n (drop at s)

    here_is : records_of non_volatile s ≡ seen ++ (r ∷ records_of non_volatile (drop (at + n) s))
    here_is = w.split ∙ rw (chunks_step first (record_length-within non_volatile) n (drop at s) e h, drop-drop)

    bytes_one : take (at + n) s ≡ flat (seen ++ (r ∷ [])) ++ []
    bytes_one = rw (append-nil, flat_append seen (r ∷ []), flat_one, w.whole) (take-add at n s)

    grown : records_of non_volatile (take (at + n) s) ≡ seen ++ (r ∷ [])
    grown = ap (records_of non_volatile) bytes_one
        ∙ chunks_flat first (record_length-within non_volatile) (seen ++ (r ∷ [])) []
        (all_append seen (r ∷ []) (chunks_items first (record_length-within non_volatile) (record_length-local non_volatile) (take at s))
        (more (item_first first (record_length-within non_volatile) (record_length-local non_volatile) n (drop at s) e h) nil))
        (record_length-free non_volatile 0)

    one_more : os ++ records_of non_volatile (take (at + n) s) ≡ (os ++ seen) ++ (r ∷ [])
    one_more = ap (λ (rs : List Bytes). os ++ rs) grown ∙ sym (append_assoc os seen (r ∷ []))

    seen_more : (x : ℕ) → contains (same_variable r) (os ++ seen) ≡ false → slot_of (key_of r) < length t
        → x ≡ joined (get_or t (slot_of (key_of r)) 0) (fingerprint_of (key_of r)) → Seen non_volatile (at + n) s os (set t (slot_of (key_of r)) x)
    seen_more x a k q = record {
      within = at_within first (record_length-within non_volatile) at n s e w.within;
      end = used_again first (record_length-within non_volatile) at n s e h w.end;
      split = here_is ∙ sym (append_assoc seen (r ∷ []) (records_of non_volatile (drop (at + n) s))) ∙ rw grown;
      whole = ap flat grown ∙ sym (bytes_one ∙ append-nil (flat (seen ++ (r ∷ []))));
      free = rw one_more (distinct_append same_variable same_variable-sym same_variable-like r (os ++ seen) a w.free);
      filter = rw (one_more, q) (filter_more t r (os ++ seen) k w.filter);
    }

    -- ---- as the code says it
    pub repeated : {x : Bool} → x ≡ contains (same_variable r) (os ++ seen) → x ≡ true → distinct same_variable (os ++ records_of non_volatile s) ≡ false
    repeated q z =
        ap (λ (rs : List Bytes). distinct same_variable rs) (ap (λ (rs : List Bytes). os ++ rs) here_is ∙ sym (append_assoc os seen (r ∷ records_of non_volatile (drop (at + n) s))))
        ∙ distinct_repeated same_variable same_variable-sym (os ++ seen) r (records_of non_volatile (drop (at + n) s)) (sym q ∙ z)

    module _ {hh k f : ℕ} (a : hh ≡ key_of r) (b : k ≡ slot_of hh) (c : f ≡ fingerprint_of hh) where
      slot_is : k ≡ slot_of (key_of r)
      slot_is = rw a at b

      fingerprint_is : f ≡ fingerprint_of (key_of r)
      fingerprint_is = rw a at c

      pub unseen_filter : (eqb (get_or t k 0) 255 || eqb (get_or t k 0) f) ≡ false → contains (same_variable r) (os ++ seen) ≡ false
      unseen_filter z =
          let p : get_or t k 0 ≡ 255 → ⊥ = eqb-false _ _ (or_left_off (eqb (get_or t k 0) 255) (eqb (get_or t k 0) f) z) in
          let q : get_or t k 0 ≡ f → ⊥ = eqb-false _ _ (or_right_off (eqb (get_or t k 0) 255) (eqb (get_or t k 0) f) z) in
          clear t r (os ++ seen) w.filter (rw slot_is at p) (λ y. q (ap (λ (i : ℕ). get_or t i 0) slot_is ∙ y ∙ sym fingerprint_is))

      pub seen_step : {x : ℕ} → x ≡ joined (get_or t k 0) f → k < slots → contains (same_variable r) (os ++ seen) ≡ false → Seen non_volatile (at + n) s os (set t k x)
      seen_step {x} d g u =
          let g' : slot_of (key_of r) < length t = rw w.filter.room (rw slot_is at g) in
          rw slot_is (seen_more x u g' (rw (slot_is, fingerprint_is) at d))

  pub ends : n ≡ 0 → Some at ≡ scanned non_volatile s os
  unfolding scanned
  ends z = rw (seen_end z, w.free) (ap Some (used_here first (record_length-within non_volatile) at n s e z w.end))

  pub ends_filter : n ≡ 0 → Filter t (os ++ records_of non_volatile s)
  ends_filter z = rw (seen_end z) w.filter

pub scanned_repeated : (non_volatile : Bool) (s : Bytes) (os : List Bytes) → distinct same_variable (os ++ records_of non_volatile s) ≡ false → None ≡ scanned non_volatile s os
unfolding scanned
scanned_repeated non_volatile s os e = rw e

pub seen_used : (non_volatile : Bool) (at : ℕ) (s : Bytes) (os : List Bytes) (t : Bytes) → Seen non_volatile at s os t → at ≡ end_of non_volatile (take at s)
unfolding used
seen_used non_volatile at s os t w = rw w.whole (sym (length-take-le at s w.within))

-- the record at hand, as the code lends it
pub key_at_lem : {hh : ℕ} (at n : ℕ) (s : Bytes) → hh ≡ hash_of (variable_of (part at (at + n) s)) → hh ≡ key_of (take n (drop at s))
unfolding key_of
key_at_lem at n s e = rw part_of at e

pub search_at : {x : Bool} (at n : ℕ) (s : Bytes) (rs : List Bytes) → x ≡ contains (same_variable (part at (at + n) s)) rs → x ≡ contains (same_variable (take n (drop at s))) rs
search_at at n s rs e = e ∙ ap (λ (r : Bytes). contains (same_variable r) rs) (part_of at n s)

pub search_is : {x y : Bool} {g u : Bytes} (r : Bytes) (os rs : List Bytes) → g ≡ namespace_of r → u ≡ name_of r → x ≡ contains (is_of (variable g u)) os
    → y ≡ contains (is_of (variable g u)) rs → (x || y) ≡ contains (same_variable r) (os ++ rs)
search_is r os rs a b p q = rw (p, q, a, b) (sym (contains_append (same_variable r) os rs))
