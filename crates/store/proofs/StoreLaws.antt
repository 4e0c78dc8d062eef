-- Laws of a store: it is sound by itself exactly if some list of records packs to it, that list is its records, and what edits leave.
-- Assumes nothing.
use Rattle.std.specs.Prelude.{ℕ, ◌≤◌, ◌≡◌, List, [], Bool, true, false, length, drop, replicate}
use Rattle.std.proofs.Common.{sym, ap, ◌∙◌, append-nil, arith}
use Rattle.std.proofs.lemmas.List.{length-replicate}
use Rattle.std.proofs.Math.Seq.{take-length}
use borrow.Author.Tests.{le-leb, leb-true}
use Rattle.limits.specs.Limits.{max_store}
use Rattle.slices.proofs.TestLaws.{and_left, and_right, and_intro}
use Rattle.slices.specs.Bytes.{Bytes, all_are}
use Rattle.slices.proofs.BytesLaws.{all_are-replicate}
use Rattle.slices.specs.Chunks.{flat, contains, remove}
use Rattle.slices.proofs.ChunksLaws.{All, IsItem, chunks_stop, chunks_items, chunks_packed, used_stop, used_within, free_packed, packed_chunks, length_packed, length_chunks}
use Rattle.slices.proofs.ItemsLaws.{all_map, all_remove, all-replace_or_append, remove_none, length_remove}
use Rattle.names.specs.Name.{Variable}
use Rattle.store.specs.Record.{record_ok, record_length, is_of}
use Rattle.store.proofs.RecordLaws.{record_length-within, record_length-local, record_length-free, ok_length, ok_some, length_ok_whole}
use Rattle.store.specs.Store.{records_of, end_of, pack_store, store_ok, without_variable, records_with, has_room, with_record}

-- each of the list is a record of the store
abbrev pub Records : Bool → List Bytes → Type 0
Records non_volatile = All (λ (r : Bytes). record_ok non_volatile r ≡ true)

module _ (non_volatile : Bool) where
  -- the records are the items that stand end to end
  pub ok_item : (r : Bytes) → record_ok non_volatile r ≡ true → IsItem (record_length non_volatile) (record_length-within non_volatile) r
  ok_item r e = record {
    some = ok_some non_volatile r e;
    whole = λ m. rw take-length at (record_length-local non_volatile r m (length r) (ok_length non_volatile r e) (ok_some non_volatile r e));
  }

  item_ok : (r : Bytes) → IsItem (record_length non_volatile) (record_length-within non_volatile) r → record_ok non_volatile r ≡ true
  item_ok r i = length_ok_whole non_volatile r (rw append-nil at (i.whole [])) i.some

  items : (rs : List Bytes) → Records non_volatile rs → All (IsItem (record_length non_volatile) (record_length-within non_volatile)) rs
  items = all_map ok_item

  pub records_ok : (s : Bytes) → Records non_volatile (records_of non_volatile s)
  records_ok s = all_map item_ok (records_of non_volatile s) (chunks_items (record_length non_volatile) (record_length-within non_volatile) (record_length-local non_volatile) s)

  pub end_of-within : (s : Bytes) → end_of non_volatile s ≤ length s
  end_of-within = used_within (record_length non_volatile) (record_length-within non_volatile)

  pub length_records : (s : Bytes) → length (flat (records_of non_volatile s)) ≡ end_of non_volatile s
  length_records = length_chunks (record_length non_volatile)

  -- ---- a sound store
  pub store_ok-length : (s : Bytes) → store_ok non_volatile s ≡ true → length s ≤ max_store
  unfolding store_ok
  store_ok-length s e = leb-true (length s) max_store (and_left _ _ e)

  pub store_ok-free : (s : Bytes) → store_ok non_volatile s ≡ true → all_are 255 (drop (end_of non_volatile s) s) ≡ true
  unfolding store_ok
  store_ok-free s e = and_right _ _ e

  -- from bytes to records and back
  pub pack_records : (s : Bytes) → store_ok non_volatile s ≡ true → pack_store (length s) (records_of non_volatile s) ≡ s
  pack_records s e = packed_chunks (record_length non_volatile) (record_length-within non_volatile) 255 s (store_ok-free s e)

  -- from records to bytes and back
  pub records_pack : (n : ℕ) (rs : List Bytes) → Records non_volatile rs → records_of non_volatile (pack_store n rs) ≡ rs
  records_pack n rs a = chunks_packed (record_length non_volatile) (record_length-within non_volatile) 255 (record_length-free non_volatile) n rs (items rs a)

  pub store_ok-pack : (n : ℕ) (rs : List Bytes) → Records non_volatile rs → length (flat rs) ≤ n → n ≤ max_store → store_ok non_volatile (pack_store n rs) ≡ true
  unfolding store_ok
  store_ok-pack n rs a h k =
      and_intro _ _ (rw (length_packed n 255 rs h) (le-leb n max_store k))
      (free_packed (record_length non_volatile) (record_length-within non_volatile) 255 (record_length-free non_volatile) n rs (items rs a))

  -- the list of records packs to the store
  pub record Packs (s : Bytes) (rs : List Bytes) : Type 0 where
    pub small : length s ≤ max_store
    pub records : Records non_volatile rs
    pub fits : length (flat rs) ≤ length s
    pub is : pack_store (length s) rs ≡ s

  pub store_ok-packs : (s : Bytes) → store_ok non_volatile s ≡ true → Packs s (records_of non_volatile s)
  store_ok-packs s e = record {
    small = store_ok-length s e;
    records = records_ok s;
    fits = rw (length_records s) (end_of-within s);
    is = pack_records s e;
  }

  pub packs-store_ok : (s : Bytes) (rs : List Bytes) → Packs s rs → store_ok non_volatile s ≡ true
  packs-store_ok s rs p = ap (store_ok non_volatile) (sym p.is) ∙ store_ok-pack (length s) rs p.records p.fits p.small

  pub packs_unique : (s : Bytes) (rs : List Bytes) → Packs s rs → rs ≡ records_of non_volatile s
  packs_unique s rs p = sym (records_pack (length s) rs p.records) ∙ ap (records_of non_volatile) p.is

  -- ---- a store of 0xFF alone
  pub records_erased : (n : ℕ) → records_of non_volatile (replicate n 255) ≡ []
  records_erased n = chunks_stop (record_length non_volatile) (replicate n 255) (record_length-free non_volatile n)

  pub store_ok-erased : (n : ℕ) → n ≤ max_store → store_ok non_volatile (replicate n 255) ≡ true
  unfolding store_ok
  store_ok-erased n h =
      and_intro _ _ (rw (length-replicate {A = ℕ} n 255) (le-leb n max_store h))
      (rw (used_stop (record_length non_volatile) (replicate n 255) (record_length-free non_volatile n)) (all_are-replicate 255 n))

  -- ---- a variable taken out
  module _ (s : Bytes) (v : Variable) where
    pub records_without : records_of non_volatile (without_variable non_volatile s v) ≡ remove (is_of v) (records_of non_volatile s)
    unfolding without_variable
    records_without = records_pack (length s) (remove (is_of v) (records_of non_volatile s)) (all_remove (is_of v) (records_of non_volatile s) (records_ok s))

    without_fits : length (flat (remove (is_of v) (records_of non_volatile s))) ≤ length s
    without_fits = omega (arith, length_remove (is_of v) (records_of non_volatile s), length_records s, end_of-within s)

    pub length_without : length (without_variable non_volatile s v) ≡ length s
    unfolding without_variable
    length_without = length_packed (length s) 255 (remove (is_of v) (records_of non_volatile s)) without_fits

    pub store_ok-without : store_ok non_volatile s ≡ true → store_ok non_volatile (without_variable non_volatile s v) ≡ true
    unfolding without_variable
    store_ok-without e =
        store_ok-pack (length s) (remove (is_of v) (records_of non_volatile s)) (all_remove (is_of v) (records_of non_volatile s) (records_ok s)) without_fits (store_ok-length s e)

    -- a variable that has no record
    pub without_absent : store_ok non_volatile s ≡ true → contains (is_of v) (records_of non_volatile s) ≡ false → without_variable non_volatile s v ≡ s
    unfolding without_variable
    without_absent e h = rw (remove_none (is_of v) (records_of non_volatile s) h) (pack_records s e)

  -- ---- a record written
  module _ (s : Bytes) (v : Variable) (q : Bytes) where
    pub records_with_lem : record_ok non_volatile q ≡ true → records_of non_volatile (with_record non_volatile s v q) ≡ records_with non_volatile s v q
    unfolding with_record
    records_with_lem k = records_pack (length s) (records_with non_volatile s v q) (all-replace_or_append (is_of v) q (records_of non_volatile s) k (records_ok s))

    pub with_fits : has_room non_volatile s v q ≡ true → length (flat (records_with non_volatile s v q)) ≤ length s
    unfolding has_room
    with_fits h = leb-true (length (flat (records_with non_volatile s v q))) (length s) h

    pub length_with : has_room non_volatile s v q ≡ true → length (with_record non_volatile s v q) ≡ length s
    unfolding with_record
    length_with h = length_packed (length s) 255 (records_with non_volatile s v q) (with_fits h)

    pub store_ok-with : store_ok non_volatile s ≡ true → record_ok non_volatile q ≡ true → has_room non_volatile s v q ≡ true
        → store_ok non_volatile (with_record non_volatile s v q) ≡ true
    unfolding with_record
    store_ok-with e k h =
        store_ok-pack (length s) (records_with non_volatile s v q) (all-replace_or_append (is_of v) q (records_of non_volatile s) k (records_ok s)) (with_fits h) (store_ok-length s e)
