-- What a reader has that only its own calls write (`HasRead`), kept by each call: a fresh one has no bytes (`fresh_read`), and bytes fed come behind those that arrived
-- (`fed_read`). What it says of them: `read_verdict`, `read_listing`. Assumes nothing.
use Rattle.std.specs.Prelude.{ℕ, ◌+◌, ◌-◌, ◌≤◌, ◌<◌, ◌≡◌, List, [], ◌++◌, Bool, true, false, cond, length, get_or, take, drop, replicate, leb, Some, None}
use Rattle.std.proofs.Math.Path.{refl}
use Rattle.std.proofs.Common.{sym, ap, ◌∙◌, append_assoc, inl, inr, arith, length-append, take-append-drop, drop_of_length-le, length-take-le, le-leb, le-ltb, ne_eqb, leb-true, leb-false}
use Rattle.std.proofs.lemmas.List.{length-replicate, get_or-replicate, drop-append-le}
use Rattle.std.proofs.Math.ListN.{get_or-append}
use Rattle.std.proofs.lemmas.Bool.{lt-leb}
use Rattle.limits.specs.Limits.{policy_bytes}
use Rattle.lists.proofs.ListsLaws.{Less, less}
use Rattle.slices.specs.Test.{◌and◌}
use Rattle.slices.specs.Bytes.{Bytes, le16, part, overwrite}
use Rattle.slices.proofs.PartLaws.{part_take, part_rest, length_part}
use Rattle.slices.proofs.NumberLaws.{le16_drop}
use Rattle.slices.proofs.OverwriteLaws.{drop_overwrite, length_overwrite}
use Rattle.slices.specs.Chunks.{flat, chunks, chunks_from}
use Rattle.slices.proofs.ChunksLaws.{flat_append}
use Rattle.policy.specs.Filter.{slots}
use Rattle.policy.proofs.FilterLaws.{marks_none}
use Rattle.reader.specs.Reading.{good_from, good_of, good_bytes, behind, decided, ended, verdict_of, listing}
use Rattle.reader.proofs.ReadingLaws.{good_entries, good_room, good_split, good_more, good_past, good_grows, decided_ended, past_ended, ended_bad, ended_stays, ended_more}
use Rattle.reader.proofs.ListingLaws.{listing_none, listing_more}
use Rattle.reader.specs.declared.Listing.{Listing}
use Rattle.reader.specs.Reader.{filter_at, held_at, good_at, count_at, reader_bytes, held, put, stop, fresh, stopped_if_decided, taken, fed, verdict_in, listing_in}
use Rattle.reader.proofs.ReaderLaws.{drop_written, take_written, take_put, le16_overwrite_behind, length_put, put_same, put_behind, part_put}
use Rattle.reader.specs.HasRead.{Tells, Has, HasRead, going, stopped}
use Rattle.reader.proofs.JudgedLaws.{good_taken, rest_is, rest_judged}

-- ---- a fresh reader
le16_zeros : (m : ℕ) (s : Bytes) (j : ℕ) → j + 2 ≤ m → le16 (replicate m 0 ++ s) j ≡ 0
unfolding le16
le16_zeros m s j h =
    let g : (i : ℕ) → i < m → get_or (replicate m 0 ++ s) i 0 ≡ 0 = λ i l. get_or-append (replicate m 0) s 0 i (rw length-replicate l) ∙ get_or-replicate m i 0 0 l in
    omega (arith, g j (omega arith), g (j + 1) (omega arith))

number_zeros : (r : Bytes) (at m j : ℕ) → at + m ≤ length r → j + 2 ≤ m → le16 (overwrite r at (replicate m 0)) (at + j) ≡ 0
number_zeros r at m j h l =
    sym (le16_drop at (overwrite r at (replicate m 0)) j) ∙ ap (λ (s : Bytes). le16 s j) (drop_written r at (replicate m 0) (rw length-replicate h)) ∙ le16_zeros m (drop (at + length (replicate {A = ℕ} m 0)) r) j l

good_of-none : good_of [] ≡ []
unfolding good_of good_from chunks chunks_from
good_of-none = refl

undecided_nil : decided [] ≡ false
unfolding decided ◌and◌
undecided_nil = refl

module _ (r : Bytes) (n : length r ≡ reader_bytes) where
  length_fresh : length (fresh r) ≡ reader_bytes
  unfolding fresh
  length_fresh = length_overwrite r filter_at (replicate (reader_bytes - filter_at) 0) (omega arith) ∙ n

  fresh_number : (j : ℕ) → j + 2 ≤ reader_bytes - filter_at → le16 (fresh r) (filter_at + j) ≡ 0
  unfolding fresh
  fresh_number j h = number_zeros r filter_at (reader_bytes - filter_at) j (omega arith) h

  fresh_has : Has (fresh r) [] []
  unfolding flat
  fresh_has =
      record {
        size = length_fresh;
        room = omega arith;
        holds = fresh_number slots (omega arith);
        bytes = refl;
        tells = record { goods = fresh_number (slots + 2) (omega arith); counts = fresh_number (slots + 4) (omega arith); bytes = refl };
        marks = marks_none (part filter_at held_at (fresh r)) (length_part filter_at held_at (fresh r) (omega (arith, length_fresh)));
      }

  pub fresh_read : HasRead (fresh r) []
  unfolding flat
  fresh_read = going (rw good_of-none fresh_has) (rw good_of-none undecided_nil)

-- ---- a reader that stops
stop_read : {r d : Bytes} → length r ≡ reader_bytes → Tells r (good_of d) → ended d ≡ true → HasRead (stop r) d
stop_read {r} {d} n t e =
    let h : held_at + 2 ≤ length r = omega arith in
    let k : held (stop r) ≡ 65535 = put_same r held_at 65535 h (omega arith) in
    stopped
    (length_put r held_at 65535 h ∙ n)
    (rw k (lt-leb 65535 policy_bytes (omega arith)))
    (record {
      goods = put_behind r held_at 65535 h good_at (omega arith) ∙ t.goods;
      counts = put_behind r held_at 65535 h count_at (omega arith) ∙ t.counts;
      bytes = take_put r held_at 65535 h (good_bytes d) (omega (arith, good_room d)) ∙ t.bytes;
    })
    e

-- all good entries were accepted; where a decided one is left, it is bad
judged_read : {r d : Bytes} → Has r d (good_of d) → HasRead (stopped_if_decided r) d
unfolding stopped_if_decided
judged_read {r} {d} h = rw (rest_is h (behind d) (sym (good_split d))) (go (decided (behind d)) refl)
  where
    go : (t : Bool) → decided (behind d) ≡ t → HasRead (cond t (stop r) r) d
    go true c = stop_read h.size h.tells (decided_ended d c)
    go false c = going h c

-- ---- bytes for which there is room
module _ {r d : Bytes} {es : List Bytes} (h : Has r d es) (p : Bytes) (m : length d + length p ≤ policy_bytes) where
  abbrev written : Bytes
  written = overwrite r (held r) p

  abbrev longer : Bytes
  longer = put written held_at (held r + length p)

  written_fits : held r + length p ≤ length r
  written_fits = omega (arith, h.holds, h.size)

  length_written : length written ≡ reader_bytes
  length_written = length_overwrite r (held r) p written_fits ∙ h.size

  written_number : (k : ℕ) → filter_at ≤ k → le16 written k ≡ le16 r k
  written_number k l = le16_overwrite_behind r (held r) p written_fits k (omega (arith, h.holds))

  longer_number : (k : ℕ) → good_at ≤ k → le16 longer k ≡ le16 r k
  longer_number k l = put_behind written held_at (held r + length p) (omega (arith, length_written)) k (omega arith) ∙ written_number k (omega arith)

  longer_held : held longer ≡ length (d ++ p)
  longer_held =
      put_same written held_at (held r + length p) (omega (arith, length_written)) (omega (arith, h.holds))
      ∙ rw (h.holds, length-append)

  longer_bytes : take (length (d ++ p)) longer ≡ d ++ p
  longer_bytes =
      let e = length-append d p in
      take_put written held_at (held r + length p) (omega (arith, length_written)) (length (d ++ p)) (omega arith)
      ∙ take_written r (held r) p written_fits (length (d ++ p)) (omega (arith, h.holds))
      ∙ ap (λ (s : Bytes). s ++ p) (ap (λ (n : ℕ). take n r) h.holds ∙ h.bytes)

  longer_marks : part filter_at held_at longer ≡ part filter_at held_at r
  longer_marks =
      part_put written held_at (held r + length p) (omega (arith, length_written)) filter_at held_at (omega arith)
      ∙ ap (take slots) (drop_overwrite r (held r) filter_at p (omega (arith, written_fits)) (omega (arith, h.holds)))

  longer_has : (q : Bytes) → flat es ++ q ≡ d ++ p → Has longer (d ++ p) es
  longer_has q f =
      record {
        size = length_put written held_at (held r + length p) (omega (arith, length_written)) ∙ length_written;
        room = rw length-append m;
        holds = longer_held;
        bytes = longer_bytes;
        tells = record {
          goods = longer_number good_at (omega arith) ∙ h.tells.goods;
          counts = longer_number count_at (omega arith) ∙ h.tells.counts;
          bytes = good_taken longer (d ++ p) es q longer_bytes f;
        };
        marks = rw longer_marks h.marks;
      }

taken_read : {r d : Bytes} → Has r d (good_of d) → (p : Bytes) → length d + length p ≤ policy_bytes → HasRead (taken r p) (d ++ p)
unfolding taken
taken_read {r} {d} h p m =
    let f : flat (good_of d) ++ (behind d ++ p) ≡ d ++ p = sym (append_assoc (flat (good_of d)) (behind d) p) ∙ ap (λ (s : Bytes). s ++ p) (sym (good_split d)) in
    judged_read (rw (good_more d p) (rest_judged (longer_has h p m (behind d ++ p) f) (good_entries d).formed (behind d ++ p) f))

-- ---- what holds of both
pub read_size : {r d : Bytes} → HasRead r d → length r ≡ reader_bytes
read_size (going h c) = h.size
read_size (stopped n o t e) = n

pub read_tells : {r d : Bytes} → HasRead r d → Tells r (good_of d)
read_tells (going h c) = h.tells
read_tells (stopped n o t e) = t

-- ---- more bytes than there is room for
past_read : {r d : Bytes} → Has r d (good_of d) → (p : Bytes) (k : ℕ) → length d + k ≡ policy_bytes → k < length p → HasRead (stop (taken r (take k p))) (d ++ p)
past_read {r} {d} h p k e l =
    let n : length (take k p) ≡ k = length-take-le k p (omega arith) in
    let t = taken_read h (take k p) (omega arith) in
    let s : (d ++ take k p) ++ drop k p ≡ d ++ p = append_assoc d (take k p) (drop k p) ∙ ap (λ (s : Bytes). d ++ s) (take-append-drop k p) in
    let g : good_of (d ++ p) ≡ good_of (d ++ take k p) = ap good_of (sym s) ∙ good_past (d ++ take k p) (drop k p) (rw length-append (omega arith)) in
    stop_read (read_size t) (rw g (read_tells t)) (past_ended (d ++ p) (rw length-append (omega arith)))

-- ---- ANY BYTES
pub fed_read : {r d : Bytes} → HasRead r d → (p : Bytes) → HasRead (fed r p) (d ++ p)
unfolding fed
fed_read {r} {d} (going h c) p = rw (h.holds, le-leb (length d) policy_bytes h.room) (go (leb (length p) (policy_bytes - length d)) refl)
  where
    go : (t : Bool) → leb (length p) (policy_bytes - length d) ≡ t → HasRead (cond t (taken r p) (stop (taken r (take (policy_bytes - length d) p)))) (d ++ p)
    go true q = taken_read h p (omega (arith, leb-true (length p) (policy_bytes - length d) q, h.room))
    go false q = past_read h p (policy_bytes - length d) (omega (arith, h.room)) (leb-false (length p) (policy_bytes - length d) q)
fed_read {r} {d} (stopped n o t e) p = rw o (stopped n o (rw (ended_stays d p e) t) (ended_more d p e))

-- ---- what the reader says
going_on : (d : Bytes) → length d ≤ policy_bytes → decided (behind d) ≡ false → ended d ≡ false
unfolding ended
going_on d l c = rw (c, le-ltb policy_bytes (length d) l)

-- THE VERDICT is that of the bytes read whole
pub read_verdict : {r d : Bytes} → HasRead r d → verdict_in r ≡ verdict_of d
unfolding verdict_in verdict_of ◌and◌
read_verdict {r} {d} (going h c) = rw (h.holds, h.tells.goods, h.tells.counts, le-leb (length d) policy_bytes h.room, going_on d h.room c)
read_verdict {r} {d} (stopped n o t e) = rw (o, t.goods, t.counts, e, ne_eqb (good_bytes d) (length d) (λ q. omega (arith, ended_bad d e)))

-- AN ENTRY is told from the bytes of the good ones
pub read_listing : {r d : Bytes} → HasRead r d → (at : ℕ) → listing_in r at ≡ listing (drop at (flat (good_of d)))
unfolding listing_in
read_listing {r} {d} h at =
    let n = good_bytes d in
    let t = read_tells h in
    ap listing (ap (λ (e : ℕ). part at e r) t.goods ∙ sym (part_take at n n r (omega arith)) ∙ ap (part at n) t.bytes ∙ part_rest at n (flat (good_of d)) (omega arith))

-- what is told of a place is told of it when more bytes have arrived
pub listing_stays : {r s d : Bytes} (x : Bytes) → HasRead r d → HasRead s (d ++ x) → (at : ℕ) (l : Listing) → listing_in r at ≡ Some l → listing_in s at ≡ Some l
listing_stays {r} {s} {d} x h k at l e = read_listing k at ∙ go (less (good_bytes d) at)
  where
    g : flat (good_of (d ++ x)) ≡ flat (good_of d) ++ flat (good_grows d x).0
    g = ap flat (good_grows d x).1 ∙ flat_append (good_of d) (good_grows d x).0

    t : listing (drop at (flat (good_of d))) ≡ Some l
    t = sym (read_listing h at) ∙ e

    go : Less (good_bytes d) at → listing (drop at (flat (good_of (d ++ x)))) ≡ Some l
    go (inl b) =
        let z : drop at (flat (good_of d)) ≡ [] = drop_of_length-le (flat (good_of d)) {i = at} (omega (arith, b.0)) in
        let n : None ≡ Some l = sym listing_none ∙ ap listing (sym z) ∙ t in
        absurd (let z : ◌≡◌ {A = ℕ} 0 1 = cc in omega arith)
    go (inr b) =
        ap listing (ap (drop at) g ∙ drop-append-le at (flat (good_of d)) (flat (good_grows d x).0) b.0)
        ∙ listing_more (drop at (flat (good_of d))) (flat (good_grows d x).0) l t
