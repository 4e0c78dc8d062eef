-- THE CLAIM OF THE READER (RULES.md, 10.12): however a dump is cut into pieces, the reader says of it what is said of it read whole (`in_pieces`); and what follows: `however_cut`,
-- `whole_exactly`, `handed_stays`, `after_bad`, `refused_struck`, `piece_granted`, `piece_refused`. Assumes nothing.
use Rattle.std.specs.Prelude.{ℕ, ◌≤◌, ◌<◌, ◌≡◌, refl, List, [], ◌∷◌, map, true, ◌⊎◌, ◌↔◌, length, Some}
use Rattle.std.proofs.Common.{sym, ap, ◌∙◌, append-nil, inl, inr, arith, le-leb}
use Rattle.std.proofs.lemmas.Bool.{lt-leb}
use Rattle.limits.specs.Limits.{max_piece}
use Rattle.slices.specs.Test.{◌and◌}
use Rattle.slices.proofs.TestLaws.{and_intro, and_no, and_off}
use Rattle.slices.specs.Bytes.{Bytes}
use Rattle.policy.specs.Dump.{dump_valid}
use Rattle.status.specs.declared.Status.TheVariants.{Success, InvalidParameter}
use Rattle.reader.specs.declared.Verdict.{Verdict}
use Rattle.reader.specs.declared.Listing.{Listing}
use Rattle.reader.specs.Reading.{verdict_of}
use Rattle.reader.proofs.ReadingLaws.{whole_dump}
use Rattle.reader.specs.Bad.{HasEnded}
use Rattle.reader.proofs.BadLaws.{ended_exactly}
use Rattle.reader.specs.Reader.{reader_bytes, is_piece, fresh, feed_status, after_feed, verdict_in, listing_in}
use Rattle.reader.specs.Pieces.{fed_all, arrived, ReadsAs, SaysSame}
use Rattle.reader.specs.HasRead.{HasRead}
use Rattle.reader.proofs.HasReadLaws.{fresh_read, read_verdict, read_listing, listing_stays}
use Rattle.reader.proofs.PiecesLaws.{all_read, reads_as, ended_stays_all}
-- of a reader with any bytes: without the refused pieces it is the very same
pub use Rattle.reader.proofs.PiecesLaws.{refused_struck, ended_changes_nothing}

-- ---- of a fresh reader, whatever its bytes were
module _ (r : Bytes) (n : length r ≡ reader_bytes) where
  -- THE CLAIM: however the bytes are cut, and whatever pieces are refused between, it says of them what is said of them read whole
  pub in_pieces : (ps : List Bytes) → ReadsAs (fed_all (fresh r) ps) (arrived ps)
  in_pieces ps = reads_as (all_read (fresh_read r n) ps)

  -- nothing but good entries arrived exactly if it is a dump (RULES.md, 10.11)
  pub whole_exactly : (ps : List Bytes) → (verdict_in (fed_all (fresh r) ps)).whole ≡ true ↔ dump_valid (arrived ps) ≡ true
  whole_exactly ps = rw (in_pieces ps).verdict (whole_dump (arrived ps))

  -- where an entry was told, the same is told after any further pieces
  pub handed_stays : (ps qs : List Bytes) (at : ℕ) (l : Listing) → listing_in (fed_all (fresh r) ps) at ≡ Some l
      → listing_in (fed_all (fed_all (fresh r) ps) qs) at ≡ Some l
  handed_stays ps qs = let h = all_read (fresh_read r n) ps in listing_stays (arrived qs) h (all_read h qs)

  -- AFTER A BAD ENTRY further pieces change nothing: no byte of the reader
  pub after_bad : (ps qs : List Bytes) → HasEnded (arrived ps) → fed_all (fed_all (fresh r) ps) qs ≡ fed_all (fresh r) ps
  unfolding verdict_of
  after_bad ps qs o = ended_stays_all (fed_all (fresh r) ps) qs (ap (λ (v : Verdict). v.ended) (in_pieces ps).verdict ∙ (ended_exactly (arrived ps)).1 o)

  -- the same bytes in other pieces, by a reader that began as other bytes: the same verdict, and the same entries
  pub however_cut : (s : Bytes) → length s ≡ reader_bytes → (ps qs : List Bytes) → arrived ps ≡ arrived qs → SaysSame (fed_all (fresh r) ps) (fed_all (fresh s) qs)
  however_cut s m ps qs e =
      let h = all_read (fresh_read r n) ps in
      let k : HasRead (fed_all (fresh s) qs) (arrived ps) = rw e (all_read (fresh_read s m) qs) in
      record { verdict = read_verdict h ∙ sym (read_verdict k); entry = λ at. read_listing h at ∙ sym (read_listing k at) }

-- all bytes can arrive: one by one, and in one piece where they are one
pub byte_by_byte : (d : Bytes) → arrived (map (λ b. b ∷ []) d) ≡ d
unfolding arrived ◌and◌
byte_by_byte [] = refl
byte_by_byte (b ∷ d) = ap (λ (l : Bytes). b ∷ l) (byte_by_byte d)

pub one_piece : (d : Bytes) → is_piece d ≡ true → arrived (d ∷ []) ≡ d
unfolding arrived
one_piece d h = rw h (append-nil d)

-- ---- of a reader with any bytes, whoever wrote them
-- a piece of 1 to `max_piece` bytes gets Success, whatever it and the reader hold
pub piece_granted : (p : Bytes) → 1 ≤ length p → length p ≤ max_piece → feed_status p ≡ Success
unfolding feed_status
piece_granted p h k = rw (and_intro _ _ (le-leb 1 (length p) h) (le-leb (length p) max_piece k))

-- one of another length is refused, and the reader stands as before
pub piece_refused : (r p : Bytes) → (length p ≡ 0) ⊎ (max_piece < length p) → (feed_status p ≡ InvalidParameter) × (after_feed r p ≡ r)
unfolding feed_status after_feed
piece_refused r p (inl e) = (rw (lt-leb 1 (length p) (omega arith), and_off), rw (lt-leb 1 (length p) (omega arith), and_off))
piece_refused r p (inr l) = (rw (lt-leb (length p) max_piece l, and_no), rw (lt-leb (length p) max_piece l, and_no))
