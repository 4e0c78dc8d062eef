-- What a reader has that only its own calls write, after any pieces (`all_read`), and so what it says (`reads_as`). Assumes nothing.
use Rattle.std.specs.Prelude.{◌≡◌, refl, List, [], ◌∷◌, ◌++◌, map, Bool, true, false, cond, length, Some}
use Rattle.std.proofs.Common.{ap, ◌∙◌, append_assoc, append-nil, length-append, drop_at}
use Rattle.std.proofs.Math.Seq.{drop-length}
use Rattle.std.proofs.lemmas.Bool.{not-true}
use Rattle.lists.specs.Lists.{All, nil, more}
use Rattle.slices.specs.Bytes.{Bytes}
use Rattle.slices.specs.Chunks.{flat}
use Rattle.slices.proofs.ChunksLaws.{flat_append, flat_one}
use Rattle.policy.proofs.PolicyLaws.{WellFormed}
use Rattle.reader.specs.Reading.{good_of, listed}
use Rattle.reader.proofs.ReadingLaws.{good_entries}
use Rattle.reader.proofs.ListingLaws.{listing_none, listing_entry}
use Rattle.reader.specs.Reader.{is_open, is_piece, fed, after_feed, verdict_in, listing_in}
use Rattle.reader.specs.Pieces.{fed_all, arrived, HandsOut, end, next, ReadsAs, not_refused}
use Rattle.reader.specs.HasRead.{HasRead}
use Rattle.reader.proofs.HasReadLaws.{fed_read, read_tells, read_verdict, read_listing}

after_read : {r d : Bytes} → HasRead r d → (p : Bytes) → HasRead (after_feed r p) (d ++ cond (is_piece p) p [])
unfolding after_feed
after_read {r} {d} h p = go (is_piece p)
  where
    go : (t : Bool) → HasRead (cond t (fed r p) r) (d ++ cond t p [])
    go true = fed_read h p
    go false = rw (append-nil d) h

pub all_read : {r d : Bytes} → HasRead r d → (ps : List Bytes) → HasRead (fed_all r ps) (d ++ arrived ps)
unfolding fed_all arrived
all_read {r} {d} h [] = rw (append-nil d) h
all_read {r} {d} h (p ∷ ps) = rw append_assoc at (all_read {r = after_feed r p} {d = d ++ cond (is_piece p) p []} (after_read h p) ps)

-- the entries ms behind the first ones, es
handed : {r d : Bytes} → HasRead r d → (es ms : List Bytes) → All WellFormed ms → good_of d ≡ es ++ ms → HandsOut r (length (flat es)) (map listed ms)
unfolding flat
handed {r} {d} h es [] nil e = end (read_listing h (length (flat es)) ∙ rw (e, append-nil es, drop-length (flat es)) listing_none)
handed {r} {d} h es (m ∷ ms) (more w a) e =
    let k : listing_in r (length (flat es)) ≡ Some (listed m) =
    read_listing h (length (flat es)) ∙ rw (e, flat_append es (m ∷ ms), drop_at (flat es) (m ++ flat ms) (length (flat es)) refl) (listing_entry m (flat ms) w) in
    next k (rw (flat_append es (m ∷ []), flat_one, length-append) at (handed h (es ++ (m ∷ [])) ms a (rw (append_assoc es (m ∷ []) ms) e)))

pub reads_as : {r d : Bytes} → HasRead r d → ReadsAs r d
unfolding flat
reads_as {r} {d} h = record { verdict = read_verdict h; entries = handed h [] (good_of d) (good_entries d).formed refl; bytes = (read_tells h).bytes }

-- ---- of a reader with any bytes, whoever wrote them
-- refused pieces leave no trace
pub refused_struck : (r : Bytes) (ps : List Bytes) → fed_all r (not_refused ps) ≡ fed_all r ps
unfolding fed_all not_refused after_feed
refused_struck r [] = refl
refused_struck r (p ∷ ps) = go (is_piece p) refl (λ s. refused_struck s ps)
  where
    go : (t : Bool) → is_piece p ≡ t → ((s : Bytes) → fed_all s (not_refused ps) ≡ fed_all s ps)
        → fed_all r (cond t (p ∷ not_refused ps) (not_refused ps)) ≡ fed_all (cond t (fed r p) r) ps
    go true q ih = ih (after_feed r p) ∙ ap (λ (t : Bool). fed_all (cond t (fed r p) r) ps) q
    go false q ih = ih r

-- one that has stopped takes no bytes
pub stopped_stays : (r p : Bytes) → is_open r ≡ false → fed r p ≡ r
unfolding fed
stopped_stays r p o = rw o

-- after a bad entry further pieces change nothing
pub ended_changes_nothing : (r p : Bytes) → (verdict_in r).ended ≡ true → after_feed r p ≡ r
unfolding verdict_in after_feed
ended_changes_nothing r p e = go (is_piece p)
  where
    go : (t : Bool) → cond t (fed r p) r ≡ r
    go true = stopped_stays r p (not-true (is_open r) e)
    go false = refl

pub ended_stays_all : (r : Bytes) (qs : List Bytes) → (verdict_in r).ended ≡ true → fed_all r qs ≡ r
unfolding fed_all
ended_stays_all r [] e = refl
ended_stays_all r (q ∷ qs) e = rw (ended_changes_nothing r q e) (ended_stays_all r qs e)
