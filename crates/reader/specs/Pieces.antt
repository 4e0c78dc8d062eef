-- A dump cut into pieces (RULES.md, 10.12): what a reader was fed, and what it says. Assumes nothing: these are definitions.
use Rattle.std.specs.Prelude.{ℕ, ◌+◌, ◌≡◌, List, [], ◌∷◌, ◌++◌, map, cond, take, Some, None}
use Rattle.slices.specs.Bytes.{Bytes}
use Rattle.slices.specs.Chunks.{flat}
use Rattle.reader.specs.declared.Listing.{Listing}
use Rattle.reader.specs.Reading.{good_of, good_bytes, verdict_of, listed}
use Rattle.reader.specs.Reader.{is_piece, after_feed, verdict_in, listing_in}

-- the reader after pieces, one after the other, refused ones among them
unfoldable pub fed_all : Bytes → List Bytes → Bytes
fed_all r [] = r
fed_all r (p ∷ ps) = fed_all (after_feed r p) ps

-- the bytes that arrived: those of the pieces that were not refused, end to end
unfoldable pub arrived : List Bytes → Bytes
arrived [] = []
arrived (p ∷ ps) = cond (is_piece p) p [] ++ arrived ps

-- what the calls hand out, one entry after the other from a byte on, up to the first place where there is none
pub data HandsOut (r : Bytes) : ℕ → List Listing → Type 0 where
  end : {at : ℕ} → listing_in r at ≡ None → HandsOut r at []
  next : {at : ℕ} {l : Listing} {ls : List Listing} → listing_in r at ≡ Some l → HandsOut r (at + l.size) ls → HandsOut r at (l ∷ ls)

-- what the reader r says is what is said of the bytes d read whole: the verdict with its numbers, and the entries; and the bytes of the good entries are its own first ones
pub record ReadsAs (r d : Bytes) : Type 0 where
  pub verdict : verdict_in r ≡ verdict_of d
  pub entries : HandsOut r 0 (map listed (good_of d))
  pub bytes : take (good_bytes d) r ≡ flat (good_of d)

-- two readers that answer alike, at every place
pub record SaysSame (r s : Bytes) : Type 0 where
  pub verdict : verdict_in r ≡ verdict_in s
  pub entry : (at : ℕ) → listing_in r at ≡ listing_in s at

-- the pieces that are not refused
unfoldable pub not_refused : List Bytes → List Bytes
not_refused [] = []
not_refused (p ∷ ps) = cond (is_piece p) (p ∷ not_refused ps) (not_refused ps)
