-- The reader (RULES.md, 10.12) as the bytes that a caller lends, and what each call makes of them, whatever they are. `Claim.antt` has what that means for a
-- reader that only its own calls write. Assumes nothing: these are definitions.
use Rattle.std.specs.Prelude.{ℕ, ◌+◌, ◌-◌, List, [], ◌∷◌, Bool, not, ◌||◌, cond, length, get_or, take, set, replicate, eqb, leb, ltb, Option}
use Rattle.limits.specs.Limits.{max_entries, policy_bytes, max_piece}
use Rattle.slices.specs.Test.{◌and◌}
use Rattle.slices.specs.Bytes.{Bytes, le16, le16_bytes, part, overwrite}
use Rattle.slices.specs.Chunks.{contains}
use Rattle.slices.specs.Filter.{joined}
use Rattle.policy.specs.Policy.{entries_of}
use Rattle.policy.specs.Stated.{stated_of, repeats}
use Rattle.policy.specs.Filter.{slots, slot_of, fingerprint_of}
use Rattle.status.specs.declared.Status.{Status}
use Rattle.status.specs.declared.Status.TheVariants.{Success, InvalidParameter}
use Rattle.reader.specs.declared.Verdict.{Verdict}
use Rattle.reader.specs.declared.Listing.{Listing}
use Rattle.reader.specs.Reading.{decided, listing}

-- where its parts begin: first the bytes that arrived, then the filter over the good entries, then three numbers of two bytes
abbrev pub filter_at : ℕ
filter_at = policy_bytes

abbrev pub held_at : ℕ
held_at = filter_at + slots

abbrev pub good_at : ℕ
good_at = held_at + 2

abbrev pub count_at : ℕ
count_at = good_at + 2

abbrev pub reader_bytes : ℕ
reader_bytes = count_at + 2

-- the numbers: how many bytes arrived, how many of them are good entries, and how many entries these are
abbrev pub held : Bytes → ℕ
held r = le16 r held_at

abbrev pub good : Bytes → ℕ
good r = le16 r good_at

abbrev pub count : Bytes → ℕ
count r = le16 r count_at

unfoldable pub put : Bytes → ℕ → ℕ → Bytes
put r at n = overwrite r at (le16_bytes n)

-- more bytes are taken; where a bad entry was met they are not, and the number held is one that no bytes have
abbrev pub is_open : Bytes → Bool
is_open r = leb (held r) policy_bytes

abbrev pub stop : Bytes → Bytes
stop r = put r held_at 65535

-- a reader to which nothing was fed; the bytes that arrived before stay where they are
unfoldable pub fresh : Bytes → Bytes
fresh r = overwrite r filter_at (replicate (reader_bytes - filter_at) 0)

-- the bytes behind the good entries
abbrev pub rest : Bytes → Bytes
rest r = part (good r) (held r) r

-- what the filter has in the slot of an entry, and whether an entry like it may have been met
abbrev pub seen : Bytes → Bytes → ℕ
seen r e = get_or r (filter_at + slot_of e) 0

abbrev pub may_repeat : Bytes → Bytes → Bool
may_repeat r e = eqb (seen r e) 255 || eqb (seen r e) (fingerprint_of e)

-- whether the entry e, which stands behind the good ones, is good: not one too many, and it repeats none of them; and the reader where it is
unfoldable pub admits : Bytes → Bytes → Bool
admits r e = ltb (count r) max_entries and not (may_repeat r e and contains (repeats e) (stated_of (take (good r) r)))

unfoldable pub accepted : Bytes → Bytes → Bytes
accepted r e = put (put (set r (filter_at + slot_of e) (joined (seen r e) (fingerprint_of e))) good_at (good r + length e)) count_at (count r + 1)

-- the reader after the entries that stand behind the good ones were judged one after the other, up to the first that is not good
unfoldable pub judged : Bytes → List Bytes → Bytes
judged r [] = r
judged r (e ∷ es) = cond (admits r e) (judged (accepted r e) es) r

-- and where it is decided what is left, that is bad
unfoldable pub stopped_if_decided : Bytes → Bytes
stopped_if_decided r = cond (decided (rest r)) (stop r) r

-- the reader once all entries that are decided were judged
abbrev pub all_judged : Bytes → Bytes
all_judged r = stopped_if_decided (judged r (entries_of (rest r)))

-- the reader after bytes for which there is room
unfoldable pub taken : Bytes → Bytes → Bytes
taken r p = all_judged (put (overwrite r (held r) p) held_at (held r + length p))

-- THE READER AFTER A PIECE: of bytes past the limit none is taken, and an entry that they belong to is bad
unfoldable pub fed : Bytes → Bytes → Bytes
fed r p =
    cond (is_open r)
    (cond (leb (length p) (policy_bytes - held r)) (taken r p) (stop (taken r (take (policy_bytes - held r) p))))
    r

-- a piece has 1 to `max_piece` bytes; another is refused, and the reader stands as before
abbrev pub is_piece : Bytes → Bool
is_piece p = leb 1 (length p) and leb (length p) max_piece

unfoldable pub feed_status : Bytes → Status
feed_status p = cond (is_piece p) Success InvalidParameter

unfoldable pub after_feed : Bytes → Bytes → Bytes
after_feed r p = cond (is_piece p) (fed r p) r

-- what the reader says
unfoldable pub verdict_in : Bytes → Verdict
verdict_in r = record { whole = is_open r and eqb (good r) (held r); ended = not (is_open r); entries = count r; bytes = good r }

-- what it tells of the good entry that begins at a byte of the dump
unfoldable pub listing_in : Bytes → ℕ → Option Listing
listing_in r at = listing (part at (good r) r)
