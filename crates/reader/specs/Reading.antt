-- What a reader says of the bytes of a dump (RULES.md, 10.12), as if it had them all at once: which entries are good, up to the first that is malformed,
-- repeated, past the limits or cut short. Assumes nothing: these are definitions.
use Rattle.std.specs.Prelude.{ℕ, ◌+◌, List, [], ◌∷◌, ◌++◌, Bool, not, ◌||◌, cond, length, take, drop, eqb, leb, ltb, Option, Some, None}
use Rattle.limits.specs.Limits.{entry_header, max_entry_bytes, max_entries, policy_bytes}
use Rattle.slices.specs.Test.{◌and◌}
use Rattle.slices.specs.Bytes.{Bytes}
use Rattle.slices.specs.Chunks.{flat, contains}
use Rattle.entry.specs.Entry.{size_field, lock_policy_type, rank, same_target}
use Rattle.policy.specs.Policy.{entry_length, entries_of}
use Rattle.reader.specs.declared.Verdict.{Verdict}
use Rattle.reader.specs.declared.Listing.{Listing}

-- the entry e may stand behind the entries es: within both limits, and it repeats none of them
unfoldable pub may_follow : List Bytes → Bytes → Bool
may_follow es e =
    ltb (length es) max_entries
    and leb (length (flat es) + length e) policy_bytes
    and not (contains (same_target e) es)

-- of well-formed entries that follow the good ones es, those up to the first that may not stand there
unfoldable pub good_from : List Bytes → List Bytes → List Bytes
good_from es [] = []
good_from es (e ∷ behind) = cond (may_follow es e) (e ∷ good_from (es ++ (e ∷ [])) behind) []

-- the good entries of the bytes, and how many bytes they take: the first byte of the first entry that is not good
unfoldable pub good_of : Bytes → List Bytes
good_of d = good_from [] (entries_of d)

abbrev pub good_bytes : Bytes → ℕ
good_bytes d = length (flat (good_of d))

-- the bytes behind the good entries
abbrev pub behind : Bytes → Bytes
behind d = drop (good_bytes d) d

-- it is decided whether the bytes begin with a well-formed entry: a header is there, and as many bytes as its Size says, or its Size is more than an entry has
unfoldable pub decided : Bytes → Bool
decided p = leb entry_header (length p) and (leb (size_field p) (length p) || ltb max_entry_bytes (size_field p))

-- the reading has ended, and no bytes behind d change the verdict: there are more bytes than the limit, or it is decided what stands behind the good entries
unfoldable pub ended : Bytes → Bool
ended d = ltb policy_bytes (length d) || decided (behind d)

-- THE VERDICT: nothing but good entries; or the first bad one begins at `bytes`
unfoldable pub verdict_of : Bytes → Verdict
verdict_of d =
    record {
      whole = eqb (good_bytes d) (length d);
      ended = ended d;
      entries = length (good_of d);
      bytes = good_bytes d;
    }

-- what is told of an entry: its Size, its lock type, its rank
abbrev pub listed : Bytes → Listing
listed e = record { size = length e; lock = lock_policy_type e; rank = rank e }

-- and of the entry that the bytes begin with
unfoldable pub listing : Bytes → Option Listing
listing p = cond (eqb (entry_length p) 0) None (Some (listed (take (entry_length p) p)))
