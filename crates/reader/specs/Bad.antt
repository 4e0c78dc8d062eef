-- The rule of a reader a second time, in propositions (RULES.md, 10.12): the entries that stand at the front of the bytes, the first that may not stand behind them, and why.
-- Assumes nothing: these are definitions.
use Rattle.std.specs.Prelude.{ℕ, ◌+◌, ◌≤◌, ◌<◌, ◌≡◌, List, [], ◌∷◌, ◌++◌, ◌⊎◌, true, length}
use Rattle.limits.specs.Limits.{entry_header, max_entry_bytes, max_entries, policy_bytes}
use Rattle.slices.specs.Bytes.{Bytes}
use Rattle.slices.specs.Chunks.{flat, contains}
use Rattle.entry.specs.Entry.{size_field, same_target}
use Rattle.policy.proofs.PolicyLaws.{WellFormed, Entries}

-- the bytes d are the entries es, which a valid record could hold, and then the rest
pub record Stands (es : List Bytes) (d rest : Bytes) : Type 0 where
  pub entries : Entries es
  pub split : d ≡ flat es ++ rest

-- NOTHING BUT GOOD ENTRIES
abbrev pub AllGood : Bytes → List Bytes → Type 0
AllGood d es = Stands es d []

-- the bytes begin with a well-formed entry
pub record BeginsWith (e rest : Bytes) : Type 0 where
  pub formed : WellFormed e
  pub behind : Bytes
  pub split : rest ≡ e ++ behind

-- no entry that the bytes begin with could stand behind the entries es in a valid record
abbrev pub NoneFollows : List Bytes → Bytes → Type 0
NoneFollows es rest = (e : Bytes) → BeginsWith e rest → Entries (es ++ (e ∷ [])) → ⊥

-- THE FIRST BAD ENTRY: it begins at byte `at`, behind the good entries es
pub record FirstBad (d : Bytes) (es : List Bytes) (at : ℕ) : Type 0 where
  pub rest : Bytes
  pub stands : Stands es d rest
  pub place : at ≡ length (flat es)
  pub some : rest ≡ [] → ⊥
  pub bad : NoneFollows es rest

-- THE READING HAS ENDED: more bytes arrived than the limit; or of the first bad entry a header is there, and as many bytes as its Size says, or its Size is more than an
-- entry has
pub data HasEnded (d : Bytes) : Type 0 where
  past : policy_bytes < length d → HasEnded d
  met : (es : List Bytes) (at : ℕ) (b : FirstBad d es at) → entry_header ≤ length b.rest
      → (size_field b.rest ≤ length b.rest) ⊎ (max_entry_bytes < size_field b.rest) → HasEnded d

-- why an entry is bad: malformed or cut short, which is that no well-formed entry begins there; a repeated one; past one of E5's limits
pub data Reason (es : List Bytes) (rest : Bytes) : Type 0 where
  malformed : ((e : Bytes) → BeginsWith e rest → ⊥) → Reason es rest
  repeated : (e : Bytes) → BeginsWith e rest → contains (same_target e) es ≡ true → Reason es rest
  too_many : (e : Bytes) → BeginsWith e rest → length es ≡ max_entries → Reason es rest
  too_long : (e : Bytes) → BeginsWith e rest → policy_bytes < length (flat es) + length e → Reason es rest
