-- The proved bench readings of the reader (RULES.md, 10.12 and 13), under one claim: the verdict and the good entries of the bytes that arrived. A reader that is fed the pieces
-- says the same (`reader_says`). Assumes nothing.
use Rattle.std.specs.Prelude.{ℕ, zero, suc, ◌+◌, ◌<◌, ◌≡◌, refl, List, [], ◌∷◌, ◌++◌, map, true, cond, length, take, drop, set, replicate, Option, Some, None}
use Rattle.std.proofs.Common.{ap, ap₂, arith}
use Rattle.limits.specs.Limits.{max_entries}
use Rattle.lists.specs.Lists.{All, nil, more}
use Rattle.lists.proofs.ListsLaws.{all_map}
use Rattle.slices.specs.Test.{◌and◌}
use Rattle.slices.specs.Bytes.{Bytes, le16, le32, pairwise, same}
use Rattle.slices.specs.Chunks.{flat, chunks, chunks_from, contains}
use Rattle.names.specs.Name.{units, each, is_name, is_terminated, is_plain_terminated, wildcards}
use Rattle.entry.specs.Entry.{lock_policy_type, header_ok, lock_ok, name_ok, well_formed, name_of, rank, same_target}
use Rattle.policy.specs.Policy.{length_by}
use Rattle.reader.specs.declared.Verdict.{Verdict}
use Rattle.reader.specs.declared.Listing.{Listing}
use Rattle.reader.specs.Reading.{may_follow, good_from, good_of, decided, ended, verdict_of, listed}
use Rattle.reader.proofs.ReadingLaws.{good_few}
use Rattle.reader.specs.Reader.{reader_bytes, fresh, verdict_in, listing_in}
use Rattle.reader.specs.Pieces.{fed_all, arrived, HandsOut, end, next}
use Rattle.reader.proofs.Claim.{in_pieces}

-- ---- how the readings are written down

-- the namespace G, and behind it any size and attributes
abbrev G : Bytes
G = 0x5C ∷ 0x67 ∷ 0xD1 ∷ 0x81 ∷ 0xF6 ∷ 0x86 ∷ 0xDF ∷ 0x48 ∷ 0xBD ∷ 0x95 ∷ 0x9A ∷ 0x6E ∷ 0x4F ∷ 0x09 ∷ 0x25 ∷ 0xC3 ∷ []

abbrev free : Bytes
free = 0 ∷ 0 ∷ 0 ∷ 0 ∷ 0xFF ∷ 0xFF ∷ 0xFF ∷ 0xFF ∷ 0 ∷ 0 ∷ 0 ∷ 0 ∷ 0 ∷ 0 ∷ 0 ∷ 0 ∷ []

-- an entry of namespace G with that Size and OffsetToName; its bytes from the lock type on
abbrev entry : ℕ → ℕ → Bytes → Bytes
entry size offset behind = 0 ∷ 0 ∷ 1 ∷ 0 ∷ size ∷ 0 ∷ offset ∷ 0 ∷ (G ++ free ++ behind)

-- the two entries of the dump of 94 bytes: the whole namespace, locked now, and `A#`
abbrev first : Bytes
first = entry 0x2C 0x2C (1 ∷ 0 ∷ 0 ∷ 0 ∷ [])

abbrev second : Bytes
second = entry 0x32 0x2C (0 ∷ 0 ∷ 0 ∷ 0 ∷ 0x41 ∷ 0 ∷ 0x23 ∷ 0 ∷ 0 ∷ 0 ∷ [])

abbrev dump : Bytes
dump = first ++ second

-- `B`, locked by a trigger of two units of namespace G with Value 0
abbrev triggered : ℕ → ℕ → Bytes
triggered u v = entry 0x48 0x44 (3 ∷ 0 ∷ 0 ∷ 0 ∷ (G ++ (0 ∷ 0 ∷ u ∷ 0 ∷ v ∷ 0 ∷ 0 ∷ 0 ∷ 0x42 ∷ 0 ∷ 0 ∷ 0 ∷ [])))

-- a verdict in numbers: whether the bytes are whole and whether the reading has ended, how many entries are good, and how many bytes they take
abbrev numbers : Verdict → List ℕ
numbers v = cond v.whole 1 0 ∷ cond v.ended 1 0 ∷ v.entries ∷ v.bytes ∷ []

-- of each entry its Size, lock type and rank, and then what is told of those behind it
abbrev fields : Option Listing → (ℕ → List ℕ) → List ℕ
fields None behind = []
fields (Some l) behind = l.size ∷ l.lock ∷ l.rank ∷ behind l.size

abbrev entries : List Bytes → List ℕ
entries [] = []
entries (e ∷ es) = fields (Some (listed e)) (λ size. entries es)

-- what the rule says of bytes
abbrev told : Bytes → List ℕ
told d = numbers (verdict_of d) ++ entries (good_of d)

abbrev whole : ℕ → ℕ → List ℕ → List ℕ
whole n bytes es = 1 ∷ 0 ∷ n ∷ bytes ∷ es

-- the first bad entry begins at that byte, behind n good ones; further bytes may change it, or none can
abbrev bad_so_far : ℕ → ℕ → List ℕ → List ℕ
bad_so_far n at es = 0 ∷ 0 ∷ n ∷ at ∷ es

abbrev bad : ℕ → ℕ → List ℕ → List ℕ
bad n at es = 0 ∷ 1 ∷ n ∷ at ∷ es

-- what is told of the first entry, and of both
abbrev one : List ℕ
one = 44 ∷ 1 ∷ 65 ∷ []

abbrev both : List ℕ
both = 44 ∷ 1 ∷ 65 ∷ 50 ∷ 0 ∷ 1 ∷ []

-- the pieces, and the answer: it is what the rule says of the bytes that arrived
abbrev Holds : List Bytes × List ℕ → Type 0
Holds x = same (told (arrived x.0)) x.1 ≡ true

-- ---- the readings and what they say

abbrev readings : List (List Bytes × List ℕ)
readings =
    -- the dump of 94 bytes in one piece; no piece
    (dump ∷ [], whole 2 94 both)
    ∷ ([], whole 0 0 [])
    -- the dump cut within its second entry, and between the pieces two that are refused, of no byte and of 4,097
    ∷ (take 60 dump ∷ [] ∷ replicate 4097 0 ∷ drop 60 dump ∷ [], whole 2 94 both)
    -- without its last byte
    ∷ (take 93 dump ∷ [], bad_so_far 1 44 one)
    -- zeros behind it: one, and as many as a header has
    ∷ (dump ∷ replicate 1 0 ∷ [], bad_so_far 2 94 both)
    ∷ (dump ∷ replicate 44 0 ∷ [], bad 2 94 both)
    -- the first entry twice, and behind them another, which changes nothing
    ∷ (first ∷ first ∷ [], bad 1 44 one)
    ∷ (first ∷ first ∷ second ∷ [], bad 1 44 one)
    -- a header whose Size is 65,535, and one whose Size is 322, of which 44 bytes are there
    ∷ (first ∷ set (set first 4 0xFF) 5 0xFF ∷ [], bad 1 44 one)
    ∷ (first ∷ set (set first 4 0x42) 5 1 ∷ [], bad_so_far 1 44 one)
    -- Version 0x00010001
    ∷ (first ∷ set second 0 1 ∷ [], bad 1 44 one)
    -- the trigger `T#`, and `T0`
    ∷ (first ∷ triggered 0x54 0x23 ∷ [], bad 1 44 one)
    ∷ (first ∷ triggered 0x54 0x30 ∷ [], whole 2 116 (44 ∷ 1 ∷ 65 ∷ 72 ∷ 3 ∷ 0 ∷ []))
    ∷ []

-- THE READINGS HOLD
pub readings_hold : All Holds readings
unfolding ◌and◌ le16 le32 pairwise flat chunks chunks_from contains units each is_name is_terminated is_plain_terminated wildcards header_ok lock_ok name_ok well_formed name_of rank same_target length_by may_follow good_from good_of decided ended verdict_of arrived
readings_hold = more refl (more refl (more refl (more refl (more refl (more refl (more refl (more refl (more refl (more refl (more refl (more refl (more refl nil))))))))))))

-- ---- the same of the reader itself, which says what the rule says of the bytes that arrived (`in_pieces`)

-- what it hands out from byte `at` on, n entries at most
abbrev handed : ℕ → Bytes → ℕ → List ℕ
handed zero r at = []
handed (suc n) r at = fields (listing_in r at) (λ size. handed n r (at + size))

-- what it says after the pieces, if it was r before it began
abbrev said : Bytes → List Bytes → List ℕ
said r ps = numbers (verdict_in (fed_all (fresh r) ps)) ++ handed (max_entries + 1) (fed_all (fresh r) ps) 0

handed_is : (k : ℕ) (r : Bytes) (at : ℕ) (es : List Bytes) → HandsOut r at (map listed es) → length es < k → handed k r at ≡ entries es
handed_is zero r at es h l = absurd (omega arith)
handed_is (suc k) r at [] (end e) l = rw e
handed_is (suc k) r at (x ∷ es) (next e h) l = rw e (ap (λ (m : List ℕ). length x ∷ lock_policy_type x ∷ rank x ∷ m) (handed_is k r (at + length x) es h (omega arith)))

said_told : (r : Bytes) → length r ≡ reader_bytes → (ps : List Bytes) → said r ps ≡ told (arrived ps)
said_told r n ps =
    let c = in_pieces r n ps in
    ap₂ (λ (v : Verdict) (m : List ℕ). numbers v ++ m) c.verdict
    (handed_is (max_entries + 1) (fed_all (fresh r) ps) 0 (good_of (arrived ps)) c.entries (omega (arith, good_few (arrived ps))))

-- whatever its bytes were
pub reader_says : (r : Bytes) → length r ≡ reader_bytes → All (λ x. same (said r x.0) x.1 ≡ true) readings
reader_says r n = all_map (λ x h. rw (said_told r n x.0) h) readings readings_hold
