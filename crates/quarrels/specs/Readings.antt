-- The proved bench readings of the checker of dumps (RULES.md, 13), under one claim: what it answers, and the buffer afterwards from end to end.
-- Assumes nothing.
use Rattle.std.specs.Prelude.{ℕ, ◌*◌, ◌≡◌, refl, List, [], ◌∷◌, ◌++◌, true, length, replicate, drop, Some, None, Ok, Err}
use Rattle.lists.specs.Lists.{All, nil, more}
use Rattle.slices.specs.Test.{◌and◌}
use Rattle.slices.specs.Bytes.{Bytes, le16, le32, le16_bytes, le32_bytes, pairwise, same, overwrite}
use Rattle.slices.specs.Chunks.{flat, chunks, chunks_from, used, contains, distinct}
use Rattle.names.specs.Name.{units, each, is_name, is_terminated, named, is_hex_digit, unit_matches, wildcards, is_plain_terminated}
use Rattle.patterns.specs.Common.{least_name}
use Rattle.entry.specs.Entry.{header_ok, lock_ok, name_ok, well_formed, name_of, targets, rank, same_target}
use Rattle.entry.specs.Encoding.{Lock, offset_for, size_for, encode_lock, encode_numbers, encode_entry}
use Rattle.entry.specs.Encoding.Lock.{plain, on_var_state}
use Rattle.policy.specs.Policy.{length_by}
use Rattle.policy.specs.Dump.{dump_valid}
use Rattle.quarrels.specs.Pairs.{row_from, pair_from}
use Rattle.quarrels.specs.Quarrel.{Verdict, quarrel, quarrels_of, buffer_after}

-- ---- how the readings are written down

-- the namespace G, and another
abbrev G : Bytes
G = 0x5C ∷ 0x67 ∷ 0xD1 ∷ 0x81 ∷ 0xF6 ∷ 0x86 ∷ 0xDF ∷ 0x48 ∷ 0xBD ∷ 0x95 ∷ 0x9A ∷ 0x6E ∷ 0x4F ∷ 0x09 ∷ 0x25 ∷ 0xC3 ∷ []

abbrev H : Bytes
H = 0x5C ∷ 0x67 ∷ 0xD1 ∷ 0x81 ∷ 0xF6 ∷ 0x86 ∷ 0xDF ∷ 0x48 ∷ 0xBD ∷ 0x95 ∷ 0x9A ∷ 0x6E ∷ 0x4F ∷ 0x09 ∷ 0x25 ∷ 0xC4 ∷ []

-- a text as the bytes of its units
abbrev text : List ℕ → Bytes
text [] = []
text (u ∷ us) = u ∷ 0 ∷ text us

-- an entry for any size and attributes; without units it is for the whole namespace
abbrev entry : Bytes → Lock → List ℕ → Bytes
entry space lock us =
    encode_entry (record { namespace = space; min_size = 0; max_size = 0xFFFFFFFF; must_have = 0; cant_have = 0; lock = lock; reserved = 0 ∷ 0 ∷ 0 ∷ []; name = text us })

-- one of namespace G that never locks; one that a trigger of that namespace locks with Value 0
abbrev free : List ℕ → Bytes
free us = entry G (plain 0) us

abbrev triggered : List ℕ → List ℕ → Bytes
triggered ts us = entry G (on_var_state G 0 0 (text ts)) us

abbrev whole : ℕ → Bytes
whole type = entry G (plain type) []

abbrev boot : List ℕ → List ℕ
boot us = 0x42 ∷ 0x6F ∷ 0x6F ∷ 0x74 ∷ us

-- the buffer before
abbrev old : Bytes
old = replicate 18 9

-- an answer in numbers: the status, and of a pair its places and the length of its name
abbrev numbers : Verdict → List ℕ
numbers (Err _) = 2 ∷ []
numbers (Ok None) = 0 ∷ []
numbers (Ok (Some q)) = 0 ∷ q.pair.earlier ∷ q.pair.later ∷ q.length ∷ []

-- the numbers, and behind them the buffer
abbrev told : Bytes → List ℕ
told d = numbers (quarrels_of d) ++ buffer_after d old

abbrev no_dump : List ℕ
no_dump = 2 ∷ old

abbrev no_quarrel : List ℕ
no_quarrel = 0 ∷ old

abbrev pair : ℕ → ℕ → List ℕ → List ℕ
pair i j us = 0 ∷ i ∷ j ∷ 2 * length us ∷ (text us ++ drop (2 * length us) old)

-- the reading says what the rules answer
abbrev Holds : Bytes × List ℕ → Type 0
Holds r = same (told r.0) r.1 ≡ true

-- ---- the readings and what they say

-- the bytes, and the answer with the buffer
abbrev readings : List (Bytes × List ℕ)
readings =
    -- no bytes
    ([], no_quarrel)
    -- `Boot00##` and `Boot##01`
    ∷ (free (boot (0x30 ∷ 0x30 ∷ 0x23 ∷ 0x23 ∷ [])) ++ free (boot (0x23 ∷ 0x23 ∷ 0x30 ∷ 0x31 ∷ [])), pair 0 1 (boot (0x30 ∷ 0x30 ∷ 0x30 ∷ 0x31 ∷ [])))
    -- `A##` and `#0#`: '0' where both have '#'
    ∷ (free (0x41 ∷ 0x23 ∷ 0x23 ∷ []) ++ free (0x23 ∷ 0x30 ∷ 0x23 ∷ []), pair 0 1 (0x41 ∷ 0x30 ∷ 0x30 ∷ []))
    -- `Boot####` and the whole namespace, which locks
    ∷ (free (boot (0x23 ∷ 0x23 ∷ 0x23 ∷ 0x23 ∷ [])) ++ whole 1, no_quarrel)
    -- `Boot##` and `Boot#0`, of other ranks
    ∷ (free (boot (0x23 ∷ 0x23 ∷ [])) ++ free (boot (0x23 ∷ 0x30 ∷ [])), no_quarrel)
    -- `#G` and `0#`: '#' does not match 'G'
    ∷ (free (0x23 ∷ 0x47 ∷ []) ++ free (0x30 ∷ 0x23 ∷ []), no_quarrel)
    -- `A#` and `B#`
    ∷ (free (0x41 ∷ 0x23 ∷ []) ++ free (0x42 ∷ 0x23 ∷ []), no_quarrel)
    -- `X`, `A#`, `#B`, `#C`: of the pairs 1 2 and 1 3 the lowest later place
    ∷ (free (0x58 ∷ []) ++ free (0x41 ∷ 0x23 ∷ []) ++ free (0x23 ∷ 0x42 ∷ []) ++ free (0x23 ∷ 0x43 ∷ []), pair 1 2 (0x41 ∷ 0x42 ∷ []))
    -- `A#`, `GA#`, `G#A`, `#A`: of the pairs 0 3 and 1 2 the lowest earlier place
    ∷ (free (0x41 ∷ 0x23 ∷ []) ++ free (0x47 ∷ 0x41 ∷ 0x23 ∷ []) ++ free (0x47 ∷ 0x23 ∷ 0x41 ∷ []) ++ free (0x23 ∷ 0x41 ∷ []), pair 0 3 (0x41 ∷ 0x41 ∷ []))
    -- `A#` and `#A` of two namespaces
    ∷ (free (0x41 ∷ 0x23 ∷ []) ++ entry H (plain 0) (0x23 ∷ 0x41 ∷ []), no_quarrel)
    -- repeats: `A#` twice, and the whole namespace, whatever they lock
    ∷ (free (0x41 ∷ 0x23 ∷ []) ++ entry G (plain 1) (0x41 ∷ 0x23 ∷ []), no_dump)
    ∷ (whole 0 ++ whole 1, no_dump)
    -- a zero byte behind the last entry
    ∷ (free (0x41 ∷ 0x23 ∷ []) ++ free (0x23 ∷ 0x41 ∷ []) ++ (0 ∷ []), no_dump)
    -- `A#` with the trigger `T#`, and with `T0`; `#A` behind it
    ∷ (triggered (0x54 ∷ 0x23 ∷ []) (0x41 ∷ 0x23 ∷ []) ++ free (0x23 ∷ 0x41 ∷ []), no_dump)
    ∷ (triggered (0x54 ∷ 0x30 ∷ []) (0x41 ∷ 0x23 ∷ []) ++ free (0x23 ∷ 0x41 ∷ []), pair 0 1 (0x41 ∷ 0x41 ∷ []))
    ∷ []

-- THE READINGS HOLD
pub readings_hold : All Holds readings
unfolding ◌and◌ le16 le32 le16_bytes le32_bytes pairwise overwrite flat chunks chunks_from used contains distinct units each is_name is_terminated is_plain_terminated named is_hex_digit unit_matches wildcards least_name header_ok lock_ok name_ok well_formed name_of targets rank same_target offset_for size_for encode_lock encode_numbers encode_entry length_by dump_valid row_from pair_from quarrel quarrels_of buffer_after
readings_hold = more refl (more refl (more refl (more refl (more refl (more refl (more refl (more refl (more refl (more refl (more refl (more refl (more refl (more refl (more refl nil))))))))))))))
