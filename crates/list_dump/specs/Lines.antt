-- The lines that the program writes, as bytes. Assumes nothing: these are definitions.
use Rattle.std.specs.Prelude.{ℕ, zero, suc, ◌+◌, ◌/◌, ◌%◌, [], ◌∷◌, ◌++◌, cond, eqb, ltb}
use Prim.Native.Char.{code}
use Prim.Native.String.{String, [] as end, ◌∷◌ as ◌then◌}
use Rattle.limits.specs.Limits.{whole_namespace_rank}
use Rattle.slices.specs.Bytes.{Bytes}
use Rattle.reader.specs.declared.Verdict.{Verdict}
use Rattle.reader.specs.declared.Listing.{Listing}

-- a text in ASCII
abbrev pub ascii : String → Bytes
ascii end = []
ascii (c then s) = code c ∷ ascii s

-- the ASCII code of a decimal digit
abbrev pub digit : ℕ → ℕ
digit d = 48 + d

-- the decimal digits of a number, as few as it takes, the highest first; of a number with more than k digits the last k
unfoldable pub decimal_within : ℕ → ℕ → Bytes
decimal_within zero n = []
decimal_within (suc k) n = cond (ltb n 10) (digit n ∷ []) (decimal_within k (n / 10) ++ (digit (n % 10) ∷ []))

-- no number of 64 bits has more than 20
abbrev pub decimal : ℕ → Bytes
decimal n = decimal_within 20 n

-- a word and a number behind it
abbrev pub field : String → ℕ → Bytes
field word n = ascii word ++ decimal n

-- the number of '#' in an entry's name, or `all` for an entry of a whole namespace
unfoldable pub marks : ℕ → Bytes
marks rank = cond (eqb rank whole_namespace_rank) (ascii "all") (decimal rank)

-- THE LINE OF AN ENTRY: its place in the dump, its Size, its lock type, its marks
unfoldable pub entry_line : ℕ → Listing → Bytes
entry_line index l = decimal index ++ field " size " l.size ++ field " lock " l.lock ++ (ascii " marks " ++ marks l.rank) ++ ascii "\n"

-- THE LAST LINE: how many entries there are and how many bytes they take; or the first byte of the first entry that is not good
unfoldable pub closing_line : Verdict → Bytes
closing_line v =
    cond v.whole
    (field "entries " v.entries ++ field " bytes " v.bytes ++ ascii "\n")
    (field "bad at " v.bytes ++ ascii "\n")
