-- What the program writes of a dump, whatever the pieces in which it is read. Assumes nothing: these are definitions.
use Rattle.std.specs.Prelude.{ℕ, ◌+◌, ◌≡◌, ◌<◌, Option, List, [], ◌∷◌, ◌++◌, map, Bool, true, false, length, ◌⊎◌, ⊤}
use Rattle.std.specs.Io.KnownBytes.{Appends, Consumes, IsAtEnd}
use Rattle.slices.specs.Bytes.{Bytes}
use Rattle.reader.specs.declared.Listing.{Listing}
use Rattle.reader.specs.Reading.{good_of, ended, verdict_of, listed}
use Rattle.reader.specs.HasRead.{HasRead}
use Rattle.list_dump.specs.Lines.{entry_line, closing_line}
use Rattle.list_dump.specs.declared.Failure.{Failure}
use Rattle.list_dump.specs.declared.Failure.TheVariants.{Input, Output}

-- a line for each entry that is told, of which the first has the place i in the dump
unfoldable pub listing_lines : ℕ → List Listing → Bytes
listing_lines i [] = []
listing_lines i (l ∷ ls) = entry_line i l ++ listing_lines (i + 1) ls

-- the lines of the good entries of a dump, up to the first that is not good
abbrev pub entry_lines : Bytes → Bytes
entry_lines d = listing_lines 0 (map listed (good_of d))

-- ALL THAT IS WRITTEN OF A DUMP: these lines and the last one
unfoldable pub dump_lines : Bytes → Bytes
dump_lines d = entry_lines d ++ closing_line (verdict_of d)

-- behind the bytes d the piece p was read, and the lines of the entries were written that are good since: of the input's known bytes before and after, and of the
-- output's; r is the reader after it
pub record Took (d p : Bytes) (input₀ input₁ output₀ output₁ : Option Bytes) (r : Bytes) : Type 0 where
  pub consumed : Consumes input₀ input₁ p
  pub reads : HasRead r (d ++ p)
  pub since : List Bytes
  pub are_good : good_of (d ++ p) ≡ good_of d ++ since
  pub written : Appends output₀ output₁ (listing_lines (length (good_of d)) (map listed since))

-- no byte is left, or none that is left changes what is written
abbrev pub IsDone : Bytes → Option Bytes → Type 0
IsDone d input = IsAtEnd input ⊎ (ended d ≡ true)

-- what a turn tells: more is to be read behind a piece that has a byte, or the reading is done
abbrev pub AfterTurn : Bool → Bytes → Bytes → Option Bytes → Type 0
AfterTurn true d p input = 0 < length p
AfterTurn false d p input = IsDone (d ++ p) input

-- what holds where a read failed; of a write that failed nothing is known
abbrev pub OnInput : Failure → Type 0 → Type 0
OnInput (Input e) P = P
OnInput (Output e) P = ⊤
