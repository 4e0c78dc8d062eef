-- What a reader has that only its own calls write, by the bytes that arrived: while it is open, and where it has stopped. Assumes nothing: these are definitions.
use Rattle.std.specs.Prelude.{◌≤◌, ◌≡◌, List, true, false, length, take}
use Rattle.limits.specs.Limits.{policy_bytes}
use Rattle.slices.specs.Bytes.{Bytes, part}
use Rattle.slices.specs.Chunks.{flat}
use Rattle.policy.specs.Filter.{Marks}
use Rattle.reader.specs.Reading.{good_of, behind, decided, ended}
use Rattle.reader.specs.Reader.{filter_at, held_at, reader_bytes, held, good, count, is_open}

-- the good entries are es: their bytes are the reader's first
pub record Tells (r : Bytes) (es : List Bytes) : Type 0 where
  pub goods : good r ≡ length (flat es)
  pub counts : count r ≡ length es
  pub bytes : take (length (flat es)) r ≡ flat es

-- the bytes b were taken, the good entries are es, and the filter has them
pub record Has (r b : Bytes) (es : List Bytes) : Type 0 where
  pub size : length r ≡ reader_bytes
  pub room : length b ≤ policy_bytes
  pub holds : held r ≡ length b
  pub bytes : take (length b) r ≡ b
  pub tells : Tells r es
  pub marks : Marks (part filter_at held_at r) es

-- THE INVARIANT: all bytes were taken, and the entry behind the good ones is not decided; or no further bytes are taken, and none can change what is said
pub data HasRead (r d : Bytes) : Type 0 where
  going : Has r d (good_of d) → decided (behind d) ≡ false → HasRead r d
  stopped : length r ≡ reader_bytes → is_open r ≡ false → Tells r (good_of d) → ended d ≡ true → HasRead r d
