-- The reader once bytes have arrived. Assumes nothing.
use Prim.Native.Nat.{ℕ, ◌+◌, ◌-◌, ◌≤◌, ◌<◌}
use mathlib.Core.Path.{◌≡◌, refl, sym, ap, ap₂, ◌∙◌}
use mathlib.Core.List.{[], ◌∷◌}
use mathlib.Core.Bool.{Bool, true, false}
use mathlib.Core.Logic.{◌⊎◌}
use native.Mathlib.Omega.{arith}
use lib.ListN.{length, get_or, take}
use borrow.Author.Tests.{le-leb, lt-leb}
use Rattle.limits.specs.Limits.{policy_bytes, max_piece}
use Rattle.slices.proofs.TestLaws.{and_intro}
use Rattle.slices.specs.Bytes.{Bytes, le16, part, overwrite}
use Rattle.status.specs.declared.Status.TheVariants.{Success, InvalidParameter}
use Rattle.reader.specs.Reading.{decided}
use Rattle.reader.proofs.ReadingLaws.{undecided_entries}
use Rattle.reader.specs.Reader.{held_at, good_at, reader_bytes, held, good, put, stop, rest, judged, stopped_if_decided, all_judged, taken, fed, is_piece, feed_status, after_feed}
use Rattle.reader.proofs.ReaderLaws.{length_put, put_same, put_behind, part_put}
use Rattle.reader.proofs.PiecesLaws.{stopped_stays}
use Rattle.reader.proofs.Claim.{piece_refused}
use Rattle.reader.proofs.Parts.{part_order}

-- what stands behind the good entries once the bytes up to byte to are held, whose number the code writes first
pub hold_tells : {b : Bool} {g : ℕ} {t : Bytes} (r : Bytes) (to : ℕ) → length r ≡ reader_bytes → to ≤ policy_bytes → t ≡ put r held_at to → g ≡ le16 t good_at
    → b ≡ decided (part g to t) → b ≡ decided (part (good r) to r)
hold_tells {b} {g} {t} r to h l e f q =
    let n : g ≡ good r = f ∙ ap (λ (s : Bytes). le16 s good_at) e ∙ put_behind r held_at to (omega arith) good_at (omega arith) in
    q ∙ ap₂ (λ (m : ℕ) (s : Bytes). decided (part m to s)) n e ∙ ap decided (part_put r held_at to (omega arith) (good r) to (omega arith))

-- the bytes up to byte to stand in s, and t is the reader with their number; b says whether a decided entry stands behind the good ones
module _ {b : Bool} {t : Bytes} (s : Bytes) (to : ℕ) (n : length s ≡ reader_bytes) (l : to ≤ policy_bytes) (e : t ≡ put s held_at to) (q : b ≡ decided (part (good s) to s)) where
  number_held : held t ≡ to
  number_held = ap held e ∙ put_same s held_at to (omega arith) (omega arith)

  number_good : good t ≡ good s
  number_good = ap good e ∙ put_behind s held_at to (omega arith) good_at (omega arith)

  -- the entries can be judged
  pub ready : b ≡ true → (length t ≡ reader_bytes) × (good t ≤ held t) × (held t ≤ policy_bytes)
  ready z = (
    ap length e ∙ length_put s held_at to (omega arith) ∙ n,
    omega (arith, number_held, number_good, part_order (good s) to s (sym q ∙ z)),
    omega (arith, number_held),
  )

  -- or there is none to judge
  pub none_judged : b ≡ false → t ≡ all_judged t
  unfolding judged stopped_if_decided
  none_judged z =
      let f : rest t ≡ part (good s) to s =
      rw (number_held, number_good) (ap (part (good s) to) e ∙ part_put s held_at to (omega arith) (good s) to (omega arith)) in
      let c : decided (rest t) ≡ false = ap decided f ∙ sym q ∙ z in
      sym (rw (undecided_entries (rest t) c, c))

pub taken_is : {s t u : Bytes} {f : ℕ} (r p : Bytes) → f ≡ held r → s ≡ overwrite r f p → t ≡ put s held_at (f + length p) → u ≡ all_judged t → u ≡ taken r p
unfolding taken
taken_is r p a b c d = d ∙ rw (c, b, a)

-- ---- the reader after a piece, as the code goes
module _ (r p : Bytes) where
  pub fed_stopped : policy_bytes < held r → r ≡ fed r p
  fed_stopped h = sym (stopped_stays r p (lt-leb (held r) policy_bytes h))

  module _ (h : held r ≤ policy_bytes) where
    pub fed_room : length p ≤ policy_bytes - held r → taken r p ≡ fed r p
    unfolding fed
    fed_room l = rw (le-leb (held r) policy_bytes h, le-leb (length p) (policy_bytes - held r) l)

    pub fed_past : policy_bytes - held r < length p → stop (taken r (take (policy_bytes - held r) p)) ≡ fed r p
    unfolding fed
    fed_past l = rw (le-leb (held r) policy_bytes h, lt-leb (length p) (policy_bytes - held r) l)

-- a piece of one byte
pub one_byte : (p : Bytes) → length p ≡ 1 → get_or p 0 0 ∷ [] ≡ p
one_byte [] l = absurd (omega arith)
one_byte (x ∷ []) l = refl
one_byte (x ∷ y ∷ p) l = absurd (omega arith)

-- ---- what a feed answers and leaves: s is the reader where the piece was taken
module _ (r p : Bytes) where
  pub fed_piece : {s : Bytes} → (length p ≡ 0 → ⊥) → length p ≤ max_piece → s ≡ fed r p → (Success ≡ feed_status p) × (s ≡ after_feed r p)
  unfolding feed_status after_feed
  fed_piece a b e =
      let k : is_piece p ≡ true = and_intro _ _ (le-leb 1 (length p) (omega arith)) (le-leb (length p) max_piece b) in
      (rw k, e ∙ rw k)

  pub refused : (length p ≡ 0) ⊎ (max_piece < length p) → (InvalidParameter ≡ feed_status p) × (r ≡ after_feed r p)
  refused h = let k = piece_refused r p h in (sym k.0, sym k.1)
