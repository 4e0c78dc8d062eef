-- What a write into a reader changes, and what it leaves: its numbers, and its bytes before a place. Assumes nothing.
use Rattle.std.specs.Prelude.{ℕ, ◌+◌, ◌-◌, ◌≤◌, ◌<◌, ◌≡◌, refl, [], ◌∷◌, ◌++◌, Bool, true, false, take, set, leb}
use Rattle.std.proofs.Math.Path.{sym, ap}
use Rattle.std.proofs.Common.{◌∙◌, append_assoc, length-append, leb-true, leb-false}
use native.Mathlib.Omega.{arith}
use Rattle.std.proofs.Math.ListN.{length, drop}
use Rattle.std.proofs.Math.Seq.{take_at, drop_at, length-take-le}
use Rattle.slices.specs.Bytes.{Bytes, le16, le16_bytes, part, overwrite}
use Rattle.slices.proofs.PartLaws.{part_none}
use Rattle.slices.proofs.NumberLaws.{le16_take, le16_drop, le16_bytes_lem}
use Rattle.slices.proofs.OverwriteLaws.{middle_overwrite, drop_overwrite, set_overwrites, length_overwrite}
use Rattle.reader.specs.Reader.{put}

-- ---- a write of v at a place where there is room
module _ (r : Bytes) (at : ℕ) (v : Bytes) (h : at + length v ≤ length r) where
  pub part_overwrite : (a e : ℕ) → e ≤ at → part a e (overwrite r at v) ≡ part a e r
  part_overwrite a e l = go (leb a e) refl
    where
      go : (t : Bool) → leb a e ≡ t → part a e (overwrite r at v) ≡ part a e r
      go true q = middle_overwrite r a (e - a) at v (omega (arith, leb-true a e q)) (omega arith)
      go false q = let k : e ≤ a = omega (arith, leb-false a e q) in part_none a e (overwrite r at v) k ∙ sym (part_none a e r k)

  pub take_overwrite : (n : ℕ) → n ≤ at → take n (overwrite r at v) ≡ take n r
  take_overwrite n l = middle_overwrite r 0 n at v (omega arith) (omega arith)

  pub le16_overwrite : (k : ℕ) → k + 2 ≤ at → le16 (overwrite r at v) k ≡ le16 r k
  le16_overwrite k l = sym (le16_take at (overwrite r at v) k l) ∙ ap (λ (s : Bytes). le16 s k) (take_overwrite at (omega arith)) ∙ le16_take at r k l

  pub le16_overwrite_behind : (k : ℕ) → at + length v ≤ k → le16 (overwrite r at v) k ≡ le16 r k
  le16_overwrite_behind k l =
      let z : k + 0 ≡ k = omega arith in
      let e : (s : Bytes) → le16 s k ≡ le16 (drop k s) 0 = λ s. sym (le16_drop k s 0 ∙ ap (le16 s) z) in
      e (overwrite r at v) ∙ ap (λ (s : Bytes). le16 s 0) (drop_overwrite r at k v (omega arith) l) ∙ sym (e r)

  -- what was written, and all up to its end
  pub drop_written : drop at (overwrite r at v) ≡ v ++ drop (at + length v) r
  unfolding overwrite
  drop_written =
      let b = drop (at + length v) r in
      ap (drop at) (append_assoc (take at r) v b) ∙ drop_at (take at r) (v ++ b) at (length-take-le at r (omega arith))

  pub take_written : (n : ℕ) → n ≡ at + length v → take n (overwrite r at v) ≡ take at r ++ v
  unfolding overwrite
  take_written n e = take_at (take at r ++ v) (drop (at + length v) r) n (rw (length-append, length-take-le at r (omega arith), e))

-- ---- a number written
length_number : (n : ℕ) → length (le16_bytes n) ≡ 2
unfolding le16_bytes
length_number n = refl

module _ (r : Bytes) (at n : ℕ) (h : at + 2 ≤ length r) where
  pub length_put : length (put r at n) ≡ length r
  unfolding put
  length_put = length_overwrite r at (le16_bytes n) (rw length_number (h))

  pub put_same : n < 65536 → le16 (put r at n) at ≡ n
  unfolding put
  put_same l =
      let z : at + 0 ≡ at = omega arith in
      let w = le16_bytes n in
      let d = drop_written r at w (rw length_number (h)) in
      ap (le16 (put r at n)) (sym z) ∙ sym (le16_drop at (put r at n) 0) ∙ ap (λ (s : Bytes). le16 s 0) d ∙ le16_bytes_lem n (drop (at + length w) r) l

  pub put_before : (k : ℕ) → k + 2 ≤ at → le16 (put r at n) k ≡ le16 r k
  unfolding put
  put_before = le16_overwrite r at (le16_bytes n) (rw length_number (h))

  pub put_behind : (k : ℕ) → at + 2 ≤ k → le16 (put r at n) k ≡ le16 r k
  unfolding put
  put_behind k l = le16_overwrite_behind r at (le16_bytes n) (rw length_number (h)) k (rw length_number l)

  pub part_put : (a e : ℕ) → e ≤ at → part a e (put r at n) ≡ part a e r
  unfolding put
  part_put = part_overwrite r at (le16_bytes n) (rw length_number (h))

  pub take_put : (k : ℕ) → k ≤ at → take k (put r at n) ≡ take k r
  unfolding put
  take_put = take_overwrite r at (le16_bytes n) (rw length_number (h))

-- ---- one byte written
module _ (r : Bytes) (i x : ℕ) (h : i < length r) where
  one : i + length (x ∷ []) ≤ length r
  one = omega arith

  pub le16_set : (k : ℕ) → i < k → le16 (set r i x) k ≡ le16 r k
  le16_set k l = ap (λ (s : Bytes). le16 s k) (set_overwrites r i x h) ∙ le16_overwrite_behind r i (x ∷ []) one k (omega arith)
