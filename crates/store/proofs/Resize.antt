-- Room in place of a record, and a record written, as writes into the bytes. Assumes nothing.
use mathlib.Core.Path.{◌≡◌, refl, sym, ap, ◌∙◌}
use mathlib.Core.Bool.{true}
use mathlib.Core.List.{[], ◌∷◌, ◌++◌, append-nil}
use Prim.Native.Nat.{ℕ, ◌+◌, ◌-◌, ◌/◌, ◌%◌, ◌≤◌, ◌<◌}
use native.Mathlib.Omega.{arith}
use native.Mathlib.Nat.{zero-add}
use lib.ListN.{length, take, drop, replicate, length-append, length-take, length-drop, length-replicate, replicate-append-replicate, take-append-drop}
use lib.Seq.{length-take-le, drop-drop, drop-length, take-add}
use Rattle.slices.specs.Bytes.{Bytes, le32_bytes, all_are, overwrite, padded}
use Rattle.slices.proofs.BytesLaws.{all_are-is}
use Rattle.slices.proofs.PartLaws.{length_middle, drop_replicate}
use borrow.Rule.Slice.PartMut.{put_mid}
use Rattle.slices.proofs.Writes.{part_written}
use Rattle.slices.proofs.OverwriteLaws.{length_overwrite, overwrite_seam, overwrite_next}
use Rattle.store.specs.Record.{record_mark}
use Rattle.store.specs.Parts.{resized}

-- behind the end there is only 0xFF
pub free_behind : (s : Bytes) (end k : ℕ) → all_are 255 (drop end s) ≡ true → end ≤ k → drop k s ≡ replicate (length s - k) 255
free_behind s end k e h =
    let i : k ≡ end + (k - end) = omega arith in
    let j : length s - end - (k - end) ≡ length s - k = omega arith in
    ap (λ (n : ℕ). drop n s) i ∙ sym (drop-drop (k - end) end s)
    ∙ ap (drop (k - end)) (all_are-is 255 (drop end s) e)
    ∙ drop_replicate (k - end) (length (drop end s)) 255
    ∙ rw (length-drop, j)

module _ (s : Bytes) (at old new end : ℕ) (h₁ : at + old ≤ end) (h₂ : end ≤ length s) (h₃ : end + new ≤ length s + old) (free : all_are 255 (drop end s) ≡ true) where
  -- what moves, and where it ends then
  abbrev tail : Bytes
  tail = take (end - (at + old)) (drop (at + old) s)

  abbrev stop : ℕ
  stop = at + new + (end - (at + old))

  abbrev front : Bytes
  front = take (at + new) s ++ tail

  tail_length : length tail ≡ end - (at + old)
  tail_length = length_middle s (at + old) (end - (at + old)) (omega arith)

  front_length : length front ≡ stop
  front_length =
      let k : length (take (at + new) s) ≡ at + new = length-take-le (at + new) s (omega arith) in
      simp (length-append, tail_length, k)

  moved : overwrite s (at + new) tail ≡ front ++ drop stop s
  unfolding overwrite
  moved = rw tail_length

  grown : old ≤ new → front ++ drop stop s ≡ resized s at old new end
  unfolding resized padded
  grown h = rw (front_length, free_behind s end stop free (omega arith))

  -- room for as many bytes: nothing moves
  pub resized_same : new ≡ old → s ≡ resized s at old new end
  resized_same h =
      sym (rw (h, ← take-add (at + old) (end - (at + old)) s) (take-append-drop (at + old + (end - (at + old))) s))
      ∙ grown (omega arith)

  module _ {t₁ : Bytes} (q : t₁ ≡ overwrite s (at + new) tail) where
    pub resized_up : old < new → t₁ ≡ resized s at old new end
    resized_up h = q ∙ moved ∙ grown (omega arith)

    pub resized_down : {t₂ : Bytes} → new < old → t₂ ≡ overwrite t₁ stop (replicate (old - new) 255) → t₂ ≡ resized s at old new end
    unfolding resized padded
    resized_down h q₂ =
        let e : length s - stop ≡ old - new + (length s - (stop + (old - new))) = omega arith in
        q₂ ∙ ap (λ (l : Bytes). overwrite l stop (replicate (old - new) 255)) (q ∙ moved)
        ∙ overwrite_seam front (drop stop s) (replicate (old - new) 255) stop front_length
        ∙ rw (front_length, length-replicate, drop-drop, free_behind s end (stop + (old - new)) free (omega arith), replicate-append-replicate, e)

-- ---- the bytes of small numbers
number : (x : ℕ) → x < 65536 → le32_bytes x ≡ (x % 256) ∷ (x / 256) ∷ 0 ∷ 0 ∷ []
unfolding le32_bytes
number x h =
    let p : x / 256 % 256 ≡ x / 256 = omega arith in
    let q : x / 65536 ≡ 0 = omega arith in
    let r : x / 16777216 ≡ 0 = omega arith in
    rw (p, q, r)

byte : (x : ℕ) → x < 256 → le32_bytes x ≡ x ∷ 0 ∷ 0 ∷ 0 ∷ []
byte x h =
    let p : x % 256 ≡ x = omega arith in
    let q : x / 256 ≡ 0 = omega arith in
    number x (omega arith) ∙ rw (p, q)

pub header_bytes_lem : {low high : ℕ} (a n d : ℕ) → a < 256 → n < 256 → d < 65536 → low ≡ d % 256 → high ≡ d / 256
    → 0xAA ∷ 0x55 ∷ 0x3F ∷ 0 ∷ a ∷ 0 ∷ 0 ∷ 0 ∷ n ∷ 0 ∷ 0 ∷ 0 ∷ low ∷ high ∷ 0 ∷ 0 ∷ [] ≡ record_mark ++ le32_bytes a ++ le32_bytes n ++ le32_bytes d
header_bytes_lem a n d ha hn hd p q = rw (byte a ha, byte n hn, number d hd, p, q)

-- ---- writes to the parts of a list, one behind the other, as `s[i..j]`
pub copied : {t w : Bytes} (s v u : Bytes) (i j : ℕ) → t ≡ overwrite s 0 v → i ≡ length v → j ≡ i + length u → w ≡ u → put_mid i (j - i) t w ≡ overwrite s 0 (v ++ u)
copied {t} {w} s v u i j e f g h =
    ap (λ (k : ℕ). put_mid i (k - i) t w) g ∙ part_written t i (length u) u h refl ∙ overwrite_next s 0 i v u e (f ∙ sym (zero-add (length v))) (omega arith)

pub filled : {t w : Bytes} (s v : Bytes) (i j m x : ℕ) → t ≡ overwrite s 0 v → i ≡ length v → j ≡ i + m → i + m ≤ length s → w ≡ replicate (length (take (j - i) (drop i t))) x
    → put_mid i (j - i) t w ≡ overwrite s 0 (v ++ replicate m x)
filled {t} s v i j m x e f g h k =
    let l : length t ≡ length s = ap length e ∙ length_overwrite s 0 v (omega arith) in
    let r : j - i ≡ m = omega arith in
    let q : length (take (j - i) (drop i t)) ≡ m = rw (r, length-take, length-drop) (omega arith) in
    copied s v (replicate m x) i j e f (g ∙ ap (λ (y : ℕ). i + y) (sym (length-replicate {A = ℕ} m x))) (k ∙ ap (λ (y : ℕ). replicate y x) q)

-- the first of them, as `s[..i]`
pub copied_first : {w : Bytes} (s u : Bytes) (i : ℕ) → i ≡ length u → w ≡ u → w ++ drop i s ≡ overwrite s 0 u
unfolding overwrite
copied_first s u i e f = rw (f, e, zero-add (length u))

-- a write of all of it
pub written_whole : (s v : Bytes) → length v ≡ length s → overwrite s 0 v ≡ v
unfolding overwrite
written_whole s v e = let k : 0 + length v ≡ length s = omega arith in rw (k, drop-length) (append-nil v)
