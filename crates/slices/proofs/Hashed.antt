-- The hash of the fours of a list, as a fold, and of what is left. Assumes nothing.
use Prim.Native.Nat.{ℕ, zero, suc, ◌+◌, ◌-◌, ◌*◌, ◌≤◌, ◌<◌}
use mathlib.Core.Path.{◌≡◌, refl, sym, ◌∙◌}
use mathlib.Core.List.{[], ◌∷◌}
use native.Mathlib.Omega.{arith}
use lib.ListN.{length, take, drop, length-drop}
use lib.Seq.{drop-drop}
use Rattle.std.specs.List.{fold}
use Rattle.std.specs.Int.{w32, from_le_bytes}
use Rattle.std.specs.Simd.{first_chunks}
use Rattle.slices.specs.Bytes.{Bytes, le16, le32}
use Rattle.slices.proofs.PartLaws.{drop_step}
use Rattle.slices.proofs.NumberLaws.{le32_take, le32_four}
use Rattle.slices.specs.Hash.{mixed, hash_from}

-- the hash of h and the first k fours
abbrev pub hash_fours : ℕ → ℕ → Bytes → ℕ
hash_fours h k l = fold (λ h four. mixed h (from_le_bytes w32 four)) h (first_chunks 4 k l)

pub hash_step : (h : ℕ) (l : Bytes) (i : ℕ) → i + 4 ≤ length l → hash_from h (drop i l) ≡ hash_from (mixed h (le32 l i)) (drop (i + 4) l)
unfolding hash_from le16 le32
hash_step h l i k =
    let a : i + 1 + 1 ≡ i + 2 = omega arith in
    let b : i + 2 + 1 ≡ i + 3 = omega arith in
    let c : i + 3 + 1 ≡ i + 4 = omega arith in
    rw (drop_step l i (omega arith), drop_step l (i + 1) (omega arith), a, drop_step l (i + 2) (omega arith), b, drop_step l (i + 3) (omega arith), c)

pub hash_by_fours : (h k : ℕ) (l : Bytes) → k * 4 ≤ length l → hash_from h l ≡ hash_from (hash_fours h k l) (drop (k * 4) l)
hash_by_fours h zero l a = refl
hash_by_fours h (suc k) l a =
    let e : le32 l 0 ≡ from_le_bytes w32 (take 4 l) = sym (le32_take 4 l 0 (omega arith)) ∙ le32_four (take 4 l) 0 in
    let d : length (drop 4 l) ≡ length l - 4 = length-drop 4 l in
    let j : 4 + k * 4 ≡ suc k * 4 = omega arith in
    let g = rw (drop-drop, j) at (hash_by_fours (mixed h (from_le_bytes w32 (take 4 l))) k (drop 4 l) (omega arith)) in
    hash_step h l 0 (omega arith) ∙ rw e g

pub two : (h : ℕ) (l : Bytes) → length l < 4 → 2 ≤ length l → hash_from h l ≡ mixed h (le16 l 0)
unfolding hash_from le16
two h [] k m = absurd (omega arith)
two h (a ∷ []) k m = absurd (omega arith)
two h (a ∷ b ∷ []) k m = refl
two h (a ∷ b ∷ c ∷ []) k m = refl
two h (a ∷ b ∷ c ∷ d ∷ l) k m = absurd (omega arith)

pub none : (h : ℕ) (l : Bytes) → length l < 2 → hash_from h l ≡ h
unfolding hash_from
none h [] k = refl
none h (a ∷ []) k = refl
none h (a ∷ b ∷ l) k = absurd (omega arith)
