-- Laws of parts of a list of bytes. Assumes nothing.
use Rattle.std.specs.Prelude.{ℕ, zero, suc, ◌+◌, ◌-◌, ◌≤◌, ◌<◌, ◌≡◌, [], ◌∷◌, length, get_or, take, drop, replicate}
use Rattle.std.proofs.Common.{sym, ap, ◌∙◌, arith, add-one, length-take, length-drop, drop_of_length-le, take-append-drop, drop-cons, take_all, get_or-take, get_or-drop, take-take}
use Rattle.std.proofs.Math.Path.{subst⁻¹}
use Rattle.std.proofs.Math.Nat.{add-sub_cancel_left, sub-zero, zero-sub, suc-sub-suc}
use Rattle.std.proofs.Math.Seq.{take-nil}
use Rattle.lists.proofs.ListsLaws.{all_left, all_right}
use Rattle.slices.specs.Bytes.{Bytes, AreBytes, part}

-- one byte more, at the code's i + 1
pub drop_step : (s : Bytes) (i : ℕ) → i < length s → drop i s ≡ get_or s i 0 ∷ drop (i + 1) s
drop_step s i h = rw (add-one, drop-cons s i 0)

pub part_none : (a e : ℕ) (s : Bytes) → e ≤ a → part a e s ≡ []
part_none a e s h =
    let z : e - a ≡ 0 = omega arith in
    rw z

pub part_past : (a e : ℕ) (s : Bytes) → length s ≤ a → part a e s ≡ []
part_past a e s h = rw drop_of_length-le (take-nil (e - a))

-- up to the end or past it: all that is left
pub part_rest : (a e : ℕ) (s : Bytes) → length s ≤ e → part a e s ≡ drop a s
part_rest a e s h = take_all (e - a) (drop a s) (rw length-drop (omega arith))

-- the n bytes from a on
pub part_of : (a n : ℕ) (s : Bytes) → part a (a + n) s ≡ take n (drop a s)
part_of a n s = rw add-sub_cancel_left

pub length_part : (a e : ℕ) (s : Bytes) → e ≤ length s → length (part a e s) ≡ e - a
length_part a e s h = simp (length-take, length-drop) (omega arith)

pub length_middle : (s : Bytes) (a n : ℕ) → a + n ≤ length s → length (take n (drop a s)) ≡ n
length_middle s a n h = simp (length-take, length-drop) (omega arith)

pub get_d-middle : (s : Bytes) (a n i : ℕ) → i < n → get_or (take n (drop a s)) i 0 ≡ get_or s (a + i) 0
get_d-middle s a n i h = rw (get_or-take, get_or-drop)

-- a part that ends within the first n bytes
pub drop_take : (n a : ℕ) (s : Bytes) → drop a (take n s) ≡ take (n - a) (drop a s)
drop_take n zero s = rw sub-zero
drop_take zero (suc a) s = rw zero-sub
drop_take (suc n) (suc a) [] = sym (take-nil (suc n - suc a))
drop_take (suc n) (suc a) (b ∷ s) = drop_take n a s ∙ rw suc-sub-suc

pub part_take : (a e n : ℕ) (s : Bytes) → e ≤ n → part a e (take n s) ≡ part a e s
part_take a e n s h = ap (take (e - a)) (drop_take n a s) ∙ take-take (e - a) (n - a) (drop a s) (omega arith)

-- a part of bytes is bytes
pub bytes_part : (a e : ℕ) (s : Bytes) → AreBytes s → AreBytes (part a e s)
bytes_part a e s h =
    let d : AreBytes (drop a s) = all_right (take a s) (drop a s) (subst⁻¹ AreBytes (take-append-drop a s) h) in
    all_left (take (e - a) (drop a s)) (drop (e - a) (drop a s)) (subst⁻¹ AreBytes (take-append-drop (e - a) (drop a s)) d)

pub drop_replicate : (m n v : ℕ) → drop m (replicate n v) ≡ replicate (n - m) v
drop_replicate zero n v = rw sub-zero
drop_replicate (suc m) zero v = rw zero-sub
drop_replicate (suc m) (suc n) v = drop_replicate m n v ∙ rw suc-sub-suc
