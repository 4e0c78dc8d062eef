-- Writes of many bytes, as std's methods leave them. Assumes nothing.
use mathlib.Core.Path.{◌≡◌, sym, ◌∙◌}
use Prim.Native.Nat.{ℕ, ◌+◌, ◌-◌, ◌/◌, ◌%◌, ◌≤◌}
use native.Mathlib.Nat.{add-sub_cancel_left}
use native.Mathlib.Omega.{arith}
use mathlib.Core.List.{[], ◌∷◌, ◌++◌, append_assoc}
use lib.ListN.{length, set, take, drop, length-set}
use lib.Seq.{drop-drop, take-add}
use Rattle.std.proofs.Common.{take_at}
use borrow.Rule.Slice.PartMut.{put_mid}
use Rattle.slices.specs.Bytes.{Bytes, le16_bytes, overwrite}
use Rattle.slices.proofs.PartLaws.{length_middle}
use Rattle.slices.proofs.OverwriteLaws.{set_overwrites, overwrite_set, middle_overwrite, drop_overwrite, overwrite_front, overwrite_next}

-- the n bytes from index at on, as `s[at..at + n]`, hold v now
pub part_written : {w : Bytes} (s : Bytes) (at n : ℕ) (v : Bytes) → w ≡ v → length v ≡ n → put_mid at (at + n - at) s w ≡ overwrite s at v
unfolding overwrite
part_written s at n v e h = rw (e, add-sub_cancel_left, drop-drop, h, append_assoc)

-- the n bytes from index from on, through a block z of which they are the first
pub part_through : {x w : Bytes} (s : Bytes) (from to n : ℕ) (z : Bytes) → from + n ≤ length s → x ≡ take (from + n - from) (drop from s) → w ≡ take n (x ++ z)
    → put_mid to (to + n - to) s w ≡ overwrite s to (take n (drop from s))
part_through {x} s from to n z h e f =
    let v = rw add-sub_cancel_left at e in
    part_written s to n (take n (drop from s)) (f ∙ take_at x z n (rw v (length_middle s from n h)) ∙ v) (length_middle s from n h)

-- the two bytes of a number put one behind the other
pub two_put : {x y : ℕ} (s : Bytes) (at n : ℕ) → at + 2 ≤ length s → x ≡ n % 256 → y ≡ n / 256 % 256 → set (set s at x) (at + 1) y ≡ overwrite s at (le16_bytes n)
unfolding le16_bytes
two_put {x} s at n h e f =
    set_overwrites (set s at x) (at + 1) _ (rw length-set (omega arith)) ∙ rw (e, f) (sym (overwrite_set s at (n % 256) ((n / 256 % 256) ∷ []) (omega arith)))

-- a move down of n bytes, of which the first k are in place in t, and of which m are moved then
pub move_down_next : {t u : Bytes} (s : Bytes) (from to k m n : ℕ) → to ≤ from → from + k ≤ length s → k + m ≡ n
    → t ≡ overwrite s to (take k (drop from s)) → u ≡ overwrite t (to + k) (take m (drop (from + k) t)) → u ≡ overwrite s to (take n (drop from s))
move_down_next {t} s from to k m n g h j e f =
    let v : Bytes = take k (drop from s) in
    let l : length v ≡ k = length_middle s from k h in
    let b : drop (from + k) t ≡ drop k (drop from s) = rw (e, drop-drop) (drop_overwrite s to (from + k) v (omega arith) (rw l (omega arith))) in
    rw (f, b, ← j, take-add k m (drop from s)) (overwrite_next s to (to + k) v (take m (drop k (drop from s))) e (rw l) (omega arith))

-- a move up of n bytes to r, of which the last m are in place in t: what is left is a move of the first k
pub move_up_next : {t r : Bytes} (s : Bytes) (from to k m n : ℕ) → from ≤ to → to + k ≤ length s → k + m ≡ n
    → overwrite s to (take n (drop from s)) ≡ r → t ≡ overwrite s (to + k) (take m (drop (from + k) s)) → overwrite t to (take k (drop from t)) ≡ r
move_up_next {t} s from to k m n g h j q e =
    let v : Bytes = take k (drop from s) in
    let w : Bytes = take m (drop (from + k) s) in
    let l : length v ≡ k = length_middle s from k (omega arith) in
    let b : take k (drop from t) ≡ v = rw e (middle_overwrite s from k (to + k) w (omega arith) h) in
    let f : t ≡ overwrite s (to + length v) w = rw l e in
    rw (b, f, ← q, ← j, take-add k m (drop from s), drop-drop) (overwrite_front s to v w (rw l h))
