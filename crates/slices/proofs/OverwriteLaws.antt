-- Laws of writes into a list of bytes, one after the other. Assumes nothing.
use Rattle.std.specs.Prelude.{◌≡◌, refl, [], ◌∷◌, ◌++◌, ℕ, ◌+◌, ◌-◌, ◌≤◌, ◌<◌, length, set, take, drop}
use Rattle.std.proofs.Common.{sym, ap, ◌∙◌, append_assoc, arith, add-one, length-append, length-drop, length-take, length-take-le, take_at, drop_at, take-take, drop-drop}
use Rattle.std.proofs.lemmas.List.{take-append-le, set_split}
use Rattle.std.proofs.Math.Seq.{drop-append-add, paste-zero}
use Rattle.slices.specs.Bytes.{Bytes, overwrite}
use Rattle.slices.proofs.PartLaws.{drop_take}

-- nothing written
pub overwrite_none : (s : Bytes) (at : ℕ) → s ≡ overwrite s at []
unfolding overwrite
overwrite_none s at = paste-zero s at []

-- up to where a write ends
length_head : (s : Bytes) (at : ℕ) (v : Bytes) → at ≤ length s → length (take at s ++ v) ≡ at + length v
length_head s at v h = simp (length-append, length-take) (omega arith)

-- a write at a seam
pub overwrite_seam : (x y w : Bytes) (at : ℕ) → length x ≡ at → overwrite (x ++ y) at w ≡ x ++ (w ++ drop (length w) y)
unfolding overwrite
overwrite_seam x y w at e =
    rw (take_at x y at e, ← e, drop-append-add x y (length w)) (append_assoc x w (drop (length w) y))

-- a write that ends where the one before began
overwrite_before : (s : Bytes) (at to : ℕ) (v w : Bytes) → at + length v ≡ to → to ≤ length s
    → overwrite (overwrite s to w) at v ≡ take at s ++ (v ++ (w ++ drop (to + length w) s))
unfolding overwrite
overwrite_before s at to v w e h =
    let l : length (take to s) ≡ to = length-take-le to s h in
    let k : at ≤ length (take to s) = rw l (omega arith) in
    rw (
      e,
      append_assoc (take to s) w (drop (to + length w) s),
      take-append-le at (take to s) (w ++ drop (to + length w) s) k,
      take-take at to s (omega arith),
      drop_at (take to s) (w ++ drop (to + length w) s) to l,
    )
    (append_assoc (take at s) v (w ++ drop (to + length w) s))

-- a write that begins where the one before ended
pub overwrite_after : (s : Bytes) (at : ℕ) (v w : Bytes) → at ≤ length s → overwrite (overwrite s at v) (at + length v) w ≡ overwrite s at (v ++ w)
unfolding overwrite
overwrite_after s at v w h =
    let x : Bytes = take at s ++ v in
    let k : at + length v + length w ≡ at + (length v + length w) = omega arith in
    overwrite_seam x (drop (at + length v) s) w (at + length v) (length_head s at v h)
    ∙ rw (drop-drop, length-append v w, k, ← append_assoc x w (drop (at + (length v + length w)) s), append_assoc (take at s) v w)

-- the same two writes, the second first
pub overwrite_front : (s : Bytes) (at : ℕ) (v w : Bytes) → at + length v ≤ length s → overwrite (overwrite s (at + length v) w) at v ≡ overwrite s at (v ++ w)
unfolding overwrite
overwrite_front s at v w h =
    let k : at + length v + length w ≡ at + (length v + length w) = omega arith in
    overwrite_before s at (at + length v) v w refl h
    ∙ rw (k, length-append v w, append_assoc (take at s) (v ++ w) (drop (at + (length v + length w)) s), append_assoc v w (drop (at + (length v + length w)) s))

-- what stands before a write, and behind it
pub middle_overwrite : (s : Bytes) (a n at : ℕ) (v : Bytes) → a + n ≤ at → at ≤ length s → take n (drop a (overwrite s at v)) ≡ take n (drop a s)
unfolding overwrite
middle_overwrite s a n at v g h =
    let front : (l : Bytes) → take n (drop a (take at l)) ≡ take n (drop a l) = λ l. rw drop_take (take-take n (at - a) (drop a l) (omega arith)) in
    sym (front (overwrite s at v))
    ∙ ap (λ (l : Bytes). take n (drop a l)) (rw (append_assoc (take at s) v (drop (at + length v) s)) (take_at (take at s) (v ++ drop (at + length v) s) at (length-take-le at s h)))
    ∙ front s

pub drop_overwrite : (s : Bytes) (at j : ℕ) (v : Bytes) → at ≤ length s → at + length v ≤ j → drop j (overwrite s at v) ≡ drop j s
unfolding overwrite
drop_overwrite s at j v h g =
    let m : ℕ = j - (at + length v) in
    let f : j ≡ length (take at s ++ v) + m = rw (length_head s at v h) (omega arith) in
    let k : at + length v + m ≡ j = omega arith in
    ap (λ (n : ℕ). drop n (overwrite s at v)) f ∙ drop-append-add (take at s ++ v) (drop (at + length v) s) m ∙ drop-drop m (at + length v) s ∙ ap (λ (n : ℕ). drop n s) k

-- one more write, which begins at index i where those before, of v, ended
pub overwrite_next : {t : Bytes} (s : Bytes) (at i : ℕ) (v w : Bytes) → t ≡ overwrite s at v → i ≡ at + length v → at ≤ length s → overwrite t i w ≡ overwrite s at (v ++ w)
overwrite_next s at i v w e f h = rw (e, f) (overwrite_after s at v w h)

-- one byte written, and the rest behind it
pub set_overwrites : (s : Bytes) (i x : ℕ) → i < length s → set s i x ≡ overwrite s i (x ∷ [])
unfolding overwrite
set_overwrites s i x h = rw (append_assoc, add-one) (set_split s i x h)

pub overwrite_set : (s : Bytes) (i x : ℕ) (r : Bytes) → i < length s → overwrite s i (x ∷ r) ≡ overwrite (set s i x) (i + 1) r
overwrite_set s i x r h = sym (overwrite_next s i (i + 1) (x ∷ []) r (set_overwrites s i x h) refl (omega arith))

-- the length, where there is room
pub length_overwrite : (s : Bytes) (at : ℕ) (v : Bytes) → at + length v ≤ length s → length (overwrite s at v) ≡ length s
unfolding overwrite
length_overwrite s at v h =
    let k = length_head s at v (omega arith) in
    let d = length-drop (at + length v) s in
    rw length-append (omega (arith, k, d))

-- what was put at the front of z, and two lists put there one behind the other
pub take_front : (z v : Bytes) (n : ℕ) → length v ≡ n → take n (overwrite z 0 v) ≡ v
unfolding overwrite
take_front z v n e = take_at v (drop (0 + length v) z) n e

pub joined : {b₁ b₂ : Bytes} (z v w : Bytes) → b₁ ≡ overwrite z 0 v → b₂ ≡ overwrite b₁ (length v) w → take (length v + length w) b₂ ≡ v ++ w
joined z v w e f =
    let k = f ∙ overwrite_next z 0 (length v) v w e (omega arith) (omega arith) in
    rw k (take_front z (v ++ w) (length v + length w) (length-append v w))
