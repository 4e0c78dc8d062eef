-- Laws of little-endian numbers. Assumes nothing.
use Rattle.std.specs.Prelude.{ℕ, ◌+◌, ◌*◌, ◌/◌, ◌%◌, ◌≤◌, ◌<◌, ◌≡◌, [], ◌∷◌, ◌++◌, length, get_or, take, drop}
use Rattle.std.proofs.Common.{refl, sym, ap, ◌∙◌, Bool, true, false, eqb, get_or-take, get_or-drop, drop-drop, eq-eqb, ne_eqb}
use Rattle.std.proofs.lemmas.Bool.{false≢true}
use lib.Seq.{take-add}
use native.Mathlib.Omega.{arith}
use native.Mathlib.Nat.{add-zero}
use Rattle.std.proofs.Math.Nat.{div-div-eq-div-mul, mod-eq_of_lt, div-eq_of_lt, div-add-mod, add-mul-mod_self_left, add-mul-div_left}
use Rattle.std.proofs.Math.ListN.{get_or-eq_default}
use Rattle.slices.proofs.PartLaws.{drop_step}
use Rattle.slices.specs.Bytes.{Bytes, le16, le32, le64, le16_bytes, le32_bytes, same}
use Rattle.slices.proofs.BytesLaws.{same_eq, same_of}

pub le16_past : (s : Bytes) (at : ℕ) → length s ≤ at → le16 s at ≡ 0
unfolding le16
le16_past s at h = simp (get_or-eq_default s 0 h, get_or-eq_default s 0 {n = at + 1} (omega arith))

pub le32_past : (s : Bytes) (at : ℕ) → length s ≤ at → le32 s at ≡ 0
unfolding le32
le32_past s at h = simp (le16_past s at h, le16_past s (at + 2) (omega arith))

-- a number within the first n bytes
pub le16_take : (n : ℕ) (s : Bytes) (at : ℕ) → at + 2 ≤ n → le16 (take n s) at ≡ le16 s at
unfolding le16
le16_take n s at h = simp (get_or-take n s at 0 (omega arith), get_or-take n s (at + 1) 0 (omega arith))

pub le32_take : (n : ℕ) (s : Bytes) (at : ℕ) → at + 4 ≤ n → le32 (take n s) at ≡ le32 s at
unfolding le32
le32_take n s at h = simp (le16_take n s at (omega arith), le16_take n s (at + 2) (omega arith))

pub le64_take : (n : ℕ) (s : Bytes) (at : ℕ) → at + 8 ≤ n → le64 (take n s) at ≡ le64 s at
unfolding le64
le64_take n s at h = simp (le32_take n s at (omega arith), le32_take n s (at + 4) (omega arith))

-- a number behind the first n bytes
pub le16_drop : (n : ℕ) (s : Bytes) (at : ℕ) → le16 (drop n s) at ≡ le16 s (n + at)
unfolding le16
le16_drop n s at =
    let k : n + (at + 1) ≡ n + at + 1 = omega arith in
    simp (get_or-drop, k)

pub le32_drop : (n : ℕ) (s : Bytes) (at : ℕ) → le32 (drop n s) at ≡ le32 s (n + at)
unfolding le32
le32_drop n s at =
    let k : n + (at + 2) ≡ n + at + 2 = omega arith in
    simp (le16_drop, k)

pub le16_rest : (s : Bytes) (at : ℕ) → le16 (drop at s) 0 ≡ le16 s at
le16_rest s at = le16_drop at s 0 ∙ rw add-zero

pub le32_rest : (s : Bytes) (at : ℕ) → le32 (drop at s) 0 ≡ le32 s at
le32_rest s at = le32_drop at s 0 ∙ rw add-zero

pub le64_drop : (n : ℕ) (s : Bytes) (at : ℕ) → le64 (drop n s) at ≡ le64 s (n + at)
unfolding le64
le64_drop n s at =
    let k : n + (at + 4) ≡ n + at + 4 = omega arith in
    simp (le32_drop, k)

-- the four bytes as `from_le_bytes` adds them up
pub le32_four : (s : Bytes) (at : ℕ) → le32 s at ≡ get_or s at 0 + get_or s (at + 1) 0 * 256 + get_or s (at + 2) 0 * 65536 + get_or s (at + 3) 0 * 16777216
unfolding le32 le16
le32_four s at =
    let k : at + 2 + 1 ≡ at + 3 = omega arith in
    rw k (omega arith)

-- from bytes to a number and back
pub le16_bytes_lem : (n : ℕ) (l : Bytes) → n < 65536 → le16 (le16_bytes n ++ l) 0 ≡ n
unfolding le16 le16_bytes
le16_bytes_lem n l h = omega arith

pub le32_bytes_lem : (n : ℕ) (l : Bytes) → n < 4294967296 → le32 (le32_bytes n ++ l) 0 ≡ n
unfolding le32 le16 le32_bytes
le32_bytes_lem n l h =
    let p : n / 256 / 256 ≡ n / 65536 = div-div-eq-div-mul n 256 256 in
    let q : n / 65536 / 256 ≡ n / 16777216 = div-div-eq-div-mul n 65536 256 in
    let k : n / 16777216 < 256 = omega arith in
    let c : n / 16777216 % 256 ≡ n / 16777216 = mod-eq_of_lt k in
    let c₀ : 256 * (n / 256) + n % 256 ≡ n = div-add-mod n 256 in
    let c₁ : 256 * (n / 65536) + n / 256 % 256 ≡ n / 256 = rw p at (div-add-mod (n / 256) 256) in
    let c₂ : 256 * (n / 16777216) + n / 65536 % 256 ≡ n / 65536 = rw q at (div-add-mod (n / 65536) 256) in
    rw c (digits (n % 256) (n / 256 % 256) (n / 65536 % 256) (n / 16777216) (n / 256) (n / 65536) n c₀ c₁ c₂)
  where
    digits : (r s t c a b n : ℕ) → 256 * a + r ≡ n → 256 * b + s ≡ a → 256 * c + t ≡ b → r + 256 * s + 65536 * (t + 256 * c) ≡ n
    digits r s t c a b n e f g = omega arith

-- from a number to its bytes, where each is one
low : (x y : ℕ) → x < 256 → (x + 256 * y) % 256 ≡ x
low x y h = add-mul-mod_self_left x 256 y ∙ mod-eq_of_lt h

high : (x y : ℕ) → x < 256 → (x + 256 * y) / 256 ≡ y
high x y h = add-mul-div_left x y {y = 256} (omega arith) ∙ rw (div-eq_of_lt h) (omega arith)

four : (a b c d n : ℕ) → a < 256 → b < 256 → c < 256 → d < 256 → n ≡ a + 256 * (b + 256 * (c + 256 * d)) → le32_bytes n ≡ a ∷ b ∷ c ∷ d ∷ []
unfolding le32_bytes
four a b c d n ha hb hc hd e =
    let e₁ : n / 256 ≡ b + 256 * (c + 256 * d) = rw e (high a (b + 256 * (c + 256 * d)) ha) in
    let e₂ : n / 65536 ≡ c + 256 * d = sym (div-div-eq-div-mul n 256 256) ∙ rw e₁ (high b (c + 256 * d) hb) in
    let e₃ : n / 16777216 ≡ d = sym (div-div-eq-div-mul n 65536 256) ∙ rw e₂ (high c d hc) in
    let f : n % 256 ≡ a = rw e (low a (b + 256 * (c + 256 * d)) ha) in
    rw (e₁, e₂, e₃, f, low b (c + 256 * d) hb, low c d hc, mod-eq_of_lt hd)

module _ (s : Bytes) (at : ℕ) (small : (i : ℕ) → get_or s i 0 < 256) where
  pub bytes_le16 : at + 2 ≤ length s → le16_bytes (le16 s at) ≡ take 2 (drop at s)
  unfolding le16 le16_bytes
  bytes_le16 h =
      let k : at + 1 + 1 ≡ at + 2 = omega arith in
      rw (
        low (get_or s at 0) (get_or s (at + 1) 0) (small at),
        high (get_or s at 0) (get_or s (at + 1) 0) (small at),
        mod-eq_of_lt (small (at + 1)),
        drop_step s at (omega arith),
        drop_step s (at + 1) (omega arith),
      )

  pub bytes_le32 : at + 4 ≤ length s → le32_bytes (le32 s at) ≡ take 4 (drop at s)
  bytes_le32 h =
      let b₂ : at + 1 + 1 ≡ at + 2 = omega arith in
      let b₃ : at + 2 + 1 ≡ at + 3 = omega arith in
      four (get_or s at 0) (get_or s (at + 1) 0) (get_or s (at + 2) 0) (get_or s (at + 3) 0) (le32 s at) (small at) (small (at + 1)) (small (at + 2)) (small (at + 3)) (le32_four s at ∙ omega arith)
      ∙ rw (drop_step s at (omega arith), drop_step s (at + 1) (omega arith), b₂, drop_step s (at + 2) (omega arith), b₃, drop_step s (at + 3) (omega arith))

  le32_small : le32 s at < 4294967296
  le32_small = let a = small at in let b = small (at + 1) in let c = small (at + 2) in let d = small (at + 3) in omega (arith, le32_four s at)

-- the eight bytes from a place on are the same where their numbers are
module _ (s t : Bytes) (i : ℕ) (h : i + 8 ≤ length s) (k : i + 8 ≤ length t) (small : (j : ℕ) → get_or s j 0 < 256) (small₁ : (j : ℕ) → get_or t j 0 < 256) where
  four_same : (at : ℕ) → at + 4 ≤ length s → at + 4 ≤ length t → le32 s at ≡ le32 t at → take 4 (drop at s) ≡ take 4 (drop at t)
  four_same at a b e = sym (bytes_le32 s at small a) ∙ ap le32_bytes e ∙ bytes_le32 t at small₁ b

  eight_fours : (l : Bytes) → take 8 (drop i l) ≡ take 4 (drop i l) ++ take 4 (drop (i + 4) l)
  eight_fours l = take-add 4 4 (drop i l) ∙ rw drop-drop

  eight_same : le64 s i ≡ le64 t i → take 8 (drop i s) ≡ take 8 (drop i t)
  unfolding le64
  eight_same e =
      let a = le32_small s i small in
      let b = le32_small t i small₁ in
      let low : le32 s i ≡ le32 t i = omega arith in
      let high : le32 s (i + 4) ≡ le32 t (i + 4) = omega arith in
      eight_fours s ∙ rw (four_same i (omega arith) (omega arith) low, four_same (i + 4) (omega arith) (omega arith) high) (sym (eight_fours t))

  number_eight : (l : Bytes) → le64 (take 8 (drop i l)) 0 ≡ le64 l i
  number_eight l = le64_take 8 (drop i l) 0 (omega arith) ∙ le64_drop i l 0 ∙ rw add-zero

  pub eight_told : eqb (le64 s i) (le64 t i) ≡ same (take 8 (drop i s)) (take 8 (drop i t))
  eight_told = go (same (take 8 (drop i s)) (take 8 (drop i t))) refl
    where
      go : (b : Bool) → same (take 8 (drop i s)) (take 8 (drop i t)) ≡ b → eqb (le64 s i) (le64 t i) ≡ b
      go true e = eq-eqb (le64 s i) (le64 t i) (sym (number_eight s) ∙ ap (λ l. le64 l 0) (same_eq _ _ e) ∙ number_eight t)
      go false e = ne_eqb (le64 s i) (le64 t i) (λ q. false≢true (sym e ∙ same_of _ _ (eight_same q)))
