-- The machine's counts of ones and of trailing zeros are the sum and the least over the bits. Assumes nothing.
use Prim.Native.Nat.{ℕ, zero, suc, ◌+◌, ◌-◌, ◌/◌, ◌%◌, ◌^◌, ◌<◌}
use mathlib.Core.Path.{◌≡◌, refl, ap, ap₂, ◌∙◌}
use mathlib.Core.Bool.{Bool, ◌&&◌, ◌||◌, cond}
use native.Mathlib.Omega.{arith}
use lib.Dec.{eqb}
use lib.Count.{ones, ones_step, count_trailing_zeros, under}
use lib.Bits.{bit_and, bit_or, and_lt}
use Rattle.bits.specs.Bits.{is_set, how_many, least, is_missing, is_prohibited, missing_bits, prohibited_bits, lowest_bit}
use Rattle.bits.proofs.BitsLaws.{Digit, is0, is1, digit, half_lt, set_and, set_or, set_not, many_same, least_same}

digit_is : (d : ℕ) → Digit d → d ≡ cond {A = ℕ} (eqb d 1) 1 0
digit_is d (is0 e) = simp e
digit_is d (is1 e) = simp e

ones_is : (k x : ℕ) → x < 2 ^ k → ones x ≡ how_many (is_set x) k
unfolding ones is_set how_many
ones_is zero x h = let z : x ≡ 0 = omega arith in ap ones z
ones_is (suc k) x h = ones_step x ∙ ap₂ ◌+◌ (digit_is (x % 2) (digit x)) (ones_is k (x / 2) (half_lt k x h))

under_is : (d t : ℕ) → Digit d → under d t ≡ cond {A = ℕ} (eqb d 1) 0 (suc t)
under_is d t (is0 e) = simp e
under_is d t (is1 e) = simp e

trailing_is : (k x : ℕ) → count_trailing_zeros k x ≡ least (is_set x) k
unfolding count_trailing_zeros is_set least
trailing_is zero x = refl
trailing_is (suc k) x = under_is (x % 2) (count_trailing_zeros k (x / 2)) (digit x) ∙ ap (λ (t : ℕ). cond {A = ℕ} (eqb (x % 2) 1) 0 (suc t)) (trailing_is k (x / 2))

-- ---- the masked words of the code
module _ (m a : ℕ) (hm : m < 2 ^ 32) (ha : a < 2 ^ 32) where
  missing_bits_lem : (i : ℕ) → i < 32 → is_set (bit_and m (2 ^ 32 - 1 - a)) i ≡ is_missing m a i
  missing_bits_lem i l = set_and i m (2 ^ 32 - 1 - a) ∙ ap (λ (b : Bool). is_set m i && b) (set_not 32 i a l ha)

  pub missing_is : ones (bit_and m (2 ^ 32 - 1 - a)) ≡ missing_bits m a
  unfolding missing_bits
  missing_is =
      ones_is 32 _ (and_lt 32 m (2 ^ 32 - 1 - a) hm (omega arith))
      ∙ many_same 32 (is_set (bit_and m (2 ^ 32 - 1 - a))) (is_missing m a) missing_bits_lem

  pub prohibited_is : ones (bit_and m a) ≡ prohibited_bits m a
  unfolding prohibited_bits
  prohibited_is = ones_is 32 _ (and_lt 32 m a hm ha) ∙ many_same 32 (is_set (bit_and m a)) (is_prohibited m a) (λ i l. set_and i m a)

  pub lowest_is : (cant : ℕ) → count_trailing_zeros 32 (bit_or (bit_and m (2 ^ 32 - 1 - a)) (bit_and cant a)) ≡ lowest_bit m cant a
  unfolding lowest_bit
  lowest_is cant =
      trailing_is 32 _
      ∙ least_same 32 (is_set (bit_or (bit_and m (2 ^ 32 - 1 - a)) (bit_and cant a))) (λ i. is_missing m a i || is_prohibited cant a i)
      (λ i l. set_or i (bit_and m (2 ^ 32 - 1 - a)) (bit_and cant a) ∙ ap₂ ◌||◌ (missing_bits_lem i l) (set_and i cant a))
