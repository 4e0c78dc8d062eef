-- The bits in which two words differ, among those that two masks let count: none, where the words agree under the masks of each other. Assumes nothing.
use Prim.Native.Nat.{ℕ, zero, suc, ◌/◌, ◌%◌, ◌<◌}
use mathlib.Core.Path.{◌≡◌, refl, sym, ap, ap₂, ◌∙◌}
use native.Mathlib.Omega.{arith}
use lib.Arith.{bin_ind}
use lib.Bits.{bit_and, bit_xor, and_shr, and_mod, xor_shr, xor_mod, xor_self}

-- a law of words follows from that of their halves and of their lowest bits
by_halves : (a b : ℕ) → a / 2 ≡ b / 2 → a % 2 ≡ b % 2 → a ≡ b
by_halves a b h l = omega arith

data Digit : ℕ → Type 0 where
  is0 : Digit 0
  is1 : Digit 1

digit : (x : ℕ) → Digit (x % 2)
digit x = go (x % 2) (omega arith)
  where
    go : (d : ℕ) → d < 2 → Digit d
    go zero h = is0
    go (suc zero) h = is1
    go (suc (suc d)) h = absurd (omega arith)

-- ---- a mask twice is the mask
twice_bit : {x m : ℕ} → Digit x → Digit m → bit_and (bit_and x m) m ≡ bit_and x m
twice_bit is0 is0 = refl
twice_bit is0 is1 = refl
twice_bit is1 is0 = refl
twice_bit is1 is1 = refl

twice : (a m : ℕ) → bit_and (bit_and a m) m ≡ bit_and a m
twice =
    bin_ind (λ (n : ℕ). (m : ℕ) → bit_and (bit_and n m) m ≡ bit_and n m) (λ m. refl)
    (λ n ih m. by_halves _ _
    (and_shr (bit_and n m) m 1 ∙ ap (λ (x : ℕ). bit_and x (m / 2)) (and_shr n m 1) ∙ ih (m / 2) ∙ sym (and_shr n m 1))
    (and_mod (bit_and n m) m 1 ∙ ap (λ (x : ℕ). bit_and x (m % 2)) (and_mod n m 1) ∙ twice_bit (digit n) (digit m) ∙ sym (and_mod n m 1)))

-- ---- a mask of what differs masks both
each_bit : {x y m : ℕ} → Digit x → Digit y → Digit m → bit_and (bit_xor x y) m ≡ bit_xor (bit_and x m) (bit_and y m)
each_bit is0 is0 is0 = refl
each_bit is0 is0 is1 = refl
each_bit is0 is1 is0 = refl
each_bit is0 is1 is1 = refl
each_bit is1 is0 is0 = refl
each_bit is1 is0 is1 = refl
each_bit is1 is1 is0 = refl
each_bit is1 is1 is1 = refl

each : (a b m : ℕ) → bit_and (bit_xor a b) m ≡ bit_xor (bit_and a m) (bit_and b m)
each =
    bin_ind (λ (n : ℕ). (b m : ℕ) → bit_and (bit_xor n b) m ≡ bit_xor (bit_and n m) (bit_and b m)) (λ b m. refl)
    (λ n ih b m. by_halves _ _
    (and_shr (bit_xor n b) m 1 ∙ ap (λ (x : ℕ). bit_and x (m / 2)) (xor_shr n b 1) ∙ ih (b / 2) (m / 2)
    ∙ sym (xor_shr (bit_and n m) (bit_and b m) 1 ∙ ap₂ bit_xor (and_shr n m 1) (and_shr b m 1)))
    (and_mod (bit_xor n b) m 1 ∙ ap (λ (x : ℕ). bit_and x (m % 2)) (xor_mod n b 1) ∙ each_bit (digit n) (digit b) (digit m)
    ∙ sym (xor_mod (bit_and n m) (bit_and b m) 1 ∙ ap₂ bit_xor (and_mod n m 1) (and_mod b m 1))))

-- of words that their masks let through, and that agree under the masks of each other, no bit that counts differs
pub none_differs : (x y m k : ℕ) → bit_and (bit_and x m) k ≡ bit_and (bit_and y k) m → bit_and (bit_and (bit_xor (bit_and y k) (bit_and x m)) k) m ≡ 0
none_differs x y m k e =
    ap (λ (z : ℕ). bit_and z m) (each (bit_and y k) (bit_and x m) k ∙ ap₂ bit_xor (twice y k) e)
    ∙ each (bit_and y k) (bit_and (bit_and y k) m) m
    ∙ ap (bit_xor (bit_and (bit_and y k) m)) (twice (bit_and y k) m)
    ∙ xor_self (bit_and (bit_and y k) m)
