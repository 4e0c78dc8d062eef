-- The bits of words of 32: how many a test picks, and the lowest that it picks; and the bits in which attributes offend against
-- those that an entry requires and prohibits (RULES.md, 10.10). Assumes nothing: these are definitions.
use Rattle.std.specs.Prelude.{ℕ, zero, suc, ◌+◌, ◌/◌, ◌%◌, Bool, not, ◌&&◌, ◌||◌, cond, eqb}

-- whether the bit i of a word is set; bit 0 has the value 1
unfoldable pub is_set : ℕ → ℕ → Bool
is_set x zero = eqb (x % 2) 1
is_set x (suc i) = is_set (x / 2) i

-- how many numbers below k pass the test
unfoldable pub how_many : (ℕ → Bool) → ℕ → ℕ
how_many p zero = 0
how_many p (suc k) = cond {A = ℕ} (p zero) 1 0 + how_many (λ i. p (suc i)) k

-- the least number that passes the test, or k where none below k does
unfoldable pub least : (ℕ → Bool) → ℕ → ℕ
least p zero = 0
least p (suc k) = cond {A = ℕ} (p zero) 0 (suc (least (λ i. p (suc i)) k))

-- required, and not set
abbrev pub is_missing : ℕ → ℕ → ℕ → Bool
is_missing must a i = is_set must i && not (is_set a i)

-- prohibited, and set
abbrev pub is_prohibited : ℕ → ℕ → ℕ → Bool
is_prohibited cant a i = is_set cant i && is_set a i

-- how many of the 32 bits
unfoldable pub missing_bits : ℕ → ℕ → ℕ
missing_bits must a = how_many (is_missing must a) 32

unfoldable pub prohibited_bits : ℕ → ℕ → ℕ
prohibited_bits cant a = how_many (is_prohibited cant a) 32

-- the lowest that is either; 32 where none is
unfoldable pub lowest_bit : ℕ → ℕ → ℕ → ℕ
lowest_bit must cant a = least (λ i. is_missing must a i || is_prohibited cant a i) 32
