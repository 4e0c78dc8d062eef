-- A line is made by putting one text behind the other, and what itoa makes of a number is `decimal`. Assumes nothing.
use Rattle.std.specs.Prelude.{ℕ, suc, ◌+◌, ◌^◌, ◌<◌, ◌≡◌, [], ◌++◌, Bool, true, false, length, eqb, ◌≤◌}
use Rattle.std.proofs.Common.{arith, refl, sym, ap, ◌∙◌, append_assoc}
use borrow.Author.Tests.{eq-eqb, ne_eqb, lt-ltb, le-ltb}
use Rattle.std.specs.Fmt.{decimal as printed}
use Rattle.std.proofs.lemmas.Fmt.{AppendsLastDigit, decimal_from_appends, length-decimal-le}
use Rattle.limits.specs.Limits.{whole_namespace_rank}
use Rattle.slices.specs.Bytes.{Bytes}
use Rattle.reader.specs.declared.Verdict.{Verdict}
use Rattle.reader.specs.declared.Listing.{Listing}
use Rattle.list_dump.specs.Lines.{ascii, decimal_within, decimal, field, marks, entry_line, closing_line}

last_digits : AppendsLastDigit decimal_within
unfolding decimal_within
last_digits = record {
  one = λ k n h. rw (lt-ltb n 10 h) refl;
  more = λ k n h. rw (le-ltb n 10 h) refl;
}

-- what std prints of a number with at most m + 1 digits
pub decimal_is : (m n : ℕ) → n < 10 ^ suc m → n < 2 ^ 64 → printed n ≡ decimal_within (suc m) n
decimal_is m n h k = sym (decimal_from_appends decimal_within last_digits (suc m) n k (length-decimal-le (suc m) n (omega arith) h k))

number_printed : (n : ℕ) → n < 2 ^ 64 → printed n ≡ decimal n
number_printed n h = decimal_is 19 n (omega arith) h

-- the same text by another name
pub put_same : (a b t u : Bytes) → t ≡ u → a ≡ b ++ t → a ≡ b ++ u
put_same a b t u e p = p ∙ ap (λ (x : Bytes). b ++ x) e

-- what was made of a number was put
pub put_decimal : (a b t : Bytes) (v : ℕ) → v < 2 ^ 64 → t ≡ printed v → a ≡ b ++ t → a ≡ b ++ decimal v
put_decimal a b t v h e p = put_same a b t (decimal v) (e ∙ number_printed v h) p

-- the marks of an entry, by whether it is for a whole namespace
pub marks_all : (rank : ℕ) → rank ≡ whole_namespace_rank → ascii " marks all" ≡ ascii " marks " ++ marks rank
unfolding marks
marks_all rank e = rw (eq-eqb rank whole_namespace_rank e) refl

pub marks_number : (rank : ℕ) → (rank ≡ whole_namespace_rank → ⊥) → field " marks " rank ≡ ascii " marks " ++ marks rank
unfolding marks
marks_number rank n = rw (ne_eqb rank whole_namespace_rank n) refl

-- THE LINE OF AN ENTRY, put in five parts
pub entry_line_lem : (l₀ l₁ l₂ l₃ l₄ l₅ : Bytes) (i : ℕ) (l : Listing) → l₀ ≡ [] → l₁ ≡ l₀ ++ decimal i → l₂ ≡ l₁ ++ field " size " l.size
    → l₃ ≡ l₂ ++ field " lock " l.lock → l₄ ≡ l₃ ++ (ascii " marks " ++ marks l.rank) → l₅ ≡ l₄ ++ ascii "\n" → l₅ ≡ entry_line i l
unfolding entry_line
entry_line_lem l₀ l₁ l₂ l₃ l₄ l₅ i l z p q s t u = rw (u, t, s, q, p, z) (simp append_assoc)

-- THE LAST LINE, put in two parts or in three
pub bad_line : (l₀ l₁ l₂ : Bytes) (v : Verdict) → v.whole ≡ false → l₀ ≡ [] → l₁ ≡ l₀ ++ field "bad at " v.bytes → l₂ ≡ l₁ ++ ascii "\n" → l₂ ≡ closing_line v
unfolding closing_line
bad_line l₀ l₁ l₂ v e z p q = rw (q, p, z, e) (simp append_assoc)

pub good_line : (l₀ l₁ l₂ l₃ : Bytes) (v : Verdict) → v.whole ≡ true → l₀ ≡ [] → l₁ ≡ l₀ ++ field "entries " v.entries → l₂ ≡ l₁ ++ field " bytes " v.bytes
    → l₃ ≡ l₂ ++ ascii "\n" → l₃ ≡ closing_line v
unfolding closing_line
good_line l₀ l₁ l₂ l₃ v e z p q s = rw (s, q, p, z, e) (simp append_assoc)
