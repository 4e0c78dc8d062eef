-- Laws of tests joined. Assumes nothing.
use Rattle.std.specs.Prelude.{◌≡◌, refl, Bool, true, false, not, ◌&&◌, ◌||◌, ◌⊎◌}
use Rattle.std.proofs.Math.Path.{sym, ap}
use Rattle.std.proofs.Common.{◌∙◌, inl, inr}
use Rattle.std.proofs.lemmas.Bool.{false≢true}
use borrow.Author.Tests.{not-true, not-false}
use Rattle.slices.specs.Test.{◌and◌}

pub and_left : (a b : Bool) → (a and b) ≡ true → a ≡ true
unfolding ◌and◌
and_left true b e = refl
and_left false b e = e

pub and_right : (a b : Bool) → (a and b) ≡ true → b ≡ true
unfolding ◌and◌
and_right true b e = e
and_right false b e = absurd (false≢true e)

pub and_intro : (a b : Bool) → a ≡ true → b ≡ true → (a and b) ≡ true
unfolding ◌and◌
and_intro true b e f = f
and_intro false b e f = e

pub and_no : (a : Bool) → (a and false) ≡ false
unfolding ◌and◌
and_no true = refl
and_no false = refl

pub and_off : (b : Bool) → (false and b) ≡ false
unfolding ◌and◌
and_off b = refl

pub and_yes : (a : Bool) → (a and true) ≡ a
unfolding ◌and◌
and_yes true = refl
and_yes false = refl

pub and_assoc : (a b c : Bool) → ((a and b) and c) ≡ (a and (b and c))
unfolding ◌and◌
and_assoc true b c = refl
and_assoc false b c = refl

-- the code's `&` on two tests
pub and_eager : (a b : Bool) → (a && b) ≡ (a and b)
unfolding ◌and◌
and_eager true b = refl
and_eager false b = refl

-- the code's answer t to two tests, the second made where the first, whose answer is r, holds
module _ {t x r : Bool} (y : Bool) (e : t ≡ (x and y)) (f : r ≡ x) where
  pub first_fails : not r ≡ true → false ≡ t
  unfolding ◌and◌
  first_fails n = sym (e ∙ ap (λ b. b and y) (sym f ∙ not-true r n))

  pub first_holds : {q : Bool} → not r ≡ false → q ≡ y → q ≡ t
  unfolding ◌and◌
  first_holds n g = g ∙ sym (e ∙ ap (λ b. b and y) (sym f ∙ not-false r n))

-- one of two tests holds
pub or_cases : (a b : Bool) → (a || b) ≡ true → (a ≡ true) ⊎ (b ≡ true)
or_cases true b e = inl refl
or_cases false b e = inr e

-- a test is false if its being true would be false
pub forced_off : (b : Bool) → (b ≡ true → false ≡ true) → b ≡ false
forced_off true h = sym (h refl)
forced_off false h = refl
