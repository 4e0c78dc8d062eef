-- From a list of tests in their order to the first ground that applies: what the proofs for the calls share. Assumes nothing.
use Rattle.std.specs.Prelude.{ℕ, zero, suc, ◌≤◌, ◌<◌, ◌≡◌, refl, List, [], ◌∷◌, Bool, true, false, ◌||◌, cond, get_or, leb}
use Rattle.std.proofs.Common.{sym, subst, ◌∙◌, arith, leb-true}
use Rattle.std.proofs.Math.Bool.{or-true}
use Rattle.std.proofs.lemmas.Bool.{false≢true}
use Rattle.slices.specs.Test.{◌and◌}
use Rattle.slices.proofs.TestLaws.{and_left, and_right, forced_off}
use Rattle.status.specs.declared.Status.{Status}
use Rattle.status.specs.declared.Status.TheVariants.{Success}
use Rattle.rules.specs.Engine.{State, Call, status}
use Rattle.rules.specs.Grounds.{Applies, FirstAt, Answers}

-- a test of the rules: its place in the call's order, and the status that it gives where it holds
pub record Row : Type 0 where
  pub place : ℕ
  pub test : Bool
  pub gives : Status

abbrev pub row : ℕ → Bool → Status → Row
row k b n = record { place = k; test = b; gives = n }

abbrev pub at : List Row → ℕ → Row
at rows i = get_or rows i (row 0 false Success)

abbrev pub first_of : List Row → Status
first_of [] = Success
first_of (r ∷ rows) = cond r.test r.gives (first_of rows)

abbrev pub first_place : List Row → ℕ
first_place [] = 0
first_place (r ∷ rows) = cond {A = ℕ} r.test r.place (first_place rows)

-- the places do not fall
abbrev pub ordered : ℕ → List Row → Bool
ordered low [] = true
ordered low (r ∷ rows) = leb low r.place and ordered r.place rows

-- some test holds; and so it is where the last does
abbrev some_holds : List Row → Bool
some_holds [] = false
some_holds (r ∷ rows) = r.test || some_holds rows

abbrev pub last_holds : List Row → Bool
last_holds [] = false
last_holds (r ∷ []) = r.test
last_holds (r ∷ q ∷ rows) = last_holds (q ∷ rows)

last_some : (rows : List Row) → last_holds rows ≡ true → some_holds rows ≡ true
last_some [] t = t
last_some (r ∷ []) t = rw t
last_some (r ∷ q ∷ rows) t = rw (last_some (q ∷ rows) t) (or-true r.test)

-- every test at a place before p fails
abbrev pub NoneBefore : List Row → ℕ → Type 0
NoneBefore rows p = (i : ℕ) → (at rows i).place < p → (at rows i).test ≡ false

record Hit (rows : List Row) : Type 0 where
  index : ℕ
  holds : (at rows index).test ≡ true
  none : NoneBefore rows (at rows index).place
  is : (at rows index).gives ≡ first_of rows
  stands : (at rows index).place ≡ first_place rows

not_below : (low : ℕ) (rows : List Row) → ordered low rows ≡ true → (i : ℕ) → (at rows i).test ≡ true → low ≤ (at rows i).place
not_below low [] o i t = absurd (false≢true t)
not_below low (r ∷ rows) o zero t = leb-true low r.place (and_left _ _ o)
not_below low (r ∷ rows) o (suc i) t =
    let h = leb-true low r.place (and_left _ _ o) in
    let k = not_below r.place rows (and_right (leb low r.place) _ o) i t in
    omega arith

hit : (low : ℕ) (rows : List Row) → ordered low rows ≡ true → some_holds rows ≡ true → Hit rows
hit low [] o t = absurd (false≢true t)
hit low (r ∷ rows) o t = go r.test refl t (hit r.place rows above)
  where
    above : ordered r.place rows ≡ true
    above = and_right (leb low r.place) _ o

    go : (b : Bool) → r.test ≡ b → (b || some_holds rows) ≡ true → (some_holds rows ≡ true → Hit rows) → Hit (r ∷ rows)
    go true e h f = record { index = 0; holds = e; none = here; is = rw e; stands = rw e }
      where
        here : NoneBefore (r ∷ rows) r.place
        here zero l = absurd (omega arith)
        here (suc i) l = forced_off (at rows i).test (λ u. absurd (let k = not_below r.place rows above i u in omega arith))
    go false e h f =
        let k = f h in
        record { index = suc k.index; holds = k.holds; none = later k; is = rw e k.is; stands = rw e k.stands }
      where
        later : (k : Hit rows) → NoneBefore (r ∷ rows) (at rows k.index).place
        later k zero l = e
        later k (suc i) l = k.none i l

-- a test that holds, none before it, is its ground: of each test of a call
infixr 20 ◌then◌
pub data Grounds (s : State) (c : Call) (rows : List Row) : List Row → Type 0 where
  last : Grounds s c rows []
  ◌then◌ : {r : Row} {rest : List Row} → (NoneBefore rows r.place → r.test ≡ true → Applies s c r.place r.gives) → Grounds s c rows rest
      → Grounds s c rows (r ∷ rest)

module _ (s : State) (c : Call) (rows : List Row) where
  ground_at : (rest : List Row) → Grounds s c rows rest → (i : ℕ) → NoneBefore rows (at rest i).place → (at rest i).test ≡ true
      → Applies s c (at rest i).place (at rest i).gives
  ground_at rest last i n t = absurd (false≢true t)
  ground_at rest (g then h) zero n t = g n t
  ground_at rest (◌then◌ {rest = more} g h) (suc i) n t = ground_at more h i n t

  -- where every test before p fails, no ground before p applies
  abbrev pub NoGrounds : Type 0
  NoGrounds = (p : ℕ) → NoneBefore rows p → (k : ℕ) (m : Status) → k < p → Applies s c k m → ⊥

  pub first_at : ordered 0 rows ≡ true → last_holds rows ≡ true → status s c ≡ first_of rows → Grounds s c rows rows → NoGrounds → FirstAt s c (first_place rows) (status s c)
  first_at o t e g n =
      let h = hit 0 rows o (last_some rows t) in
      subst (λ k. FirstAt s c k (status s c)) h.stands (record {
        applies = subst (Applies s c (at rows h.index).place) (h.is ∙ sym e) (ground_at rows g h.index h.none h.holds);
        first = λ k m l a. n (at rows h.index).place h.none k m l a;
      })

  pub first_answers : ordered 0 rows ≡ true → last_holds rows ≡ true → status s c ≡ first_of rows → Grounds s c rows rows → NoGrounds → Answers s c (status s c)
  first_answers o t e g n = record { place = first_place rows; at = first_at o t e g n }
