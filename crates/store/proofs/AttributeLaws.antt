-- Laws of stored attributes. Assumes nothing.
use Rattle.std.specs.Prelude.{ℕ, zero, suc, ◌/◌, ◌%◌, ◌≤◌, ◌≡◌, refl, Bool, true, false, ◌↔◌, leb}
use Rattle.std.proofs.Common.{arith, le-leb, leb-true, eq-eqb, ne_eqb, eqb-true}
use Rattle.std.proofs.lemmas.Bool.{eqb-false}
use Rattle.slices.proofs.TestLaws.{and_left, and_right, and_intro}
use Rattle.slices.specs.Bytes.{Bytes}
use Rattle.store.specs.Record.{has_nv, has_bs, attributes_of, attributes_ok, record_ok}
use Rattle.store.proofs.RecordLaws.{header_attributes}

-- the NV bit tells the store
pub attributes_ok-nv : (non_volatile : Bool) (a : ℕ) → attributes_ok non_volatile a ≡ true → has_nv a ≡ non_volatile
unfolding attributes_ok
attributes_ok-nv true a e = and_right _ _ (and_right _ _ e)
attributes_ok-nv false a e =
    let z : a % 2 ≡ 0 = eqb-true (a % 2) 0 (and_right _ _ (and_right _ _ e)) in
    ne_eqb (a % 2) 1 (λ h. omega arith)

pub record_attributes : (non_volatile : Bool) (r : Bytes) → record_ok non_volatile r ≡ true → attributes_ok non_volatile (attributes_of r) ≡ true
unfolding record_ok
record_attributes non_volatile r e = header_attributes non_volatile r (and_left _ _ (and_right _ _ e))

pub record_nv : (non_volatile : Bool) (r : Bytes) → record_ok non_volatile r ≡ true → has_nv (attributes_of r) ≡ non_volatile
record_nv non_volatile r e = attributes_ok-nv non_volatile (attributes_of r) (record_attributes non_volatile r e)

-- the low three bits of a request's attributes, with BS, are what the store of its NV bit holds
pub nv_stored : (a : ℕ) → has_nv (a % 8) ≡ has_nv a
nv_stored a =
    let e : a % 8 % 2 ≡ a % 2 = omega arith in
    rw e

bit : (n : ℕ) → (n ≡ 1 → ⊥) → n ≤ 1 → n ≡ 0
bit zero f h = refl
bit (suc zero) f h = absurd (f refl)
bit (suc (suc n)) f h = absurd (omega arith)

pub attributes_ok-stored : (a : ℕ) → has_bs a ≡ true → attributes_ok (has_nv a) (a % 8) ≡ true
unfolding attributes_ok
attributes_ok-stored a h = go (has_nv a) refl
  where
    b : has_bs (a % 8) ≡ true
    b = let z : a / 2 % 2 ≡ 1 = eqb-true (a / 2 % 2) 1 h in eq-eqb (a % 8 / 2 % 2) 1 (omega arith)

    go : (n : Bool) → has_nv a ≡ n → attributes_ok n (a % 8) ≡ true
    go true e = let z : a % 2 ≡ 1 = eqb-true (a % 2) 1 e in and_intro _ _ (le-leb (a % 8) 7 (omega arith)) (and_intro _ _ b (eq-eqb (a % 8 % 2) 1 (omega arith)))
    go false e =
        let z : a % 2 ≡ 0 = bit (a % 2) (eqb-false (a % 2) 1 e) (omega arith) in
        and_intro _ _ (le-leb (a % 8) 7 (omega arith)) (and_intro _ _ b (eq-eqb (a % 8 % 2) 0 (omega arith)))

-- WHICH ATTRIBUTES A RECORD MAY HAVE: only bits 1, 2 and 4, BS among them, NV by its store
allowed_attributes : (non_volatile : Bool) (a : ℕ) → attributes_ok non_volatile a ≡ true → (a ≤ 7) × (has_bs a ≡ true)
unfolding attributes_ok
allowed_attributes true a e = (leb-true a 7 (and_left _ _ e), and_left _ _ (and_right (leb a 7) _ e))
allowed_attributes false a e = (leb-true a 7 (and_left _ _ e), and_left _ _ (and_right (leb a 7) _ e))

attributes_allowed_lem : (non_volatile : Bool) (a : ℕ) → a ≤ 7 → has_bs a ≡ true → has_nv a ≡ non_volatile → attributes_ok non_volatile a ≡ true
unfolding attributes_ok
attributes_allowed_lem true a m b n = and_intro _ _ (le-leb a 7 m) (and_intro _ _ b n)
attributes_allowed_lem false a m b n =
    let z = bit (a % 2) (eqb-false (a % 2) 1 n) (omega arith) in and_intro _ _ (le-leb a 7 m) (and_intro _ _ b (eq-eqb (a % 2) 0 z))

pub attributes_ok-exactly : (non_volatile : Bool) (a : ℕ) → (attributes_ok non_volatile a ≡ true) ↔ ((a ≤ 7) × (has_bs a ≡ true) × (has_nv a ≡ non_volatile))
attributes_ok-exactly non_volatile a = (
  (λ e. let w = allowed_attributes non_volatile a e in (w.0, w.1, attributes_ok-nv non_volatile a e)),
  λ w. attributes_allowed_lem non_volatile a w.0 w.1 w.2,
)
