-- What the reader tells of a good entry has a Size that is not 0, and lies within the reader's bytes. Assumes nothing.
use Rattle.std.specs.Prelude.{◌≡◌, ℕ, zero, suc, ◌+◌, ◌≤◌, ◌<◌, Option, Some, None, Bool, true, false, cond, length, take, eqb, ◌-◌, ⊤}
use Rattle.std.proofs.Common.{refl, subst, arith, length-take, length-drop, length-take-le}
use Rattle.std.proofs.lemmas.Bool.{eqb-false}
use Rattle.slices.specs.Bytes.{Bytes, part}
use Rattle.policy.specs.Policy.{entry_length}
use Rattle.policy.proofs.PolicyLaws.{entry_length-within}
use Rattle.reader.specs.declared.Listing.{Listing}
use Rattle.reader.specs.Reading.{listing, listed}
use Rattle.reader.specs.Reader.{good, listing_in}

-- of a listing of bytes, as many as n
abbrev Fits : ℕ → Option Listing → Type 0
Fits n None = ⊤
Fits n (Some l) = (0 < l.size) × (l.size ≤ n)

not_zero : (n : ℕ) → (n ≡ 0 → ⊥) → 0 < n
not_zero zero h = absurd (h refl)
not_zero (suc n) h = omega arith

listing_fits : (p : Bytes) → Fits (length p) (listing p)
unfolding listing
listing_fits p = go (eqb (entry_length p) 0) refl
  where
    go : (b : Bool) → eqb (entry_length p) 0 ≡ b → Fits (length p) (cond b None (Some (listed (take (entry_length p) p))))
    go true e = tt
    go false e = let w = entry_length-within p in rw (length-take-le (entry_length p) p w) (not_zero (entry_length p) (eqb-false (entry_length p) 0 e), w)

pub listed_within : (r : Bytes) (at : ℕ) (l : Listing) → listing_in r at ≡ Some l → (0 < l.size) × (at + l.size ≤ length r)
unfolding listing_in
listed_within r at l e =
    let h : Fits (length (part at (good r) r)) (Some l) = subst (Fits _) e (listing_fits (part at (good r) r)) in
    let k : length (part at (good r) r) ≤ length r - at = simp (length-take, length-drop) (omega arith) in
    (h.0, omega (arith, h.0, h.1, k))
