-- Laws of the test whose record a record is. Assumes nothing.
use Rattle.std.specs.Prelude.{◌≡◌, refl, true, false}
use Rattle.std.proofs.Common.{sym, ap₂, ◌∙◌}
use Rattle.slices.proofs.TestLaws.{and_left, and_right, and_intro, forced_off}
use Rattle.slices.specs.Bytes.{Bytes}
use Rattle.slices.proofs.BytesLaws.{same_eq, same_of, same_sym}
use Rattle.names.specs.Name.{Variable}
use Rattle.store.specs.Record.{namespace_of, name_of, variable_of, is_of, same_variable}

pub is_of-namespace : (v : Variable) (r : Bytes) → is_of v r ≡ true → namespace_of r ≡ v.namespace
unfolding is_of
is_of-namespace v r e = same_eq _ _ (and_left _ _ e)

pub is_of-name : (v : Variable) (r : Bytes) → is_of v r ≡ true → name_of r ≡ v.name
unfolding is_of
is_of-name v r e = same_eq _ _ (and_right _ _ e)

-- a record is of its own variable
pub is_of-self : (r : Bytes) → is_of (variable_of r) r ≡ true
unfolding is_of
is_of-self r = and_intro _ _ (same_of (namespace_of r) (namespace_of r) refl) (same_of (name_of r) (name_of r) refl)

-- and of no other
pub is_of-variable : (v : Variable) (r : Bytes) → is_of v r ≡ true → v ≡ variable_of r
is_of-variable v r e = ap₂ (λ (g n : Bytes). record { namespace = g; name = n }) (sym (is_of-namespace v r e)) (sym (is_of-name v r e))

pub is_of-other : (v w : Variable) → (v ≡ w → ⊥) → (r : Bytes) → is_of v r ≡ true → is_of w r ≡ false
is_of-other v w d r e = forced_off (is_of w r) (λ t. absurd (d (is_of-variable v r e ∙ sym (is_of-variable w r t))))

-- the test of a variable is that of any of its records
pub is_of-like : (v : Variable) (q : Bytes) → is_of v q ≡ true → (r : Bytes) → is_of v r ≡ same_variable q r
is_of-like v q e r = rw (is_of-variable v q e)

pub same_variable-sym : (q r : Bytes) → same_variable q r ≡ same_variable r q
unfolding is_of
same_variable-sym q r = rw (same_sym (namespace_of r) (namespace_of q), same_sym (name_of r) (name_of q))

pub same_variable-like : (q r : Bytes) → same_variable q r ≡ true → (c : Bytes) → same_variable q c ≡ same_variable r c
same_variable-like q r e c = is_of-like (variable_of q) r e c
