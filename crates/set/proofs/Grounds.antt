-- The ground that an entry's sizes and attributes give, by the tests that the code makes. Assumes nothing.
use Prim.Native.Nat.{ℕ}
use mathlib.Core.Path.{◌≡◌, refl, sym, ap, ◌∙◌}
use Rattle.std.specs.Prelude.{Some, None}
use Rattle.std.specs.Prelude as std
use Rattle.std.specs.Option.{option_or}
use Rattle.std.specs.Bool.{then_some}
use mathlib.Core.Bool.{Bool, true, false, cond}
use lib.Dec.{eqb, leb}
use lib.Bits.{bit_and}
use Rattle.slices.specs.Test.{◌and◌}
use Rattle.slices.specs.Bytes.{Bytes}
use Rattle.entry.specs.Entry.{entry_of}
use Rattle.entry.specs.declared.Entry.{Entry}
use Rattle.rules.specs.declared.Ground.{Ground}
use Rattle.rules.specs.declared.Ground.TheVariants.{SizeGround, AttributeGround, LockGround}
use Rattle.rules.specs.Set.{Request, Lookup, is_deletion, size_allowed, attributes_allowed, locks, length_after, request_ground, ground_of}

-- the tests on the fields that the code read
pub size_by : {x : Bool} (e : Bytes) (y : Entry) (n : ℕ) → x ≡ (leb y.min_size n and leb n y.max_size) → y ≡ entry_of e → x ≡ size_allowed e n
unfolding size_allowed entry_of
size_by e y n h k = h ∙ ap (λ z. leb z.min_size n and leb n z.max_size) k

pub attributes_by : {x : Bool} (e : Bytes) (y : Entry) (a : ℕ)
    → x ≡ (eqb (bit_and y.attributes_must_have a) y.attributes_must_have and eqb (bit_and y.attributes_cant_have a) 0)
    → y ≡ entry_of e → x ≡ attributes_allowed e a
unfolding attributes_allowed entry_of
attributes_by e y a h k =
    h ∙ ap (λ z. eqb (bit_and z.attributes_must_have a) z.attributes_must_have and eqb (bit_and z.attributes_cant_have a) 0) k

module _ (e : Bytes) (n : ℕ) (r : Request) where
  pub deletion_ground : is_deletion r.attributes r.payload ≡ true → None ≡ request_ground e n r
  unfolding request_ground
  deletion_ground h = rw h

  module _ (h : is_deletion r.attributes r.payload ≡ false) where
    pub size_ground : size_allowed e n ≡ false → Some SizeGround ≡ request_ground e n r
    unfolding request_ground
    size_ground k = simp (h, k)

    pub no_ground : size_allowed e n ≡ true → attributes_allowed e r.attributes ≡ true → None ≡ request_ground e n r
    unfolding request_ground
    no_ground k l = simp (h, k, l)

    pub attribute_ground : size_allowed e n ≡ true → attributes_allowed e r.attributes ≡ false → Some AttributeGround ≡ request_ground e n r
    unfolding request_ground
    attribute_ground k l = simp (h, k, l)

-- the request's ground o, by the length n that the code found, or else the lock's
module _ (e : Bytes) (found : Lookup) (r : Request) {n : ℕ} {o : std.Option Ground} (m : n ≡ length_after (found r.variable) r) (h : o ≡ request_ground e n r) where
  or_lock : o ≡ request_ground e (length_after (found r.variable) r) r
  or_lock = h ∙ ap (λ k. request_ground e k r) m

  pub by_request : (g : Ground) → o ≡ Some g → Some g ≡ ground_of e found r
  unfolding ground_of
  by_request g k = ap (λ x. option_or x (cond (locks e found r.variable) (Some LockGround) None)) (sym k ∙ or_lock)

  pub by_lock : {x : Bool} → o ≡ None → x ≡ locks e found r.variable → then_some x LockGround ≡ ground_of e found r
  unfolding ground_of
  by_lock {x} k l =
      as_cond x
      ∙ ap (λ b. cond b (Some LockGround) None) l
      ∙ ap (λ y. option_or y (cond (locks e found r.variable) (Some LockGround) None)) (sym k ∙ or_lock)
    where
      as_cond : (b : Bool) → then_some b LockGround ≡ cond b (Some LockGround) None
      as_cond true = refl
      as_cond false = refl
