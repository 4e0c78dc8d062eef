-- Laws of what a request must be. Assumes nothing.
use Prim.Native.Nat.{ℕ, ◌≤◌, ◌<◌}
use mathlib.Core.Path.{◌≡◌, refl, sym, ap, ◌∙◌}
use mathlib.Core.List.{[], ◌∷◌}
use mathlib.Core.Bool.{Bool, true, false, not, ◌&&◌}
use native.Mathlib.Omega.{arith}
use lib.ListN.{length, get_or}
use lib.Dec.{eqb, eqb-suc-zero}
use borrow.Author.Tests.{eq-eqb, lt-ltb, le-ltb, not-true, not-false}
use Rattle.slices.specs.Test.{◌and◌}
use Rattle.slices.proofs.TestLaws.{and_no, and_eager}
use Rattle.slices.specs.Bytes.{Bytes, pairwise, same}
use Rattle.slices.proofs.BytesLaws.{pairwise_lengths}
use Rattle.limits.specs.Limits.{namespace_bytes, max_payload}
use Rattle.names.specs.Name.{named, is_name}
use Rattle.store.specs.Record.{has_nv, has_bs, has_rt, has_append}
use Rattle.status.specs.declared.Status.TheVariants.{Success, InvalidParameter, Unsupported}
use Rattle.rules.specs.Set.{is_empty, request_of, is_deletion, bad_request, unsupported_bit, needs_bs, needs_runtime, request_status}

pub empty_length : (l : Bytes) → length l ≡ 0 → is_empty l ≡ true
unfolding is_empty
empty_length [] e = refl
empty_length (b ∷ l) e = absurd (omega (arith, e))

pub some_length : (l : Bytes) → (length l ≡ 0 → ⊥) → is_empty l ≡ false
unfolding is_empty
some_length [] e = absurd (e refl)
some_length (b ∷ l) e = refl

and_true : (b : Bool) → (b and true) ≡ b
unfolding ◌and◌
and_true true = refl
and_true false = refl

-- a payload of another length is not the value
pub other_length : (l : Bytes) (v : ℕ) → (length l ≡ 1 → ⊥) → false ≡ same l (v ∷ [])
other_length l v h = sym (pairwise_lengths eqb l (v ∷ []) h)

pub one_byte : (l : Bytes) (v : ℕ) → length l ≡ 1 → eqb (get_or l 0 0) v ≡ same l (v ∷ [])
unfolding pairwise
one_byte [] v h = absurd (omega (arith, h))
one_byte (b ∷ []) v h = sym (and_true (eqb b v))
one_byte (b ∷ d ∷ l) v h = absurd (omega (arith, h))

-- an empty payload, as the code tests it
pub empty_is : (l : Bytes) → eqb (length l) 0 ≡ is_empty l
unfolding is_empty
empty_is [] = refl
empty_is (b ∷ l) = eqb-suc-zero (length l)

-- ---- steps 1 to 3, by the tests that the code makes

module _ {b : Bool} (a : ℕ) (e : b ≡ has_bs a) where
  pub no_need : b ≡ true → false ≡ needs_bs a
  unfolding needs_bs
  no_need h = simp (← e, h, and_no)

  module _ {t : Bool} (h : b ≡ false) (f : t ≡ has_rt a) where
    pub runtime_needs : t ≡ true → true ≡ needs_bs a
    unfolding needs_bs ◌and◌
    runtime_needs k = simp (← e, h, ← f, k)

    pub append_needs : {p : Bool} → t ≡ false → p ≡ has_append a → p ≡ needs_bs a
    unfolding needs_bs
    append_needs k g = simp (← e, h, ← f, k) (g ∙ sym (and_true (has_append a)))

-- after exit: no deletion, and NV, BS or RT missing
module _ (x : Bool) (a : ℕ) (payload : Bytes) where
  pub not_exited : not x ≡ true → false ≡ needs_runtime x a payload
  unfolding needs_runtime ◌and◌
  not_exited h = simp (not-true x h)

  module _ {d : Bool} (h : not x ≡ false) (e : d ≡ is_deletion a payload) where
    pub deletion_passes : d ≡ true → false ≡ needs_runtime x a payload
    unfolding needs_runtime ◌and◌
    deletion_passes k = simp (not-false x h, ← e, k)

    pub runtime_asked : {n b t : Bool} → d ≡ false → n ≡ has_nv a → b ≡ has_bs a → t ≡ has_rt a → not ((n && b) && t) ≡ needs_runtime x a payload
    unfolding needs_runtime ◌and◌
    runtime_asked {n} {b} {t} k p q r = simp (not-false x h, ← e, k, ← p, ← q, ← r) (ap not (joined n b t))
      where
        joined : (n b t : Bool) → ((n && b) && t) ≡ (n and b and t)
        joined true b t = and_eager b t
        joined false b t = refl

module _ (x : Bool) (namespace name : Bytes) (a : ℕ) (payload : Bytes) (g : length namespace ≡ namespace_bytes) where
  pub bad_name_lem : is_name name ≡ false → InvalidParameter ≡ request_status x (request_of namespace name a payload)
  unfolding ◌and◌ request_status bad_request named
  bad_name_lem h = simp (eq-eqb _ _ g, h)

  module _ (h : is_name name ≡ true) where
    pub long_payload : max_payload < length payload → InvalidParameter ≡ request_status x (request_of namespace name a payload)
    unfolding ◌and◌ request_status bad_request named
    long_payload k = simp (eq-eqb _ _ g, h, lt-ltb _ _ k)

    module _ (k : length payload ≤ max_payload) where
      pub unknown_bit : unsupported_bit a ≡ true → Unsupported ≡ request_status x (request_of namespace name a payload)
      unfolding ◌and◌ request_status bad_request named
      unknown_bit l = simp (eq-eqb _ _ g, h, le-ltb _ _ k, l)

      module _ (l : unsupported_bit a ≡ false) where
        pub lacks_bs : needs_bs a ≡ true → InvalidParameter ≡ request_status x (request_of namespace name a payload)
        unfolding ◌and◌ request_status bad_request named
        lacks_bs m = simp (eq-eqb _ _ g, h, le-ltb _ _ k, l, m)

        module _ (m : needs_bs a ≡ false) where
          pub lacks_runtime : needs_runtime x a payload ≡ true → InvalidParameter ≡ request_status x (request_of namespace name a payload)
          unfolding ◌and◌ request_status bad_request named
          lacks_runtime n = simp (eq-eqb _ _ g, h, le-ltb _ _ k, l, m, n)

          pub taken : needs_runtime x a payload ≡ false → Success ≡ request_status x (request_of namespace name a payload)
          unfolding ◌and◌ request_status bad_request named
          taken n = simp (eq-eqb _ _ g, h, le-ltb _ _ k, l, m, n)
