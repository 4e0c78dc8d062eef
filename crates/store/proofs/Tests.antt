-- The tests of one record, as the code makes them. Assumes nothing.
use Prim.Native.Nat.{ℕ, zero, suc, ◌+◌, ◌-◌, ◌%◌, ◌≤◌, ◌<◌}
use mathlib.Core.Path.{◌≡◌, refl, sym, ap, ◌∙◌}
use mathlib.Core.Bool.{Bool, true, false, not, ◌&&◌, beq}
use native.Mathlib.Omega.{arith}
use native.Mathlib.Nat.{le_refl}
use lib.ListN.{length, get_or, take}
use lib.Seq.{length-take-le}
use lib.Dec.{eqb, leb}
use Rattle.limits.specs.Limits.{max_payload}
use Rattle.slices.specs.Test.{◌and◌}
use Rattle.slices.proofs.TestLaws.{and_no, and_yes, and_assoc, and_eager}
use Rattle.slices.specs.Bytes.{Bytes, part, same, all_are}
use Rattle.slices.proofs.PartLaws.{part_rest}
use Rattle.names.specs.Name.{is_terminated}
use Rattle.store.specs.Record.{attributes_of, name_size, data_size, namespace_of, name_of, is_of, record_size, has_bs, has_nv, attributes_ok, header_ok, body_ok, record_ok, record_length}
use Rattle.store.specs.Parts.{variable, bounds_in}
use Rattle.store.specs.declared.Found.{Found}
use Rattle.std.specs.Prelude.{Option, Some, MatchOption}
use Rattle.std.specs.Bool.{then_some}
use Rattle.store.proofs.RecordLaws.{mark_is, length_short, length_header, length_ok, length_not, ok_parts, name_size-take, data_size-take}

-- ---- the header
clear_bit : (n : ℕ) → n < 2 → not (eqb n 1) ≡ eqb n 0
clear_bit zero h = refl
clear_bit (suc zero) h = refl
clear_bit (suc (suc n)) h = absurd (omega arith)

beq_true : (x : Bool) → beq x true ≡ x
beq_true true = refl
beq_true false = refl

beq_false : (x : Bool) → beq x false ≡ not x
beq_false true = refl
beq_false false = refl

attributes_is : (b : Bool) (a : ℕ) → ((leb a 7 && has_bs a) && beq (has_nv a) b) ≡ attributes_ok b a
unfolding attributes_ok
attributes_is true a = simp (beq_true (has_nv a), and_eager, and_assoc)
attributes_is false a = simp (beq_false (has_nv a), clear_bit (a % 2) (omega arith), and_eager, and_assoc)

module _ {v : Bool} (b : Bool) (a : ℕ) (p : v ≡ (leb a 7 && has_bs a)) where
  pub attributes_low : {y : Bool} → v ≡ true → y ≡ has_nv a → beq y b ≡ attributes_ok b a
  attributes_low {y} e q = rw q (ap (λ (x : Bool). x && beq (has_nv a) b) (sym e ∙ p) ∙ attributes_is b a)

  pub attributes_high : v ≡ false → v ≡ attributes_ok b a
  attributes_high e = e ∙ ap (λ (x : Bool). x && beq (has_nv a) b) (sym e ∙ p) ∙ attributes_is b a

pub header_is : {n d a : ℕ} {x : Bool} (b : Bool) (r : Bytes) → 32 ≤ length r → n ≡ name_size r → d ≡ data_size r → a ≡ attributes_of r → x ≡ attributes_ok b a
    → ((((((((eqb (get_or r 0 0) 0xAA && eqb (get_or r 1 0) 0x55) && eqb (get_or r 2 0) 0x3F) && eqb (get_or r 3 0) 0) && x) && leb 4 n) && leb n 130) && leb 1 d) && leb d max_payload)
    ≡ header_ok b r
unfolding header_ok
header_is b r h p q s t = simp (mark_is r (omega arith), p, q, t, s, and_eager, and_assoc)

-- ---- the body
module _ {x : Bool} {n d : ℕ} (r : Bytes) (p : n ≡ name_size r) (q : d ≡ data_size r) (e : x ≡ is_terminated (part 32 (32 + n) r)) where
  pub body_unnamed : x ≡ false → false ≡ body_ok r
  unfolding body_ok ◌and◌
  body_unnamed h = rw (← p, ← e, h)

  pub body_named : {y : Bool} → x ≡ true → y ≡ all_are 255 (part (32 + n + d) (length r) r) → y ≡ body_ok r
  unfolding body_ok ◌and◌
  body_named {y} h f = f ∙ rw (← p, ← q, ← e, h, part_rest (32 + n + d) (length r) r (le_refl (length r)))

-- ---- the whole
pub first_part : (n : ℕ) (l : Bytes) → part 0 n l ≡ take n l
first_part n l = let e : n - 0 ≡ n = omega arith in ap (λ (m : ℕ). take m l) e

module _ (b : Bool) (l : Bytes) where
  pub length_no_room : length l < 32 → record_length b l ≡ 0
  length_no_room h = length_short b l (omega arith)

  pub length_no_header : {x : Bool} → x ≡ header_ok b l → x ≡ false → record_length b l ≡ 0
  length_no_header e h = length_header b l (sym e ∙ h)

  module _ {n d z : ℕ} (p : n ≡ name_size l) (q : d ≡ data_size l) (s : z ≡ record_size n d) where
    size_is : z ≡ record_size (name_size l) (data_size l)
    size_is = s ∙ rw (p, q)

    pub length_cut : length l < z → record_length b l ≡ 0
    length_cut h = length_short b l (rw size_is at h)

    -- what the test of the body asks
    pub body_asks : z ≤ length l → (n ≡ name_size (take z l)) × (d ≡ data_size (take z l)) × (32 + n + d ≤ length (take z l))
    body_asks h =
        let f : 32 + n + d ≤ z = omega arith in
        let k : length (take z l) ≡ z = length-take-le z l h in
        (p ∙ sym (name_size-take z l (omega arith)), q ∙ sym (data_size-take z l (omega arith)), omega arith)

    module _ {x y : Bool} (e : x ≡ header_ok b l) (f : x ≡ true) (g : y ≡ body_ok (take z l)) (h : z ≤ length l) where
      ok_is : record_ok b (take (record_size (name_size l) (data_size l)) l) ≡ y
      unfolding ◌and◌
      ok_is = ok_parts b l (rw size_is at h) ∙ rw (← e, f, ← size_is, ← g)

      -- its length, if the body is that of a record
      pub length_found : {o : Option ℕ} → o ≡ then_some y z → MatchOption o (record_length b l ≡ 0) (λ m. (0 < m) × (record_length b l ≡ m))
      length_found {o} t = go y refl
        where
          go : (c : Bool) → y ≡ c → MatchOption o (record_length b l ≡ 0) (λ m. (0 < m) × (record_length b l ≡ m))
          go true i = rw (t, i) (omega arith, length_ok b l (rw size_is at h) (ok_is ∙ i) ∙ sym size_is)
          go false i = rw (t, i) (length_not b l (ok_is ∙ i))

-- ---- whose record it is
module _ {x : Bool} {n : Bytes} (g u r : Bytes) (p : n ≡ name_of r) (e : x ≡ same n u) where
  pub other_name : x ≡ false → false ≡ is_of (variable g u) r
  unfolding is_of
  other_name h = rw (← p, ← e, h, and_no (same (namespace_of r) g))

  pub same_name : {y : Bool} {m : Bytes} → x ≡ true → m ≡ namespace_of r → y ≡ same m g → y ≡ is_of (variable g u) r
  unfolding is_of
  same_name {y} {m} h q f = f ∙ rw (← p, ← q, ← e, h, and_yes (same m g))

-- ---- where the payload stands
pub bounds_are : {n d : ℕ} {o : Option Found} (s : Bytes) (f : Found) → o ≡ Some f → n ≡ name_size (part f.at (f.at + f.len) s) → d ≡ data_size (part f.at (f.at + f.len) s)
    → record { from = f.at + 32 + n; to = f.at + 32 + n + d } ≡ bounds_in s o
bounds_are s f e p q = rw (e, p, q)
