-- Laws of one record: what its test tells, that the test looks at its own bytes only, and that it is one with the encoding of its fields.
-- Assumes nothing.
use Prim.Native.Nat.{ℕ, zero, suc, ◌+◌, ◌%◌, ◌≤◌, ◌<◌}
use Rattle.std.specs.Prelude.{◌≡◌, Bool, true, false, get_or, eqb, leb}
use Rattle.std.proofs.Math.Path.{refl, sym}
use Rattle.std.proofs.Common.{ap, ◌∙◌, le_refl, length-append, take-take, take_at}
use mathlib.Core.List.{[], ◌∷◌, ◌++◌}
use native.Mathlib.Omega.{arith}
use Rattle.std.proofs.Math.ListN.{length, take, replicate}
use Rattle.std.proofs.Math.Seq.{length-take-le, take-length}
use borrow.Author.Tests.{lt-leb, le-leb, eq-eqb, leb-true, eqb-true}
use Rattle.limits.specs.Limits.{max_payload}
use Rattle.slices.specs.Test.{◌and◌}
use Rattle.slices.proofs.TestLaws.{and_left, and_right, and_no, and_yes}
use Rattle.slices.specs.Bytes.{Bytes, pairwise, same}
use Rattle.slices.proofs.NumberLaws.{le32_take}
use Rattle.store.specs.Record.{attributes_of, name_size, data_size, record_size, attributes_ok, record_mark, header_ok, body_ok, record_ok, record_length}
use Rattle.store.specs.Parts.{HeaderFits}

-- HOW LONG A RECORD IS: header, name and payload, up to the next multiple of 4
pub record_size_lem : (n d : ℕ) → (record_size n d % 4 ≡ 0) × (32 + n + d ≤ record_size n d) × (record_size n d < 36 + n + d)
record_size_lem n d = (omega arith, omega arith, omega arith)

-- ---- the header
pub mark_is : (r : Bytes) → 4 ≤ length r
    → same (take 4 r) record_mark ≡ (eqb (get_or r 0 0) 0xAA and (eqb (get_or r 1 0) 0x55 and (eqb (get_or r 2 0) 0x3F and eqb (get_or r 3 0) 0)))
unfolding pairwise
mark_is (a ∷ b ∷ c ∷ d ∷ r) h = rw (and_yes (eqb d 0))
mark_is [] h = absurd (omega arith)
mark_is (a ∷ []) h = absurd (omega arith)
mark_is (a ∷ b ∷ []) h = absurd (omega arith)
mark_is (a ∷ b ∷ c ∷ []) h = absurd (omega arith)

-- a header within the first n bytes
pub attributes_take : (n : ℕ) (l : Bytes) → 16 ≤ n → attributes_of (take n l) ≡ attributes_of l
attributes_take n l h = le32_take n l 4 (omega arith)

pub name_size-take : (n : ℕ) (l : Bytes) → 16 ≤ n → name_size (take n l) ≡ name_size l
name_size-take n l h = le32_take n l 8 (omega arith)

pub data_size-take : (n : ℕ) (l : Bytes) → 16 ≤ n → data_size (take n l) ≡ data_size l
data_size-take n l h = le32_take n l 12 (omega arith)

pub header_take : (non_volatile : Bool) (n : ℕ) (l : Bytes) → 16 ≤ n → header_ok non_volatile (take n l) ≡ header_ok non_volatile l
unfolding header_ok
header_take non_volatile n l h =
    rw (take-take 4 n l (omega arith), attributes_take n l h, name_size-take n l h, data_size-take n l h)

pub record Sizes (r : Bytes) : Type 0 where
  pub low : 4 ≤ name_size r
  pub high : name_size r ≤ 130
  pub some : 1 ≤ data_size r
  pub most : data_size r ≤ max_payload

pub header_sizes : (non_volatile : Bool) (r : Bytes) → header_ok non_volatile r ≡ true → Sizes r
unfolding header_ok
header_sizes non_volatile r e =
    let e₂ = and_right _ _ (and_right _ _ e) in
    let e₃ = and_right _ _ e₂ in
    let e₄ = and_right _ _ e₃ in
    record {
      low = leb-true 4 (name_size r) (and_left _ _ e₂);
      high = leb-true (name_size r) 130 (and_left _ _ e₃);
      some = leb-true 1 (data_size r) (and_left _ _ e₄);
      most = leb-true (data_size r) max_payload (and_right _ _ e₄);
    }

pub header_attributes : (non_volatile : Bool) (r : Bytes) → header_ok non_volatile r ≡ true → attributes_ok non_volatile (attributes_of r) ≡ true
unfolding header_ok
header_attributes non_volatile r e = and_left _ _ (and_right _ _ e)

pub header_mark : (non_volatile : Bool) (r : Bytes) → header_ok non_volatile r ≡ true → same (take 4 r) record_mark ≡ true
unfolding header_ok
header_mark non_volatile r e = and_left _ _ e

-- ---- the length of the record that begins a list
module _ (non_volatile : Bool) (l : Bytes) where
  abbrev size : ℕ
  size = record_size (name_size l) (data_size l)

  pub length_short : length l < size → record_length non_volatile l ≡ 0
  unfolding record_length ◌and◌
  length_short h = rw (lt-leb size (length l) h)

  pub length_not : record_ok non_volatile (take size l) ≡ false → record_length non_volatile l ≡ 0
  unfolding record_length
  length_not h = rw (h, and_no (leb size (length l)))

  pub length_ok : size ≤ length l → record_ok non_volatile (take size l) ≡ true → record_length non_volatile l ≡ size
  unfolding record_length ◌and◌
  length_ok h e = rw (le-leb size (length l) h, e) refl

  -- the whole test, where there are bytes enough
  pub ok_parts : size ≤ length l → record_ok non_volatile (take size l) ≡ (header_ok non_volatile l and body_ok (take size l))
  unfolding record_ok ◌and◌
  ok_parts h =
      let f : 16 ≤ size = omega arith in
      let k : length (take size l) ≡ size = length-take-le size l h in
      rw (name_size-take size l f, data_size-take size l f, eq-eqb (length (take size l)) size k, header_take non_volatile size l f)

  pub length_header : header_ok non_volatile l ≡ false → record_length non_volatile l ≡ 0
  unfolding record_ok ◌and◌
  length_header h =
      let f : 16 ≤ size = omega arith in
      length_not (rw (header_take non_volatile size l f, h) (and_no (eqb (length (take size l)) (record_size (name_size (take size l)) (data_size (take size l))))))

-- ---- what a record of n bytes that begins a list says
pub record Begins (non_volatile : Bool) (n : ℕ) (l : Bytes) : Type 0 where
  pub is : record_size (name_size l) (data_size l) ≡ n
  pub within : n ≤ length l
  pub header : header_ok non_volatile l ≡ true
  pub body : body_ok (take n l) ≡ true
  pub ok : record_ok non_volatile (take n l) ≡ true

module _ (non_volatile : Bool) where
  pub begins : (n : ℕ) (l : Bytes) → record_length non_volatile l ≡ n → 0 < n → Begins non_volatile n l
  unfolding record_length
  begins n l e h = go (leb z (length l) and record_ok non_volatile (take z l)) refl
    where
      z : ℕ
      z = record_size (name_size l) (data_size l)

      go : (b : Bool) → (leb z (length l) and record_ok non_volatile (take z l)) ≡ b → Begins non_volatile n l
      go true q =
          let v : z ≡ n = rw q at e in
          let w : z ≤ length l = leb-true z (length l) (and_left _ _ q) in
          let k = and_right _ _ q in
          let p : (header_ok non_volatile l and body_ok (take z l)) ≡ true = sym (ok_parts non_volatile l w) ∙ k in
          record { is = v; within = rw v at w; header = and_left _ _ p; body = rw v at (and_right (header_ok non_volatile l) (body_ok (take z l)) p); ok = rw v at k }
      go false q = absurd (let v : 0 ≡ n = rw q at e in omega arith)

  pub record_length-within : (l : Bytes) → record_length non_volatile l ≤ length l
  record_length-within l = go (record_length non_volatile l) refl
    where
      go : (n : ℕ) → record_length non_volatile l ≡ n → n ≤ length l
      go zero e = omega arith
      go (suc n) e = (begins (suc n) l e (omega arith)).within

  pub begins_fits : (n : ℕ) (l : Bytes) → Begins non_volatile n l → HeaderFits (take n l)
  begins_fits n l b =
      let z = header_sizes non_volatile l b.header in
      let w = b.within in
      let q = b.is in
      let k : 32 + name_size l + data_size l ≤ n = omega arith in
      let p = name_size-take n l (omega arith) in
      let d = data_size-take n l (omega arith) in
      let s : length (take n l) ≡ n = length-take-le n l w in
      record { head = omega arith; low = omega arith; fits = omega arith }

  -- a record looks at its own bytes only
  pub record_length-local : (l m : Bytes) (n : ℕ) → record_length non_volatile l ≡ n → 0 < n → record_length non_volatile (take n l ++ m) ≡ n
  record_length-local l m n e h =
      let b = begins n l e h in
      let w = b.within in
      let q = b.is in
      let f : 32 ≤ n = omega arith in
      let k : length (take n l) ≡ n = length-take-le n l w in
      let t : take n (take n l ++ m) ≡ take n l = take_at (take n l) m n k in
      let p : name_size (take n l ++ m) ≡ name_size l = sym (name_size-take n (take n l ++ m) (omega arith)) ∙ ap name_size t ∙ name_size-take n l (omega arith) in
      let d : data_size (take n l ++ m) ≡ data_size l = sym (data_size-take n (take n l ++ m) (omega arith)) ∙ ap data_size t ∙ data_size-take n l (omega arith) in
      let z : record_size (name_size (take n l ++ m)) (data_size (take n l ++ m)) ≡ n = rw (p, d) q in
      let g : n ≤ length (take n l ++ m) = rw length-append (omega arith) in
      length_ok non_volatile (take n l ++ m) (rw z g) (rw (z, t) b.ok) ∙ z

  -- no record begins with 0xFF
  pub record_length-free : (k : ℕ) → record_length non_volatile (replicate k 255) ≡ 0
  unfolding header_ok pairwise ◌and◌
  record_length-free zero = length_short non_volatile [] (omega arith)
  record_length-free (suc k) = length_header non_volatile (255 ∷ replicate k 255) refl

  -- the test of a whole record, and of a record before any bytes
  pub ok_length : (r : Bytes) → record_ok non_volatile r ≡ true → record_length non_volatile r ≡ length r
  unfolding record_ok
  ok_length r e =
      let z : length r ≡ record_size (name_size r) (data_size r) = eqb-true _ _ (and_left _ _ e) in
      let t : take (length r) r ≡ r = take-length r in
      length_ok non_volatile r (rw (← z) (le_refl (length r))) (rw (← z, t) e) ∙ sym z

  pub length_ok_whole : (r : Bytes) → record_length non_volatile r ≡ length r → 0 < length r → record_ok non_volatile r ≡ true
  length_ok_whole r e h = rw take-length at (begins (length r) r e h).ok

  pub ok_some : (r : Bytes) → record_ok non_volatile r ≡ true → 0 < length r
  unfolding record_ok
  ok_some r e =
      let z : length r ≡ record_size (name_size r) (data_size r) = eqb-true _ _ (and_left _ _ e) in
      omega arith
