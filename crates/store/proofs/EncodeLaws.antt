-- A record is one with the encoding of its own fields.
-- `encode_ok`: the encoding of parts that a store may hold is a record, and its fields are those parts.
-- `encode_fields`: a record is the encoding of its fields, and they are such parts.
-- Assumes nothing, but that each byte of a record is below 256 where its numbers are written anew.
use Rattle.std.specs.Prelude.{ℕ, ◌+◌, ◌-◌, ◌≤◌, ◌<◌, ◌≡◌, Bool, true, false, get_or, take, drop, replicate}
use Rattle.std.proofs.Math.Path.{refl, sym, ap}
use Rattle.std.proofs.Common.{◌∙◌, length-append, take-append-drop, take_at, drop_at, drop-drop, take-take}
use mathlib.Core.List.{[], ◌∷◌, ◌++◌, append_assoc}
use native.Mathlib.Omega.{arith}
use Rattle.std.proofs.Math.Nat.{add-sub_cancel_left}
use Rattle.std.proofs.Math.ListN.{length, length-drop}
use Rattle.std.proofs.lemmas.List.{length-replicate}
use Rattle.std.proofs.Math.Seq.{take-append_seam, drop-append_seam, drop-append-add}
use borrow.Author.Tests.{le-leb, eq-eqb, leb-true, eqb-true}
use Rattle.limits.specs.Limits.{max_payload, max_name_bytes, namespace_bytes}
use Rattle.slices.specs.Test.{◌and◌}
use Rattle.slices.proofs.TestLaws.{and_left, and_right, and_intro}
use Rattle.slices.specs.Bytes.{Bytes, le32_bytes, part, pairwise, same, all_are}
use Rattle.slices.proofs.BytesLaws.{same_eq, same_of, all_are-is, all_are-replicate}
use Rattle.slices.proofs.NumberLaws.{le32_drop, le32_bytes_lem, bytes_le32}
use Rattle.slices.proofs.PartLaws.{length_part, drop_take}
use Rattle.names.specs.Name.{Variable, is_name, is_terminated, named}
use Rattle.names.proofs.NameLaws.{is_name-length, is_terminated-name, is_terminated-end, name_terminated, named_namespace, named_name}
use Rattle.store.specs.Record.{attributes_of, name_size, data_size, namespace_of, name_of, payload_of, variable_of, record_size, attributes_ok, record_mark, header_ok, body_ok, record_ok, is_of, encode_record}
use Rattle.store.proofs.RecordLaws.{Sizes, header_sizes, header_attributes, header_mark}
use Rattle.store.specs.Parts.{Storable}

module _ (a : ℕ) (v : Variable) (p : Bytes) where
  abbrev padding : Bytes
  padding = replicate (record_size (length v.name + 2) (length p) - (34 + length v.name + length p)) 255

  -- what stands behind the sizes, and behind the namespace
  abbrev rest : Bytes
  rest = v.namespace ++ (v.name ++ (0 ∷ 0 ∷ (p ++ padding)))

  encode_is : encode_record a v p ≡ record_mark ++ (le32_bytes a ++ (le32_bytes (length v.name + 2) ++ (le32_bytes (length p) ++ rest)))
  unfolding encode_record
  encode_is = simp append_assoc

  pub attributes_encode : a < 4294967296 → attributes_of (encode_record a v p) ≡ a
  attributes_encode h = ap attributes_of encode_is ∙ sym (le32_drop 4 _ 0) ∙ le32_bytes_lem a _ h

  pub name_size-encode : length v.name ≤ max_name_bytes → name_size (encode_record a v p) ≡ length v.name + 2
  unfolding le32_bytes
  name_size-encode h = ap name_size encode_is ∙ sym (le32_drop 8 _ 0) ∙ le32_bytes_lem (length v.name + 2) _ (omega arith)

  pub data_size-encode : length p ≤ max_payload → data_size (encode_record a v p) ≡ length p
  unfolding le32_bytes
  data_size-encode h = ap data_size encode_is ∙ sym (le32_drop 12 _ 0) ∙ le32_bytes_lem (length p) _ (omega arith)

  behind_header : drop 16 (encode_record a v p) ≡ rest
  unfolding le32_bytes
  behind_header = ap (drop 16) encode_is

  module _ (hg : length v.namespace ≡ namespace_bytes) where
    pub namespace_encode : namespace_of (encode_record a v p) ≡ v.namespace
    unfolding namespace_of
    namespace_encode = rw behind_header (take_at v.namespace (v.name ++ (0 ∷ 0 ∷ (p ++ padding))) 16 hg)

    behind_namespace : drop 32 (encode_record a v p) ≡ v.name ++ (0 ∷ 0 ∷ (p ++ padding))
    behind_namespace =
        sym (drop-drop 16 16 (encode_record a v p)) ∙ rw behind_header (drop_at v.namespace (v.name ++ (0 ∷ 0 ∷ (p ++ padding))) 16 hg)

    pub length_encode : length (encode_record a v p) ≡ record_size (length v.name + 2) (length p)
    unfolding le32_bytes
    length_encode = rw encode_is (simp (length-append, length-replicate) (omega arith))

    module _ (hn : length v.name ≤ max_name_bytes) where
      pub name_encode : name_of (encode_record a v p) ≡ v.name
      unfolding name_of
      name_encode =
          let k : 30 + (length v.name + 2) - 32 ≡ length v.name = omega arith in
          rw (name_size-encode hn, k, behind_namespace) (take-append_seam v.name (0 ∷ 0 ∷ (p ++ padding)))

      terminated_encode : part 32 (32 + name_size (encode_record a v p)) (encode_record a v p) ≡ v.name ++ (0 ∷ 0 ∷ [])
      terminated_encode =
          let k : 32 + (length v.name + 2) - 32 ≡ length v.name + 2 = omega arith in
          rw (name_size-encode hn, k, behind_namespace, ← append_assoc v.name (0 ∷ 0 ∷ []) (p ++ padding))
          (take_at (v.name ++ (0 ∷ 0 ∷ [])) (p ++ padding) (length v.name + 2) (length-append v.name (0 ∷ 0 ∷ [])))

      behind_name : drop (32 + (length v.name + 2)) (encode_record a v p) ≡ p ++ padding
      behind_name = sym (drop-drop (length v.name + 2) 32 (encode_record a v p)) ∙ rw behind_namespace (drop-append-add v.name (0 ∷ 0 ∷ (p ++ padding)) 2)

      module _ (hd : length p ≤ max_payload) where
        pub payload_encode : payload_of (encode_record a v p) ≡ p
        unfolding payload_of
        payload_encode =
            let k : 32 + (length v.name + 2) + length p - (32 + (length v.name + 2)) ≡ length p = omega arith in
            rw (name_size-encode hn, data_size-encode hd, k, behind_name) (take-append_seam p padding)

        padding_encode : all_are 255 (drop (32 + name_size (encode_record a v p) + data_size (encode_record a v p)) (encode_record a v p)) ≡ true
        padding_encode =
            rw (name_size-encode hn, data_size-encode hd, ← drop-drop (length p) (32 + (length v.name + 2)) (encode_record a v p), behind_name, drop-append_seam p padding)
            (all_are-replicate 255 (record_size (length v.name + 2) (length p) - (34 + length v.name + length p)))

  -- it is of its variable
  pub is_of-encode : named v ≡ true → is_of v (encode_record a v p) ≡ true
  unfolding is_of
  is_of-encode e =
      let g = named_namespace v e in
      let n = (is_name-length v.name (named_name v e)).1 in
      and_intro _ _ (same_of _ _ (namespace_encode g)) (same_of _ _ (name_encode g n))

pub attributes_ok-small : (non_volatile : Bool) (a : ℕ) → attributes_ok non_volatile a ≡ true → a ≤ 7
unfolding attributes_ok
attributes_ok-small true a e = leb-true a 7 (and_left _ _ e)
attributes_ok-small false a e = leb-true a 7 (and_left _ _ e)

module _ (non_volatile : Bool) (a : ℕ) (v : Variable) (p : Bytes) (s : Storable non_volatile a v p) where
  hg : length v.namespace ≡ namespace_bytes
  hg = named_namespace v s.called

  hn : (2 ≤ length v.name) × (length v.name ≤ max_name_bytes)
  hn = is_name-length v.name (named_name v s.called)

  mark_encode : same (take 4 (encode_record a v p)) record_mark ≡ true
  unfolding pairwise ◌and◌
  mark_encode = rw (encode_is a v p) refl

  header_encode : header_ok non_volatile (encode_record a v p) ≡ true
  unfolding header_ok
  header_encode =
      let k = attributes_ok-small non_volatile a s.kind in
      let h = hn in
      let m = s.most in
      rw (attributes_encode a v p (omega arith), name_size-encode a v p hn.1, data_size-encode a v p s.most)
      (and_intro _ _ mark_encode
      (and_intro _ _ s.kind
      (and_intro _ _ (le-leb 4 (length v.name + 2) (omega arith))
      (and_intro _ _ (le-leb (length v.name + 2) 130 (omega arith))
      (and_intro _ _ (le-leb 1 (length p) s.some) (le-leb (length p) max_payload s.most))))))

  body_encode : body_ok (encode_record a v p) ≡ true
  unfolding body_ok
  body_encode =
      and_intro _ _ (ap is_terminated (terminated_encode a v p hg hn.1) ∙ name_terminated v.name (named_name v s.called)) (padding_encode a v p hg hn.1 s.most)

  pub encode_ok : record_ok non_volatile (encode_record a v p) ≡ true
  unfolding record_ok
  encode_ok =
      and_intro _ _ (eq-eqb _ _ (length_encode a v p hg ∙ rw (name_size-encode a v p hn.1, data_size-encode a v p s.most)))
      (and_intro _ _ header_encode body_encode)

-- ---- from a record to its fields and back
-- the bytes from a on are those up to b and those from b on
cut : (a b : ℕ) (r : Bytes) → a ≤ b → drop a r ≡ part a b r ++ drop b r
cut a b r h =
    let k : a + (b - a) ≡ b = omega arith in
    sym (take-append-drop (b - a) (drop a r)) ∙ rw (drop-drop (b - a) a r, k)

module _ (non_volatile : Bool) (r : Bytes) (e : record_ok non_volatile r ≡ true) where
  size_is : length r ≡ record_size (name_size r) (data_size r)
  unfolding record_ok
  size_is = eqb-true _ _ (and_left _ _ e)

  header : header_ok non_volatile r ≡ true
  unfolding record_ok
  header = and_left _ _ (and_right _ _ e)

  body : body_ok r ≡ true
  unfolding record_ok
  body = and_right _ _ (and_right _ _ e)

  sizes : Sizes r
  sizes = header_sizes non_volatile r header

  fits : 32 + name_size r + data_size r ≤ length r
  fits = let k = size_is in omega arith

  called : is_terminated (part 32 (32 + name_size r) r) ≡ true
  unfolding body_ok
  called = and_left _ _ body

  called_length : length (part 32 (32 + name_size r) r) ≡ name_size r
  called_length = let k = fits in length_part 32 (32 + name_size r) r (omega arith) ∙ add-sub_cancel_left 32 (name_size r)

  name_is : take (name_size r - 2) (part 32 (32 + name_size r) r) ≡ name_of r
  unfolding name_of
  name_is =
      let z = sizes.low in
      let i : 32 + name_size r - 32 ≡ name_size r = omega arith in
      let j : 30 + name_size r - 32 ≡ name_size r - 2 = omega arith in
      rw (i, j) (take-take (name_size r - 2) (name_size r) (drop 32 r) (omega arith))

  pub name_ok_lem : is_name (name_of r) ≡ true
  name_ok_lem = sym (ap is_name (rw called_length name_is)) ∙ is_terminated-name (part 32 (32 + name_size r) r) called

  pub length_name : length (name_of r) ≡ name_size r - 2
  unfolding name_of
  length_name = let k = fits in let z = sizes.low in length_part 32 (30 + name_size r) r (omega arith) ∙ (omega arith)

  pub length_namespace : length (namespace_of r) ≡ namespace_bytes
  unfolding namespace_of
  length_namespace = let k = fits in length_part 16 32 r (omega arith)

  pub length_payload : length (payload_of r) ≡ data_size r
  unfolding payload_of
  length_payload = let k = fits in length_part (32 + name_size r) (32 + name_size r + data_size r) r (omega arith) ∙ add-sub_cancel_left (32 + name_size r) (data_size r)

  -- its fields are what a store may hold
  pub fields_storable : Storable non_volatile (attributes_of r) (variable_of r) (payload_of r)
  unfolding named
  fields_storable =
      let z = sizes in
      let k = length_payload in
      record {
        kind = header_attributes non_volatile r header;
        called = and_intro _ _ (eq-eqb _ _ length_namespace) name_ok_lem;
        some = rw k z.some;
        most = rw k z.most;
      }

  -- ---- its bytes, from the last to the first
  abbrev name_size_lem : length (name_of r) + 2 ≡ name_size r
  name_size_lem = let k = length_name in let z = sizes.low in omega arith

  padding_is : padding (attributes_of r) (variable_of r) (payload_of r) ≡ drop (32 + name_size r + data_size r) r
  unfolding body_ok
  padding_is =
      let k = length_name in
      let z = sizes.low in
      let s = size_is in
      let a : 34 + length (name_of r) + data_size r ≡ 32 + name_size r + data_size r = omega arith in
      let n = length-drop (32 + name_size r + data_size r) r in
      sym (all_are-is 255 (drop (32 + name_size r + data_size r) r) (and_right _ _ body) ∙ rw (n, length_payload, name_size_lem, a, s))

  payload_is : payload_of r ++ drop (32 + name_size r + data_size r) r ≡ drop (32 + name_size r) r
  unfolding payload_of
  payload_is = sym (cut (32 + name_size r) (32 + name_size r + data_size r) r (omega arith))

  zero_is : (0 ∷ 0 ∷ []) ++ drop (32 + name_size r) r ≡ drop (30 + name_size r) r
  zero_is =
      let z = sizes.low in
      let i : 32 + name_size r - 32 ≡ name_size r = omega arith in
      let j : name_size r - (name_size r - 2) ≡ 32 + name_size r - (30 + name_size r) = omega arith in
      let k : 32 + (name_size r - 2) ≡ 30 + name_size r = omega arith in
      let c : drop (name_size r - 2) (part 32 (32 + name_size r) r) ≡ 0 ∷ 0 ∷ [] = rw called_length at (is_terminated-end (part 32 (32 + name_size r) r) called) in
      let d : drop (name_size r - 2) (part 32 (32 + name_size r) r) ≡ part (30 + name_size r) (32 + name_size r) r =
      rw (i, drop_take (name_size r) (name_size r - 2) (drop 32 r), drop-drop, j, k) in
      ap (λ (l : Bytes). l ++ drop (32 + name_size r) r) (sym c ∙ d) ∙ sym (cut (30 + name_size r) (32 + name_size r) r (omega arith))

  called_is : name_of r ++ drop (30 + name_size r) r ≡ drop 32 r
  unfolding name_of
  called_is = let z = sizes.low in sym (cut 32 (30 + name_size r) r (omega arith))

  namespace_is : namespace_of r ++ drop 32 r ≡ drop 16 r
  unfolding namespace_of
  namespace_is = sym (cut 16 32 r (omega arith))

  rest_is : rest (attributes_of r) (variable_of r) (payload_of r) ≡ drop 16 r
  rest_is = rw (padding_is, payload_is) (ap (λ (l : Bytes). namespace_of r ++ (name_of r ++ l)) zero_is ∙ rw (called_is, namespace_is))

  pub encode_fields : ((i : ℕ) → get_or r i 0 < 256) → encode_record (attributes_of r) (variable_of r) (payload_of r) ≡ r
  encode_fields small =
      let f = fits in
      let m : take 4 r ≡ record_mark = same_eq (take 4 r) record_mark (header_mark non_volatile r header) in
      let a : le32_bytes (attributes_of r) ≡ take 4 (drop 4 r) = bytes_le32 r 4 small (omega arith) in
      let n : le32_bytes (name_size r) ≡ take 4 (drop 8 r) = bytes_le32 r 8 small (omega arith) in
      let d : le32_bytes (data_size r) ≡ take 4 (drop 12 r) = bytes_le32 r 12 small (omega arith) in
      let numbers : le32_bytes (attributes_of r) ++ (le32_bytes (length (name_of r) + 2) ++ (le32_bytes (length (payload_of r)) ++ rest (attributes_of r) (variable_of r) (payload_of r))) ≡ drop 4 r =
      rw (rest_is, length_payload, name_size_lem, a, n, d, ← cut 12 16 r (omega arith), ← cut 8 12 r (omega arith)) (sym (cut 4 8 r (omega arith))) in
      encode_is (attributes_of r) (variable_of r) (payload_of r)
      ∙ ap (λ (l : Bytes). record_mark ++ l) numbers ∙ ap (λ (l : Bytes). l ++ drop 4 r) (sym m) ∙ take-append-drop 4 r
