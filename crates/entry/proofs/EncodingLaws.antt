-- An entry is well formed exactly if it is the encoding of its fields and these are in range: `well_formed_encoding` and `encoded_well_formed`.
-- The encoding of fields in range is well formed and says those fields: `encoding_well_formed` and `fields_encode`.
-- Assumes nothing.
use Rattle.std.specs.Prelude.{ℕ, ◌+◌, ◌-◌, ◌≤◌, ◌<◌, ◌≡◌, Bool, cond, ◌||◌, ◌⊎◌}
use Rattle.std.proofs.Math.Path.{refl, sym, ap}
use Rattle.std.proofs.Common.{ap₂, ◌∙◌, inl, inr, le_refl, drop_of_length-le, take-append-drop, drop-drop, get_or-drop}
use mathlib.Core.List.{[], ◌∷◌, ◌++◌, append_assoc}
use Rattle.std.proofs.Math.Bool.{true, false, or-true}
use native.Mathlib.Omega.{arith}
use Rattle.std.proofs.Math.ListN.{length, get_or, take, drop, length-append, length-drop}
use Rattle.std.proofs.Math.Seq.{drop_at, take_at, take-nil, drop-append_seam}
use Rattle.std.proofs.Math.Dec.{leb}
use Rattle.std.specs.Int.Bits.{bit_and}
use borrow.Author.Tests.{eq-eqb, le-leb, lt-leb, eqb-true, leb-true}
use Rattle.limits.specs.Limits.{max_name_size, entry_version, trigger_name_at, max_entry_bytes}
use Rattle.lists.specs.Lists.{Among}
use Rattle.slices.proofs.TestLaws.{and_left, and_right, and_intro}
use Rattle.slices.specs.Bytes.{Bytes, le16, le32, le16_bytes, le32_bytes, part}
use Rattle.slices.proofs.PartLaws.{drop_step, drop_take, part_take, part_rest, part_none, length_part}
use Rattle.slices.proofs.NumberLaws.{le16_drop, le32_drop, le16_bytes_lem, le32_bytes_lem, bytes_le16, bytes_le32}
use Rattle.names.specs.Name.{Variable, units, is_name, is_terminated, number_sign}
use Rattle.names.proofs.NameLaws.{is_name-length, is_terminated-length, is_terminated-zeros, name_terminated, name_plain_terminated, wildcards_none}
use Rattle.entry.specs.Entry.{version, size_field, offset_to_name, namespace_of, min_size, max_size, attributes_must_have, attributes_cant_have, lock_policy_type, header_ok, lock_ok, name_ok, name_is_empty, well_formed, name_of, trigger_of, trigger_value}
use Rattle.entry.proofs.EntryLaws.{
  sized,
  name_of-name,
  part_shorter,
  type_3,
  trigger_least,
  trigger_terminated,
  trigger_length,
  trigger_part,
  trigger_name,
  trigger_wildcards,
}
use Rattle.entry.specs.Encoding.{
  Lock,
  plain,
  on_var_state,
  Fields,
  type_of,
  terminated,
  lock_bytes,
  offset_for,
  size_for,
  encode_lock,
  encode_numbers,
  encode_entry,
  LockInRange,
  InRange,
  lock_fields,
  fields_of,
}

-- ---- from an entry to its fields and back
module _ (e : Bytes) (w : well_formed e ≡ true) where
  header : header_ok e ≡ true
  unfolding well_formed
  header = and_left _ _ w

  lock : lock_ok e ≡ true
  unfolding well_formed
  lock = and_left _ _ (and_right _ _ w)

  name : name_ok e ≡ true
  unfolding well_formed
  name = and_right _ _ (and_right _ _ w)

terminated_name : (n : Bytes) → is_name n ≡ true → terminated n ≡ n ++ (0 ∷ 0 ∷ [])
terminated_name [] h = absurd (omega (arith, is_name-length [] h))
terminated_name (b ∷ l) h = refl

-- a terminated part is its name and a zero unit
part_name : (a : ℕ) (e : Bytes) → a ≤ length e → is_terminated (part a (length e) e) ≡ true → part a (length e - 2) e ++ (0 ∷ 0 ∷ []) ≡ drop a e
part_name a e h t =
    ap (λ (n : Bytes). n ++ (0 ∷ 0 ∷ [])) (sym (part_shorter a (length e) e (le_refl (length e)))) ∙ sym (is_terminated-zeros (part a (length e) e) t) ∙ part_rest a (length e) e (le_refl (length e))

-- the name with its zero unit is the entry's end
name_end : (e : Bytes) → well_formed e ≡ true → terminated (name_of e) ≡ drop (offset_to_name e) e
unfolding name_ok name_of
name_end e w = go (name_is_empty e) refl (and_right _ _ (name e w)) (name_of-name e w)
  where
    go : (t : Bool) → name_is_empty e ≡ t → (t || is_terminated (part (offset_to_name e) (length e) e)) ≡ true
        → (part (offset_to_name e) (length e - 2) e ≡ []) ⊎ (is_name (part (offset_to_name e) (length e - 2) e) ≡ true)
        → terminated (part (offset_to_name e) (length e - 2) e) ≡ drop (offset_to_name e) e
    go true q h n =
        let k = eqb-true (offset_to_name e) (length e) q in
        rw (part_none (offset_to_name e) (length e - 2) e (omega arith), drop_of_length-le e {i = offset_to_name e} (omega arith))
    go false q h (inl z) =
        let k = ap length (sym (part_name (offset_to_name e) e (sized e w).offset_most h)) in
        absurd (omega (arith, ap length z, length-append (part (offset_to_name e) (length e - 2) e) (0 ∷ 0 ∷ []), length-drop (offset_to_name e) e, is_terminated-length (part (offset_to_name e) (length e) e) h, length_part (offset_to_name e) (length e) e (le_refl (length e))))
    go false q h (inr n) = terminated_name (part (offset_to_name e) (length e - 2) e) n ∙ part_name (offset_to_name e) e (sized e w).offset_most h

-- one piece and what is behind it
glue : (s : Bytes) (a n : ℕ) {x y : Bytes} → x ≡ take n (drop a s) → y ≡ drop (a + n) s → x ++ y ≡ drop a s
glue s a n p q = rw (p, q, ← drop-drop n a s) (take-append-drop n (drop a s))

two : (s : Bytes) (a : ℕ) → a + 2 ≤ length s → get_or s a 0 ∷ get_or s (a + 1) 0 ∷ [] ≡ take 2 (drop a s)
two s a h = rw (drop_step s a (omega arith), drop_step s (a + 1) (omega arith))

one : (s : Bytes) (a : ℕ) → a + 1 ≤ length s → get_or s a 0 ∷ [] ≡ take 1 (drop a s)
one s a h = rw (drop_step s a (omega arith))

-- the trigger's bytes
module _ (e : Bytes) (w : well_formed e ≡ true) (q : leb (lock_policy_type e) 2 ≡ false) where
  trigger_bytes : lock_bytes (on_var_state (part 44 60 e) (trigger_value e) (get_or e 61 0) (part 62 (offset_to_name e - 2) e)) ≡ part 44 (offset_to_name e) e
  trigger_bytes =
      let n = is_terminated-length (part 62 (offset_to_name e) e) (trigger_terminated e w q) in
      let l : 66 ≤ offset_to_name e = omega (arith, (trigger_length e w q)) in
      let m : offset_to_name e ≤ length e = (sized e w).offset_most in
      let tail : part 62 (offset_to_name e - 2) e ++ (0 ∷ 0 ∷ []) ≡ drop 62 (take (offset_to_name e) e) =
      ap (λ (x : Bytes). x ++ (0 ∷ 0 ∷ [])) (sym (trigger_part e w q)) ∙ sym (is_terminated-zeros (part 62 (offset_to_name e) e) (trigger_terminated e w q)) ∙ sym (drop_take (offset_to_name e) 62 e) in
      let mid : trigger_value e ∷ get_or e 61 0 ∷ [] ≡ take 2 (drop 60 (take (offset_to_name e) e)) = two e 60 (omega arith) ∙ sym (part_take 60 62 (offset_to_name e) e (omega arith)) in
      glue (take (offset_to_name e) e) 44 16 (sym (part_take 44 60 (offset_to_name e) e (omega arith))) (glue (take (offset_to_name e) e) 60 2 mid tail)
      ∙ drop_take (offset_to_name e) 44 e

module _ (e : Bytes) (w : well_formed e ≡ true) where
  plain_offset : leb (lock_policy_type e) 2 ≡ true → offset_to_name e ≡ 44
  unfolding lock_ok
  plain_offset q = eqb-true (offset_to_name e) 44 (rw q at (lock e w))

  lock_type : type_of (lock_fields e) ≡ lock_policy_type e
  unfolding lock_fields
  lock_type = go (leb (lock_policy_type e) 2) (trigger_of e) refl
    where
      go : (t : Bool) (v : Variable) → leb (lock_policy_type e) 2 ≡ t
          → type_of (cond t (plain (lock_policy_type e)) (on_var_state v.namespace (trigger_value e) (get_or e 61 0) v.name)) ≡ lock_policy_type e
      go true v q = refl
      go false v q = sym (type_3 e w q)

  lock_part : lock_bytes (lock_fields e) ≡ part 44 (offset_to_name e) e
  unfolding lock_fields trigger_of
  lock_part = go (leb (lock_policy_type e) 2) refl
    where
      go : (t : Bool) → leb (lock_policy_type e) 2 ≡ t
          → lock_bytes (cond t (plain (lock_policy_type e)) (on_var_state (part 44 60 e) (trigger_value e) (get_or e 61 0) (part 62 (offset_to_name e - 2) e))) ≡ part 44 (offset_to_name e) e
      go true q = rw (plain_offset q)
      go false q = trigger_bytes e w q

  lock_range : LockInRange (lock_fields e)
  unfolding lock_fields trigger_of
  lock_range = go (leb (lock_policy_type e) 2) refl
    where
      go : (t : Bool) → leb (lock_policy_type e) 2 ≡ t
          → LockInRange (cond t (plain (lock_policy_type e)) (on_var_state (part 44 60 e) (trigger_value e) (get_or e 61 0) (part 62 (offset_to_name e - 2) e)))
      go true q = leb-true (lock_policy_type e) 2 q
      go false q =
          (length_part 44 60 e (omega (arith, trigger_least e w q, (sized e w).offset_most)), trigger_name e w q, (wildcards_none _).0 (trigger_wildcards e w q))

  offset_is : offset_for (fields_of e) ≡ offset_to_name e
  unfolding offset_for fields_of
  offset_is =
      let z = sized e w in
      let k : length (lock_bytes (lock_fields e)) ≡ offset_to_name e - 44 = ap length lock_part ∙ length_part 44 (offset_to_name e) e z.offset_most in
      omega (arith, z.offset_least)

  size_is : size_for (fields_of e) ≡ length e
  unfolding size_for fields_of
  size_is =
      let z = sized e w in
      let k : length (terminated (name_of e)) ≡ length e - offset_to_name e = ap length (name_end e w) ∙ length-drop (offset_to_name e) e in
      omega (arith, offset_is, z.offset_most)

  module _ (small : (i : ℕ) → get_or e i 0 < 256) where
    below : (at : ℕ) → le32 e at < 4294967296
    unfolding le32 le16
    below at = omega (arith, small at, small (at + 1), small (at + 2), small (at + 2 + 1))

    pub fields_in_range : InRange (fields_of e)
    unfolding header_ok fields_of
    fields_in_range =
        let h₁ = and_right _ _ (and_right _ _ (and_right _ _ (header e w))) in
        let l = (sized e w).least in
        record {
          namespace = length_part 8 24 e (omega arith);
          sizes = leb-true (min_size e) (max_size e) (and_left _ _ h₁);
          maximum = below 28;
          must = below 32;
          cant = below 36;
          common = eqb-true (bit_and (attributes_must_have e) (attributes_cant_have e)) 0 (and_right _ _ h₁);
          lock = lock_range;
          reserved = length_part 41 44 e (omega arith);
          name = name_of-name e w;
        }

    version_is : version e ≡ entry_version
    unfolding header_ok
    version_is = eqb-true (version e) entry_version (and_left _ _ (and_right _ _ (header e w)))

    -- each piece is the entry's own
    pub encode_fields : encode_entry (fields_of e) ≡ e
    unfolding encode_entry encode_numbers encode_lock fields_of
    encode_fields =
        let z = sized e w in
        let l : 44 ≤ length e = z.least in
        let k : offset_to_name e ≡ 44 + (offset_to_name e - 44) = omega (arith, z.offset_least) in
        glue e 0 4 (ap le32_bytes (sym version_is) ∙ bytes_le32 e 0 small (omega arith))
        (glue e 4 2 (ap le16_bytes (size_is ∙ sym z.stated) ∙ bytes_le16 e 4 small (omega arith))
        (glue e 6 2 (ap le16_bytes offset_is ∙ bytes_le16 e 6 small (omega arith))
        (glue e 8 16 refl
        (glue e 24 4 (bytes_le32 e 24 small (omega arith))
        (glue e 28 4 (bytes_le32 e 28 small (omega arith))
        (glue e 32 4 (bytes_le32 e 32 small (omega arith))
        (glue e 36 4 (bytes_le32 e 36 small (omega arith))
        (glue e 40 1 (ap (λ (t : ℕ). t ∷ []) lock_type ∙ one e 40 (omega arith))
        (glue e 41 3 refl (glue e 44 (offset_to_name e - 44) lock_part (name_end e w ∙ ap (λ (n : ℕ). drop n e) k)))))))))))

pub well_formed_encoding : (e : Bytes) → ((i : ℕ) → get_or e i 0 < 256) → well_formed e ≡ true → InRange (fields_of e) × (encode_entry (fields_of e) ≡ e)
well_formed_encoding e small w = (fields_in_range e w small, encode_fields e w small)

-- ---- from fields to an entry and back
module _ (f : Fields) (r : InRange f) where
  lock_least : (k : Lock) → LockInRange k → length (lock_bytes k) ≤ 148
  lock_least (plain k) h = omega arith
  lock_least (on_var_state n v c m) h = rw (length-append n ((v ∷ c ∷ []) ++ (m ++ (0 ∷ 0 ∷ []))), length-append m (0 ∷ 0 ∷ [])) (omega (arith, h.0, is_name-length m h.1))

  name_most : (n : Bytes) → (n ≡ []) ⊎ (is_name n ≡ true) → length (terminated n) ≤ max_name_size
  name_most n (inl z) = rw z (omega arith)
  name_most n (inr h) = rw (terminated_name n h, length-append n (0 ∷ 0 ∷ [])) (omega (arith, is_name-length n h))

  offset_most : offset_for f ≤ trigger_name_at + max_name_size
  unfolding offset_for
  offset_most = omega (arith, lock_least f.lock r.lock)

  size_most : size_for f ≤ max_entry_bytes
  unfolding size_for
  size_most = omega (arith, offset_most, name_most f.name r.name)

  offset_size : offset_for f ≤ size_for f
  unfolding size_for
  offset_size = omega arith

  length_encode : length (encode_entry f) ≡ size_for f
  unfolding encode_entry encode_numbers encode_lock size_for offset_for le16_bytes le32_bytes
  length_encode =
      rw (length-append f.namespace (encode_numbers f), length-append f.reserved (lock_bytes f.lock ++ terminated f.name), length-append (lock_bytes f.lock) (terminated f.name), r.namespace, r.reserved) (omega arith)

  drop_8 : drop 8 (encode_entry f) ≡ f.namespace ++ encode_numbers f
  unfolding encode_entry le16_bytes le32_bytes
  drop_8 = refl

  drop_24 : drop 24 (encode_entry f) ≡ encode_numbers f
  drop_24 = sym (drop-drop 16 8 (encode_entry f)) ∙ ap (drop 16) drop_8 ∙ drop_at f.namespace (encode_numbers f) 16 r.namespace

  numbers_end : drop 16 (encode_numbers f) ≡ encode_lock f
  unfolding encode_numbers le32_bytes
  numbers_end = refl

  drop_40 : drop 40 (encode_entry f) ≡ encode_lock f
  drop_40 = sym (drop-drop 16 24 (encode_entry f)) ∙ ap (drop 16) drop_24 ∙ numbers_end

  lock_end : drop 4 (encode_lock f) ≡ lock_bytes f.lock ++ terminated f.name
  unfolding encode_lock
  lock_end = drop_at f.reserved (lock_bytes f.lock ++ terminated f.name) 3 r.reserved

  drop_44 : drop 44 (encode_entry f) ≡ lock_bytes f.lock ++ terminated f.name
  drop_44 = sym (drop-drop 4 40 (encode_entry f)) ∙ ap (drop 4) drop_40 ∙ lock_end

  drop_name : drop (offset_for f) (encode_entry f) ≡ terminated f.name
  unfolding offset_for
  drop_name = sym (drop-drop (length (lock_bytes f.lock)) 44 (encode_entry f)) ∙ ap (drop (length (lock_bytes f.lock))) drop_44 ∙ drop-append_seam (lock_bytes f.lock) (terminated f.name)

  get_version : version (encode_entry f) ≡ entry_version
  unfolding encode_entry
  get_version = le32_bytes_lem entry_version (le16_bytes (size_for f) ++ (le16_bytes (offset_for f) ++ (f.namespace ++ encode_numbers f))) (omega arith)

  get_size : size_field (encode_entry f) ≡ size_for f
  unfolding encode_entry le32_bytes
  get_size = sym (le16_drop 4 (encode_entry f) 0) ∙ le16_bytes_lem (size_for f) (le16_bytes (offset_for f) ++ (f.namespace ++ encode_numbers f)) (omega (arith, size_most))

  get_offset : offset_to_name (encode_entry f) ≡ offset_for f
  unfolding encode_entry le32_bytes le16_bytes
  get_offset = sym (le16_drop 6 (encode_entry f) 0) ∙ le16_bytes_lem (offset_for f) (f.namespace ++ encode_numbers f) (omega (arith, offset_most))

  number_at : (k : ℕ) → le32 (encode_entry f) (24 + k) ≡ le32 (encode_numbers f) k
  number_at k = sym (le32_drop 24 (encode_entry f) k) ∙ ap (λ (l : Bytes). le32 l k) drop_24

  get_min : min_size (encode_entry f) ≡ f.min_size
  unfolding encode_numbers
  get_min = number_at 0 ∙ le32_bytes_lem f.min_size (le32_bytes f.max_size ++ (le32_bytes f.must_have ++ (le32_bytes f.cant_have ++ encode_lock f))) (omega (arith, r.sizes, r.maximum))

  get_max : max_size (encode_entry f) ≡ f.max_size
  unfolding encode_numbers le32_bytes
  get_max = number_at 4 ∙ sym (le32_drop 4 (encode_numbers f) 0) ∙ le32_bytes_lem f.max_size (le32_bytes f.must_have ++ (le32_bytes f.cant_have ++ encode_lock f)) r.maximum

  get_must : attributes_must_have (encode_entry f) ≡ f.must_have
  unfolding encode_numbers le32_bytes
  get_must = number_at 8 ∙ sym (le32_drop 8 (encode_numbers f) 0) ∙ le32_bytes_lem f.must_have (le32_bytes f.cant_have ++ encode_lock f) r.must

  get_cant : attributes_cant_have (encode_entry f) ≡ f.cant_have
  unfolding encode_numbers le32_bytes
  get_cant = number_at 12 ∙ sym (le32_drop 12 (encode_numbers f) 0) ∙ le32_bytes_lem f.cant_have (encode_lock f) r.cant

  get_type : lock_policy_type (encode_entry f) ≡ type_of f.lock
  unfolding encode_lock
  get_type = sym (get_or-drop 40 (encode_entry f) 0 0) ∙ ap (λ (l : Bytes). get_or l 0 0) drop_40

  offset_44 : 44 ≤ offset_for f
  unfolding offset_for
  offset_44 = omega arith

  encode_header : header_ok (encode_entry f) ≡ true
  unfolding header_ok
  encode_header =
      and_intro _ _ (le-leb 44 (length (encode_entry f)) (omega (arith, length_encode, offset_44, offset_size)))
      (and_intro _ _ (eq-eqb _ _ get_version)
      (and_intro _ _ (eq-eqb _ _ (get_size ∙ sym length_encode))
      (and_intro _ _ (le-leb (min_size (encode_entry f)) (max_size (encode_entry f)) (omega (arith, get_min, get_max, r.sizes)))
      (eq-eqb _ _ (ap₂ bit_and get_must get_cant ∙ r.common)))))

  plain_lock : (k : ℕ) → f.lock ≡ plain k → k ≤ 2 → lock_ok (encode_entry f) ≡ true
  unfolding lock_ok offset_for
  plain_lock k q h =
      let t : lock_policy_type (encode_entry f) ≡ k = get_type ∙ ap type_of q in
      let o : offset_to_name (encode_entry f) ≡ 44 = get_offset ∙ ap (λ (l : Lock). 44 + length (lock_bytes l)) q in
      rw (le-leb (lock_policy_type (encode_entry f)) 2 (omega arith)) (eq-eqb (offset_to_name (encode_entry f)) 44 o)

  plain_fields : (k : ℕ) → f.lock ≡ plain k → k ≤ 2 → lock_fields (encode_entry f) ≡ plain k
  unfolding lock_fields trigger_of
  plain_fields k q h =
      let t : lock_policy_type (encode_entry f) ≡ k = get_type ∙ ap type_of q in
      rw (le-leb (lock_policy_type (encode_entry f)) 2 (omega arith)) (ap plain t)

  module _ (n : Bytes) (v c : ℕ) (m : Bytes) (q : f.lock ≡ on_var_state n v c m) (l : length n ≡ 16) (h : is_name m ≡ true) where
    skip : (w t : Bytes) → drop 18 ((n ++ ((v ∷ c ∷ []) ++ w)) ++ t) ≡ w ++ t
    skip w t =
        ap (drop 18) (append_assoc n ((v ∷ c ∷ []) ++ w) t)
        ∙ sym (drop-drop 2 16 (n ++ (((v ∷ c ∷ []) ++ w) ++ t)))
        ∙ ap (drop 2) (drop_at n (((v ∷ c ∷ []) ++ w) ++ t) 16 l)

    drop_62 : drop 62 (encode_entry f) ≡ (m ++ (0 ∷ 0 ∷ [])) ++ terminated f.name
    drop_62 =
        sym (drop-drop 18 44 (encode_entry f))
        ∙ ap (drop 18) (drop_44 ∙ ap (λ (k : Lock). lock_bytes k ++ terminated f.name) q)
        ∙ skip (m ++ (0 ∷ 0 ∷ [])) (terminated f.name)

    offset_trigger : offset_to_name (encode_entry f) ≡ 62 + length (m ++ (0 ∷ 0 ∷ []))
    unfolding offset_for
    offset_trigger =
        get_offset ∙ ap (λ (k : Lock). 44 + length (lock_bytes k)) q
        ∙ rw (length-append n ((v ∷ c ∷ []) ++ (m ++ (0 ∷ 0 ∷ []))), l) (omega arith)

    get_trigger : part 62 (offset_to_name (encode_entry f)) (encode_entry f) ≡ m ++ (0 ∷ 0 ∷ [])
    get_trigger =
        ap (take (offset_to_name (encode_entry f) - 62)) drop_62
        ∙ take_at (m ++ (0 ∷ 0 ∷ [])) (terminated f.name) (offset_to_name (encode_entry f) - 62) (omega (arith, offset_trigger))

    trigger_lock : (Among number_sign (units m) → ⊥) → lock_ok (encode_entry f) ≡ true
    unfolding lock_ok
    trigger_lock p =
        let t : lock_policy_type (encode_entry f) ≡ 3 = get_type ∙ ap type_of q in
        rw (lt-leb (lock_policy_type (encode_entry f)) 2 (omega arith))
        (and_intro _ _ (eq-eqb (lock_policy_type (encode_entry f)) 3 t)
        (and_intro _ _ (le-leb 62 (offset_to_name (encode_entry f)) (omega (arith, offset_trigger)))
        (and_intro _ _ (le-leb (offset_to_name (encode_entry f)) (length (encode_entry f)) (omega (arith, get_offset, length_encode, offset_size))) (rw get_trigger (name_plain_terminated m h ((wildcards_none (units m)).1 p))))))

    drop_trigger : drop 44 (encode_entry f) ≡ n ++ (v ∷ c ∷ ((m ++ (0 ∷ 0 ∷ [])) ++ terminated f.name))
    drop_trigger = drop_44 ∙ ap (λ (k : Lock). lock_bytes k ++ terminated f.name) q ∙ append_assoc n ((v ∷ c ∷ []) ++ (m ++ (0 ∷ 0 ∷ []))) (terminated f.name)

    drop_60 : drop 60 (encode_entry f) ≡ v ∷ c ∷ ((m ++ (0 ∷ 0 ∷ [])) ++ terminated f.name)
    drop_60 =
        sym (drop-drop 16 44 (encode_entry f)) ∙ ap (drop 16) drop_trigger
        ∙ drop_at n (v ∷ c ∷ ((m ++ (0 ∷ 0 ∷ [])) ++ terminated f.name)) 16 l

    trigger_fields : lock_fields (encode_entry f) ≡ on_var_state n v c m
    unfolding lock_fields trigger_of
    trigger_fields =
        let t : lock_policy_type (encode_entry f) ≡ 3 = get_type ∙ ap type_of q in
        let a : part 44 60 (encode_entry f) ≡ n = ap (take 16) drop_trigger ∙ take_at n (v ∷ c ∷ ((m ++ (0 ∷ 0 ∷ [])) ++ terminated f.name)) 16 l in
        let b : trigger_value (encode_entry f) ≡ v = sym (get_or-drop 60 (encode_entry f) 0 0) ∙ ap (λ (x : Bytes). get_or x 0 0) drop_60 in
        let d : get_or (encode_entry f) 61 0 ≡ c = sym (get_or-drop 60 (encode_entry f) 1 0) ∙ ap (λ (x : Bytes). get_or x 1 0) drop_60 in
        let k : offset_to_name (encode_entry f) - 2 - 62 ≡ length m = omega (arith, offset_trigger, length-append m (0 ∷ 0 ∷ [])) in
        let x : part 62 (offset_to_name (encode_entry f) - 2) (encode_entry f) ≡ m =
        ap (take (offset_to_name (encode_entry f) - 2 - 62)) (drop_62 ∙ append_assoc m (0 ∷ 0 ∷ []) (terminated f.name))
        ∙ take_at m ((0 ∷ 0 ∷ []) ++ terminated f.name) (offset_to_name (encode_entry f) - 2 - 62) (sym k) in
        rw (lt-leb (lock_policy_type (encode_entry f)) 2 (omega arith), a, b, d, x)

  encode_lock_lem : lock_ok (encode_entry f) ≡ true
  encode_lock_lem = go f.lock refl r.lock
    where
      go : (k : Lock) → f.lock ≡ k → LockInRange k → lock_ok (encode_entry f) ≡ true
      go (plain k) q h = plain_lock k q h
      go (on_var_state n v c m) q h = trigger_lock n v c m q h.0 h.1 h.2

  empty : f.name ≡ [] → offset_to_name (encode_entry f) ≡ length (encode_entry f)
  unfolding size_for
  empty z =
      let k : length (terminated f.name) ≡ 0 = ap (λ (n : Bytes). length (terminated n)) z in
      omega (arith, get_offset, length_encode)

  encode_name : name_ok (encode_entry f) ≡ true
  unfolding name_ok
  encode_name =
      and_intro _ _ (le-leb (offset_to_name (encode_entry f)) (length (encode_entry f)) (omega (arith, get_offset, length_encode, offset_size))) (go r.name)
    where
      own : part (offset_to_name (encode_entry f)) (length (encode_entry f)) (encode_entry f) ≡ terminated f.name
      own =
          part_rest (offset_to_name (encode_entry f)) (length (encode_entry f)) (encode_entry f) (le_refl (length (encode_entry f)))
          ∙ ap (λ (o : ℕ). drop o (encode_entry f)) get_offset
          ∙ drop_name

      go : (f.name ≡ []) ⊎ (is_name f.name ≡ true)
          → (name_is_empty (encode_entry f) || is_terminated (part (offset_to_name (encode_entry f)) (length (encode_entry f)) (encode_entry f))) ≡ true
      go (inl z) = rw (eq-eqb (offset_to_name (encode_entry f)) (length (encode_entry f)) (empty z))
      go (inr h) = rw (own, terminated_name f.name h, name_terminated f.name h) (or-true (name_is_empty (encode_entry f)))

  -- ---- the fields are read back
  get_namespace : namespace_of (encode_entry f) ≡ f.namespace
  get_namespace = ap (take 16) drop_8 ∙ take_at f.namespace (encode_numbers f) 16 r.namespace

  get_reserved : part 41 44 (encode_entry f) ≡ f.reserved
  unfolding encode_lock
  get_reserved =
      ap (take 3) (sym (drop-drop 1 40 (encode_entry f)) ∙ ap (drop 1) drop_40)
      ∙ take_at f.reserved (lock_bytes f.lock ++ terminated f.name) 3 r.reserved

  get_name : name_of (encode_entry f) ≡ f.name
  unfolding name_of size_for
  get_name = go r.name
    where
      rest : (n : ℕ) → take n (drop (offset_to_name (encode_entry f)) (encode_entry f)) ≡ take n (terminated f.name)
      rest n = ap (λ (o : ℕ). take n (drop o (encode_entry f))) get_offset ∙ ap (take n) drop_name

      go : (f.name ≡ []) ⊎ (is_name f.name ≡ true) → part (offset_to_name (encode_entry f)) (length (encode_entry f) - 2) (encode_entry f) ≡ f.name
      go (inl z) = rest (length (encode_entry f) - 2 - offset_to_name (encode_entry f)) ∙ ap (λ (n : Bytes). take (length (encode_entry f) - 2 - offset_to_name (encode_entry f)) (terminated n)) z ∙ take-nil (length (encode_entry f) - 2 - offset_to_name (encode_entry f)) ∙ sym z
      go (inr h) =
          let k : length (encode_entry f) - 2 - offset_to_name (encode_entry f) ≡ length f.name =
          omega (arith, length_encode, get_offset, ap length (terminated_name f.name h), length-append f.name (0 ∷ 0 ∷ [])) in
          rest (length (encode_entry f) - 2 - offset_to_name (encode_entry f)) ∙ ap (take (length (encode_entry f) - 2 - offset_to_name (encode_entry f))) (terminated_name f.name h)
          ∙ take_at f.name (0 ∷ 0 ∷ []) (length (encode_entry f) - 2 - offset_to_name (encode_entry f)) (sym k)

  get_lock : lock_fields (encode_entry f) ≡ f.lock
  get_lock = go f.lock refl r.lock
    where
      go : (k : Lock) → f.lock ≡ k → LockInRange k → lock_fields (encode_entry f) ≡ f.lock
      go (plain k) q h = plain_fields k q h ∙ sym q
      go (on_var_state n v c m) q h = trigger_fields n v c m q h.0 h.1 ∙ sym q

  pub fields_encode : fields_of (encode_entry f) ≡ f
  unfolding fields_of
  fields_encode = rw (get_namespace, get_min, get_max, get_must, get_cant, get_lock, get_reserved, get_name)

  pub encoding_well_formed : well_formed (encode_entry f) ≡ true
  unfolding well_formed
  encoding_well_formed = and_intro _ _ encode_header (and_intro _ _ encode_lock_lem encode_name)

-- the other direction, for an entry
pub encoded_well_formed : (e : Bytes) → InRange (fields_of e) → encode_entry (fields_of e) ≡ e → well_formed e ≡ true
encoded_well_formed e r q = rw q at (encoding_well_formed (fields_of e) r)
