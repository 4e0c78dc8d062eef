-- The name of the entry from byte at up to end of a policy record, beside that of a variable: what the code finds at places of the record.
-- Assumes nothing.
use Prim.Native.Nat.{ℕ, ◌+◌, ◌-◌, ◌*◌, ◌/◌, ◌≤◌, ◌<◌}
use mathlib.Core.Path.{◌≡◌, refl, sym, ap, ap₂, ◌∙◌}
use mathlib.Core.Bool.{Bool, true, false, ◌||◌}
use native.Mathlib.Omega.{arith}
use lib.ListN.{length, get_or, take, drop, length-take}
use lib.Seq.{drop-drop, get_or-take}
use lib.Bits.{bit_and}
use borrow.Author.Tests.{ne_eqb, eqb-true}
use Rattle.limits.specs.Limits.{offset_to_name_at, entry_header}
use Rattle.slices.specs.Bytes.{Bytes, le16, le64, part}
use Rattle.slices.proofs.BytesLaws.{pairwise_length}
use Rattle.slices.proofs.PartLaws.{part_of, part_take, length_part, get_d-middle}
use Rattle.slices.proofs.NumberLaws.{le16_take, le16_drop, le64_take, le64_drop}
use Rattle.names.specs.Name.{units, unit_matches, matches}
use Rattle.names.proofs.NameLaws.{units_length, units_whole}
use Rattle.names.specs.Tail.{whole_units, TailOf}
use Rattle.names.proofs.TailLaws.{InBytes, tail_shows}
use Rattle.entry.specs.Entry.{well_formed, offset_to_name, name_is_empty, name_of}
use Rattle.entry.proofs.EntryLaws.{sized, name_least, name_of-closed, name_of-even}

-- the entry is well formed, and its name begins behind `offset` bytes
module _ (p name : Bytes) (at end : ℕ) (within : end ≤ length p) (w : well_formed (part at end p) ≡ true) where
  entry_size : length (part at end p) ≡ end - at
  entry_size = length_part at end p within

  pub header : at + entry_header ≤ end
  header = omega (arith, entry_size, (sized (part at end p) w).least)

  module _ {offset : ℕ} (a : offset ≡ le16 p (at + offset_to_name_at)) where
    offset_is : offset ≡ offset_to_name (part at end p)
    offset_is = a ∙ sym (le16_take (end - at) (drop at p) offset_to_name_at (omega (arith, header)) ∙ le16_drop at p offset_to_name_at)

    pub offset_most : at + offset ≤ end
    offset_most = omega (arith, offset_is, entry_size, header, (sized (part at end p) w).offset_most)

    -- a name that matches has as many units
    as_long : name_is_empty (part at end p) ≡ false → matches (units (name_of (part at end p))) (units name) ≡ true → at + offset + 2 * (length name / 2) + 2 ≡ end
    as_long z m =
        let n = pairwise_length unit_matches (units (name_of (part at end p))) (units name) m in
        omega (arith, n, units_length (name_of (part at end p)), units_length name, name_of-closed (part at end p) w z, name_of-even (part at end p) w, offset_is, offset_most, entry_size)

    -- an entry with a name of another length is for the whole namespace
    pub whole : (name_is_empty (part at end p) || matches (units (name_of (part at end p))) (units name)) ≡ true
        → (at + offset + 2 * (length name / 2) + 2 ≡ end → ⊥) → at + offset ≡ end
    whole t d = go (name_is_empty (part at end p)) refl t
      where
        go : (b : Bool) → name_is_empty (part at end p) ≡ b → (b || matches (units (name_of (part at end p))) (units name)) ≡ true → at + offset ≡ end
        go true q k = omega (arith, eqb-true (offset_to_name (part at end p)) (length (part at end p)) q, offset_is, entry_size, header)
        go false q k = absurd (d (as_long q k))

    -- a name of as many units
    module _ (l : at + offset + 2 * (length name / 2) + 2 ≡ end) where
      not_empty : name_is_empty (part at end p) ≡ false
      not_empty = ne_eqb (offset_to_name (part at end p)) (length (part at end p)) (λ z. omega (arith, offset_is, entry_size))

      pub least : 2 ≤ 2 * (length name / 2)
      least = omega (arith, name_least (part at end p) w not_empty, offset_is, entry_size)

      pub long_name : length (whole_units name) ≡ 2 * (length name / 2)
      long_name = omega (arith, length-take (2 * (length name / 2)) name)

      own_name : part (at + offset) (at + offset + 2 * (length name / 2)) p ≡ name_of (part at end p)
      unfolding name_of
      own_name =
          let n = 2 * (length name / 2) in
          let e : length (part at end p) - 2 ≡ offset + n = omega (arith, entry_size) in
          part_of (at + offset) n p
          ∙ sym (
          ap₂ (λ (i j : ℕ). part i j (part at end p)) (sym offset_is) e
          ∙ part_take offset (offset + n) (end - at) (drop at p) (omega arith)
          ∙ part_of offset n (drop at p)
          ∙ ap (take n) (drop-drop offset at p)
          )

      pub long_own : length (part (at + offset) (at + offset + 2 * (length name / 2)) p) ≡ 2 * (length name / 2)
      long_own = length_part (at + offset) (at + offset + 2 * (length name / 2)) p (omega arith) ∙ omega arith

      module _ (t : (name_is_empty (part at end p) || matches (units (name_of (part at end p))) (units name)) ≡ true) where
        pub whole_units_lem : matches (units (part (at + offset) (at + offset + 2 * (length name / 2)) p)) (units (whole_units name)) ≡ true
        whole_units_lem = ap₂ matches (ap units own_name) (units_whole (length name / 2) name (sym (units_length name))) ∙ (rw not_empty at t)

        -- the word that the last four units are
        own_bytes : ((k : ℕ) → get_or p k 0 < 256) → InBytes (part (at + offset) (at + offset + 2 * (length name / 2)) p)
        own_bytes hp k h =
            let n = 2 * (length name / 2) in
            let q : get_or (part (at + offset) (at + offset + n) p) k 0 ≡ get_or p (at + offset + k) 0 = ap (λ (l : Bytes). get_or l k 0) (part_of (at + offset) n p) ∙ get_d-middle p (at + offset) n k (omega (arith, long_own)) in
            omega (arith, q, hp (at + offset + k))

        name_bytes : ((k : ℕ) → get_or name k 0 < 256) → InBytes (whole_units name)
        name_bytes hn k h = omega (arith, get_or-take (2 * (length name / 2)) name k 0 (omega (arith, long_name)), hn k)

        at_end : 8 ≤ length (whole_units name) → le64 p (end - 10) ≡ le64 (part (at + offset) (at + offset + 2 * (length name / 2)) p) (length (whole_units name) - 8)
        at_end h =
            let n = 2 * (length name / 2) in
            let i : at + offset + (n - 8) ≡ end - 10 = omega (arith, long_name) in
            let j : length (whole_units name) - 8 ≡ n - 8 = omega (arith, long_name) in
            sym (ap₂ le64 (part_of (at + offset) n p) j ∙ le64_take n (drop (at + offset) p) (n - 8) (omega (arith, long_name)) ∙ le64_drop (at + offset) p (n - 8) ∙ ap (le64 p) i)

        pub shown_word : ((k : ℕ) → get_or p k 0 < 256) → ((k : ℕ) → get_or name k 0 < 256) → (mask shown u : ℕ) → TailOf (whole_units name) mask shown → u ≡ le64 p (end - 10) → bit_and u mask ≡ shown
        shown_word hp hn mask shown u s e =
            tail_shows _ (whole_units name) (own_bytes hp) (name_bytes hn) (long_own ∙ sym long_name) (omega (arith, long_name)) whole_units_lem mask shown u s (λ h. e ∙ at_end h)
