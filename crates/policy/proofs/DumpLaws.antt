-- The bytes of a dump and its list of entries determine each other: `dump_flat`, `entries_of-flat`; which lists these are: `dump_exactly`. A dump is a record of
-- just its own length.
-- Assumes nothing.
use Rattle.std.specs.Prelude.{ℕ, ◌≤◌, ◌<◌, ◌≡◌, refl, ◌↔◌, Bool, true, false, Some, None, leb}
use Rattle.std.proofs.Common.{sym, subst, ◌∙◌, arith, take_all}
use Rattle.std.proofs.Math.Path.{ap, ap₂}
use Rattle.std.specs.Bool.{then_some}
use mathlib.Core.List.{List, [], append-nil}
use Rattle.std.proofs.lemmas.Bool.{false≢true}
use Rattle.std.proofs.Math.ListN.{length, drop}
use Rattle.std.proofs.Math.Seq.{drop-length}
use borrow.Author.Tests.{eq-eqb, le-leb, lt-leb, eqb-true, leb-true, leb-false}
use Rattle.limits.specs.Limits.{max_entries, policy_bytes}
use Rattle.slices.specs.Test.{◌and◌}
use Rattle.slices.proofs.TestLaws.{and_left, and_right, and_intro, forced_off}
use Rattle.slices.specs.Bytes.{Bytes, all_are}
use Rattle.slices.specs.Chunks.{flat}
use Rattle.slices.proofs.ChunksLaws.{All, flat_chunks, chunks_flat}
use Rattle.entry.specs.Entry.{well_formed}
use Rattle.entry.proofs.EntryLaws.{well_formed_header}
use Rattle.policy.specs.declared.Extent.{Extent}
use Rattle.policy.specs.Policy.{entry_length, entries_of, sizes_sum, extent_of, valid_within}
use Rattle.policy.proofs.PolicyLaws.{WellFormed, Entries, CheckedWithin, then_tells, then_denies, length_by-within, entry_length-within, entry_length-short, items_by, entries_of-formed, sizes_sum-flat, sizes_sum-within}
use Rattle.policy.specs.Dump.{dump_valid, dump_check}

module _ (d : Bytes) (v : dump_valid d ≡ true) where
  dump_sum : sizes_sum d ≡ length d
  unfolding dump_valid
  dump_sum = eqb-true (sizes_sum d) (length d) (and_left _ _ (and_right _ _ (and_right _ _ v)))

  -- a dump is the bytes of its entries, which a valid record could hold
  pub dump_flat : flat (entries_of d) ≡ d
  dump_flat = flat_chunks entry_length entry_length-within d ∙ take_all (sizes_sum d) d (omega (arith, dump_sum))

  pub dump_entries : Entries (entries_of d)
  unfolding dump_valid
  dump_entries =
      let few = and_right _ _ v in
      record {
        formed = entries_of-formed d;
        few = leb-true (length (entries_of d)) max_entries (and_left _ _ few);
        room = omega (arith, sizes_sum-flat d, dump_sum, leb-true (length d) policy_bytes (and_left _ _ v));
        apart = and_right _ _ (and_right _ _ few);
      }

  -- a dump is valid as a record of just its length
  pub dump_within : valid_within well_formed max_entries (length d) d ≡ true
  unfolding valid_within all_are
  dump_within =
      let e = dump_entries in
      let z : drop (sizes_sum d) d ≡ [] = ap (λ (n : ℕ). drop n d) dump_sum ∙ drop-length d in
      and_intro _ _ (eq-eqb (length d) (length d) refl) (and_intro _ _ (le-leb _ _ e.few) (and_intro _ _ (ap (all_are 0) z) e.apart))

-- the bytes of entries that a valid record could hold are a dump, and come apart into them
pub entries_of-flat : (es : List Bytes) → All WellFormed es → entries_of (flat es) ≡ es
entries_of-flat es a =
    ap entries_of (sym (append-nil (flat es))) ∙ chunks_flat entry_length (length_by-within well_formed) es [] (items_by well_formed well_formed_header es a) (entry_length-short [] (omega arith))

pub entries_dump : (es : List Bytes) → Entries es → dump_valid (flat es) ≡ true
unfolding dump_valid
entries_dump es a =
    let e = entries_of-flat es a.formed in
    and_intro _ _ (le-leb _ _ a.room)
    (and_intro _ _ (rw e (le-leb _ _ a.few))
    (and_intro _ _ (eq-eqb _ _ (sizes_sum-flat (flat es) ∙ ap (λ (l : List Bytes). length (flat l)) e)) (rw e a.apart)))

-- WHAT A DUMP IS: the bytes of its entries, which a valid record could hold
pub dump_exactly : (d : Bytes) → dump_valid d ≡ true ↔ ((flat (entries_of d) ≡ d) × Entries (entries_of d))
dump_exactly d = ((λ v. (dump_flat d v, dump_entries d v)), λ h. subst (λ (b : Bytes). dump_valid b ≡ true) h.0 (entries_dump (entries_of d) h.1))

-- ---- the check of a dump: what decides where the bytes are too many, where something stands behind the entries, and where nothing does
pub dump_long : (d : Bytes) → policy_bytes < length d → dump_valid d ≡ false
unfolding dump_valid ◌and◌
dump_long d h = rw (lt-leb (length d) policy_bytes h)

module _ (d : Bytes) where
  pub dump_behind : sizes_sum d < length d → dump_valid d ≡ false
  dump_behind h = forced_off (dump_valid d) (λ v. absurd (omega (arith, dump_sum d v)))

  pub dump_invalid : valid_within well_formed max_entries (length d) d ≡ false → dump_valid d ≡ false
  dump_invalid h = forced_off (dump_valid d) (λ v. sym h ∙ dump_within d v)

  pub dump_good : length d ≤ policy_bytes → valid_within well_formed max_entries (length d) d ≡ true → length d ≤ sizes_sum d → dump_valid d ≡ true
  unfolding dump_valid valid_within
  dump_good l v h =
      let few = and_right _ _ v in
      let sum : sizes_sum d ≡ length d = omega (arith, sizes_sum-within d) in
      and_intro _ _ (le-leb _ _ l)
      (and_intro _ _ (and_left _ _ few)
      (and_intro _ _ (eq-eqb _ _ sum) (and_right _ _ (and_right _ _ few))))

  -- the check's answer, and what is promised of a dump
  pub dump_refused_lem : {A : Type 0} → dump_valid d ≡ false → (None ≡ dump_check d) × (dump_valid d ≡ true → A)
  unfolding dump_check
  dump_refused_lem e = (rw e, λ v. absurd (false≢true (sym e ∙ v)))

  pub dump_granted_lem : {A : Type 0} {x : Extent} → CheckedWithin (length d) d x.count x.used → dump_valid d ≡ true → A → (Some x ≡ dump_check d) × (dump_valid d ≡ true → A)
  unfolding dump_check
  dump_granted_lem k e a = (rw e (ap₂ (λ (n m : ℕ). Some (record { count = n; used = m })) k.counted k.summed), λ v. a)

  module _ {x : Extent} (l : length d ≤ policy_bytes) (k : CheckedWithin (length d) d x.count x.used) where
    told : (t : Bool) → leb (length d) x.used ≡ t → t ≡ dump_valid d
    told true q = sym (dump_good l k.valid (omega (arith, k.summed, leb-true (length d) x.used q)))
    told false q = sym (dump_behind (omega (arith, k.summed, leb-false (length d) x.used q)))

    pub dump_checked_lem : then_some (leb (length d) x.used) x ≡ dump_check d
    unfolding dump_check
    dump_checked_lem = ap₂ then_some (told _ refl) (ap₂ (λ (n m : ℕ). record { count = n; used = m }) k.counted k.summed)

-- what the check's answer tells
pub record DumpChecked (d : Bytes) (count : ℕ) : Type 0 where
  pub valid : dump_valid d ≡ true
  pub counted : count ≡ length (entries_of d)

pub dump_check_valid : (d : Bytes) (x : Extent) → dump_check d ≡ Some x → DumpChecked d x.count
unfolding dump_check
dump_check_valid d x e = let k = then_tells _ (extent_of d) x e in record { valid = k.0; counted = ap (λ (y : Extent). y.count) (sym k.1) }

pub dump_check_invalid : (d : Bytes) → dump_check d ≡ None → dump_valid d ≡ false
unfolding dump_check
dump_check_invalid d e = then_denies _ (extent_of d) e
