-- What E7 changed about well-formed entries. Assumes nothing.
use Rattle.std.specs.Prelude.{◌≡◌, refl, [], ◌∷◌, ◌++◌, Bool, true, false, not, cond, length, replicate, eqb, leb}
use Rattle.std.proofs.Common.{sym, leb-true}
use Rattle.limits.specs.Limits.{entry_version, entry_header, trigger_name_at}
use Rattle.slices.specs.Test.{◌and◌}
use Rattle.slices.proofs.TestLaws.{and_left, and_no, and_yes, and_assoc}
use Rattle.slices.specs.Bytes.{Bytes, part, le16, le32, le16_bytes, le32_bytes}
use Rattle.names.specs.Name.{units, each, is_name, is_terminated, is_plain_terminated, wildcards}
use Rattle.entry.specs.Entry.{header_ok, lock_ok, name_ok, well_formed, offset_to_name, lock_policy_type, trigger_of}
use Rattle.entry.proofs.EntryLaws.{part_shorter}
use Rattle.entry.specs.FirstEdition.{first_lock_ok, first_well_formed, sign_in_trigger}

-- '#' IN A TRIGGER'S NAME WAS WELL FORMED THEN: an entry for "A" of type 3 with the trigger "A#"
abbrev signed : Bytes
signed =
    le32_bytes entry_version ++ le16_bytes 72 ++ le16_bytes 68 ++ replicate 16 7 ++ le32_bytes 0 ++ le32_bytes 1 ++ le32_bytes 0 ++ le32_bytes 0
    ++ (3 ∷ 0 ∷ 0 ∷ 0 ∷ []) ++ replicate 16 7 ++ (1 ∷ 0 ∷ []) ++ (0x41 ∷ 0 ∷ 0x23 ∷ 0 ∷ 0 ∷ 0 ∷ []) ++ (0x41 ∷ 0 ∷ 0 ∷ 0 ∷ [])

pub first_took_sign : (first_well_formed signed ≡ true) × (sign_in_trigger signed ≡ true)
unfolding first_well_formed header_ok first_lock_ok name_ok sign_in_trigger trigger_of is_terminated is_name units each wildcards le16 le32 le16_bytes le32_bytes ◌and◌
first_took_sign = (refl, refl)

-- the name of a trigger within the entry has no '#'
plain_since : (e : Bytes) → leb (offset_to_name e) (length e) ≡ true
    → is_plain_terminated (part trigger_name_at (offset_to_name e) e)
    ≡ (is_terminated (part trigger_name_at (offset_to_name e) e) and eqb (wildcards (units (trigger_of e).name)) 0)
unfolding is_plain_terminated trigger_of
plain_since e h = rw (part_shorter trigger_name_at (offset_to_name e) e (leb-true (offset_to_name e) (length e) h))

not_not : (b : Bool) → not (not b) ≡ b
not_not true = refl
not_not false = refl

lock_since : (e : Bytes) → lock_ok e ≡ (first_lock_ok e and not (sign_in_trigger e))
unfolding lock_ok first_lock_ok sign_in_trigger ◌and◌
lock_since e = go (leb (lock_policy_type e) 2) (leb (offset_to_name e) (length e)) refl
  where
    go : (t c : Bool) → leb (offset_to_name e) (length e) ≡ c
        → cond t (eqb (offset_to_name e) entry_header) (eqb (lock_policy_type e) 3 and leb trigger_name_at (offset_to_name e) and c and is_plain_terminated (part trigger_name_at (offset_to_name e) e))
        ≡ (cond t (eqb (offset_to_name e) entry_header) (eqb (lock_policy_type e) 3 and leb trigger_name_at (offset_to_name e) and c and is_terminated (part trigger_name_at (offset_to_name e) e))
        and not (not t and not (eqb (wildcards (units (trigger_of e).name)) 0)))
    go true c h = sym (and_yes _)
    go false true h = rw (not_not, and_assoc, and_assoc, plain_since e h)
    go false false h = rw (and_assoc, and_assoc)

-- AN ENTRY IS WELL FORMED EXACTLY IF IT WAS IN THE FIRST EDITION AND ITS TRIGGER'S NAME HAS NO '#'
pub since_first : (e : Bytes) → well_formed e ≡ (first_well_formed e and not (sign_in_trigger e))
unfolding well_formed first_well_formed ◌and◌
since_first e = rw (lock_since e) (swap (header_ok e) (first_lock_ok e) (name_ok e) (not (sign_in_trigger e)))
  where
    swap : (h l n s : Bool) → (h and (l and s) and n) ≡ ((h and l and n) and s)
    swap true true n true = sym (and_yes n)
    swap true true n false = sym (and_no n)
    swap true false n s = refl
    swap false l n s = refl

pub first_header : (e : Bytes) → first_well_formed e ≡ true → header_ok e ≡ true
unfolding first_well_formed
first_header e w = and_left _ _ w
