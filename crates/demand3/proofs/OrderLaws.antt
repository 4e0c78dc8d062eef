-- A policy record with its entries in another order: what of it is the same. The tests of `slices` and of `lists` are
-- brought together here. Assumes nothing.
use Rattle.std.specs.Prelude.{ℕ, ◌+◌, ◌-◌, ◌≡◌, refl, Bool, false, ◌||◌, length, take, replicate}
use Rattle.std.proofs.Common.{sym, ap, ◌∙◌, arith, zero-add, length-append}
use mathlib.Core.List.{List, [], ◌∷◌, ◌++◌, Permᴰ}
use Rattle.std.proofs.Math.Seq.{take-append_seam, drop-append_seam}
use Rattle.limits.specs.Limits.{policy_bytes}
use Rattle.lists.specs.Lists.{any, over}
use Rattle.lists.proofs.ListsLaws.{all_map, all_left, all_perm, pairs_perm, pairs_middle, any_perm, length_perm, flat_perm, over_over}
use Rattle.slices.specs.Bytes.{Bytes, overwrite, padded}
use Rattle.slices.specs.Chunks.{flat, packed, contains}
use Rattle.slices.proofs.ChunksLaws.{flat_append}
use Rattle.slices.proofs.ItemsLaws.{distinct_left}
use Rattle.entry.specs.Entry.{same_target}
use Rattle.policy.specs.Policy.{pack_policy}
use Rattle.policy.proofs.PolicyLaws.{Entries}
use Rattle.rules.proofs.FoundLaws.{distinct_pairs, none_like, pairs_distinct, tells_target}

-- ---- the same tests, said twice

pub flat_length : (es fs : List Bytes) → length (flat (es ++ fs)) ≡ length (flat es) + length (flat fs)
flat_length es fs = rw (flat_append es fs) (length-append (flat es) (flat fs))

contains_any : (p : Bytes → Bool) (es : List Bytes) → contains p es ≡ any p es
unfolding contains
contains_any p [] = refl
contains_any p (e ∷ es) = ap (◌||◌ (p e)) (contains_any p es)

-- ---- another order

pub length_flat : {es o : List Bytes} → Permᴰ es o → length (flat o) ≡ length (flat es)
length_flat d = sym (flat_perm d)

pub contains_perm : (p : Bytes → Bool) {es o : List Bytes} → Permᴰ es o → contains p o ≡ contains p es
contains_perm p {es} {o} d = contains_any p o ∙ sym (any_perm p d) ∙ sym (contains_any p es)

pub entries_perm : {es o : List Bytes} → Permᴰ es o → Entries es → Entries o
entries_perm {es} {o} d a =
    record {
      formed = all_perm d a.formed;
      few = rw (← length_perm d) a.few;
      room = rw (length_flat d) a.room;
      apart = pairs_distinct same_target _ tells_target o (pairs_perm _ (λ x y h k. h (sym k.0, sym k.1)) d (distinct_pairs same_target _ tells_target es a.apart));
    }

-- the first entries of a record's; and the next one is not there yet
pub entries_left : (es fs : List Bytes) → Entries (es ++ fs) → Entries es
entries_left es fs a =
    let n = flat_length es fs in
    let r = a.room in
    record {
      formed = all_left es fs a.formed;
      few = omega (arith, rw length-append at a.few);
      room = omega arith;
      apart = distinct_left same_target es fs a.apart;
    }

pub entries_new : (es : List Bytes) (e : Bytes) (fs : List Bytes) → Entries (es ++ (e ∷ fs)) → contains (same_target e) es ≡ false
entries_new es e fs a =
    none_like same_target _ tells_target e es
    (all_map (λ x h k. h (sym k.0, sym k.1)) es (pairs_middle _ es e fs (distinct_pairs same_target _ tells_target (es ++ (e ∷ fs)) a.apart)))

-- the entries in another order over the record of the same entries
over_padded : (n : ℕ) (es o : List Bytes) → length (flat es) ≡ length (flat o)
    → over o (flat es ++ replicate (n - length (flat es)) 0) ≡ flat o ++ replicate (n - length (flat o)) 0
over_padded n es o h = ap (◌++◌ (flat o)) (rw (← h) (drop-append_seam (flat es) _))

pub over_pack : {es o : List Bytes} → Permᴰ es o → over o (pack_policy es) ≡ pack_policy o
unfolding packed padded
over_pack {es} {o} d = over_padded policy_bytes es o (flat_perm d)

-- a dump's write is that of the general part
pub overwrite_over : (es : List Bytes) (buffer : Bytes) → overwrite buffer 0 (flat es) ≡ over es buffer
unfolding overwrite
overwrite_over es buffer = rw zero-add

pub overwrite_perm : {es o : List Bytes} → Permᴰ es o → (buffer : Bytes)
    → overwrite buffer 0 (flat o) ≡ over o (overwrite buffer 0 (flat es))
overwrite_perm {es} {o} d buffer =
    overwrite_over o buffer ∙ sym (ap (over o) (overwrite_over es buffer) ∙ over_over es o buffer (flat_perm d))

pub overwrite_take : (es : List Bytes) (buffer : Bytes) → flat es ≡ take (length (flat es)) (overwrite buffer 0 (flat es))
overwrite_take es buffer = rw (overwrite_over es buffer) (sym (take-append_seam (flat es) _))
