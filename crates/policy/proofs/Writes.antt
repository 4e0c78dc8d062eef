-- What the writes leave. Assumes nothing.
use Prim.Native.Nat.{ℕ, ◌+◌, ◌-◌, ◌≤◌}
use mathlib.Core.Path.{◌≡◌, refl, sym, ap, ◌∙◌}
use mathlib.Core.List.{List, [], ◌∷◌, ◌++◌, append_assoc, append-nil}
use mathlib.Core.Bool.{true}
use native.Mathlib.Omega.{arith}
use native.Mathlib.Nat.{sub-zero}
use lib.ListN.{length, take, replicate, length-append, length-replicate, drop_of_length-le}
use Rattle.limits.specs.Limits.{policy_bytes}
use Rattle.slices.specs.Bytes.{Bytes, overwrite, padded}
use Rattle.slices.proofs.PartLaws.{drop_replicate}
use Rattle.slices.proofs.OverwriteLaws.{overwrite_seam}
use Rattle.slices.specs.Chunks.{flat, packed}
use Rattle.slices.proofs.ChunksLaws.{flat_append, flat_one, flat_chunks}
use Rattle.policy.specs.Policy.{entry_length, entries_of, sizes_sum, pack_policy, policy_valid}
use Rattle.policy.proofs.PolicyLaws.{entry_length-within, sizes_sum-flat, pack-entries_of}

packed_append : (n v : ℕ) (es : List Bytes) (e : Bytes) → overwrite (packed n v es) (length (flat es)) e ≡ packed n v (es ++ (e ∷ []))
unfolding packed padded
packed_append n v es e =
    let k : n - length (flat es) - length e ≡ n - (length (flat es) + length e) = omega arith in
    overwrite_seam (flat es) (replicate (n - length (flat es)) v) e (length (flat es)) refl
    ∙ rw (
      drop_replicate (length e) (n - length (flat es)) v,
      k,
      flat_append es (e ∷ []),
      flat_one e,
      length-append (flat es) e,
      append_assoc (flat es) e (replicate (n - (length (flat es) + length e)) v),
    )

pub appended : (p e : Bytes) → policy_valid p ≡ true → overwrite p (sizes_sum p) e ≡ pack_policy (entries_of p ++ (e ∷ []))
appended p e v =
    ap (λ (l : Bytes). overwrite l (sizes_sum p) e) (sym (pack-entries_of p v))
    ∙ ap (λ (n : ℕ). overwrite (pack_policy (entries_of p)) n e) (sizes_sum-flat p)
    ∙ packed_append policy_bytes 0 (entries_of p) e

pub cleared : (n v : ℕ) (l : Bytes) → length l ≡ n → overwrite l 0 (replicate (length l) v) ≡ packed n v []
unfolding packed padded overwrite flat
cleared n v l e =
    let k : length l ≤ 0 + length (replicate (length l) v) = rw length-replicate (omega arith) in
    rw (drop_of_length-le l k, append-nil, e, sub-zero)

-- the bytes of the entries
pub dumped : (p : Bytes) → take (sizes_sum p) p ≡ flat (entries_of p)
dumped p = sym (flat_chunks entry_length entry_length-within p)
