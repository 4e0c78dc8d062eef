-- A dump without '#' has no name with '#'. Assumes nothing.
use Rattle.std.specs.Prelude.{ℕ, zero, suc, ◌+◌, ◌-◌, ◌<◌, ◌≡◌, List, [], ◌∷◌, true, false, length, get_or}
use Rattle.std.proofs.Common.{ap, ◌∙◌, arith}
use Rattle.slices.specs.Bytes.{Bytes}
use Rattle.slices.specs.Chunks.{flat}
use Rattle.slices.proofs.ChunksLaws.{All, nil, more}
use Rattle.names.specs.Name.{units, wildcards}
use Rattle.patterns.specs.Signs.{has_sign}
use Rattle.patterns.proofs.SignLaws.{units_append, wildcards_append, wildcards_part, sign_none}
use Rattle.entry.specs.Entry.{well_formed, offset_to_name, name_of}
use Rattle.entry.proofs.EntryLaws.{entry_even}
use Rattle.policy.specs.Policy.{entries_of}
use Rattle.policy.proofs.PolicyLaws.{WellFormed}
use Rattle.policy.specs.Dump.{dump_valid}
use Rattle.policy.proofs.DumpLaws.{dump_flat, dump_entries}

-- no '#' in the bytes of an entry, none in its name
entry_plain : (e : Bytes) → well_formed e ≡ true → wildcards (units e) ≡ 0 → wildcards (units (name_of e)) ≡ 0
unfolding name_of
entry_plain e w z = omega (arith, wildcards_part (offset_to_name e) (length e - 2) e (entry_even e w).1)

-- of entries end to end, each of whole units
flat_wildcards : (e : Bytes) (es : List Bytes) → WellFormed e → wildcards (units (flat (e ∷ es))) ≡ wildcards (units e) + wildcards (units (flat es))
unfolding flat
flat_wildcards e es w = ap wildcards (units_append e (flat es) (entry_even e w).0) ∙ wildcards_append (units e) (units (flat es))

flat_plain : (es : List Bytes) → All WellFormed es → wildcards (units (flat es)) ≡ 0 → (k : ℕ) → k < length es → wildcards (units (name_of (get_or es k []))) ≡ 0
flat_plain [] nil z k h = absurd (omega arith)
flat_plain (e ∷ es) (more w a) z zero h = entry_plain e w (omega (arith, z, flat_wildcards e es w))
flat_plain (e ∷ es) (more w a) z (suc k) h = flat_plain es a (omega (arith, z, flat_wildcards e es w)) k (omega arith)

-- WHERE NO UNIT OF A DUMP IS '#', none of a name of its entries is
pub dump_plain : (d : Bytes) → dump_valid d ≡ true → has_sign d ≡ false → (k : ℕ) → k < length (entries_of d) → wildcards (units (name_of (get_or (entries_of d) k []))) ≡ 0
dump_plain d v s =
    flat_plain (entries_of d) (dump_entries d v).formed (ap (λ (b : Bytes). wildcards (units b)) (dump_flat d v) ∙ sign_none d s)
