-- Well-formed entries end to end come apart by their Sizes. Assumes nothing.
use Rattle.std.specs.Prelude.{ℕ, zero, suc, ◌≤◌, ◌<◌, ◌≡◌, refl, List, [], ◌∷◌, ◌++◌, Bool, true, false, cond, length, leb}
use Rattle.std.proofs.Common.{sym, ap, ◌∙◌, append-nil, arith, le-leb, leb-true}
use Rattle.std.proofs.lemmas.Bool.{lt-leb}
use Rattle.limits.specs.Limits.{entry_header}
use Rattle.lists.specs.Lists.{All, nil, more}
use Rattle.lists.proofs.ListsLaws.{all_here, all_map}
use Rattle.slices.specs.Test.{◌and◌}
use Rattle.slices.proofs.TestLaws.{and_left, and_right}
use Rattle.slices.specs.Bytes.{Bytes}
use Rattle.slices.specs.Chunks.{flat, contains}
use Rattle.slices.proofs.ChunksLaws.{IsItem, chunks_flat}
use Rattle.entry.specs.Entry.{size_field, well_formed, same_target}
use Rattle.entry.proofs.EntryLaws.{sized, well_formed_header}
use Rattle.policy.proofs.PolicyLaws.{WellFormed, entry_length-begins, items_by}
use Rattle.policy.specs.Stated.{stated_length, stated_of, repeats}

-- what stands there
pub record States (p : Bytes) (n : ℕ) : Type 0 where
  pub field : size_field p ≡ n
  pub least : entry_header ≤ n
  pub within : n ≤ length p

pub stated_states : (n : ℕ) (p : Bytes) → stated_length p ≡ n → 0 < n → States p n
unfolding stated_length
stated_states n p e h = go (leb entry_header (size_field p) and leb (size_field p) (length p)) refl e
  where
    go : (t : Bool) → (leb entry_header (size_field p) and leb (size_field p) (length p)) ≡ t → cond t (size_field p) 0 ≡ n → States p n
    go true q f =
        record { field = f; least = rw f at (leb-true entry_header (size_field p) (and_left _ _ q)); within = rw f at (leb-true (size_field p) (length p) (and_right _ _ q)) }
    go false q f = absurd (omega arith)

pub stated_within : (p : Bytes) → stated_length p ≤ length p
stated_within p = go (stated_length p) refl
  where
    go : (n : ℕ) → stated_length p ≡ n → n ≤ length p
    go zero e = omega arith
    go (suc n) e = (stated_states (suc n) p e (omega arith)).within

pub stated_none : (p : Bytes) → entry_header ≤ size_field p → length p < size_field p → stated_length p ≡ 0
unfolding stated_length ◌and◌
stated_none p h l = rw (le-leb entry_header (size_field p) h, lt-leb (size_field p) (length p) l)

pub stated_small : (p : Bytes) → size_field p < entry_header → stated_length p ≡ 0
unfolding stated_length ◌and◌
stated_small p h = rw (lt-leb entry_header (size_field p) h)

pub stated_there : (p : Bytes) → entry_header ≤ size_field p → size_field p ≤ length p → stated_length p ≡ size_field p
unfolding stated_length ◌and◌
stated_there p h l = rw (le-leb entry_header (size_field p) h, le-leb (size_field p) (length p) l)

-- no entry is shorter than its header
pub stated_short : (p : Bytes) → length p < entry_header → stated_length p ≡ 0
stated_short p h = go (stated_length p) refl
  where
    go : (n : ℕ) → stated_length p ≡ n → n ≡ 0
    go zero e = refl
    go (suc n) e = let s = stated_states (suc n) p e (omega arith) in absurd (omega (arith, s.least, s.within))

-- of well-formed entries: each is as long as it states
stated_entry : (e m : Bytes) → WellFormed e → stated_length (e ++ m) ≡ length e
stated_entry e m w =
    let i = all_here (items_by well_formed well_formed_header (e ∷ []) (more w nil)) in
    let b = entry_length-begins (length e) (e ++ m) (i.whole m) i.some in
    stated_there (e ++ m) (omega (arith, b.field, b.least)) (omega (arith, b.field, b.within)) ∙ b.field

pub stated_flat : (es : List Bytes) → All WellFormed es → stated_of (flat es) ≡ es
stated_flat es a =
    let item : (e : Bytes) → WellFormed e → IsItem stated_length stated_within e = λ e w. record { some = omega (arith, (sized e w).least); whole = λ m. stated_entry e m w } in
    ap stated_of (sym (append-nil (flat es))) ∙ chunks_flat stated_length stated_within es [] (all_map item es a) (stated_short [] (omega arith))

pub contains_repeats : (e : Bytes) (es : List Bytes) → All WellFormed es → contains (repeats e) es ≡ contains (same_target e) es
unfolding contains repeats ◌and◌
contains_repeats e [] nil = refl
contains_repeats e (f ∷ es) (more w a) = rw (w, contains_repeats e es a)
