use Prim.Native.Nat.{ℕ, ◌≤◌, ◌<◌}
use mathlib.Core.Path.{◌≡◌, ap, ◌∙◌}
use mathlib.Core.List.{List}
use mathlib.Core.Logic.{inl, inr}
use native.Mathlib.Omega.{arith}
use lib.ListN.{get_or}
use lib.Bits.{bit_and, bit_xor, and_zero_l, and_zero_r}
use Rattle.limits.specs.Limits.{max_entries}
use Rattle.lists.proofs.ListsLaws.{Less, less}
use Rattle.quarrels.specs.Group.{differing, Skipped, stay, on}
use Rattle.quarrels.proofs.candidate.Goals as goal

-- at the end no bit counts
none_last : (masks shown : List ℕ) (own mask j : ℕ) → get_or masks max_entries 0 ≡ 0 → j ≡ max_entries → differing masks shown own mask j ≡ 0
none_last masks shown own mask j e z =
    ap (λ (k : ℕ). bit_and (bit_and (bit_xor (get_or shown j 0) own) k) mask) (ap (λ (k : ℕ). get_or masks k 0) z ∙ e)
    ∙ ap (λ (k : ℕ). bit_and k mask) (and_zero_r (bit_xor (get_or shown j 0) own)) ∙ and_zero_l mask

under : (masks shown : List ℕ) (own mask j : ℕ) → get_or masks max_entries 0 ≡ 0 → j ≤ max_entries → (differing masks shown own mask j ≡ 0 → ⊥) → j < max_entries
under masks shown own mask j e l d = go (less j max_entries)
  where
    go : Less j max_entries → j < max_entries
    go (inl h) = h.0
    go (inr h) = absurd (d (none_last masks shown own mask j e (omega (arith, h.0))))

-- the next place, as the code has it
go_on : {next masks shown : List ℕ} {own mask from r t : ℕ} → r ≡ t → t ≤ max_entries → Skipped next masks shown own mask from t
    → Skipped next masks shown own mask from r × (r ≤ max_entries)
go_on e l s = rw e (s, l)

pub loop-j-init : goal.loop-j-init
loop-j-init c = (stay, c.requires)

pub loop-j-preserved : goal.loop-j-preserved
loop-j-preserved c =
    let inner : c.loop-j.j < max_entries = let l = c.loop-j in
    under c.args.grouped.now.notes.now.masks c.args.grouped.now.notes.now.shown c.args.own.shown c.args.own.mask l.j c.args.grouped.now.masked.end l.invariant.1 c.loop-j-test.true in
    let rising : (c.loop-j.j < get_or c.args.grouped.now.links.now.next c.loop-j.j 0) × (get_or c.args.grouped.now.links.now.next c.loop-j.j 0 ≤ max_entries) = c.args.grouped.now.chained.rises c.loop-j.j (inner) in
    go_on c.place-j.ensures (rising).1 (on c.loop-j.invariant.0 (inner) c.loop-j-test.true)
