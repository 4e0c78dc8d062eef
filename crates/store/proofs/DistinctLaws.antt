-- Of records no two of which are of one variable, the one of a variable is what is found. Assumes nothing.
use Rattle.std.specs.Prelude.{◌≡◌, refl, List, [], ◌∷◌, Bool, true, false, cond}
use Rattle.std.proofs.Common.{sym, ap, ◌∙◌, true≢false, inl, inr}
use Rattle.std.proofs.Math.Bool.{or-true}
use Rattle.std.proofs.Math.Option.{some}
use Rattle.lists.specs.Lists.{Among}
use Rattle.slices.specs.Bytes.{Bytes}
use Rattle.slices.specs.Chunks.{contains, distinct, find}
use Rattle.slices.proofs.ItemsLaws.{distinct_apart}
use Rattle.names.specs.Name.{Variable}
use Rattle.store.specs.Record.{is_of, same_variable}
use Rattle.store.proofs.VariableLaws.{is_of-like}

pub among_contains : (p : Bytes → Bool) (l : List Bytes) (a : Bytes) → Among a l → p a ≡ true → contains p l ≡ true
unfolding contains
among_contains p (x ∷ l) a (inl e) h = rw (sym (ap p e) ∙ h)
among_contains p (x ∷ l) a (inr k) h = rw (among_contains p l a k h) (or-true (p x))
among_contains p [] a k h = elim k [ ]

-- of distinct records the one of a variable is what is found
pub found_only : (l : List Bytes) → distinct same_variable l ≡ true → (v : Variable) (r : Bytes) → Among r l → is_of v r ≡ true → find (is_of v) l ≡ some r
unfolding find
found_only (c ∷ cs) d v r k o = go (is_of v c) refl k (found_only cs (distinct_apart same_variable c cs d).rest v r)
  where
    go : (b : Bool) → is_of v c ≡ b → Among r (c ∷ cs) → (Among r cs → is_of v r ≡ true → find (is_of v) cs ≡ some r) → cond b (some c) (find (is_of v) cs) ≡ some r
    go true e (inl h) f = ap some (sym h)
    go true e (inr h) f =
        absurd (true≢false (sym (among_contains (same_variable c) cs r h (sym (is_of-like v c e r) ∙ o)) ∙ (distinct_apart same_variable c cs d).here))
    go false e (inl h) f = absurd (true≢false (sym o ∙ ap (is_of v) h ∙ e))
    go false e (inr h) f = f h o
found_only [] d v r k o = elim k [ ]
