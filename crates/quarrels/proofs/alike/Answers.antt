use Prim.Native.Nat.{ℕ, ◌≤◌, ◌<◌}
use mathlib.Core.Path.{◌≡◌, ap, ◌∙◌}
use mathlib.Core.Bool.{Bool, false}
use lib.Dec.{ltb}
use borrow.Author.Tests.{lt-ltb, le-ltb}
use Rattle.slices.specs.Test.{◌and◌}
use Rattle.slices.specs.Bytes.{Bytes}
use Rattle.patterns.specs.Common.{same_signs}
use Rattle.entry.specs.Entry.{name_of}
use Rattle.quarrels.proofs.alike.Goals as goal

none_there : (place count : ℕ) (t : Bool) → count ≤ place → false ≡ (ltb place count and t)
unfolding ◌and◌
none_there place count t h = rw (le-ltb place count h)

one-there : {r : Bool} {m e : Bytes} (name f : Bytes) (place count : ℕ) → place < count → r ≡ same_signs name m → m ≡ name_of e → e ≡ f → r ≡ (ltb place count and same_signs name (name_of f))
unfolding ◌and◌
one-there name f place count h a b c = a ∙ ap (same_signs name) (b ∙ ap name_of c) ∙ rw (lt-ltb place count h)

pub returns-then-entries-place : goal.returns-then-entries-place
returns-then-entries-place c = none_there c.args.place c.args.entries.count _ c.if-entries-place.true

pub returns : goal.returns
returns c =
    one-there c.args.name.now _ c.args.place c.args.entries.count c.if-entries-place.false c.same_signs.ensures c.name.ensures c.get-e.ensures
