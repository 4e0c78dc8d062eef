use Prim.Native.Nat.{ℕ, ◌+◌, ◌-◌, ◌≤◌}
use mathlib.Core.Path.{sym, ap, ◌∙◌}
use native.Mathlib.Omega.{arith}
use lib.ListN.{length}
use borrow.Author.Tests.{ne_eqb}
use Rattle.slices.specs.Bytes.{part}
use Rattle.slices.proofs.PartLaws.{part_none}
use Rattle.entry.specs.Entry.{offset_to_name, name_of}
use Rattle.entry.proofs.EntryLaws.{sized, name_least}
use Rattle.entry.proofs.packed.Packed.name.Goals as goal

pub get16-start-requires : goal.get16-start-requires
get16-start-requires c =
    omega (arith, (sized c.args.self.bytes.now c.args.self.formed).least)

pub returns-then-start-end : goal.returns-then-start-end
unfolding name_of
returns-then-start-end c =
    let e = c.args.self.bytes.now in
    sym (part_none (offset_to_name e) (length e - 2) e (omega (arith, c.get16-start.ensures.is)))

pub overflow_sub-result : goal.overflow_sub-result
overflow_sub-result c =
    let unempty : offset_to_name c.args.self.bytes.now + 4 ≤ length c.args.self.bytes.now = name_least c.args.self.bytes.now c.args.self.formed (ne_eqb _ _ (λ z. c.if-start-end.false (c.get16-start.ensures.is ∙ z))) in
    omega (arith, unempty)

pub slice_bounds-result-count : goal.slice_bounds-result-count
slice_bounds-result-count c =
    let unempty : offset_to_name c.args.self.bytes.now + 4 ≤ length c.args.self.bytes.now = name_least c.args.self.bytes.now c.args.self.formed (ne_eqb _ _ (λ z. c.if-start-end.false (c.get16-start.ensures.is ∙ z))) in
    omega (arith, unempty, c.get16-start.ensures.is)

pub slice_bounds-result-start : goal.slice_bounds-result-start
slice_bounds-result-start c =
    let unempty : offset_to_name c.args.self.bytes.now + 4 ≤ length c.args.self.bytes.now = name_least c.args.self.bytes.now c.args.self.formed (ne_eqb _ _ (λ z. c.if-start-end.false (c.get16-start.ensures.is ∙ z))) in
    omega (arith, unempty, c.get16-start.ensures.is)

pub returns : goal.returns
unfolding name_of
returns c =
    ap (λ (a : ℕ). part a (length c.args.self.bytes.now - 2) c.args.self.bytes.now) c.get16-start.ensures.is
