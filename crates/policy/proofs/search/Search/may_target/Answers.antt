use Prim.Native.Nat.{ℕ, ◌+◌, ◌-◌, ◌≤◌}
use mathlib.Core.Path.{◌≡◌, sym, ap, ◌∙◌}
use native.Mathlib.Omega.{arith}
use lib.ListN.{drop}
use lib.Seq.{drop-drop}
use Rattle.limits.specs.Limits.{namespace_at, min_size_at, entry_header}
use Rattle.slices.proofs.TestLaws.{and_left, and_right}
use Rattle.slices.specs.Bytes.{Bytes, part, same}
use Rattle.slices.proofs.PartLaws.{part_take}
use Rattle.entry.specs.Entry.{namespace_of, targets}
use Rattle.policy.proofs.Named.{header}
use Rattle.policy.proofs.search.Search.may_target.Goals as goal

-- the namespace of the entry from byte at up to end
namespace-at : (p : Bytes) (at end : ℕ) → at + min_size_at ≤ end → namespace_of (part at end p) ≡ part (at + namespace_at) (at + min_size_at) p
namespace-at p at end h =
    let k : at + min_size_at - (at + namespace_at) ≡ 16 = omega arith in
    part_take namespace_at min_size_at (end - at) (drop at p) (omega arith) ∙ rw (drop-drop, k)

pub returns-then-not-may_name : goal.returns-then-not-may_name
unfolding targets
returns-then-not-may_name c t = sym c.if-not-may_name.true ∙ c.may_name.ensures (and_right _ _ t)

pub overflow_add-at : goal.overflow_add-at
overflow_add-at c =
    let begun : c.args.at + entry_header ≤ c.args.end = header c.args.policy.now c.args.self.name.now c.args.at c.args.end c.requires.0 c.requires.1 in
    omega (arith, begun, c.requires.0)

pub overflow_add-at-2 : goal.overflow_add-at-2
overflow_add-at-2 c =
    let begun : c.args.at + entry_header ≤ c.args.end = header c.args.policy.now c.args.self.name.now c.args.at c.args.end c.requires.0 c.requires.1 in
    omega (arith, begun, c.requires.0)

pub slice_bounds-same_namespace-end : goal.slice_bounds-same_namespace-end
slice_bounds-same_namespace-end c =
    let begun : c.args.at + entry_header ≤ c.args.end = header c.args.policy.now c.args.self.name.now c.args.at c.args.end c.requires.0 c.requires.1 in
    omega (arith, begun, c.requires.0)

pub returns : goal.returns
unfolding targets
returns c t =
    let begun : c.args.at + entry_header ≤ c.args.end = header c.args.policy.now c.args.self.name.now c.args.at c.args.end c.requires.0 c.requires.1 in
    c.same_namespace.ensures ∙ ap (λ (l : Bytes). same l c.args.self.namespace.now) (sym (namespace-at c.args.policy.now c.args.at c.args.end (omega (arith, begun)))) ∙ and_left _ _ t
