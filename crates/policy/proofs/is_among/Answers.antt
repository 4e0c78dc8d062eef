use Prim.Native.Nat.{◌+◌, ◌≤◌, ◌<◌}
use mathlib.Core.Path.{◌≡◌, sym, ap, ◌∙◌}
use native.Mathlib.Omega.{arith}
use native.Mathlib.Nat.{sub-zero}
use lib.ListN.{length, take, drop}
use Rattle.limits.specs.Limits.{size_at, entry_header}
use Rattle.slices.specs.Bytes.{Bytes, le16}
use Rattle.slices.proofs.PartLaws.{part_of}
use Rattle.entry.specs.Entry.{same_target}
use Rattle.policy.specs.Policy.{entry_length, entries_of}
use Rattle.policy.proofs.Walk.{at_start, at_next, formed, stated, stated_least, stated_fits, among_hit, among_miss, among_end}
use Rattle.policy.proofs.is_among.Goals as goal

pub loop-init : goal.loop-init
loop-init c = (omega arith, at_start c.args.policy.now, rw sub-zero)

pub get16-requires : goal.get16-requires
get16-requires c =
    let P : Bytes = c.args.policy.now in
    let left : c.loop.counter < length (entries_of (P)) = omega (arith, c.requires, c.loop-test.true) in
    let fits : c.loop.at + le16 (P) (c.loop.at + size_at) ≤ length (P) = stated_fits (P) c.loop.counter c.loop.at c.loop.invariant.1 (left) in
    let least : entry_header ≤ le16 (P) (c.loop.at + size_at) = stated_least (P) c.loop.counter c.loop.at c.loop.invariant.1 (left) in
    omega (arith, fits, least)

pub slice_bounds-met-end : goal.slice_bounds-met-end
slice_bounds-met-end c =
    let P : Bytes = c.args.policy.now in
    let left : c.loop.counter < length (entries_of (P)) = omega (arith, c.requires, c.loop-test.true) in
    let fits : c.loop.at + le16 (P) (c.loop.at + size_at) ≤ length (P) = stated_fits (P) c.loop.counter c.loop.at c.loop.invariant.1 (left) in
    omega (arith, fits, c.get16.ensures.is)

pub invariant_of-met : goal.invariant_of-met
invariant_of-met c =
    let P : Bytes = c.args.policy.now in
    let left : c.loop.counter < length (entries_of (P)) = omega (arith, c.requires, c.loop-test.true) in
    let least : entry_header ≤ le16 (P) (c.loop.at + size_at) = stated_least (P) c.loop.counter c.loop.at c.loop.invariant.1 (left) in
    let here : entry_length (drop c.loop.at (P)) ≡ c.get16.result = let l = c.loop in
    stated (P) l.counter l.at l.invariant.1 (left) ∙ sym c.get16.ensures.is in
    let some : 0 < c.get16.result = omega (arith, least, c.get16.ensures.is) in
    let l = c.loop in
    let P' = P in
    record { formed = rw part_of (formed P' l.counter l.at l.invariant.1 c.get16.result (here) (some)) }

pub returns-then-same_target : goal.returns-then-same_target
returns-then-same_target c =
    let P : Bytes = c.args.policy.now in
    let left : c.loop.counter < length (entries_of (P)) = omega (arith, c.requires, c.loop-test.true) in
    let least : entry_header ≤ le16 (P) (c.loop.at + size_at) = stated_least (P) c.loop.counter c.loop.at c.loop.invariant.1 (left) in
    let here : entry_length (drop c.loop.at (P)) ≡ c.get16.result = let l = c.loop in
    stated (P) l.counter l.at l.invariant.1 (left) ∙ sym c.get16.ensures.is in
    let some : 0 < c.get16.result = omega (arith, least, c.get16.ensures.is) in
    let met : c.same_target.result ≡ same_target c.args.e.bytes.now (take c.get16.result (drop c.loop.at (P))) = c.same_target.ensures ∙ ap (same_target _) (part_of c.loop.at c.get16.result (P)) in
    let l = c.loop in
    let x = c.args in
    sym (l.invariant.2 ∙ among_hit (same_target x.e.bytes.now) x.policy.now x.count l.counter l.at c.get16.result l.invariant.1 (here) (some) c.loop-test.true (sym (met) ∙ c.if-same_target.true))

pub loop-preserved : goal.loop-preserved
loop-preserved c =
    let P : Bytes = c.args.policy.now in
    let left : c.loop.counter < length (entries_of (P)) = omega (arith, c.requires, c.loop-test.true) in
    let least : entry_header ≤ le16 (P) (c.loop.at + size_at) = stated_least (P) c.loop.counter c.loop.at c.loop.invariant.1 (left) in
    let here : entry_length (drop c.loop.at (P)) ≡ c.get16.result = let l = c.loop in
    stated (P) l.counter l.at l.invariant.1 (left) ∙ sym c.get16.ensures.is in
    let some : 0 < c.get16.result = omega (arith, least, c.get16.ensures.is) in
    let met : c.same_target.result ≡ same_target c.args.e.bytes.now (take c.get16.result (drop c.loop.at (P))) = c.same_target.ensures ∙ ap (same_target _) (part_of c.loop.at c.get16.result (P)) in
    let l = c.loop in
    let x = c.args in (
      omega arith,
      at_next x.policy.now l.counter l.at l.invariant.1 c.get16.result (here) (some),
      l.invariant.2 ∙ among_miss (same_target x.e.bytes.now) x.policy.now x.count l.counter l.at c.get16.result l.invariant.1 (here) (some) c.loop-test.true (sym (met) ∙ c.if-same_target.false),
    )

pub returns : goal.returns
returns c =
    sym (c.loop.invariant.2 ∙ among_end _ _ _ _ c.loop-test.false)
