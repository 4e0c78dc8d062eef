use Prim.Native.Nat.{◌+◌, ◌≤◌}
use mathlib.Core.Path.{sym, ◌∙◌}
use native.Mathlib.Omega.{arith}
use borrow.Author.Tests.{eq-eqb}
use Rattle.slices.specs.Bytes.{Bytes}
use Rattle.policy.proofs.Named.{header, offset_most, whole, least, long_name, long_own, whole_units_lem, shown_word}
use Rattle.policy.proofs.search.Search.may_name.Goals as goal

-- ---- the needs
pub overflow_add-at : goal.overflow_add-at
overflow_add-at c =
    omega (arith, header c.args.policy.now c.args.self.name.now c.args.at c.args.end c.requires.0 c.requires.1)

pub get16-requires : goal.get16-requires
get16-requires c =
    omega (arith, header c.args.policy.now c.args.self.name.now c.args.at c.args.end c.requires.0 c.requires.1, c.requires.0)

pub overflow_add-start : goal.overflow_add-start
overflow_add-start c =
    let P : Bytes = c.args.policy.now in
    let N : Bytes = c.args.self.name.now in
    let most : c.args.at + c.get16.result ≤ c.args.end = offset_most (P) (N) c.args.at c.args.end c.requires.0 c.requires.1 c.get16.ensures.is in
    omega (arith, most, c.requires.0)

pub overflow_add-start-2 : goal.overflow_add-start-2
overflow_add-start-2 c =
    let P : Bytes = c.args.policy.now in
    let N : Bytes = c.args.self.name.now in
    let most : c.args.at + c.get16.result ≤ c.args.end = offset_most (P) (N) c.args.at c.args.end c.requires.0 c.requires.1 c.get16.ensures.is in
    omega (arith, most, c.requires.0)

pub overflow_add-start-3 : goal.overflow_add-start-3
overflow_add-start-3 c =
    let P : Bytes = c.args.policy.now in
    let N : Bytes = c.args.self.name.now in
    let most : c.args.at + c.get16.result ≤ c.args.end = offset_most (P) (N) c.args.at c.args.end c.requires.0 c.requires.1 c.get16.ensures.is in
    omega (arith, most, c.requires.0)

pub overflow_sub-end : goal.overflow_sub-end
overflow_sub-end c =
    let P : Bytes = c.args.policy.now in
    let N : Bytes = c.args.self.name.now in
    omega (arith, header (P) (N) c.args.at c.args.end c.requires.0 c.requires.1)

pub get64-requires : goal.get64-requires
get64-requires c =
    let P : Bytes = c.args.policy.now in
    let N : Bytes = c.args.self.name.now in
    omega (arith, header (P) (N) c.args.at c.args.end c.requires.0 c.requires.1, c.requires.0)

pub returns-then-get64-self : goal.returns-then-get64-self
returns-then-get64-self c t =
    let P : Bytes = c.args.policy.now in
    let N : Bytes = c.args.self.name.now in
    absurd (c.if-get64-self.true (shown_word (P) (N) c.args.at c.args.end c.requires.0 c.requires.1 c.get16.ensures.is c.if-start-n.true t
    (λ j. omega (arith, c.type_inv.policy j)) c.args.self.fit c.args.self.tail.mask c.args.self.tail.shown _ c.args.self.shows c.get64.ensures))

pub may_match-requires : goal.may_match-requires
may_match-requires c =
    let P : Bytes = c.args.policy.now in
    let N : Bytes = c.args.self.name.now in
    let n = long_name (P) (N) c.args.at c.args.end c.requires.0 c.requires.1 c.get16.ensures.is c.if-start-n.true in (
      long_own (P) (N) c.args.at c.args.end c.requires.0 c.requires.1 c.get16.ensures.is c.if-start-n.true ∙ sym n,
      omega (arith, n, least (P) (N) c.args.at c.args.end c.requires.0 c.requires.1 c.get16.ensures.is c.if-start-n.true),
    )

pub returns-then-start-n : goal.returns-then-start-n
returns-then-start-n c t =
    let P : Bytes = c.args.policy.now in
    let N : Bytes = c.args.self.name.now in
    c.may_match.ensures (whole_units_lem (P) (N) c.args.at c.args.end c.requires.0 c.requires.1 c.get16.ensures.is c.if-start-n.true t)

pub returns : goal.returns
returns c t =
    let P : Bytes = c.args.policy.now in
    let N : Bytes = c.args.self.name.now in
    eq-eqb _ _ (whole (P) (N) c.args.at c.args.end c.requires.0 c.requires.1 c.get16.ensures.is t c.if-start-n.false)
