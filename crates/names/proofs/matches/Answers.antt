use mathlib.Core.Path.{◌≡◌, sym, ap₂, ◌∙◌}
use mathlib.Core.Bool.{true}
use Prim.Native.Nat.{ℕ, ◌*◌}
use native.Mathlib.Omega.{arith}
use lib.ListN.{length, take, length-take}
use Rattle.slices.specs.Bytes.{Bytes, pairwise}
use Rattle.slices.proofs.BytesLaws.{pairwise_lengths}
use Rattle.slices.proofs.TestLaws.{forced_off}
use Rattle.names.specs.Name.{units, unit_matches}
use Rattle.names.proofs.NameLaws.{units_length, units_whole, pairs_end}
use Rattle.names.proofs.matches.Goals as goal

-- k is the number of units of both
module _ (p v : Bytes) {k : ℕ} (ep : k ≡ length (units p)) (ev : k ≡ length (units v)) where
  long-p : length (take (2 * k) p) ≡ 2 * k
  long-p = omega (arith, length-take (2 * k) p, units_length p)

  long-v : length (take (2 * k) v) ≡ 2 * k
  long-v = omega (arith, length-take (2 * k) v, units_length v)

  whole : pairwise unit_matches (units (take (2 * k) p)) (units (take (2 * k) v)) ≡ pairwise unit_matches (units p) (units v)
  whole = ap₂ (pairwise unit_matches) (units_whole k p ep) (units_whole k v ev)

  none : k ≡ 0 → pairwise unit_matches (units p) (units v) ≡ true
  none z = pairs_end unit_matches p v 0 (omega (arith, units_length p)) (omega (arith, units_length v))

pub overflow_mul-n : goal.overflow_mul-n
overflow_mul-n c = omega (arith, c.unit_count-n.ensures, units_length c.args.p.now)

pub overflow_mul-unit_count : goal.overflow_mul-unit_count
overflow_mul-unit_count c = omega (arith, c.unit_count.ensures, units_length c.args.v.now)

pub returns-then-n-unit_count : goal.returns-then-n-unit_count
returns-then-n-unit_count c =
    let a = c.args in
    sym (pairwise_lengths unit_matches (units a.p.now) (units a.v.now) (λ e. c.if-n-unit_count.true (omega (arith, c.unit_count-n.ensures, c.unit_count.ensures))))

pub returns-then-n-eq0 : goal.returns-then-n-eq0
returns-then-n-eq0 c =
    let P : Bytes = c.args.p.now in
    let N : Bytes = c.args.v.now in
    let as_many : c.unit_count-n.result ≡ length (units (N)) = omega (arith, c.if-n-unit_count.false, c.unit_count.ensures) in
    sym (none (P) (N) c.unit_count-n.ensures (as_many) (omega arith))

pub slice_bounds-own-end : goal.slice_bounds-own-end
slice_bounds-own-end c =
    let P : Bytes = c.args.p.now in
    let N : Bytes = c.args.v.now in
    let as_many : c.unit_count-n.result ≡ length (units (N)) = omega (arith, c.if-n-unit_count.false, c.unit_count.ensures) in
    sym (long-p (P) (N) c.unit_count-n.ensures (as_many))

pub slice_bounds-name-end : goal.slice_bounds-name-end
slice_bounds-name-end c =
    let P : Bytes = c.args.p.now in
    let N : Bytes = c.args.v.now in
    let as_many : c.unit_count-n.result ≡ length (units (N)) = omega (arith, c.if-n-unit_count.false, c.unit_count.ensures) in
    sym (long-v (P) (N) c.unit_count-n.ensures (as_many))

pub ends_near-requires : goal.ends_near-requires
ends_near-requires c =
    let P : Bytes = c.args.p.now in
    let N : Bytes = c.args.v.now in
    let as_many : c.unit_count-n.result ≡ length (units (N)) = omega (arith, c.if-n-unit_count.false, c.unit_count.ensures) in
    let p = long-p (P) (N) c.unit_count-n.ensures (as_many) in
    let v = long-v (P) (N) c.unit_count-n.ensures (as_many) in
    (p ∙ sym v, omega (arith, v), omega (arith, v, c.if-n-eq0.false))

pub returns-then-not-ends_near : goal.returns-then-not-ends_near
returns-then-not-ends_near c =
    let P : Bytes = c.args.p.now in
    let N : Bytes = c.args.v.now in
    let as_many : c.unit_count-n.result ≡ length (units (N)) = omega (arith, c.if-n-unit_count.false, c.unit_count.ensures) in
    let w = whole (P) (N) c.unit_count-n.ensures (as_many) in
    sym (forced_off (pairwise unit_matches (units (P)) (units (N))) (λ e. sym c.if-not-ends_near.true ∙ c.ends_near.ensures (w ∙ e)))

pub units_match-requires : goal.units_match-requires
units_match-requires c =
    let P : Bytes = c.args.p.now in
    let N : Bytes = c.args.v.now in
    let as_many : c.unit_count-n.result ≡ length (units (N)) = omega (arith, c.if-n-unit_count.false, c.unit_count.ensures) in
    long-p (P) (N) c.unit_count-n.ensures (as_many) ∙ sym (long-v (P) (N) c.unit_count-n.ensures (as_many))

pub returns : goal.returns
returns c =
    let P : Bytes = c.args.p.now in
    let N : Bytes = c.args.v.now in
    let as_many : c.unit_count-n.result ≡ length (units (N)) = omega (arith, c.if-n-unit_count.false, c.unit_count.ensures) in
    c.units_match.ensures ∙ whole (P) (N) c.unit_count-n.ensures (as_many)
