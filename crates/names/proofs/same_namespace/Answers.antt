use Rattle.std.proofs.Common.{ap, sym, ◌∙◌, eqb, ◌≡◌, true, drop}
use native.Mathlib.Omega.{arith}
use Rattle.slices.specs.Test.{◌and◌}
use Rattle.slices.proofs.TestLaws.{and_yes, and_eager}
use Rattle.slices.specs.Bytes.{same}
use Rattle.slices.proofs.BytesLaws.{same_eight, pairwise_end}
use Rattle.names.proofs.same_namespace.Goals as goal

pub returns : goal.returns
returns c =
    let a = c.args.a.now in
    let b = c.args.b.now in
    let first = c.eight.result in
    let second = c.eight-2.result in
    let none : same (drop 16 a) (drop 16 b) ≡ true = pairwise_end eqb a b 16 (omega arith) (omega arith) in
    and_eager first second
    ∙ sym (same_eight a b 0 c.eight.ensures ∙ ap (λ x. first and x) (same_eight a b 8 c.eight-2.ensures ∙ ap (λ x. second and x) none ∙ and_yes second))
