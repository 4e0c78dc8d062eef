use mathlib.Core.Path.{◌≡◌, ap, ◌∙◌}
use Prim.Native.Nat.{ℕ, ◌-◌}
use lib.ListN.{length}
use Rattle.slices.specs.Test.{◌and◌}
use Rattle.slices.proofs.TestLaws.{and_no, and_yes}
use Rattle.slices.specs.Bytes.{part}
use Rattle.entry.specs.Entry.{name_of, same_target}
use Rattle.policy.specs.Stated.{repeats}
use Rattle.policy.proofs.repeats.Goals as goal

pub returns-then-not-same_namespace : goal.returns-then-not-same_namespace
unfolding repeats same_target ◌and◌
returns-then-not-same_namespace c = simp (← c.namespace.ensures.is, ← c.same_namespace.ensures, c.if-not-same_namespace.true, and_no)

pub returns-then-not-same_name : goal.returns-then-not-same_name
unfolding name_of repeats same_target
returns-then-not-same_name c =
    let named : c.part-name.result.now ≡ name_of c.args.f.now = let f = c.args.f.now in
    c.part-name.ensures ∙ ap (λ (k : ℕ). part k (length f - 2) f) c.get16.ensures.is in
    simp (← named, ← c.name.ensures, ← c.same_name.ensures, c.if-not-same_name.true, and_no)

pub returns : goal.returns
unfolding name_of repeats same_target
returns c =
    let named : c.part-name.result.now ≡ name_of c.args.f.now = let f = c.args.f.now in
    c.part-name.ensures ∙ ap (λ (k : ℕ). part k (length f - 2) f) c.get16.ensures.is in
    simp (← named, ← c.name.ensures, ← c.same_name.ensures, c.if-not-same_name.false, ← c.namespace.ensures.is, ← c.same_namespace.ensures, c.if-not-same_namespace.false, and_yes) c.well_formed-2.ensures
