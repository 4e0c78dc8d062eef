use Rattle.limits.specs.Limits.{namespace_bytes}
use Rattle.slices.specs.Test.{◌and◌}
use Rattle.slices.proofs.TestLaws.{and_no}
use Rattle.names.specs.Name.{Variable, variable, named, is_name}
use Rattle.policy.proofs.PolicyLaws.{Checked, check_valid, check_invalid}
use Rattle.engine.proofs.SettledAnswers.{settled_unsound_lem, settled_invalid, settled_unnamed, settled_told, settled_lent}
use borrow.Author.Tests.{eq-eqb}
use lib.ListN.{length}
use mathlib.Core.Bool.{true, false}
use mathlib.Core.Path.{◌≡◌, sym, ap, ◌∙◌}
use borrow.Author.Rules.{rules}
use Rattle.engine.proofs.settled.Goals as goal

pub returns-in_default : goal.returns-in_default
returns-in_default c = settled_unsound_lem _ _ _ _ c.not_settled.ensures c.in_default.ensures

pub returns-in_default-check_noting : goal.returns-in_default-check_noting
returns-in_default-check_noting c =
    settled_invalid _ _ _ _ c.not_settled-in_default-check_noting.ensures (check_invalid _ (sym c.check_noting.ensures.answer ∙ c.in_default-check_noting.is))

pub returns-then-not-is_name : goal.returns-then-not-is_name
unfolding named
returns-then-not-is_name c =
    let valid : Checked c.args.policy.now c.in-Some-check_noting.extent.count c.in-Some-check_noting.extent.used = check_valid _ _ (sym c.check_noting.ensures.answer ∙ c.in-Some-check_noting.is) in
    let n : is_name c.args.name.now ≡ false = sym c.is_name.ensures ∙ c.if-not-is_name.true in
    let told = c.in-Some.ensures in
    settled_lent _ _ (ap (λ s. s.now) told.0) (ap (λ s. s.now) told.1)
    (settled_unnamed _ _ _ _ c.in-Some.stores.checked (valid).valid c.not_settled-then-not-is_name.ensures (simp (n, and_no)))

pub invariant_of-entries : goal.invariant_of-entries
invariant_of-entries c =
    let valid : Checked c.args.policy.now c.in-Some-check_noting.extent.count c.in-Some-check_noting.extent.used = check_valid _ _ (sym c.check_noting.ensures.answer ∙ c.in-Some-check_noting.is) in
    record { counted = (valid).counted; noted = c.check_noting.ensures.noted (valid).valid }

pub returns : goal.returns
unfolding named ◌and◌
returns c =
    let valid : Checked c.args.policy.now c.in-Some-check_noting.extent.count c.in-Some-check_noting.extent.used = check_valid _ _ (sym c.check_noting.ensures.answer ∙ c.in-Some-check_noting.is) in
    let Asked : Variable = variable c.args.namespace c.args.name.now in
    let sixteen : length c.args.namespace ≡ namespace_bytes = search rules in
    let good : named (Asked) ≡ true = let n : is_name c.args.name.now ≡ true = sym c.is_name.ensures ∙ c.if-not-is_name.false in
    simp (eq-eqb _ _ (sixteen), n) in
    let told = c.in-Some.ensures in
    settled_lent _ _ (ap (λ s. s.now) told.0) (ap (λ s. s.now) told.1) (settled_told _ _ _ _ c.in-Some.stores.checked (valid).valid (good) (λ w. c.is_settled.ensures))
