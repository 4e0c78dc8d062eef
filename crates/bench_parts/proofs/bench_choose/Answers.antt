use mathlib.Core.Path.{◌≡◌, sym, ap, ◌∙◌}
use Rattle.names.specs.Name.{Variable, variable}
use Rattle.policy.specs.Policy.{entries_of}
use Rattle.policy.specs.Choice.{choice_of}
use Rattle.policy.proofs.PolicyLaws.{Checked, check_valid, check_invalid}
use Rattle.bench_parts.specs.declared.Numbers.{Numbers}
use Rattle.bench_parts.specs.Parts.{of_choice, chosen_in}
use Rattle.bench_parts.proofs.Tested.{not_ok, not_asked, asked}
use Rattle.bench_parts.proofs.bench_choose.Goals as goal

pub returns-in_default : goal.returns-in_default
returns-in_default c = c.answer.ensures ∙ not_ok _ _ _ (check_invalid _ (sym c.check_noting.ensures.answer ∙ c.in_default.is))

pub returns-then-name-eq0 : goal.returns-then-name-eq0
returns-then-name-eq0 c = c.answer-then-name-eq0.ensures ∙ not_asked _ _ _ c.if-name-eq0.true

pub invariant_of-entries : goal.invariant_of-entries
invariant_of-entries c =
    let known : Checked c.args.policy.now c.in-Some.extent.count c.in-Some.extent.used = check_valid _ _ (sym c.check_noting.ensures.answer ∙ c.in-Some.is) in
    record { counted = (known).counted; noted = c.check_noting.ensures.noted (known).valid }

pub returns-in-Some-choose : goal.returns-in-Some-choose
returns-in-Some-choose c =
    let known : Checked c.args.policy.now c.in-Some.extent.count c.in-Some.extent.used = check_valid _ _ (sym c.check_noting.ensures.answer ∙ c.in-Some.is) in
    let Asked : Variable = variable c.args.namespace.now c.args.name.now in
    let told : (a : Numbers)
    → a ≡ of_choice (choice_of (entries_of c.args.policy.now) (Asked))
    → a ≡ chosen_in c.args.policy.now (Asked) = λ a. asked _ _ _ (known).valid c.if-name-eq0.false in
    c.answer-in-Some-choose.ensures ∙ told _ (sym (ap of_choice (sym c.choose.ensures ∙ c.in-Some-choose.is)))

pub returns-in-None : goal.returns-in-None
returns-in-None c =
    let known : Checked c.args.policy.now c.in-Some.extent.count c.in-Some.extent.used = check_valid _ _ (sym c.check_noting.ensures.answer ∙ c.in-Some.is) in
    let Asked : Variable = variable c.args.namespace.now c.args.name.now in
    let told : (a : Numbers)
    → a ≡ of_choice (choice_of (entries_of c.args.policy.now) (Asked))
    → a ≡ chosen_in c.args.policy.now (Asked) = λ a. asked _ _ _ (known).valid c.if-name-eq0.false in
    c.answer-in-None.ensures ∙ told _ (sym (ap of_choice (sym c.choose.ensures ∙ c.in-None.is)))
