use Rattle.policy.specs.Policy.{entries_of}
use Rattle.policy.proofs.PolicyLaws.{Checked, check_valid, check_invalid}
use Rattle.stores.specs.Pair.{sound}
use Rattle.set.specs.Decided.{decided_by}
use Rattle.set.specs.Known.{Knows}
use Rattle.rules.specs.Set.{Request, request_of}
use Rattle.engine.proofs.Sets.{set_unsound_lem, set_invalid, decides, set_done_lem, lent_as}
use mathlib.Core.Bool.{true}
use mathlib.Core.Path.{◌≡◌, sym, ap, subst, ◌∙◌}
use Rattle.engine.proofs.set.Goals as goal

pub returns-in_default : goal.returns-in_default
returns-in_default c = set_unsound_lem _ _ _ _ _ c.corrupted_set.ensures c.in_default.ensures

pub returns-in_default-check_noting : goal.returns-in_default-check_noting
returns-in_default-check_noting c =
    set_invalid _ _ _ _ _ c.corrupted_set-in_default-check_noting.ensures (check_invalid _ (sym c.check_noting.ensures.answer ∙ c.in_default-check_noting.is))

pub invariant_of-entries : goal.invariant_of-entries
invariant_of-entries c =
    let valid : Checked c.args.policy.now c.in-Some-check_noting.extent.count c.in-Some-check_noting.extent.used = check_valid _ _ (sym c.check_noting.ensures.answer ∙ c.in-Some-check_noting.is) in
    record { counted = (valid).counted; noted = c.check_noting.ensures.noted (valid).valid }

pub carry_out-requires : goal.carry_out-requires
carry_out-requires c =
    let told = c.in-Some.ensures in
    let lent = lent_as c.new-located.result c.new-located.ensures (ap (λ s. s.now) told.0) (ap (λ s. s.now) told.1) in (
      subst (λ t. sound t.0 t.1 ≡ true) lent c.new-located.result.stores.checked,
      subst (λ t. Knows c.known-known.result t.0 t.1 t.2.variable) lent c.known-known.ensures,
      (_, _, decides _ _ _ _ _ (subst (λ t. c.decide-decided.result ≡ decided_by (entries_of c.args.policy.now) c.args.switches t.0 t.1 t.2) lent c.decide-decided.ensures)),
    )

pub returns : goal.returns
returns c =
    let told = c.in-Some.ensures in
    let lent = lent_as c.new-located.result c.new-located.ensures (ap (λ s. s.now) told.0) (ap (λ s. s.now) told.1) in
    let valid : Checked c.args.policy.now c.in-Some-check_noting.extent.count c.in-Some-check_noting.extent.used = check_valid _ _ (sym c.check_noting.ensures.answer ∙ c.in-Some-check_noting.is) in
    let Asked : Request = request_of c.args.namespace c.args.name.now c.args.attributes c.args.payload.now in
    set_done_lem c.args.nv.now c.args.vol.now c.args.policy.now c.args.switches (Asked) (subst (λ t. sound t.0 t.1 ≡ true) lent c.new-located.result.stores.checked) (valid).valid
    (subst (λ t. c.decide-decided.result ≡ decided_by (entries_of c.args.policy.now) c.args.switches t.0 t.1 t.2) lent c.decide-decided.ensures)
    c.status_of.ensures c.carry_out.ensures.nv_after c.carry_out.ensures.vol_after
