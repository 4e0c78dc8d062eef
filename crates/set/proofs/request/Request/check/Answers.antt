use Rattle.set.proofs.Requests.{bad_name_lem, long_payload, unknown_bit, lacks_bs, lacks_runtime, taken}
use Rattle.names.specs.Name.{is_name}
use Rattle.rules.specs.Set.{unsupported_bit}
use borrow.Author.Tests.{eq-eqb, ne_eqb}
use mathlib.Core.Path.{◌≡◌, refl, sym, ap, ◌∙◌}
use mathlib.Core.Bool.{true, not}
use Rattle.set.proofs.request.Request.check.Goals as goal

pub returns-then-not-is_name : goal.returns-then-not-is_name
returns-then-not-is_name c = (bad_name_lem _ _ _ _ _ c.args.self.sixteen (sym c.is_name.ensures ∙ c.if-not-is_name.true), refl)

pub returns-then-self-gt-MAX_PAYLOAD : goal.returns-then-self-gt-MAX_PAYLOAD
returns-then-self-gt-MAX_PAYLOAD c =
    let named : is_name c.args.self.name.now ≡ true = sym c.is_name.ensures ∙ c.if-not-is_name.false in
    (long_payload _ _ _ _ _ c.args.self.sixteen (named) c.if-self-gt-MAX_PAYLOAD.true, refl)

pub returns-then-self : goal.returns-then-self
unfolding unsupported_bit
returns-then-self c =
    let named : is_name c.args.self.name.now ≡ true = sym c.is_name.ensures ∙ c.if-not-is_name.false in
    (unknown_bit _ _ _ _ _ c.args.self.sixteen (named) c.if-self-gt-MAX_PAYLOAD.false (ap not (ne_eqb _ _ c.if-self.true)), refl)

pub returns-then-needs_bs : goal.returns-then-needs_bs
unfolding unsupported_bit
returns-then-needs_bs c =
    let named : is_name c.args.self.name.now ≡ true = sym c.is_name.ensures ∙ c.if-not-is_name.false in
    (lacks_bs _ _ _ _ _ c.args.self.sixteen (named) c.if-self-gt-MAX_PAYLOAD.false (ap not (eq-eqb _ _ c.if-self.false)) (sym c.needs_bs.ensures ∙ c.if-needs_bs.true), refl)

pub returns-then-needs_runtime : goal.returns-then-needs_runtime
unfolding unsupported_bit
returns-then-needs_runtime c =
    let named : is_name c.args.self.name.now ≡ true = sym c.is_name.ensures ∙ c.if-not-is_name.false in (
      lacks_runtime _ _ _ _ _ c.args.self.sixteen (named) c.if-self-gt-MAX_PAYLOAD.false (ap not (eq-eqb _ _ c.if-self.false)) (sym c.needs_bs.ensures ∙ c.if-needs_bs.false)
          (sym c.needs_runtime.ensures ∙ c.if-needs_runtime.true),
      refl,
    )

pub returns : goal.returns
unfolding unsupported_bit
returns c =
    let named : is_name c.args.self.name.now ≡ true = sym c.is_name.ensures ∙ c.if-not-is_name.false in
    sym (taken _ _ _ _ _ c.args.self.sixteen (named) c.if-self-gt-MAX_PAYLOAD.false (ap not (eq-eqb _ _ c.if-self.false)) (sym c.needs_bs.ensures ∙ c.if-needs_bs.false)
    (sym c.needs_runtime.ensures ∙ c.if-needs_runtime.false))
