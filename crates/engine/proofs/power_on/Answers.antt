use Rattle.engine.proofs.Started.{power_unsound, power_long, power_record, power_done, power_refused, power_granted, filled}
use mathlib.Core.Path.{refl, sym, ◌∙◌}
use Rattle.engine.proofs.power_on.Goals as goal

pub returns-then-not-check_alone : goal.returns-then-not-check_alone
returns-then-not-check_alone c = power_refused _ _ _ _ (power_unsound _ _ _ (sym c.check_alone.ensures ∙ c.if-not-check_alone.true)) refl

pub returns-then-length-gt-MAX_STORE : goal.returns-then-length-gt-MAX_STORE
returns-then-length-gt-MAX_STORE c = power_refused _ _ _ _ (power_long _ _ _ c.if-length-gt-MAX_STORE.true) refl

pub returns-then-policy-ne-POLICY_BYTES : goal.returns-then-policy-ne-POLICY_BYTES
returns-then-policy-ne-POLICY_BYTES c = power_refused _ _ _ _ (power_record _ _ _ c.if-policy-ne-POLICY_BYTES.true) refl

pub returns : goal.returns
returns c =
    power_granted _ _ _ _ (power_done _ _ _ (sym c.check_alone.ensures ∙ c.if-not-check_alone.false) c.if-length-gt-MAX_STORE.false c.if-policy-ne-POLICY_BYTES.false)
    c.fresh_start.ensures (filled _ c.fill.ensures) c.clear.ensures
