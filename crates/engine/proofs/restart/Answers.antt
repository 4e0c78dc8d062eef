use Rattle.stores.proofs.PairLaws.{check_sound, check_unsound}
use Rattle.engine.proofs.Started.{restart_unsound_lem, restart_record, restart_done_lem, restart_refused_lem, restart_granted}
use mathlib.Core.Path.{refl, sym, ◌∙◌}
use Rattle.engine.proofs.restart.Goals as goal

pub returns-in_default : goal.returns-in_default
returns-in_default c = restart_refused_lem _ _ _ _ (restart_unsound_lem _ _ _ (check_unsound _ _ (sym c.check.ensures ∙ c.in_default.is))) refl

pub returns-then-policy-ne-POLICY_BYTES : goal.returns-then-policy-ne-POLICY_BYTES
returns-then-policy-ne-POLICY_BYTES c = restart_refused_lem _ _ _ _ (restart_record _ _ _ c.if-policy-ne-POLICY_BYTES.true) refl

pub returns : goal.returns
returns c =
    restart_granted _ _ _ _ (restart_done_lem _ _ _ (check_sound _ _ _ (sym c.check.ensures ∙ c.in-Some.is)).0 c.if-policy-ne-POLICY_BYTES.false)
    c.fresh_start.ensures c.clear.ensures
