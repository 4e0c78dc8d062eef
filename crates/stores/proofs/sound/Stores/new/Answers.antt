use Rattle.std.specs.Prelude.{◌≡◌, false, MatchOption}
use Rattle.std.proofs.Common.{sym, ◌∙◌}
use Rattle.std.proofs.Math.Path.{subst⁻¹}
use Rattle.stores.specs.Pair.{sound}
use Rattle.stores.proofs.PairLaws.{check_sound, check_unsound}
use Rattle.stores.proofs.sound.Stores.new.Goals as goal

pub returns-in_err-ends : goal.returns-in_err-ends
returns-in_err-ends c =
    subst⁻¹ (λ r. MatchOption r (sound c.args.nv.now c.args.vol.now ≡ false) (λ s. (s.nv ≡ c.args.nv) × (s.vol ≡ c.args.vol))) c.from_residual.ensures
    (check_unsound _ _ (sym c.check.ensures ∙ c.in_err-ends.was))

pub invariant_of-result : goal.invariant_of-result
invariant_of-result c =
    let told = check_sound _ _ _ (sym c.check.ensures ∙ c.in_ok-ends.was) in
    record { checked = told.0; ended = told.1 }
