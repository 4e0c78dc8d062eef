-- One step, once its status is known. Assumes nothing.
use mathlib.Core.Path.{◌≡◌, ap}
use Rattle.status.specs.declared.Status.{Status}
use Rattle.rules.specs.Engine.{State, Call, status, answer, after, step}

pub step_is : (s : State) (c : Call) (n : Status) → status s c ≡ n → step s c ≡ (answer s c n, after s c n)
unfolding step
step_is s c n e = ap (λ m. (answer s c m, after s c m)) e
