use Rattle.rules.specs.Engine.{step}
use mathlib.Core.Path.{refl}
use Rattle.engine.proofs.query.Goals as goal

pub returns : goal.returns
unfolding step
returns c = λ nv vol policy. refl
