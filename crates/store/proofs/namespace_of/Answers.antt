use Rattle.store.specs.Record.{namespace_of}
use mathlib.Core.Path.{refl}
use Rattle.store.proofs.namespace_of.Goals as goal

pub returns : goal.returns
unfolding namespace_of
returns c = refl
