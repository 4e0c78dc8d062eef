-- Tests joined: `and` stays shut, so that a proof can take it apart again.
-- Assumes nothing: these are definitions.
use Rattle.std.specs.Prelude.{Bool, true, false}

infixr 35 ◌and◌
-- both tests hold
unfoldable pub ◌and◌ : Bool → Bool → Bool
true and b = b
false and b = false
