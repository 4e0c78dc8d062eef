-- What holds at each call of a history alone. Assumes nothing: these are definitions.
use Rattle.std.specs.Prelude.{List, [], ◌∷◌}
use Rattle.history.specs.History.{Machine}

module _ (M : Machine) where
  open M use {State, Call, step}

  -- P holds of each call and the state that it meets
  abbrev pub AtEach : (State → Call → Type 0) → State → List Call → Type 0
  AtEach P s [] = Unit
  AtEach P s (c ∷ cs) = P s c × AtEach P (step s c).1 cs
