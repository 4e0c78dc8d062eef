-- The order that stands (RULES.md, 12.4): what calls of the history register, and that none of them is a granted start. Assumes nothing: these are definitions.
use Rattle.std.specs.Prelude.{◌≡◌, List, [], ◌∷◌, ◌++◌, Bool, true, false}
use Rattle.history.specs.History.{Outcome, Kind, Machine, Entry, Entries, if_granted, outcome_of}
use Rattle.history.specs.History.Kind.{starts, registers, dumps, keeps}

module _ (M : Machine) where
  open M use {State, Call, step, kind}

  -- the entry that a call registers; those that calls register one after the other
  abbrev pub registered_by : Kind (Entry M) → Outcome → Entries M
  registered_by starts r = []
  registered_by (registers e) r = if_granted r (e ∷ []) []
  registered_by dumps r = []
  registered_by keeps r = []

  abbrev pub registered_since : State → List Call → Entries M
  registered_since s [] = []
  registered_since s (c ∷ cs) = registered_by (kind c) (outcome_of M s c) ++ registered_since (step s c).1 cs

  -- no call is a granted start
  abbrev pub restarts : Kind (Entry M) → Outcome → Bool
  restarts starts r = if_granted r true false
  restarts (registers e) r = false
  restarts dumps r = false
  restarts keeps r = false

  abbrev pub NoneRestarts : State → List Call → Type 0
  NoneRestarts s [] = Unit
  NoneRestarts s (c ∷ cs) = (restarts (kind c) (outcome_of M s c) ≡ false) × NoneRestarts (step s c).1 cs
