-- DEMAND 3 over the rules' engine, closed: no parameter is left open, and nothing is assumed but that the power-on answered 0.
-- The definitions that it uses are in `history`'s History.antt, and what they are of this engine is in Machine.antt.
use Rattle.std.specs.Prelude.{◌≡◌, refl, [], Bool, true, false}
use Rattle.status.specs.Status.{is_success}
use Rattle.rules.specs.Engine as rules
use Rattle.rules.specs.Engine.{State, Call}
use Rattle.rules.specs.Engine.Call.{power_on, restart, dump}
use Rattle.rules.proofs.StateLaws.{power_on_sound}
use Rattle.history.specs.History.{Items, Proper, Demand3}
use Rattle.history.proofs.HistoryLaws as general
use Rattle.demand3.specs.Machine.{machine}
use Rattle.demand3.specs.Demand3.{powered_on}
use Rattle.demand3.proofs.MachineLaws.{Reached, laws}

pub start : (s : State) (allowed : Bool) → is_success (rules.step s (power_on allowed)).0.status ≡ true → Reached false (powered_on s allowed)
start s allowed h = record { uncut = refl; sound = power_on_sound s allowed h }

-- THE CLAIM: of every list of all eleven kinds of calls with any arguments, refused ones included, with rebuilds at any
-- places, each from a complete dump and in order or in a permitted other order
pub demand_3 : (s : State) (allowed : Bool) → is_success (rules.step s (power_on allowed)).0.status ≡ true
    → (is : Items machine) → Proper machine false [] (powered_on s allowed) is → Demand3 machine (powered_on s allowed) is
demand_3 s allowed h is p = general.demand_3 machine Reached laws (powered_on s allowed) (record { uncut = refl; sound = power_on_sound s allowed h }) is p
