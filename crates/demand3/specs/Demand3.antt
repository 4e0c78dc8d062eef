-- DEMAND 3 over the rules' engine: where a history begins, and of which lists of calls and rebuilds the claim is.
-- Assumes nothing: these are definitions.
use Rattle.std.specs.Prelude.{◌≡◌, List, [], Bool, true, false}
use Rattle.slices.specs.Bytes.{Bytes}
use Rattle.policy.specs.Policy.{entries_of}
use Rattle.status.specs.Status.{is_success}
use Rattle.rules.specs.Engine as rules
use Rattle.rules.specs.Engine.{State}
use Rattle.rules.specs.Engine.Call.{power_on}
use Rattle.history.specs.History.{Items, Past, Proper, end_with}
use Rattle.history.specs.AnyMoment.{past_after}
use Rattle.demand3.specs.Machine.{machine}

-- where a history begins (RULES.md, 12.1): the state that the power-on left
abbrev pub powered_on : State → Bool → State
powered_on s allowed = (rules.step s (power_on allowed)).1

module _ (s : State) (allowed : Bool) (answered0 : is_success (rules.step s (power_on allowed)).0.status ≡ true) where
  -- where the history starts
  abbrev begun : State
  begun = powered_on s allowed

  -- the list is one that the claim is about
  abbrev pub ProperFrom : Items machine → Type 0
  ProperFrom is = Proper machine false [] begun is

  -- the entries that stand after a list, and what counts for complete dumps then
  abbrev pub entries_at : Items machine → List Bytes
  entries_at xs = entries_of (end_with machine begun xs).policy

  abbrev pub past_at : Items machine → Past machine
  past_at xs = past_after machine [] begun xs
