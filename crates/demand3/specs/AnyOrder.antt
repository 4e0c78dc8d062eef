-- EVERY ORDER (RULES.md, 10.11 and 12.4): what is claimed of the checker's answer and of a list that ends with a rebuild in another order.
-- Assumes nothing: these are definitions.
use Rattle.std.specs.Prelude.{◌≡◌, Bool, true, ◌↔◌, take, None, Ok, Err}
use mathlib.Core.List.{List, ◌++◌, map}
use Rattle.slices.specs.Bytes.{Bytes}
use Rattle.policy.specs.Policy.{entries_of}
use Rattle.quarrels.specs.Quarrel.{no_dump_error, quarrels_of}
use Rattle.status.specs.Status.{is_success}
use Rattle.rules.specs.Engine as rules
use Rattle.rules.specs.Engine.{State, Call}
use Rattle.rules.specs.Engine.Call.{power_on, dump}
use Rattle.history.specs.History.{Items, Unambiguous, Demand3}
use Rattle.history.specs.History.ItemOf.{call}
use Rattle.demand3.specs.Machine.{machine}
use Rattle.demand3.specs.Demand3.{powered_on, ProperFrom, entries_at}

-- ---- WHAT THE CHECKER'S ANSWER SAYS OF OTHER ORDERS

-- what it says of the bytes d, which hold the entries ds: that they are a dump, and none exactly under that condition on ds
pub record Checks (d : Bytes) (ds : List Bytes) : Type 0 where
  pub entries : entries_of d ≡ ds
  pub is_dump : quarrels_of d ≡ Err no_dump_error → ⊥
  pub exactly : quarrels_of d ≡ Ok None ↔ Unambiguous machine ds

-- of what a dump that answered 0 hands out, in any state
abbrev pub handed_out : State → Bytes → Bytes
handed_out s buffer = take (rules.step s (dump buffer)).0.number (rules.step s (dump buffer)).0.bytes

-- ---- EVERY ORDER

module _ (s : State) (allowed : Bool) (answered0 : is_success (rules.step s (power_on allowed)).0.status ≡ true) where
  abbrev begun : State
  begun = powered_on s allowed

  abbrev ProperHere : Items machine → Type 0
  ProperHere = ProperFrom s allowed answered0

  abbrev entries_here : Items machine → List Bytes
  entries_here = entries_at s allowed answered0

  -- a list that ends with a rebuild in the order o
  pub record RebuiltIn (o : List Bytes) (xs : Items machine) : Type 0 where
    -- is one that demand 3 is about, and demand 3 holds of it;
    pub proper : ProperHere xs
    pub holds : Demand3 machine begun xs
    -- the engine holds the entries in that order then;
    pub entries : entries_here xs ≡ o
    -- and demand 3 holds of it with any calls behind
    pub proper_on : (cs : List Call) → ProperHere (xs ++ map call cs)
    pub holds_on : (cs : List Call) → Demand3 machine begun (xs ++ map call cs)
