-- HOW LONG A LOCK LASTS (RULES.md, 12.9), over lists of calls: what is claimed of a settled variable. Assumes nothing: these are definitions.
use Rattle.std.specs.Prelude.{◌≡◌, true, ◌↔◌}
use Rattle.slices.specs.Bytes.{Bytes}
use Rattle.names.specs.Name.{Variable}
use Rattle.rules.specs.Engine.{State, step}
use Rattle.rules.specs.Engine.Call.{settled}
use Rattle.rules.specs.Grounds.{RecordOf}
use Rattle.rules.specs.SettledStays.{yes}

-- what is claimed of a variable in a state s and a later one t
pub record AsItWas (s t : State) (v : Variable) : Type 0 where
  -- its record, byte for byte; in particular it has none in t if it has none in s
  pub stands : (q : Bytes) → RecordOf s v q ↔ RecordOf t v q
  -- the call answers yes there
  pub answers : (step t (settled v)).0 ≡ yes
  pub enabled : t.switches.enabled ≡ true
  pub locked : t.switches.locked ≡ true
