-- HOW LONG A LOCK LASTS (RULES.md, 12.9): the condition, and what is claimed of a variable after one call; and what the answer yes says of the state.
-- Assumes nothing: these are definitions.
use Rattle.std.specs.Prelude.{◌≡◌, [], true, ◌↔◌}
use Rattle.std.proofs.Math.Option.{none}
use Rattle.slices.specs.Bytes.{Bytes}
use Rattle.names.specs.Name.{Variable, named}
use Rattle.policy.specs.Policy.{policy_valid}
use Rattle.stores.specs.Pair.{sound}
use Rattle.status.specs.declared.Status.TheVariants.{Success}
use Rattle.rules.specs.Engine.{State, Answer, is_settled, answer_of}
use Rattle.rules.specs.Grounds.{RecordOf}

-- ---- what is claimed

-- the stores sound, the record valid, the engine enabled and locked
pub record EnabledLocked (s : State) : Type 0 where
  pub stores : sound s.nv s.vol ≡ true
  pub policy : policy_valid s.policy ≡ true
  pub enabled : s.switches.enabled ≡ true
  pub locked : s.switches.locked ≡ true

-- the variable has in t the record that it has in s, byte for byte, or none in both; and it is settled in t
pub record Lasts (s t : State) (v : Variable) : Type 0 where
  pub stands : (q : Bytes) → RecordOf s v q ↔ RecordOf t v q
  pub settled : is_settled t v ≡ true

-- ---- by the call's own answer

-- yes
abbrev pub yes : Answer
yes = answer_of Success 1 [] none

-- what a yes says of the state
pub record Yes (s : State) (v : Variable) : Type 0 where
  pub stores : sound s.nv s.vol ≡ true
  pub policy : policy_valid s.policy ≡ true
  pub called : named v ≡ true
  pub settled : is_settled s v ≡ true
