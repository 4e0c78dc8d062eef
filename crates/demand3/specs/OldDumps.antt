-- DUMPS OF EARLIER EDITIONS (RULES.md, 12.8): what is claimed of the registrations of their entries. Assumes nothing: these are definitions.
use Rattle.std.specs.Prelude.{◌≤◌, ◌≡◌, List, ◌∷◌, ◌++◌, map, true, length}
use Rattle.std.proofs.Math.Option.{none}
use Rattle.slices.specs.Bytes.{Bytes, overwrite}
use Rattle.slices.specs.Chunks.{flat}
use Rattle.entry.specs.FirstEdition.{sign_in_trigger}
use Rattle.policy.specs.Policy.{pack_policy}
use Rattle.status.specs.declared.Status.TheVariants.{Success}
use Rattle.rules.specs.Engine.{State, state_of, answer_of, step}
use Rattle.rules.specs.Engine.Call.{register, dump}
use Rattle.rules.specs.Grounds.{PolicyEntries}
use Rattle.history.specs.History.{answers, end, AllGranted}
use Rattle.demand3.specs.Machine.{machine}
use Rattle.demand3.specs.OldEntries.{answer_to, without_signs}

-- ---- what registering them does

-- in the state t the registrations of es, one after the other
pub record Registrations (t : State) (es : List Bytes) : Type 0 where
  -- exactly those with '#' in the trigger's name answer 2, all others 0
  pub answered : answers machine t (map register es) ≡ map answer_to es
  -- each that answers 2 leaves every byte of the state as it was
  pub untouched : (xs : List Bytes) (e : Bytes) (ys : List Bytes) → es ≡ xs ++ (e ∷ ys) → sign_in_trigger e ≡ true
      → (step (end machine t (map register xs)) (register e)).1 ≡ end machine t (map register xs)
  -- after each first part xs of them the policy record holds exactly those of xs without '#' in the trigger's name, in order,
  pub holds : (xs ys : List Bytes) → es ≡ xs ++ ys → PolicyEntries (end machine t (map register xs)).policy (without_signs xs)
  -- and the stores and the switches are as they were
  pub keeps : (xs ys : List Bytes) → es ≡ xs ++ ys → end machine t (map register xs) ≡ state_of t.nv t.vol (pack_policy (without_signs xs)) t.switches

-- E5's promise: in the state t the registrations of es
pub record AllRegister (t : State) (es : List Bytes) : Type 0 where
  -- answer 0 each time,
  pub granted : AllGranted machine t (map register es)
  -- leave a policy record that holds exactly them, in this order,
  pub holds : PolicyEntries (end machine t (map register es)).policy es
  -- and leave the stores and the switches as they were
  pub keeps : end machine t (map register es) ≡ state_of t.nv t.vol (pack_policy es) t.switches

-- a dump in the state t, into a buffer with room, hands out es end to end and leaves the buffer's later bytes
abbrev pub DumpsBack : State → List Bytes → Type 0
DumpsBack t es = (buffer : Bytes) → length (flat es) ≤ length buffer
    → (step t (dump buffer)).0 ≡ answer_of Success (length (flat es)) (overwrite buffer 0 (flat es)) none
