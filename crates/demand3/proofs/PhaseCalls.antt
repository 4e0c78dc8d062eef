-- DEMAND 3 WITH THE CALLS OF PHASES (RULES.md, 10.15 and 12.1): histories of the engine's eleven kinds of calls and of the six above it. Each of the six is a call of the same
-- state, kind by kind as the register or set that it makes. Nothing is assumed but that the power-on answered 0.
use Rattle.std.specs.Prelude.{◌≡◌, refl, Bool, true, false, cond, ℕ}
use mathlib.Core.List.{List, [], ◌∷◌, ◌++◌, map, Permᴰ}
use Rattle.std.proofs.Math.Option.{none, some}
use Rattle.std.proofs.Common.{arith}
use Rattle.slices.specs.Bytes.{Bytes}
use Rattle.policy.specs.Policy.{entries_of, policy_valid}
use Rattle.status.specs.declared.Status.TheVariants.{InvalidParameter, VolumeCorrupted}
use Rattle.status.specs.Status.{is_success}
use Rattle.rules.specs.Engine as rules
use Rattle.rules.specs.Engine.{State, Call, only_status, step}
use Rattle.rules.specs.Engine.Call.{power_on, register, set}
use Rattle.rules.specs.Phases.{lock_entry, lockable, lock_step, PhaseCall, phase_step}
use Rattle.rules.specs.Phases.PhaseCall.{phase_policy, write_once_policy, lock_variable, end_of_dxe, ready_to_boot, exit_flag}
use Rattle.history.specs.History.{Items, Proper, Demand3, outcome_of, end_with}
use Rattle.history.specs.History.Outcome.{refused, cut}
use Rattle.history.specs.History.ItemOf.{call, own_dump, rebuild}
use Rattle.history.proofs.AnyMoment as moment
use Rattle.history.proofs.HistoryLaws as general
use Rattle.history.proofs.HistoryLaws.{Laws}
use Rattle.history.specs.MoreCalls.{GivenBy, Makes, step_of}
use Rattle.history.proofs.MoreCallsLaws.{more_laws}
use Rattle.demand3.specs.Machine.{state_in, outcome_by, CanDumpInto, machine}
use Rattle.demand3.proofs.MachineLaws.{Reached, laws}
use Rattle.demand3.specs.Demand3.{powered_on}
use Rattle.demand3.specs.PhaseCalls.{phase_makes, AnyCall, phase_machine}
use Rattle.demand3.proofs.Demand3.{start}

-- each is that call
refused_name : (b : Bool) → outcome_by (is_success (cond b InvalidParameter VolumeCorrupted)) ≡ refused
refused_name true = refl
refused_name false = refl

makes_is : (s : State) (x : PhaseCall) → GivenBy machine s (phase_step s x) (phase_makes x)
unfolding lock_step
makes_is s (phase_policy phase) = refl
makes_is s (write_once_policy namespace) = refl
makes_is s (lock_variable phase v) = go (lockable v)
  where
    go : (b : Bool)
        → GivenBy machine s (cond b (step s (register (lock_entry phase v))) (only_status (cond (policy_valid s.policy) InvalidParameter VolumeCorrupted), s)) (cond b (some (register (lock_entry phase v))) none)
    go true = refl
    go false = (refused_name (policy_valid s.policy), refl)
makes_is s (end_of_dxe phase) = refl
makes_is s (ready_to_boot phase) = refl
makes_is s (exit_flag phase name) = refl

-- and a name that is none to lock is answered the same in every order of the entries: the record is valid in each
some_none : {c : Call} {A : Type 0} → some c ≡ none → A
some_none h = let z : ◌≡◌ {A = ℕ} 0 1 = cc in absurd (omega arith)

none_same : {s : State} {o : List Bytes} (x : PhaseCall) → phase_makes x ≡ none → Reached false s → Permᴰ (entries_of s.policy) o
    → (phase_step (state_in o s) x).0 ≡ (phase_step s x).0
unfolding lock_step
none_same (phase_policy phase) e w d = some_none e
none_same (write_once_policy namespace) e w d = some_none e
none_same {s} {o} (lock_variable phase v) e w d = go (lockable v) e
  where
    go : (b : Bool) → cond b (some (register (lock_entry phase v))) none ≡ none
        → (cond b (step (state_in o s) (register (lock_entry phase v))) (only_status (cond (policy_valid (state_in o s).policy) InvalidParameter VolumeCorrupted), state_in o s)).0
        ≡ (cond b (step s (register (lock_entry phase v))) (only_status (cond (policy_valid s.policy) InvalidParameter VolumeCorrupted), s)).0
    go true k = some_none k
    go false k = rw ((laws.reorders w d).sound.policy, w.sound.policy)
none_same (end_of_dxe phase) e w d = some_none e
none_same (ready_to_boot phase) e w d = some_none e
none_same (exit_flag phase name) e w d = some_none e

pub phases_make : Makes machine PhaseCall phase_makes phase_step Reached
phases_make = record { is = makes_is; same = λ {s} {o} x e w d. none_same x e w d }

phase_laws : Laws phase_machine Reached
phase_laws = more_laws machine PhaseCall phase_makes phase_step Reached laws phases_make

-- THE CLAIM: of every list of all seventeen kinds of calls with any arguments, refused ones included, with rebuilds at any places, each from a complete dump and in order or in a
-- permitted other order
pub demand_3_phases : (s : State) (allowed : Bool) → is_success (rules.step s (power_on allowed)).0.status ≡ true
    → (is : Items phase_machine) → Proper phase_machine false [] (powered_on s allowed) is → Demand3 phase_machine (powered_on s allowed) is
demand_3_phases s allowed h is p = general.demand_3 phase_machine Reached phase_laws (powered_on s allowed) (start s allowed h) is p

-- ---- WHERE REBUILDS MAY STAND, in lists with these calls (RULES.md, 12.3)

-- none of the calls is cut
any_uncut : (s : State) (c : AnyCall) → outcome_of phase_machine s c ≡ cut → ⊥
any_uncut s c = go (is_success (step_of machine PhaseCall phase_makes phase_step s c).0.status)
  where
    go : (b : Bool) → outcome_by b ≡ cut → ⊥
    go true h = let z : ◌≡◌ {A = ℕ} 0 1 = cc in omega arith
    go false h = let z : ◌≡◌ {A = ℕ} 0 1 = cc in omega arith

module _ (s : State) (allowed : Bool) (answered0 : is_success (rules.step s (power_on allowed)).0.status ≡ true) where
  abbrev begun : State
  begun = powered_on s allowed

  -- any calls may stand behind a proper list, and so a list of calls alone is proper
  pub append_any_calls : (is : Items phase_machine) (cs : List AnyCall) → Proper phase_machine false [] begun is → Proper phase_machine false [] begun (is ++ map call cs)
  append_any_calls is cs p = moment.append_calls phase_machine any_uncut is cs begun p

  -- and an own dump with room and the rebuild from it may be inserted at any place of one
  pub insert_any_rebuild : (xs ys : Items phase_machine) (buffer : Bytes) → Proper phase_machine false [] begun (xs ++ ys) → CanDumpInto (end_with phase_machine begun xs) buffer
      → Proper phase_machine false [] begun (xs ++ (own_dump buffer ∷ rebuild (entries_of (end_with phase_machine begun xs).policy) none ∷ ys))
  insert_any_rebuild xs ys buffer p room =
      moment.insert_dump_rebuild phase_machine Reached phase_laws begun (start s allowed answered0) xs ys buffer p (moment.never_cut phase_machine any_uncut xs begun) room
