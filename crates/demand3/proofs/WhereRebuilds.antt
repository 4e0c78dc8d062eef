-- Where rebuilds may stand in a history of the rules' engine: which lists are proper, and what an entry's place is behind one. Assumes nothing but that the
-- power-on answered 0.
use Rattle.std.specs.Prelude.{◌≡◌, List, [], ◌∷◌, ◌++◌, map, Bool, true, false}
use Rattle.std.proofs.Common.{ap, ◌∙◌}
use Rattle.std.proofs.Math.Option.{none}
use Rattle.slices.specs.Bytes.{Bytes}
use Rattle.policy.specs.Policy.{entries_of}
use Rattle.status.specs.Status.{is_success}
use Rattle.rules.specs.Engine as rules
use Rattle.rules.specs.Engine.{State, Call}
use Rattle.rules.specs.Engine.Call.{power_on, restart, dump}
use Rattle.rules.proofs.EngineLaws.{step_status}
use Rattle.rules.proofs.StateLaws.{power_on_done_lem, restart_done_lem}
use Rattle.history.specs.History.{Items, Order, Past, Complete, Permitted, end, end_with, registered}
use Rattle.history.specs.History.ItemOf.{call, own_dump, rebuild}
use Rattle.history.specs.StandingOrder.{NoneRestarts, registered_since}
use Rattle.history.proofs.AnyMoment as moment
use Rattle.history.specs.AnyMoment.{NoneOutdates, OneRebuild, past_after, cut_at_end}
use Rattle.demand3.specs.Machine.{CanDumpInto, machine}
use Rattle.demand3.specs.Demand3 as of_lists
use Rattle.demand3.specs.Demand3.{powered_on}
use Rattle.demand3.proofs.MachineLaws.{Reached, laws, never_cut}
use Rattle.demand3.proofs.Demand3.{start}

-- ---- WHERE REBUILDS MAY STAND (RULES.md, 12.3): which lists are proper

module _ (s : State) (allowed : Bool) (answered0 : is_success (rules.step s (power_on allowed)).0.status ≡ true) where
  -- where the history starts
  abbrev begun : State
  begun = powered_on s allowed

  reached : Reached false begun
  reached = start s allowed answered0

  abbrev ProperFrom : Items machine → Type 0
  ProperFrom = of_lists.ProperFrom s allowed answered0

  abbrev entries_at : Items machine → List Bytes
  entries_at = of_lists.entries_at s allowed answered0

  abbrev past_at : Items machine → Past machine
  past_at = of_lists.past_at s allowed answered0

  uncut : (xs : Items machine) → cut_at_end machine false begun xs ≡ false
  uncut xs = moment.never_cut machine never_cut xs begun

  -- any calls may stand behind a proper list, and so a list of calls alone is proper
  pub append_calls : (is : Items machine) (cs : List Call) → ProperFrom is → ProperFrom (is ++ map call cs)
  append_calls is cs p = moment.append_calls machine never_cut is cs begun p

  -- every first part of a proper list is proper, and so the claim holds at every moment of it
  pub first_part : (xs ys : Items machine) → ProperFrom (xs ++ ys) → ProperFrom xs
  first_part xs ys p = moment.proper_left machine xs ys false [] begun p

  -- an own dump into any buffer may be inserted at any place
  pub insert_dump : (xs ys : Items machine) (buffer : Bytes) → ProperFrom (xs ++ ys) → ProperFrom (xs ++ (own_dump buffer ∷ ys))
  insert_dump xs ys buffer p = moment.insert_dump machine Reached laws begun reached xs ys buffer p (uncut xs)

  -- a rebuild in order from a complete dump of the entries as they stand may be inserted at any place
  pub insert_rebuild : (xs ys : Items machine) → ProperFrom (xs ++ ys) → Complete machine (entries_at xs) (past_at xs)
      → ProperFrom (xs ++ (rebuild (entries_at xs) none ∷ ys))
  insert_rebuild xs ys p d = moment.insert_rebuild machine Reached laws begun reached xs ys p (uncut xs) d

  -- and so may before exit, without any condition but room for the sum of Sizes, an own dump and the rebuild from it
  pub insert_dump_rebuild : (xs ys : Items machine) (buffer : Bytes) → ProperFrom (xs ++ ys)
      → CanDumpInto (end_with machine begun xs) buffer
      → ProperFrom (xs ++ (own_dump buffer ∷ rebuild (entries_at xs) none ∷ ys))
  insert_dump_rebuild xs ys buffer p room =
      moment.insert_dump_rebuild machine Reached laws begun reached xs ys buffer p (uncut xs) room

  -- a rebuild from any complete dump, in order or in any permitted other order, may stand behind a list (to permit another, the
  -- variables that are bytes are enough: UnambiguousLaws.antt)
  pub append_rebuild : (is : Items machine) (ds : List Bytes) (x : Order machine) → ProperFrom is → Complete machine ds (past_at is)
      → Permitted machine ds x → ProperFrom (is ++ (rebuild ds x ∷ []))
  append_rebuild is ds x p d m =
      moment.append_rebuild machine Reached laws begun reached is ds x p (uncut is) d m

  -- an own dump with room serves a rebuild at any later moment, in order or in any permitted other order, unless a granted
  -- call of the history outdates it
  pub dump_now_rebuild_later : (xs ys : Items machine) (buffer : Bytes) (x : Order machine) → ProperFrom (xs ++ ys)
      → CanDumpInto (end_with machine begun xs) buffer
      → NoneOutdates machine (end_with machine begun xs) ys → Permitted machine (entries_at xs) x
      → ProperFrom ((xs ++ (own_dump buffer ∷ ys)) ++ (rebuild (entries_at xs) x ∷ []))
  dump_now_rebuild_later xs ys buffer x p room n m =
      moment.dump_now_rebuild_later machine Reached laws begun reached xs ys buffer x p (uncut xs) room n
      (moment.never_cut machine never_cut ys (end_with machine begun xs)) m

  -- a dump of the history with room is complete as well, and holds the entries of the policy record
  pub history_dump : (xs : Items machine) (buffer : Bytes) → ProperFrom xs
      → CanDumpInto (end_with machine begun xs) buffer
      → Complete machine (entries_at xs) (past_at (xs ++ (call (dump buffer) ∷ [])))
  history_dump xs buffer p room = moment.history_dump machine Reached laws begun reached xs buffer p (uncut xs) room

  -- what the policy record holds after a rebuild, in order or not, and any calls of which none is a granted start: the
  -- entries in the rebuild's order, and behind them what was registered later
  pub entries_after_rebuild : (xs : Items machine) (ds : List Bytes) (x : Order machine) (cs : List Call)
      → ProperFrom (xs ++ (rebuild ds x ∷ [])) → NoneRestarts machine (end_with machine begun (xs ++ (rebuild ds x ∷ []))) cs
      → entries_of (end machine (end_with machine begun (xs ++ (rebuild ds x ∷ []))) cs).policy
      ≡ registered machine ds x ++ registered_since machine (end_with machine begun (xs ++ (rebuild ds x ∷ []))) cs
  entries_after_rebuild xs ds x cs p n =
      moment.entries_after_rebuild machine Reached laws begun reached xs ds x cs p (uncut xs)
      (moment.any_history machine never_cut cs (end_with machine begun (xs ++ (rebuild ds x ∷ [])))) n

  -- no power-on and no restart of a history is refused, with rebuilds or without, whether or not disabling is allowed: each is
  -- refused by damage alone, and no call does any
  pub starts_succeed : (is : Items machine) → ProperFrom is → (allowing : Bool)
      → (is_success (rules.step (end_with machine begun is) (power_on allowing)).0.status ≡ true)
      × (is_success (rules.step (end_with machine begun is) (restart allowing)).0.status ≡ true)
  starts_succeed is p allowing =
      let z = end_with machine begun is in
      let w = (moment.reached machine Reached laws begun reached is p (uncut is)).sound in (
        ap is_success (step_status z (power_on allowing)) ∙ power_on_done_lem z allowing w,
        ap is_success (step_status z (restart allowing)) ∙ restart_done_lem z allowing w,
      )

  -- ONE REBUILD between any two lists of calls
  pub one_rebuild : (cs₁ cs₂ : List Call) → OneRebuild machine begun cs₁ cs₂
  one_rebuild cs₁ cs₂ = moment.one_rebuild machine Reached laws begun reached never_cut cs₁ cs₂

-- a complete dump stays complete across own dumps, rebuilds and every call that does not outdate it, in any state
pub stays_complete : (is : Items machine) (ds : List Bytes) (past : Past machine) (s : State) → NoneOutdates machine s is
    → Complete machine ds past → Complete machine ds (past_after machine past s is)
stays_complete is ds past s n d = moment.stays_complete machine Reached laws is ds past s n d
