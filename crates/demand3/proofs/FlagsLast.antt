-- HOW LONG FLAGS AND THE OLDER LOCK LAST (RULES.md, 12.10), over lists of the engine's calls and those of phases, in which no start is granted, with the engine enabled and locked:
-- a flag is neither changed nor deleted once it is there (`flag_lasts`, `flag_lasts_created`); a variable with the older lock is not refused for a lock while "EOD" is absent
-- (`lock_waits_on`), and not changed once it holds 01 (`lock_lasts`, `lock_lasts_from`). All but `lock_waits_on` are corollaries of `how_long_lem`. Assumes nothing.
use Rattle.std.specs.Prelude.{◌≡◌, refl, Some, List, [], ◌∷◌, true, length}
use Rattle.std.proofs.Common.{ap, ◌∙◌}
use Rattle.std.proofs.Math.Path.{subst⁻¹}
use Rattle.std.proofs.lemmas.Bool.{false≢true}
use Rattle.slices.specs.Bytes.{Bytes}
use Rattle.names.specs.Name.{Variable, named}
use Rattle.status.specs.declared.Status.TheVariants.{Success}
use Rattle.rules.specs.declared.Ground.TheVariants.{LockGround}
use Rattle.rules.specs.declared.Report.{Report}
use Rattle.rules.specs.Set.{Request}
use Rattle.rules.specs.Engine.{State, Call, is_settled, step}
use Rattle.rules.specs.Engine.Call.{set}
use Rattle.rules.specs.Grounds.{Not, RecordOf, Absent, ChosenFor, PolicyEntries}
use Rattle.rules.proofs.ReportLaws.{Answered}
use Rattle.rules.proofs.ExitLaws.{record_named, GoesOn}
use Rattle.rules.specs.SettledStays.{EnabledLocked}
use Rattle.rules.proofs.SettledStays.{settled_lasts, entries_last, says_yes}
use Rattle.rules.specs.Phases.{end_of_dxe_name, flag_entry, lock_entry, flag_variable, flag, lockable, PhaseCall, phase_step, EndedDxe, FlagStands}
use Rattle.rules.specs.Phases.PhaseCall.{end_of_dxe, exit_flag}
use Rattle.rules.proofs.PhasesLaws.{flag_settled, lock_settled, lock_waits, flag_created, lockable_named}
use Rattle.history.specs.History.{end}
use Rattle.history.specs.StandingOrder.{NoneRestarts}
use Rattle.history.specs.MoreCalls.{made_calls}
use Rattle.history.proofs.MoreCallsLaws.{end_made, none_restarts_made}
use Rattle.demand3.specs.Machine.{machine}
use Rattle.demand3.proofs.MachineLaws.{Reached, laws}
use Rattle.demand3.proofs.AfterExit.{goes_on}
use Rattle.demand3.specs.HowLong.{AsItWas}
use Rattle.demand3.proofs.HowLong.{how_long_lem}
use Rattle.demand3.specs.PhaseCalls.{AnyCall, phase_makes, phase_machine}
use Rattle.demand3.proofs.PhaseCalls.{phases_make}

-- ---- what `how_long_lem` says of lists with the calls of phases

abbrev made_by : List AnyCall → List Call
made_by = made_calls machine PhaseCall phase_makes

ends_made : (cs : List AnyCall) (s : State) → end phase_machine s cs ≡ end machine s (made_by cs)
ends_made = end_made machine PhaseCall phase_makes phase_step Reached laws phases_make

made_goes_on : (cs : List AnyCall) (s : State) → NoneRestarts phase_machine s cs → NoneRestarts machine s (made_by cs)
made_goes_on = none_restarts_made machine PhaseCall phase_makes phase_step Reached laws phases_make

-- A SETTLED VARIABLE IS AS IT WAS at the end of such a list, and so at each of its moments
settled_stays : (s : State) (v : Variable) → EnabledLocked s → named v ≡ true → is_settled s v ≡ true → (cs : List AnyCall) → NoneRestarts phase_machine s cs
    → AsItWas s (end phase_machine s cs) v
settled_stays s v h n y cs g =
    subst⁻¹ (λ t. AsItWas s t v) (ends_made cs s)
    (how_long_lem s v (says_yes s v (record { stores = h.stores; policy = h.policy; called = n; settled = y })) h.enabled h.locked (made_by cs) (made_goes_on cs s g))

-- ---- flags

-- A FLAG ONCE THERE IS NEITHER CHANGED NOR DELETED, where the policy of its namespace, the phase namespace or the write-once one, is the chosen entry
pub flag_lasts : (s : State) (namespace : Bytes) (v : Variable) (q : Bytes) → length namespace ≡ 16 → EnabledLocked s → ChosenFor s v (flag_entry namespace) → RecordOf s v q
    → (cs : List AnyCall) → NoneRestarts phase_machine s cs → AsItWas s (end phase_machine s cs) v
flag_lasts s namespace v q n h c f cs g = settled_stays s v h (record_named s v q f) (flag_settled s namespace v q n c f) cs g

-- ---- the older lock

-- A VARIABLE WITH THE OLDER LOCK IS NOT CHANGED, CREATED OR DELETED once "EOD" holds 01 under the phase policy
pub lock_lasts : (s : State) (phase : Bytes) (v : Variable) → length phase ≡ 16 → lockable v ≡ true → EnabledLocked s → ChosenFor s v (lock_entry phase v) → EndedDxe s phase
    → (cs : List AnyCall) → NoneRestarts phase_machine s cs → AsItWas s (end phase_machine s cs) v
lock_lasts s phase v p l h c d cs g = settled_stays s v h (lockable_named v l) (lock_settled s phase v p l c d) cs g

-- the entries stay, and so does the choice
chosen_moves : (s t : State) (v : Variable) (e : Bytes) → t.policy ≡ s.policy → ChosenFor s v e → ChosenFor t v e
chosen_moves s t v e q c = record { entries = c.entries; listed = subst⁻¹ (λ p. PolicyEntries p c.entries) q c.listed; choice = c.choice }

entries_stay : (cs : List Call) (s : State) → EnabledLocked s → NoneRestarts machine s cs → (end machine s cs).policy ≡ s.policy
entries_stay [] s h g = refl
entries_stay (c ∷ cs) s h g =
    let n = goes_on s c g.0 in
    entries_stay cs (step s c).1 (settled_lasts s c h n).0 g.1 ∙ entries_last s c h n

-- NO SET OF IT IS REFUSED FOR A LOCK at any moment at which "EOD" is absent
pub lock_waits_on : (s : State) (phase : Bytes) (v : Variable) → length phase ≡ 16 → lockable v ≡ true → EnabledLocked s → ChosenFor s v (lock_entry phase v)
    → (cs : List AnyCall) → NoneRestarts phase_machine s cs → Absent (end phase_machine s cs) (flag_variable phase end_of_dxe_name)
    → (r : Request) → r.variable ≡ v → (report : Report) → Answered (end phase_machine s cs) r report → Not (report.ground ≡ Some LockGround)
lock_waits_on s phase v p l h c cs g =
    let t = end phase_machine s cs in
    let q : t.policy ≡ s.policy = ap (λ x. x.policy) (ends_made cs s) ∙ entries_stay (made_by cs) s h (made_goes_on cs s g) in
    lock_waits t phase v p l (chosen_moves s t v (lock_entry phase v) q c)

-- ---- from the call on that creates a flag

module _ (s : State) (phase name : Bytes) (h : EnabledLocked s) where
  abbrev after : State
  after = (phase_step s (exit_flag phase name)).1

  goes : GoesOn s (set (flag phase name))
  goes e = absurd (false≢true e)

  after_enabled : EnabledLocked after
  after_enabled = (settled_lasts s (set (flag phase name)) h goes).0

  after_chosen : (v : Variable) (e : Bytes) → ChosenFor s v e → ChosenFor after v e
  after_chosen v e k = chosen_moves s after v e (entries_last s (set (flag phase name)) h goes) k

  -- THE FLAG HOLDS 01, with BS and RT alone, from then on; "EOD" and "RTB" too, whose calls are those of their names (`end_of_dxe_flag`, `ready_to_boot_flag`)
  pub flag_lasts_created : length phase ≡ 16 → ChosenFor s (flag_variable phase name) (flag_entry phase) → (phase_step s (exit_flag phase name)).0.status ≡ Success
      → (cs : List AnyCall) → NoneRestarts phase_machine after cs → FlagStands (end phase_machine after cs) phase name
  flag_lasts_created p c done cs g =
      let f = flag_created s phase name done in
      let k = flag_lasts after phase (flag_variable phase name) f.flag p after_enabled (after_chosen (flag_variable phase name) (flag_entry phase) c) f.stands cs g in
      record { flag = f.flag; stands = (k.stands f.flag).0 f.stands; holds = f.holds; attributes = f.attributes }

-- AND A VARIABLE WITH THE OLDER LOCK IS AS IT WAS, from the end of DXE on
pub lock_lasts_from : (s : State) (phase : Bytes) (v : Variable) → length phase ≡ 16 → lockable v ≡ true → EnabledLocked s
    → ChosenFor s (flag_variable phase end_of_dxe_name) (flag_entry phase) → ChosenFor s v (lock_entry phase v) → (phase_step s (end_of_dxe phase)).0.status ≡ Success
    → (cs : List AnyCall) → NoneRestarts phase_machine (phase_step s (end_of_dxe phase)).1 cs
    → AsItWas (phase_step s (end_of_dxe phase)).1 (end phase_machine (phase_step s (end_of_dxe phase)).1 cs) v
lock_lasts_from s phase v p l h c k done cs g =
    let moves = after_chosen s phase end_of_dxe_name h in
    let f = flag_created s phase end_of_dxe_name done in
    lock_lasts (phase_step s (end_of_dxe phase)).1 phase v p l (after_enabled s phase end_of_dxe_name h) (moves v (lock_entry phase v) k)
    (record { policy = moves (flag_variable phase end_of_dxe_name) (flag_entry phase) c; flag = f.flag; stands = f.stands; holds = f.holds }) cs g
