-- HOW LONG A LOCK LASTS (RULES.md, 12.9): with the engine enabled and locked, no list of calls up to the next granted start changes, creates or deletes a variable to
-- which `settled` answers yes, and it goes on to answer yes (`how_long_lem`). With rebuilds between: HowLongRebuilt.antt. Assumes nothing.
use Rattle.std.specs.Prelude.{◌≡◌, List, [], ◌∷◌, true}
use Rattle.names.specs.Name.{Variable}
use Rattle.rules.specs.Engine.{State, Call, is_settled, step}
use Rattle.rules.specs.Engine.Call.{settled}
use Rattle.rules.specs.SettledStays.{EnabledLocked, Lasts, yes, Yes}
use Rattle.rules.proofs.SettledStays.{lasts_more, settled_lasts, yes_says, says_yes}
use Rattle.history.specs.History.{end}
use Rattle.history.specs.StandingOrder.{NoneRestarts}
use Rattle.demand3.specs.Machine.{machine}
use Rattle.demand3.specs.HowLong.{AsItWas}
use Rattle.demand3.proofs.AfterExit.{goes_on}

-- ---- a list of calls

lasts_on : (cs : List Call) (s : State) → EnabledLocked s → NoneRestarts machine s cs → (v : Variable) → is_settled s v ≡ true → EnabledLocked (end machine s cs) × Lasts s (end machine s cs) v
lasts_on [] s h n v y = (h, record { stands = λ q. ((λ f. f), λ f. f); settled = y })
lasts_on (c ∷ cs) s h n v y =
    let k = settled_lasts s c h (goes_on s c n.0) in
    let a = k.1 v y in
    let r = lasts_on cs (step s c).1 k.0 n.1 v a.settled in
    (r.0, lasts_more s (step s c).1 (end machine (step s c).1 cs) v a r.1)

enabled_locked : (s : State) (v : Variable) → Yes s v → s.switches.enabled ≡ true → s.switches.locked ≡ true → EnabledLocked s
enabled_locked s v k e l = record { stores = k.stores; policy = k.policy; enabled = e; locked = l }

-- THE CLAIM: where the call answers yes and the engine is enabled and locked, after any list of calls without a granted start; and so at every moment of a longer one
pub how_long_lem : (s : State) (v : Variable) → (step s (settled v)).0 ≡ yes → s.switches.enabled ≡ true → s.switches.locked ≡ true
    → (cs : List Call) → NoneRestarts machine s cs → AsItWas s (end machine s cs) v
how_long_lem s v a e l cs n =
    let k = yes_says s v a in
    let r = lasts_on cs s (enabled_locked s v k e l) n v k.settled in
    record {
      stands = r.1.stands;
      answers = says_yes (end machine s cs) v (record { stores = r.0.stores; policy = r.0.policy; called = k.called; settled = r.1.settled });
      enabled = r.0.enabled;
      locked = r.0.locked;
    }
