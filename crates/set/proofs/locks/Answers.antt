use Rattle.set.proofs.LockRules.{exists_place, trigger_place, rule_locks_lem, trigger_locks}
use Rattle.stores.specs.Pair.{lookup}
use mathlib.Core.Path.{sym, ◌∙◌}
use Rattle.set.proofs.locks.Goals as goal

pub trigger_holds-requires : goal.trigger_holds-requires
trigger_holds-requires c = trigger_place _ _ (sym c.in-LockOnVarState.is ∙ c.requires)

pub returns-in-NoLock : goal.returns-in-NoLock
returns-in-NoLock c = let s = c.args.located.stores in rule_locks_lem _ (lookup s.nv.now s.vol.now) _ c.requires _ c.in-NoLock.is

pub returns-in-LockNow : goal.returns-in-LockNow
returns-in-LockNow c = let s = c.args.located.stores in rule_locks_lem _ (lookup s.nv.now s.vol.now) _ c.requires _ c.in-LockNow.is

pub returns-in-LockOnCreate : goal.returns-in-LockOnCreate
returns-in-LockOnCreate c =
    let s = c.args.located.stores in
    c.is_somewhere.ensures ∙ exists_place _ _ _ _ c.args.located.stands ∙ rule_locks_lem _ (lookup s.nv.now s.vol.now) _ c.requires _ c.in-LockOnCreate.is

pub returns-in-LockOnVarState : goal.returns-in-LockOnVarState
returns-in-LockOnVarState c =
    let s = c.args.located.stores in trigger_locks _ (lookup s.nv.now s.vol.now) _ c.requires _ c.in-LockOnVarState.is c.trigger_holds.ensures
