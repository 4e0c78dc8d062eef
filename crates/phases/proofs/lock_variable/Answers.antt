use mathlib.Core.Path.{◌≡◌, refl, ◌∙◌}
use lib.ListN.{length}
use Rattle.names.specs.Name.{Variable, variable}
use Rattle.phases.proofs.Written.{lockable_is, lock_refused, lock_registers, lockable_length, lock_fits, lock_cut, lock_cut_length}
use borrow.Author.Rules.{rules}
use mathlib.Core.Bool.{not}
use mathlib.Core.Path.{ap}
use Rattle.phases.proofs.lock_variable.Goals as goal

pub returns-then-not-is_lockable : goal.returns-then-not-is_lockable
returns-then-not-is_lockable c =
    let Asked : Variable = variable c.args.namespace c.args.name.now in
    let namespace_length : length c.args.namespace ≡ 16 = search rules in
    λ nv vol. lock_refused _ _ (Asked) (c.is_lockable.ensures ∙ lockable_is _ _ (namespace_length)) (ap not c.if-not-is_lockable.true) c.bad_name.ensures

pub put_lock-requires : goal.put_lock-requires
put_lock-requires c =
    let phase-length : length c.args.phase ≡ 16 = search rules in
    let namespace_length : length c.args.namespace ≡ 16 = search rules in
    let k = lockable_length _ c.is_lockable.ensures (ap not c.if-not-is_lockable.false) in
    (refl, phase-length, namespace_length, k.1, k.0)

pub slice_bounds-entry-end : goal.slice_bounds-entry-end
slice_bounds-entry-end c =
    let Asked : Variable = variable c.args.namespace c.args.name.now in
    let phase-length : length c.args.phase ≡ 16 = search rules in
    let namespace_length : length c.args.namespace ≡ 16 = search rules in
    let k = lockable_length _ c.is_lockable.ensures (ap not c.if-not-is_lockable.false) in
    lock_fits _ (Asked) _ _ (phase-length) (namespace_length) k.0 k.1 refl c.put_lock.ensures

pub slice_bounds-register-end : goal.slice_bounds-register-end
slice_bounds-register-end c =
    let Asked : Variable = variable c.args.namespace c.args.name.now in
    let phase-length : length c.args.phase ≡ 16 = search rules in
    let namespace_length : length c.args.namespace ≡ 16 = search rules in
    let k = lockable_length _ c.is_lockable.ensures (ap not c.if-not-is_lockable.false) in
    lock_cut_length _ (Asked) _ _ (phase-length) (namespace_length) k.0 k.1 refl c.put_lock.ensures

pub returns : goal.returns
returns c =
    let Asked : Variable = variable c.args.namespace c.args.name.now in
    let phase-length : length c.args.phase ≡ 16 = search rules in
    let namespace_length : length c.args.namespace ≡ 16 = search rules in
    let k = lockable_length _ c.is_lockable.ensures (ap not c.if-not-is_lockable.false) in
    λ nv vol. lock_registers _ _ (Asked) (c.is_lockable.ensures ∙ lockable_is _ _ (namespace_length)) (ap not c.if-not-is_lockable.false)
    (lock_cut _ (Asked) _ _ (phase-length) (namespace_length) k.0 k.1 refl c.put_lock.ensures) (c.register.ensures nv vol)
