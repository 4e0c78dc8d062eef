-- The states that calls lead to. A power-on that answers 0 leads to a sound state from any state, and every call from a
-- sound state to a sound state. Assumes nothing.
use Rattle.std.specs.Prelude.{suc, ◌+◌, ◌≤◌, ◌≡◌, refl, List, [], ◌∷◌, ◌++◌, Bool, true, false, not, cond, length, eqb, leb}
use Rattle.std.proofs.Common.{sym, ap, ◌∙◌, true≢false, arith, le-leb, leb-true}
use Rattle.std.proofs.Math.Path.{subst⁻¹}
use Rattle.std.proofs.lemmas.Bool.{false≢true}
use Rattle.limits.specs.Limits.{max_entries, policy_bytes, max_store}
use Rattle.lists.specs.Lists.{nil, more}
use Rattle.lists.proofs.ListsLaws.{all_append}
use Rattle.slices.specs.Test.{◌and◌}
use Rattle.slices.proofs.TestLaws.{and_left, and_right}
use Rattle.slices.specs.Bytes.{Bytes}
use Rattle.slices.specs.Chunks.{flat, contains, distinct}
use Rattle.entry.specs.Entry.{well_formed, same_target}
use Rattle.policy.specs.Policy.{entries_of, empty_policy, policy_valid}
use Rattle.policy.proofs.PolicyLaws.{policy_valid-length, sizes_sum-flat, entries_of-formed, entries_of-pack, entries_policy, policy_append}
use Rattle.policy.specs.Choice.{chosen}
use Rattle.store.proofs.StoreLaws.{store_ok-length}
use Rattle.stores.specs.Pair.{sound, sound_alone}
use Rattle.stores.proofs.PairLaws.{sound_erased, sound_alone_lem, sound_vol}
use Rattle.status.specs.declared.Status.{Status}
use Rattle.status.specs.declared.Status.TheVariants.{Success, InvalidParameter, Unsupported, WriteProtected, OutOfResources, VolumeCorrupted, AlreadyStarted}
use Rattle.status.specs.Status.{is_success}
use Rattle.rules.specs.Decision.{Refuse}
use Rattle.rules.specs.Set.{Request, decision_status}
use Rattle.rules.proofs.SetLaws.{set_sound}
use Rattle.rules.proofs.EngineLaws.{step_status, granted_effect}
use Rattle.rules.specs.Engine.{State, Call, power_on_status, restart_status, register_status, speaking, decision_by, decision_in, status, effect, step}
use Rattle.rules.specs.Engine.Call.{power_on, restart, register, dump, lock, disable, exit, query, read, set, settled}

-- sound stores, a valid policy record, and a disabled engine has leave to disable
pub record Sound (s : State) : Type 0 where
  pub stores : sound s.nv s.vol ≡ true
  pub policy : policy_valid s.policy ≡ true
  pub leave : s.switches.enabled ≡ false → s.switches.disabling_allowed ≡ true

-- ---- what a status of 0 says

-- a test before a status
pub passed : (b : Bool) (n : Status) → is_success (cond b n VolumeCorrupted) ≡ true → (b ≡ true) × (is_success n ≡ true)
passed true n h = (refl, h)
passed false n h = absurd (false≢true h)

-- and of a call that is not to be had after exit
pub unexited : (x : Bool) (n : Status) → is_success (cond x Unsupported n) ≡ true → (x ≡ false) × (is_success n ≡ true)
unexited true n h = absurd (false≢true h)
unexited false n h = (refl, h)

-- the same of a set
pub set_passed : (s : State) (r : Request) → is_success (status s (set r)) ≡ true
    → (sound s.nv s.vol and policy_valid s.policy ≡ true) × (is_success (decision_status (decision_in s r)) ≡ true)
set_passed s r h = go (sound s.nv s.vol and policy_valid s.policy) h
  where
    go : (b : Bool) → is_success (decision_status (cond b (decision_in s r) (Refuse VolumeCorrupted))) ≡ true → (b ≡ true) × (is_success (decision_status (decision_in s r)) ≡ true)
    go true h = (refl, h)
    go false h = absurd (false≢true h)

-- a registration's tests
pub record Registered (locked : Bool) (es : List Bytes) (e : Bytes) : Type 0 where
  pub unlocked : locked ≡ false
  pub formed : well_formed e ≡ true
  pub new : contains (same_target e) es ≡ false
  pub few : suc (length es) ≤ max_entries
  pub room : length (flat es) + length e ≤ policy_bytes

register_tests : (l f a r : Bool)
    → is_success (cond l WriteProtected (cond (not f) InvalidParameter (cond a AlreadyStarted (cond r Success OutOfResources)))) ≡ true
    → (l ≡ false) × (f ≡ true) × (a ≡ false) × (r ≡ true)
register_tests true f a r h = absurd (false≢true h)
register_tests false false a r h = absurd (false≢true h)
register_tests false true true r h = absurd (false≢true h)
register_tests false true false false h = absurd (false≢true h)
register_tests false true false true h = (refl, refl, refl, refl)

pub register_granted : (locked : Bool) (es : List Bytes) (e : Bytes) → is_success (register_status locked es e) ≡ true → Registered locked es e
unfolding register_status
register_granted locked es e h =
    let t = register_tests locked (well_formed e) (contains (same_target e) es)
    (leb (suc (length es)) max_entries and leb (length (flat es) + length e) policy_bytes) h in
    record {
      unlocked = t.0;
      formed = t.1;
      new = t.2;
      few = leb-true _ _ (and_left _ _ t.3);
      room = leb-true _ _ (and_right (leb (suc (length es)) max_entries) _ t.3);
    }

-- of a registration that answers 0
pub register_passed : (s : State) (e : Bytes) → is_success (status s (register e)) ≡ true
    → (policy_valid s.policy ≡ true) × (s.switches.exited ≡ false) × Registered s.switches.locked (entries_of s.policy) e
register_passed s e h =
    let p = passed (policy_valid s.policy) _ h in
    let x = unexited s.switches.exited _ p.1 in
    (p.0, x.0, register_granted s.switches.locked (entries_of s.policy) e x.1)

-- the entries afterwards: none, or the registered one behind the others
pub power_on_lists : (s : State) (allowed : Bool) → entries_of (effect s (power_on allowed)).policy ≡ []
power_on_lists s allowed = entries_of-pack [] nil

pub restart_lists : (s : State) (allowed : Bool) → entries_of (effect s (restart allowed)).policy ≡ []
restart_lists s allowed = entries_of-pack [] nil

pub register_lists : (s : State) (e : Bytes) → is_success (status s (register e)) ≡ true
    → entries_of (effect s (register e)).policy ≡ entries_of s.policy ++ (e ∷ [])
register_lists s e h =
    let es = entries_of s.policy in
    let t = (register_passed s e h).2 in
    entries_of-pack (es ++ (e ∷ [])) (all_append es (e ∷ []) (entries_of-formed s.policy) (more t.formed nil))

-- a disable's tests
disable_tests : (x e l a : Bool) → is_success (cond x Unsupported (cond e (cond l WriteProtected (cond a Success WriteProtected)) AlreadyStarted)) ≡ true → a ≡ true
disable_tests true e l a h = absurd (false≢true h)
disable_tests false true true a h = absurd (false≢true h)
disable_tests false true false true h = refl
disable_tests false true false false h = absurd (false≢true h)
disable_tests false false l a h = absurd (false≢true h)

-- ---- power-on

pub empty_valid : policy_valid empty_policy ≡ true
unfolding flat distinct
empty_valid = entries_policy [] (record { formed = nil; few = omega arith; room = omega arith; apart = refl })

powered : (s : State) (allowed : Bool) → is_success (status s (power_on allowed)) ≡ true → Sound (effect s (power_on allowed))
unfolding power_on_status
powered s allowed h =
    let t = (passed (sound_alone s.nv and leb (length s.vol) max_store and eqb (length s.policy) policy_bytes) Success h).0 in
    record {
      stores = sound_erased s.nv (length s.vol) (and_left _ _ t) (leb-true _ _ (and_left _ _ (and_right (sound_alone s.nv) _ t)));
      policy = empty_valid;
      leave = λ x. absurd (true≢false x);
    }

-- ---- every call

effect_sound : (s : State) (c : Call) → Sound s → is_success (status s c) ≡ true → Sound (effect s c)
unfolding decision_by
effect_sound s (power_on allowed) w h = powered s allowed h
effect_sound s (restart allowed) w h = record { stores = w.stores; policy = empty_valid; leave = λ x. absurd (true≢false x) }
effect_sound s (register e) w h =
    let t = (register_passed s e h).2 in
    let few = t.few in
    let room = t.room in
    record {
      stores = w.stores;
      policy = policy_append s.policy e w.policy t.formed t.new (omega arith) (omega (arith, sizes_sum-flat s.policy));
      leave = w.leave;
    }
effect_sound s (dump buffer) w h = w
effect_sound s lock w h = record { stores = w.stores; policy = w.policy; leave = w.leave }
effect_sound s disable w h =
    record {
      stores = w.stores;
      policy = w.policy;
      leave = λ x. disable_tests s.switches.exited s.switches.enabled s.switches.locked s.switches.disabling_allowed h;
    }
effect_sound s exit w h = record { stores = w.stores; policy = w.policy; leave = w.leave }
effect_sound s query w h = w
effect_sound s (read v) w h = w
effect_sound s (set r) w h =
    record {
      stores = set_sound s.switches.exited (speaking s.switches.enabled (chosen (entries_of s.policy) r.variable)) s.nv s.vol r w.stores;
      policy = w.policy;
      leave = w.leave;
    }
effect_sound s (settled v) w h = w

-- EVERY CALL FROM A SOUND STATE LEADS TO A SOUND STATE
pub step_sound : (s : State) (c : Call) → Sound s → Sound (step s c).1
unfolding step
step_sound s c w = go (is_success (status s c)) refl
  where
    go : (b : Bool) → is_success (status s c) ≡ b → Sound (cond b (effect s c) s)
    go true e = effect_sound s c w e
    go false e = w

-- A POWER-ON THAT ANSWERS 0 LEADS TO A SOUND STATE, whatever the state was
pub power_on_sound : (s : State) (allowed : Bool) → is_success (step s (power_on allowed)).0.status ≡ true → Sound (step s (power_on allowed)).1
power_on_sound s allowed h =
    subst⁻¹ Sound (granted_effect s (power_on allowed) h) (powered s allowed (ap is_success (sym (step_status s (power_on allowed))) ∙ h))

-- A SOUND STATE REFUSES NO POWER-ON AND NO RESTART
pub power_on_done_lem : (s : State) (allowed : Bool) → Sound s → is_success (status s (power_on allowed)) ≡ true
unfolding power_on_status ◌and◌
power_on_done_lem s allowed w =
    rw (
      sound_alone_lem s.nv s.vol w.stores,
      le-leb (length s.vol) max_store (store_ok-length false s.vol (sound_vol s.nv s.vol w.stores)),
      policy_valid-length s.policy w.policy,
    )

pub restart_done_lem : (s : State) (allowed : Bool) → Sound s → is_success (status s (restart allowed)) ≡ true
unfolding restart_status ◌and◌
restart_done_lem s allowed w = rw (w.stores, policy_valid-length s.policy w.policy)
