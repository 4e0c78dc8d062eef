-- HOW LONG A LOCK LASTS (RULES.md, 12.9), one call: with the engine enabled and locked, no call but a granted start changes, creates or deletes a settled variable, and it
-- stays settled (`settled_lasts`). Over a list of calls: HowLong.antt in `demand3`. Assumes nothing.
use Rattle.std.specs.Prelude.{ℕ, ◌<◌, ◌≡◌, refl, [], Bool, true, false, cond}
use Rattle.std.proofs.Common.{sym, ap, ◌∙◌, true≢false, arith, lit<}
use Rattle.std.proofs.Math.Path.{subst⁻¹}
use Rattle.std.proofs.Math.Option.{none}
use Rattle.limits.specs.Limits.{max_links}
use Rattle.slices.specs.Test.{◌and◌}
use Rattle.names.specs.Name.{Variable, named}
use Rattle.policy.specs.Policy.{entries_of, policy_valid}
use Rattle.policy.specs.Choice.{chosen}
use Rattle.stores.specs.Pair.{sound, lookup}
use Rattle.status.specs.declared.Status.TheVariants.{Success, InvalidParameter, Unsupported, WriteProtected, VolumeCorrupted}
use Rattle.status.specs.Status.{is_success}
use Rattle.status.proofs.StatusLaws.{success_only}
use Rattle.rules.specs.Set.{Request}
use Rattle.rules.specs.Settled.{settled_in}
use Rattle.rules.specs.Engine.{State, Call, decision_by, settled_status, is_settled, answer_of, refusal, effect, step}
use Rattle.rules.specs.Engine.Call.{power_on, restart, register, dump, lock, disable, exit, query, read, set, settled}
use Rattle.rules.proofs.EngineLaws.{step_status, refused_changes_nothing, granted_effect}
use Rattle.rules.proofs.StateLaws.{register_passed}
use Rattle.rules.specs.Grounds.{Not, Enforced, Applies, Answers}
use Rattle.rules.specs.SettledStays.{EnabledLocked, Lasts, yes, Yes}
use Rattle.rules.specs.Grounds.Applies.{set_locked, set_deleted, set_empty_append, set_done}
use Rattle.rules.proofs.FoundLaws.{tells_sound}
use Rattle.rules.proofs.SetGroundsLaws.{chosen_entry, tells_locks}
use Rattle.rules.proofs.SetLaws.{set_sound, set_others}
use Rattle.rules.proofs.GroundsLaws.{status_exactly}
use Rattle.rules.proofs.EffectsLaws.{same_found}
use Rattle.rules.proofs.ExitLaws.{is_start, GoesOn}
use Rattle.rules.proofs.SettledLaws.{chosen_for, chosen_formed, settled_locks, settled_moves}

pub lasts_more : (s t u : State) (v : Variable) → Lasts s t v → Lasts t u v → Lasts s u v
lasts_more s t u v a b =
    record { stands = λ q. ((λ f. (b.stands q).0 ((a.stands q).0 f)), λ f. (a.stands q).1 ((b.stands q).1 f)); settled = b.settled }

-- ---- what one call leaves: the entries, and the record of every variable that is settled by whatever number of links
record Keeps (s t : State) : Type 0 where
  engine : EnabledLocked t
  policy : t.policy ≡ s.policy
  found : (n : ℕ) (v : Variable) → settled_in n (chosen (entries_of s.policy)) (lookup s.nv s.vol) v ≡ true
      → lookup t.nv t.vol v ≡ lookup s.nv s.vol v

keeps_same : (s : State) → EnabledLocked s → Keeps s s
keeps_same s h = record { engine = h; policy = refl; found = λ n v y. refl }

keeps_lasts : (s t : State) → EnabledLocked s → Keeps s t → (v : Variable) → is_settled s v ≡ true → Lasts s t v
keeps_lasts s t h k v y =
    record {
      stands = λ q. (
        same_found s t v ((tells_sound t.nv t.vol).0 k.engine.stores) (k.found max_links v y) q,
        same_found t s v ((tells_sound s.nv s.vol).0 h.stores) (sym (k.found max_links v y)) q,
      );
      settled = rw k.policy (settled_moves (chosen (entries_of s.policy)) (lookup s.nv s.vol) (lookup t.nv t.vol) k.found max_links v y);
    }

-- ---- a granted set

past_43 : (s : State) (r : Request) (k : ℕ) → Applies s (set r) k Success → 43 < k
past_43 s r k (set_deleted d) = lit< tt
past_43 s r k (set_empty_append e) = lit< tt
past_43 s r k set_done = lit< tt

module _ (s : State) (h : EnabledLocked s) (r : Request) (granted : is_success (step s (set r)).0.status ≡ true) where
  answers0 : Answers s (set r) Success
  answers0 = (status_exactly s (set r) Success).0 (success_only _ granted)

  -- is not of a settled variable: its lock would have been a ground
  own_unsettled : (n : ℕ) → Not (settled_in n (chosen (entries_of s.policy)) (lookup s.nv s.vol) r.variable ≡ true)
  own_unsettled n y =
      let w = settled_locks n (chosen (entries_of s.policy)) (lookup s.nv s.vol) r.variable y in
      let c = chosen_for s h.policy w.1 in
      let enforced : Enforced s r w.0 = record { enabled = h.enabled; entries = c.entries; listed = c.listed; choice = c.choice } in
      answers0.at.first 43 WriteProtected (past_43 s r answers0.place answers0.at.applies)
      (set_locked w.0 enforced ((tells_locks s ((tells_sound s.nv s.vol).0 h.stores) w.0 (chosen_formed s c) r.variable).0 w.2))

  set_keeps : Keeps s (effect s (set r))
  unfolding decision_by
  set_keeps =
      record {
        engine = record {
          stores = set_sound s.switches.exited (chosen_entry s r) s.nv s.vol r h.stores;
          policy = h.policy;
          enabled = h.enabled;
          locked = h.locked;
        };
        policy = refl;
        found = λ n v y.
            set_others s.switches.exited (chosen_entry s r) s.nv s.vol r h.stores v
            (λ e. own_unsettled n (subst⁻¹ (λ u. settled_in n (chosen (entries_of s.policy)) (lookup s.nv s.vol) u ≡ true) e y));
      }

-- ---- every call

-- a lock and a disable of a locked engine are refused
lock_refused : (x : Bool) → is_success (cond x Unsupported WriteProtected) ≡ false
lock_refused true = refl
lock_refused false = refl

granted_keeps : (s : State) (c : Call) → EnabledLocked s → is_start c ≡ false → is_success (step s c).0.status ≡ true → Keeps s (effect s c)
unfolding step
granted_keeps s (power_on allowed) h n g = absurd (true≢false n)
granted_keeps s (restart allowed) h n g = absurd (true≢false n)
granted_keeps s (register e) h n g =
    absurd (true≢false (sym h.locked ∙ (register_passed s e (ap is_success (sym (step_status s (register e))) ∙ g)).2.unlocked))
granted_keeps s (dump buffer) h n g = keeps_same s h
granted_keeps s lock h n g =
    absurd (true≢false (sym (ap is_success (sym (step_status s lock)) ∙ g) ∙ rw h.locked (lock_refused s.switches.exited)))
granted_keeps s disable h n g =
    absurd (true≢false (sym (ap is_success (sym (step_status s disable)) ∙ g) ∙ rw (h.enabled, h.locked) (lock_refused s.switches.exited)))
granted_keeps s exit h n g =
    record { engine = record { stores = h.stores; policy = h.policy; enabled = h.enabled; locked = h.locked }; policy = refl; found = λ n v y. refl }
granted_keeps s query h n g = keeps_same s h
granted_keeps s (read v) h n g = keeps_same s h
granted_keeps s (set r) h n g = set_keeps s h r g
granted_keeps s (settled v) h n g = keeps_same s h

step_keeps : (s : State) (c : Call) → EnabledLocked s → GoesOn s c → Keeps s (step s c).1
step_keeps s c h n = go (is_start c) (is_success (step s c).0.status) refl refl
  where
    go : (b g : Bool) → is_start c ≡ b → is_success (step s c).0.status ≡ g → Keeps s (step s c).1
    go b false e k = subst⁻¹ (Keeps s) (refused_changes_nothing s c k) (keeps_same s h)
    go true true e k = absurd (true≢false (sym k ∙ n e))
    go false true e k = subst⁻¹ (Keeps s) (granted_effect s c k) (granted_keeps s c h e k)

-- THE STEP LAW: every call but a granted start leaves the engine enabled and locked over sound stores, and every settled variable as it was, and settled
pub settled_lasts : (s : State) (c : Call) → EnabledLocked s → GoesOn s c → EnabledLocked (step s c).1 × ((v : Variable) → is_settled s v ≡ true → Lasts s (step s c).1 v)
settled_lasts s c h n = let k = step_keeps s c h n in (k.engine, keeps_lasts s (step s c).1 h k)

-- and it leaves the entries as they stand
pub entries_last : (s : State) (c : Call) → EnabledLocked s → GoesOn s c → (step s c).1.policy ≡ s.policy
entries_last s c h n = (step_keeps s c h n).policy

-- ---- by the call's own answer

pub yes_says : (s : State) (v : Variable) → (step s (settled v)).0 ≡ yes → Yes s v
unfolding step settled_status ◌and◌
yes_says s v h = go (sound s.nv s.vol) (policy_valid s.policy) (named v) (is_settled s v) refl refl refl refl (ap (λ a. a.number) h)
  where
    -- beside every other outcome stands 0
    zero_one : {A : Type 0} → ◌≡◌ {A = ℕ} 0 1 → A
    zero_one e = absurd (omega arith)

    go : (b p n y : Bool) → sound s.nv s.vol ≡ b → policy_valid s.policy ≡ p → named v ≡ n → is_settled s v ≡ y
        → (cond (is_success (cond (b and p) (cond n Success InvalidParameter) VolumeCorrupted)) (answer_of Success (cond y 1 0) [] none)
        (refusal s (settled v) (cond (b and p) (cond n Success InvalidParameter) VolumeCorrupted))).number ≡ 1 → Yes s v
    go true true true true a b c d e = record { stores = a; policy = b; called = c; settled = d }
    go true true true false a b c d e = zero_one e
    go true true false y a b c d e = zero_one e
    go true false n y a b c d e = zero_one e
    go false p n y a b c d e = zero_one e

pub says_yes : (s : State) (v : Variable) → Yes s v → (step s (settled v)).0 ≡ yes
unfolding step settled_status ◌and◌
says_yes s v k = rw (k.stores, k.policy, k.called, k.settled)
