-- When the lock rule of an entry locks, by what the code found. Assumes nothing.
use Prim.Native.Nat.{ℕ, ◌+◌, ◌-◌}
use mathlib.Core.Path.{◌≡◌, refl, sym, ap, ap₂, subst⁻¹, ◌∙◌}
use mathlib.Core.List.{[], ◌∷◌}
use mathlib.Core.Bool.{Bool, true, false, cond}
use mathlib.Core.Option.{Option, none, some}
use native.Mathlib.Omega.{arith}
use lib.Dec.{eqb}
use Rattle.limits.specs.Limits.{trigger_namespace_at, trigger_name_at}
use Rattle.slices.specs.Bytes.{Bytes, part, same, pairwise}
use Rattle.names.specs.Name.{Variable, variable}
use Rattle.entry.specs.Entry.{lock_of, lock_policy_type, trigger_of, trigger_value, offset_to_name}
use Rattle.entry.specs.declared.Trigger.{Trigger}
use Rattle.entry.specs.declared.LockRule.{LockRule}
use Rattle.entry.specs.declared.LockRule.TheVariants.{NoLock, LockNow, LockOnCreate, LockOnVarState}
use Rattle.store.specs.Parts.{payload_in}
use Rattle.store.specs.declared.Found.{Found}
use Rattle.std.specs.Prelude as std
use Rattle.stores.specs.Pair.{lookup}
use Rattle.stores.specs.declared.Place.{Place}
use Rattle.stores.specs.Place.{Within, place_in, is_somewhere, record_at}
use Rattle.stores.proofs.PlaceLaws.{lookup_place, place_within_stores}
use Rattle.rules.specs.Set.{Lookup, exists, holds_value, rule_locks, locks}
use Rattle.set.specs.declared.located.Located.{Located}

-- ---- what a place tells

-- where the variable stands is within the stores
pub located_within : (l : Located) → Within l.stores.nv.now l.stores.vol.now l.place
located_within l = subst⁻¹ (Within l.stores.nv.now l.stores.vol.now) l.stands (place_within_stores _ _ _)

pub exists_at : (nv vol : Bytes) (p : Place) → exists (record_at nv vol p) ≡ is_somewhere p
unfolding exists
exists_at nv vol p = go p.found
  where
    go : (o : std.Option Found) → exists (record_at nv vol (record { nonvolatile = p.nonvolatile; found = o })) ≡ is_somewhere (record { nonvolatile = p.nonvolatile; found = o })
    go (std.Some f) = refl
    go std.None = refl

pub exists_place : (nv vol : Bytes) (v : Variable) (p : Place) → p ≡ place_in nv vol v → is_somewhere p ≡ exists (lookup nv vol v)
exists_place nv vol v p e = sym (ap exists (lookup_place nv vol v ∙ ap (record_at nv vol) (sym e)) ∙ exists_at nv vol p)

pub holds_found : (o : Option Bytes) (value : ℕ) → same (payload_in o) (value ∷ []) ≡ holds_value o value
unfolding holds_value pairwise
holds_found none value = refl
holds_found (some r) value = refl

-- as the code reads the trigger: its namespace g and name n, and the payload d that it looks up
pub trigger_by : {x : Bool} {d g n g' n' : Bytes} (found : Lookup) (value : ℕ) → x ≡ same d (value ∷ []) → d ≡ payload_in (found (variable g n)) → g ≡ g' → n ≡ n'
    → x ≡ holds_value (found (variable g' n')) value
trigger_by found value e₁ e₂ e₃ e₄ =
    e₁ ∙ ap (λ l. same l (value ∷ [])) e₂ ∙ holds_found (found (variable _ _)) value ∙ ap₂ (λ a b. holds_value (found (variable a b)) value) e₃ e₄

-- ---- what a rule tells

-- the trigger of a type 3 entry, as its places in the entry's bytes
abbrev pub trigger_in : Bytes → Trigger
trigger_in e = record { value = trigger_value e; namespace = trigger_namespace_at; name = trigger_name_at; name_end = offset_to_name e - 2 }

pub rule_trigger : (e : Bytes) (t : Trigger) → LockOnVarState t ≡ lock_of e → t ≡ trigger_in e
unfolding lock_of
rule_trigger e t q = go (eqb (lock_policy_type e) 0) (eqb (lock_policy_type e) 1) (eqb (lock_policy_type e) 2) q
  where
    go : (a b c : Bool) → LockOnVarState t ≡ cond a NoLock (cond b LockNow (cond c LockOnCreate (LockOnVarState (trigger_in e)))) → t ≡ trigger_in e
    go true b c k = let z : ◌≡◌ {A = ℕ} 0 1 = cc in absurd (omega arith)
    go false true c k = let z : ◌≡◌ {A = ℕ} 0 1 = cc in absurd (omega arith)
    go false false true k = let z : ◌≡◌ {A = ℕ} 0 1 = cc in absurd (omega arith)
    go false false false k = cc

-- where the trigger of a type 3 rule begins
pub trigger_place : (e : Bytes) (t : Trigger) → LockOnVarState t ≡ lock_of e → t.namespace ≡ trigger_namespace_at
trigger_place e t q = ap (λ x. x.namespace) (rule_trigger e t q)

-- the rule that an entry holds, once it is known to be r, locks where the entry does
module _ (e : Bytes) (found : Lookup) (v : Variable) {rule : LockRule} (q : rule ≡ lock_of e) where
  pub rule_locks_lem : (r : LockRule) → rule ≡ r → rule_locks r e found v ≡ locks e found v
  unfolding locks
  rule_locks_lem r k = ap (λ x. rule_locks x e found v) (sym k ∙ q)

  -- a type 3 rule by its trigger, as the code reads it
  pub trigger_locks : {x : Bool} (t : Trigger) → rule ≡ LockOnVarState t
      → x ≡ holds_value (found (variable (part t.namespace (t.namespace + 16) e) (part t.name t.name_end e))) t.value → x ≡ locks e found v
  unfolding trigger_of
  trigger_locks t k h =
      h
      ∙ ap (λ y. holds_value (found (variable (part y.namespace (y.namespace + 16) e) (part y.name y.name_end e))) y.value) (rule_trigger e t (sym k ∙ q))
      ∙ rule_locks_lem (LockOnVarState t) k
