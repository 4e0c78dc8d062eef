-- Sizes (RULES.md, 10.9 and 12.7): what a granted set leaves of its variable is of a size that the entry allows which was enforced on it, and no
-- other call takes a variable out of such bounds. Assumes nothing.
use Rattle.std.specs.Prelude.{ℕ, ◌≤◌, ◌<◌, ◌≡◌, refl, ◌++◌, Bool, true, false, not, length}
use Rattle.std.proofs.Common.{sym, ap₂, subst, ◌∙◌, true≢false, arith, length-append, lit<}
use Rattle.std.proofs.Math.Path.{subst⁻¹}
use Rattle.slices.specs.Bytes.{Bytes}
use Rattle.names.specs.Name.{Variable}
use Rattle.entry.specs.Entry.{min_size, max_size}
use Rattle.store.specs.Record.{payload_of, is_of}
use Rattle.store.proofs.VariableLaws.{is_of-self, is_of-variable}
use Rattle.stores.specs.Pair.{lookup}
use Rattle.stores.proofs.PairLaws.{lookup_erased}
use Rattle.status.specs.declared.Status.TheVariants.{Success, InvalidParameter}
use Rattle.status.specs.Status.{is_success}
use Rattle.status.proofs.StatusLaws.{success_only}
use Rattle.rules.specs.Set.{Request, is_deletion, is_empty_append}
use Rattle.rules.specs.Engine.{State, Call, effect, step}
use Rattle.rules.specs.Engine.Call.{power_on, set}
use Rattle.rules.proofs.EngineLaws.{OnlyIf, StoreWriter, store_writer, refused_changes_nothing, granted_effect, kept}
use Rattle.rules.proofs.EngineLaws.StoreWriter.{powers_on, sets, no_writer}
use Rattle.rules.proofs.StateLaws.{Sound}
use Rattle.rules.specs.Grounds.{Not, Deletion, Enforced, RecordOf, Absent, PayloadAfter, Applies}
use Rattle.rules.specs.Grounds.Applies.{set_deleted, set_empty_append, set_done, set_too_short, set_too_long}
use Rattle.rules.proofs.GroundsLaws.{status_exactly}
use Rattle.rules.proofs.ConditionLaws.{tells_off, tells_deletion, tells_nothing}
use Rattle.rules.proofs.FoundLaws.{tells_sound, found_lookup, lookup_found, one_record}
use Rattle.rules.specs.Effects.{SetByName}
use Rattle.rules.proofs.EffectsLaws.{same_found, set_by_name}

-- a length between an entry's MinSize and MaxSize
abbrev pub SizeWithin : Bytes → ℕ → Type 0
SizeWithin e n = (min_size e ≤ n) × (n ≤ max_size e)

-- a granted set has passed the ground of size
past_size : (s : State) (r : Request) (k : ℕ) → Applies s (set r) k Success → 41 < k
past_size s r k (set_deleted d) = lit< tt
past_size s r k (set_empty_append h) = lit< tt
past_size s r k set_done = lit< tt

module _ (s : State) (r : Request) (e : Bytes) (w : Enforced s r e) (d : Not (Deletion r)) (granted : is_success (step s (set r)).0.status ≡ true) where
  -- the payload as it would be afterwards, be it stored or, as by an empty append, left
  after_within : (p : Bytes) → PayloadAfter s r p → SizeWithin e (length p)
  after_within p a =
      let z = (status_exactly s (set r) Success).0 (success_only _ granted) in
      let o = z.at.first 41 InvalidParameter (past_size s r z.place z.at.applies) in
      let short : Not (length p < min_size e) = λ h. o (set_too_short e p w d a h) in
      let long : Not (max_size e < length p) = λ h. o (set_too_long e p w d a h) in
      (omega arith, omega arith)

  -- WHAT IS STORED IS OF A SIZE THAT THE ENTRY ALLOWS, after a granted set that is no deletion, if the variable then exists
  pub stored_within : (q : Bytes) → RecordOf (step s (set r)).1 r.variable q → SizeWithin e (length (payload_of q))
  stored_within q f = go (is_empty_append r.attributes r.payload) refl
    where
      go : (b : Bool) → is_empty_append r.attributes r.payload ≡ b → SizeWithin e (length (payload_of q))
      go true h =
          let n = (tells_nothing r).0 h in
          let g = subst (λ t. RecordOf t r.variable q) ((set_by_name s r granted).unchanged n) f in
          let l : length (payload_of q ++ r.payload) ≡ length (payload_of q) = length-append (payload_of q) r.payload ∙ rw n.1 (omega arith) in
          subst (SizeWithin e) l (after_within (payload_of q ++ r.payload) (PayloadAfter.joined q n.0 g refl))
      go false h =
          let y = (set_by_name s r granted).stored d (tells_off _ (tells_nothing r) h) in
          let same = one_record (step s (set r)).1 r.variable y.0 q y.1 f in
          subst (λ x. SizeWithin e (length (payload_of x))) same (after_within (payload_of y.0) y.4)

-- ---- over a history

-- where the call is a granted set of v that is no deletion, the entry e is enforced on it
abbrev pub EnforcedAt : Bytes → Variable → State → Call → Type 0
EnforcedAt e v s c = (r : Request) → c ≡ set r → r.variable ≡ v → Not (Deletion r) → is_success (step s c).0.status ≡ true → Enforced s r e

-- v, if it exists, is of a size that e allows
abbrev pub Sized : Bytes → Variable → State → Type 0
Sized e v s = (q : Bytes) → RecordOf s v q → SizeWithin e (length (payload_of q))

pub absent_sized : (e : Bytes) (v : Variable) (s : State) → Absent s v → Sized e v s
absent_sized e v s absent q f = absurd (absent q f)

-- a granted set of any variable
set_sizes : (s : State) (r : Request) (e : Bytes) (v : Variable) → EnforcedAt e v s (set r) → Sized e v s
    → is_success (step s (set r)).0.status ≡ true → Sized e v (step s (set r)).1
set_sizes s r e v enforced sized granted q f = go (is_of r.variable q) (is_deletion r.attributes r.payload) refl refl
  where
    by_name : SetByName s r (step s (set r)).1
    by_name = set_by_name s r granted

    own : is_of r.variable q ≡ true → RecordOf (step s (set r)).1 r.variable q
    own h = subst⁻¹ (λ w. RecordOf (step s (set r)).1 w q) (is_of-variable r.variable q h ∙ f.own) f

    go : (b d : Bool) → is_of r.variable q ≡ b → is_deletion r.attributes r.payload ≡ d → SizeWithin e (length (payload_of q))
    go false d h k = sized q ((by_name.others v (λ x. true≢false (sym (subst⁻¹ (λ w. is_of w q ≡ true) (x ∙ sym f.own) (is_of-self q)) ∙ h)) q).1 f)
    go true true h k = absurd (by_name.deleted ((tells_deletion r).0 k) q (own h))
    go true false h k =
        let d = tells_off _ (tells_deletion r) k in
        stored_within s r e (enforced r refl (is_of-variable r.variable q h ∙ f.own) d granted) d granted q (own h)

-- a granted call
granted_sizes : (s : State) (c : Call) (e : Bytes) (v : Variable) → Sound s → EnforcedAt e v s c → Sized e v s
    → is_success (step s c).0.status ≡ true → StoreWriter c → Sized e v (step s c).1
granted_sizes s c e v ok enforced sized granted (powers_on allowed) q f =
    let t = effect s (power_on allowed) in
    let g : RecordOf t v q = subst (λ x. RecordOf x v q) (granted_effect s (power_on allowed) granted) f in
    sized q (lookup_found s v q ((tells_sound s.nv s.vol).0 ok.stores) (lookup_erased s.nv s.vol v (length s.vol) q (found_lookup t v q g)))
granted_sizes s c e v ok enforced sized granted (sets r) q f = set_sizes s r e v enforced sized granted q f
granted_sizes s c e v ok enforced sized granted (no_writer {c = d} a b) q f =
    let t = (step s d).1 in
    let nv-is = subst (λ x. OnlyIf (not x) (t.nv ≡ s.nv)) a (kept s d).nv in
    let vol-is = subst (λ x. OnlyIf (not x) (t.vol ≡ s.vol)) b (kept s d).vol in
    sized q (same_found t s v ((tells_sound s.nv s.vol).0 ok.stores) (sym (ap₂ (λ x y. lookup x y v) nv-is vol-is)) q f)

-- A CALL KEEPS THE SIZE WITHIN THE BOUNDS of an entry that is enforced where the call sets the variable
pub step_sizes : (s : State) (c : Call) (e : Bytes) (v : Variable) → Sound s → EnforcedAt e v s c → Sized e v s → Sized e v (step s c).1
step_sizes s c e v ok enforced sized = go (is_success (step s c).0.status) refl
  where
    go : (b : Bool) → is_success (step s c).0.status ≡ b → Sized e v (step s c).1
    go true h = granted_sizes s c e v ok enforced sized h (store_writer c)
    go false h = subst⁻¹ (Sized e v) (refused_changes_nothing s c h) sized
