-- What is decided of a set, step by step, and what each decision says of its request. Assumes nothing.
use Rattle.std.specs.Prelude.{ℕ, ◌≤◌, ◌≡◌, Some, None, is_some, [], ◌∷◌, Bool, true, not, ◌||◌, cond, length, ltb}
use Rattle.std.specs.Prelude as std
use Rattle.std.proofs.Math.Path.{refl}
use Rattle.std.proofs.Common.{sym, ap, subst, ◌∙◌, true≢false, arith, ltb-false}
use Rattle.std.proofs.Math.Bool.{false}
use Rattle.std.proofs.lemmas.Bool.{false≢true}
use Rattle.std.proofs.Math.Option.{Option}
use Rattle.limits.specs.Limits.{max_payload}
use Rattle.slices.specs.Test.{◌and◌}
use Rattle.slices.specs.Bytes.{Bytes}
use Rattle.names.specs.Name.{named}
use Rattle.store.specs.Record.{has_nv, has_bs, has_rt, has_append}
use Rattle.store.specs.Store.{has_room}
use Rattle.stores.specs.Pair.{lookup}
use Rattle.status.specs.declared.Status.{Status}
use Rattle.status.specs.declared.Status.TheVariants.{Success, InvalidParameter, Unsupported, WriteProtected, OutOfResources, NotFound}
use Rattle.status.specs.Status.{is_success, status_number}
use Rattle.rules.specs.declared.Ground.{Ground}
use Rattle.rules.specs.declared.Ground.TheVariants.{SizeGround, AttributeGround, LockGround}
use Rattle.rules.specs.Decision.{Decision}
use Rattle.rules.specs.Decision.{Refuse, Block, Delete, Keep, Store}
use Rattle.rules.specs.Stored.{Stored}
use Rattle.rules.specs.Set.{Request, exists, is_empty, bad_request, unsupported_bit, needs_bs, needs_runtime, request_status, ground_status, ground_by, is_deletion, shown, exit_protects, other_attributes, is_empty_append, payload_after, record_after, store_of, write_decision, refuse_or, block_or, decision, decision_status}

-- every ground answers a refusal
pub bars : (g : Ground) → is_success (ground_status g) ≡ false
bars SizeGround = refl
bars AttributeGround = refl
bars LockGround = refl

-- what is answered where a ground is given, and where none is
abbrev said_status : std.Option Ground → Status
said_status None = Success
said_status (Some g) = ground_status g

-- where that is a refusal a ground is given
pub barring : (o : std.Option Ground) → is_success (said_status o) ≡ false → o ≡ None → ⊥
barring o f e = true≢false (sym (ap (λ x. is_success (said_status x)) e) ∙ f)

-- ---- the decision, by where its steps end

module _ (exited : Bool) (speaking : Option Bytes) (nv vol : Bytes) (r : Request) where
  -- at steps 1 to 3
  pub decision_refused : (n : Status) → request_status exited r ≡ n → is_success n ≡ false → decision exited speaking nv vol r ≡ Refuse n
  unfolding decision
  decision_refused n e h = rw (e, h)

  -- at step 4
  pub decision_blocked : (g : Ground) → is_success (request_status exited r) ≡ true → ground_by speaking (lookup nv vol) r ≡ Some g
      → decision exited speaking nv vol r ≡ Block g
  unfolding decision
  decision_blocked g h e = rw (h, e)

  -- at steps 5 to 9
  pub decision_written : is_success (request_status exited r) ≡ true → ground_by speaking (lookup nv vol) r ≡ None
      → decision exited speaking nv vol r ≡ write_decision exited nv vol (lookup nv vol r.variable) r
  unfolding decision
  decision_written h e = rw (h, e)

-- ---- which step ends it, and what the steps before it found

-- a request that steps 1 to 3 take
pub record Taken (exited : Bool) (r : Request) : Type 0 where
  pub called : named r.variable ≡ true
  pub short : ltb max_payload (length r.payload) ≡ false
  pub known : unsupported_bit r.attributes ≡ false
  pub bs : needs_bs r.attributes ≡ false
  pub runtime : needs_runtime exited r.attributes r.payload ≡ false

-- steps 1 to 3
data Asked (exited : Bool) (r : Request) : Status → Type 0 where
  bad_name : named r.variable ≡ false → Asked exited r InvalidParameter
  too_long : ltb max_payload (length r.payload) ≡ true → Asked exited r InvalidParameter
  unsupported : unsupported_bit r.attributes ≡ true → Asked exited r Unsupported
  without_bs : needs_bs r.attributes ≡ true → Asked exited r InvalidParameter
  not_runtime : needs_runtime exited r.attributes r.payload ≡ true → Asked exited r InvalidParameter
  taken : Taken exited r → Asked exited r Success

asked : (exited : Bool) (r : Request) → Asked exited r (request_status exited r)
unfolding request_status bad_request
asked exited r = go _ _ _ _ _ refl refl refl refl refl
  where
    go : (n l u b x : Bool) → named r.variable ≡ n → ltb max_payload (length r.payload) ≡ l → unsupported_bit r.attributes ≡ u → needs_bs r.attributes ≡ b
        → needs_runtime exited r.attributes r.payload ≡ x
        → Asked exited r (cond (not n || l) InvalidParameter (cond u Unsupported (cond b InvalidParameter (cond x InvalidParameter Success))))
    go false l u b x e f g h k = bad_name e
    go true true u b x e f g h k = too_long f
    go true false true b x e f g h k = unsupported g
    go true false false true x e f g h k = without_bs h
    go true false false false true e f g h k = not_runtime k
    go true false false false false e f g h k = taken (record { called = e; short = f; known = g; bs = h; runtime = k })

-- what a request that passes them is known by
pub taken_facts : (exited : Bool) (r : Request) → is_success (request_status exited r) ≡ true → Taken exited r
taken_facts exited r h = go (asked exited r) h
  where
    go : {n : Status} → Asked exited r n → is_success n ≡ true → Taken exited r
    go (bad_name e) h = absurd (false≢true h)
    go (too_long e) h = absurd (false≢true h)
    go (unsupported e) h = absurd (false≢true h)
    go (without_bs e) h = absurd (false≢true h)
    go (not_runtime e) h = absurd (false≢true h)
    go (taken t) h = t

-- it has a name
pub taken_named : (exited : Bool) (r : Request) → is_success (request_status exited r) ≡ true → named r.variable ≡ true
taken_named exited r h = (taken_facts exited r h).called

-- and no bit outside 0x47
pub supported : (exited : Bool) (r : Request) → is_success (request_status exited r) ≡ true → unsupported_bit r.attributes ≡ false
supported exited r h = (taken_facts exited r h).known

-- none of them answers 8
pub early_unlocked : (exited : Bool) (r : Request) → request_status exited r ≡ WriteProtected → ⊥
early_unlocked exited r h = go (asked exited r) (ap status_number h)
  where
    go : {n : Status} → Asked exited r n → status_number n ≡ 8 → ⊥
    go (bad_name e) h = omega (arith, h)
    go (too_long e) h = omega (arith, h)
    go (unsupported e) h = omega (arith, h)
    go (without_bs e) h = omega (arith, h)
    go (not_runtime e) h = omega (arith, h)
    go (taken t) h = omega (arith, h)

-- steps 5 to 9; `found` is what was found of the request's variable
data Written (exited : Bool) (nv vol : Bytes) (found : Option Bytes) (r : Request) : Decision → Type 0 where
  absent : is_deletion r.attributes r.payload ≡ true → exists (shown exited found) ≡ false → Written exited nv vol found r (Refuse NotFound)
  protected : is_deletion r.attributes r.payload ≡ true → exists (shown exited found) ≡ true → exit_protects exited found ≡ true
      → Written exited nv vol found r (Refuse WriteProtected)
  deleted : is_deletion r.attributes r.payload ≡ true → exists (shown exited found) ≡ true → exit_protects exited found ≡ false
      → Written exited nv vol found r Delete
  other : is_deletion r.attributes r.payload ≡ false → other_attributes found r.attributes ≡ true → Written exited nv vol found r (Refuse InvalidParameter)
  kept : is_deletion r.attributes r.payload ≡ false → other_attributes found r.attributes ≡ false
      → is_empty_append r.attributes r.payload ≡ true → Written exited nv vol found r Keep
  joined_too_long : is_deletion r.attributes r.payload ≡ false → other_attributes found r.attributes ≡ false
      → is_empty_append r.attributes r.payload ≡ false → ltb max_payload (length (payload_after found r.attributes r.payload)) ≡ true
      → Written exited nv vol found r (Refuse OutOfResources)
  no_room : is_deletion r.attributes r.payload ≡ false → other_attributes found r.attributes ≡ false
      → is_empty_append r.attributes r.payload ≡ false → ltb max_payload (length (payload_after found r.attributes r.payload)) ≡ false
      → has_room (has_nv r.attributes) (store_of r.attributes nv vol) r.variable (record_after found r) ≡ false
      → Written exited nv vol found r (Refuse OutOfResources)
  stored : is_deletion r.attributes r.payload ≡ false → other_attributes found r.attributes ≡ false
      → is_empty_append r.attributes r.payload ≡ false → ltb max_payload (length (payload_after found r.attributes r.payload)) ≡ false
      → has_room (has_nv r.attributes) (store_of r.attributes nv vol) r.variable (record_after found r) ≡ true
      → Written exited nv vol found r Store

written : (exited : Bool) (nv vol : Bytes) (found : Option Bytes) (r : Request) → Written exited nv vol found r (write_decision exited nv vol found r)
unfolding write_decision
written exited nv vol found r = go _ _ _ _ _ _ _ refl refl refl refl refl refl refl
  where
    go : (d x p o e b m : Bool) → is_deletion r.attributes r.payload ≡ d → exists (shown exited found) ≡ x → exit_protects exited found ≡ p
        → other_attributes found r.attributes ≡ o → is_empty_append r.attributes r.payload ≡ e → ltb max_payload (length (payload_after found r.attributes r.payload)) ≡ b
        → has_room (has_nv r.attributes) (store_of r.attributes nv vol) r.variable (record_after found r) ≡ m
        → Written exited nv vol found r (cond d (cond x (cond p (Refuse WriteProtected) Delete) (Refuse NotFound)) (cond o (Refuse InvalidParameter) (cond e Keep (cond b (Refuse OutOfResources) (cond m Store (Refuse OutOfResources))))))
    go true true true o e b m dd xx pp oo ee bb mm = protected dd xx pp
    go true true false o e b m dd xx pp oo ee bb mm = deleted dd xx pp
    go true false p o e b m dd xx pp oo ee bb mm = absent dd xx
    go false x p true e b m dd xx pp oo ee bb mm = other dd oo
    go false x p false true b m dd xx pp oo ee bb mm = kept dd oo ee
    go false x p false false true m dd xx pp oo ee bb mm = joined_too_long dd oo ee bb
    go false x p false false false true dd xx pp oo ee bb mm = stored dd oo ee bb mm
    go false x p false false false false dd xx pp oo ee bb mm = no_room dd oo ee bb mm

-- the ground of step 4 that a decision is by
abbrev pub blocked_by : Decision → std.Option Ground
blocked_by (Refuse n) = None
blocked_by (Block g) = Some g
blocked_by Delete = None
blocked_by Keep = None
blocked_by Store = None

-- none at steps 5 to 9
pub write_unblocked : (exited : Bool) (nv vol : Bytes) (found : Option Bytes) (r : Request) → blocked_by (write_decision exited nv vol found r) ≡ None
write_unblocked exited nv vol found r = go (written exited nv vol found r)
  where
    go : {d : Decision} → Written exited nv vol found r d → blocked_by d ≡ None
    go (deleted d x p) = refl
    go (protected d x p) = refl
    go (absent d x) = refl
    go (other d o) = refl
    go (kept d o e) = refl
    go (joined_too_long d o e b) = refl
    go (no_room d o e b m) = refl
    go (stored d o e b m) = refl

-- and 8 there is for a deletion after exit of what is shown and protected, and for nothing else
pub record ProtectedDeletion (exited : Bool) (found : Option Bytes) (r : Request) : Type 0 where
  pub deletes : is_deletion r.attributes r.payload ≡ true
  pub seen : exists (shown exited found) ≡ true
  pub protects : exit_protects exited found ≡ true

pub protected_refused : (exited : Bool) (nv vol : Bytes) (found : Option Bytes) (r : Request) → ProtectedDeletion exited found r
    → write_decision exited nv vol found r ≡ Refuse WriteProtected
unfolding write_decision
protected_refused exited nv vol found r w = rw (w.deletes, w.seen, w.protects)

pub late_locked : (exited : Bool) (nv vol : Bytes) (found : Option Bytes) (r : Request) → decision_status (write_decision exited nv vol found r) ≡ WriteProtected
    → ProtectedDeletion exited found r
late_locked exited nv vol found r h = go (written exited nv vol found r) (ap status_number h)
  where
    go : {d : Decision} → Written exited nv vol found r d → status_number (decision_status d) ≡ 8 → ProtectedDeletion exited found r
    go (deleted d x p) h = absurd (omega (arith, h))
    go (protected d x p) h = record { deletes = d; seen = x; protects = p }
    go (absent d x) h = absurd (omega (arith, h))
    go (other d o) h = absurd (omega (arith, h))
    go (kept d o e) h = absurd (omega (arith, h))
    go (joined_too_long d o e b) h = absurd (omega (arith, h))
    go (no_room d o e b m) h = absurd (omega (arith, h))
    go (stored d o e b m) h = absurd (omega (arith, h))

-- ---- what follows for a set that stores

-- no deletion and no empty append: there is something to store
payload_some : (a : ℕ) (payload : Bytes) → is_deletion a payload ≡ false → is_empty_append a payload ≡ false → 1 ≤ length payload
unfolding is_deletion is_empty_append is_empty ◌and◌
payload_some a (b ∷ l) d e = omega arith
payload_some a [] d e = go (has_append a) d e
  where
    go : (p : Bool) → (not p and true) ≡ false → (p and true) ≡ false → ◌≤◌ 1 0
    go true d e = absurd (true≢false e)
    go false d e = absurd (true≢false d)

-- a set that is no deletion and passed step 3 has BS
has_bs_lem : (a : ℕ) (payload : Bytes) → is_deletion a payload ≡ false → needs_bs a ≡ false → has_bs a ≡ true
unfolding is_deletion needs_bs ◌and◌
has_bs_lem a payload d n = go (has_append a) (is_empty payload) (has_bs a) (has_rt a) d n
  where
    go : (p e b t : Bool) → (not p and (e || not (b || t))) ≡ false → ((t || p) and not b) ≡ false → b ≡ true
    go p e true t d n = refl
    go true e false true d n = absurd (true≢false n)
    go true e false false d n = absurd (true≢false n)
    go false e false true d n = absurd (true≢false n)
    go false true false false d n = absurd (true≢false d)
    go false false false false d n = absurd (true≢false d)

-- ---- what each decision says

module _ (nv vol : Bytes) (found : Option Bytes) (r : Request) where
  abbrev pub Facts : Decision → Type 0
  Facts (Refuse n) = is_success n ≡ false
  Facts (Block g) = is_success (ground_status g) ≡ false
  Facts Delete = is_deletion r.attributes r.payload ≡ true
  Facts Keep = (is_deletion r.attributes r.payload ≡ false) × (is_empty_append r.attributes r.payload ≡ true)
  Facts Store = Stored nv vol found r

  write_facts : {exited : Bool} {d : Decision} → Taken exited r → Written exited nv vol found r d → Facts d
  write_facts t (deleted d x p) = d
  write_facts t (protected d x p) = refl
  write_facts t (absent d x) = refl
  write_facts t (other d o) = refl
  write_facts t (kept d o e) = (d, e)
  write_facts t (joined_too_long d o e b) = refl
  write_facts t (no_room d o e b m) = refl
  write_facts t (stored d o e b m) =
      record {
        writes = d;
        joins = e;
        called = t.called;
        bs = has_bs_lem r.attributes r.payload d t.bs;
        some = payload_some r.attributes r.payload d e;
        most = ltb-false _ _ t.short;
        alike = o;
        within = ltb-false _ _ b;
        room = m;
      }

  block_facts : (o : std.Option Ground) (d : Decision) → Facts d → Facts (block_or o d)
  block_facts None d f = f
  block_facts (Some g) d f = bars g

  refuse_facts : (n : Status) (d : Decision) → (is_success n ≡ true → Facts d) → Facts (refuse_or n d)
  refuse_facts n d f = go (is_success n) refl
    where
      go : (b : Bool) → is_success n ≡ b → Facts (cond b d (Refuse n))
      go true h = f h
      go false h = h

pub facts : (exited : Bool) (speaking : Option Bytes) (nv vol : Bytes) (r : Request) → Facts nv vol (lookup nv vol r.variable) r (decision exited speaking nv vol r)
unfolding decision
facts exited speaking nv vol r =
    let found = lookup nv vol r.variable in
    refuse_facts nv vol found r (request_status exited r) _ (λ h.
    block_facts nv vol found r (ground_by speaking (lookup nv vol) r) (write_decision exited nv vol found r)
    (write_facts nv vol found r (taken_facts exited r h) (written exited nv vol found r)))

-- a set is stored only where all this holds
pub stored_facts : (exited : Bool) (speaking : Option Bytes) (nv vol : Bytes) (r : Request) → decision exited speaking nv vol r ≡ Store → Stored nv vol (lookup nv vol r.variable) r
stored_facts exited speaking nv vol r e = subst (Facts nv vol (lookup nv vol r.variable) r) e (facts exited speaking nv vol r)

-- a decision with status 0 is told by the request alone
pub granted_decision : (exited : Bool) (speaking : Option Bytes) (nv vol : Bytes) (r : Request) → is_success (decision_status (decision exited speaking nv vol r)) ≡ true
    → decision exited speaking nv vol r ≡ cond (is_deletion r.attributes r.payload) Delete (cond (is_empty_append r.attributes r.payload) Keep Store)
granted_decision exited speaking nv vol r h = go (decision exited speaking nv vol r) (facts exited speaking nv vol r) h
  where
    go : (d : Decision) → Facts nv vol (lookup nv vol r.variable) r d → is_success (decision_status d) ≡ true
        → d ≡ cond (is_deletion r.attributes r.payload) Delete (cond (is_empty_append r.attributes r.payload) Keep Store)
    go (Refuse n) f h = absurd (false≢true (sym f ∙ h))
    go (Block g) f h = absurd (false≢true (sym f ∙ h))
    go Delete f h = rw f
    go Keep f h = rw (f.0, f.1)
    go Store f h = rw (f.writes, f.joins)

-- a set is blocked where steps 1 to 3 pass and the entry that speaks gives the ground
pub record Blocked (exited : Bool) (speaking : Option Bytes) (nv vol : Bytes) (r : Request) (g : Ground) : Type 0 where
  pub asked : is_success (request_status exited r) ≡ true
  pub ground : ground_by speaking (lookup nv vol) r ≡ Some g

pub blocked_facts : (exited : Bool) (speaking : Option Bytes) (nv vol : Bytes) (r : Request) (g : Ground) → decision exited speaking nv vol r ≡ Block g → Blocked exited speaking nv vol r g
unfolding decision
blocked_facts exited speaking nv vol r g e = go (is_success (request_status exited r)) (ground_by speaking (lookup nv vol) r) refl refl e
  where
    unblocked : None ≡ Some g → Blocked exited speaking nv vol r g
    unblocked e = absurd (false≢true (ap is_some e))

    go : (b : Bool) (o : std.Option Ground) → is_success (request_status exited r) ≡ b → ground_by speaking (lookup nv vol) r ≡ o
        → cond b (block_or o (write_decision exited nv vol (lookup nv vol r.variable) r)) (Refuse (request_status exited r)) ≡ Block g → Blocked exited speaking nv vol r g
    go false o q k e = unblocked (ap blocked_by e)
    go true None q k e = unblocked (sym (write_unblocked exited nv vol (lookup nv vol r.variable) r) ∙ ap blocked_by e)
    go true (Some h) q k e = record { asked = q; ground = k ∙ ap blocked_by e }
