-- The rules' engine has the laws that the general part of demand 3 asks of a machine: `laws`. Assumes nothing.
use Rattle.std.specs.Prelude.{ℕ, suc, ◌+◌, ◌≤◌, ◌≡◌, Some, Bool, cond, length, take}
use Rattle.std.proofs.Math.Path.{refl, sym, ap, subst⁻¹}
use Rattle.std.proofs.Common.{ap₂, ◌∙◌, subst, arith, length-append, le-leb}
use mathlib.Core.List.Permᴰ
use mathlib.Core.List.{List, [], ◌∷◌, ◌++◌, map, append_assoc, append-nil, Permᴰ}
use Rattle.std.proofs.Math.Bool.{true, false}
use Rattle.std.proofs.lemmas.Bool.{false≢true}
use Rattle.std.proofs.Math.Option.{Option, none, some}
use Rattle.limits.specs.Limits.{max_entries, policy_bytes, max_links}
use Rattle.lists.specs.Lists.{over}
use Rattle.lists.proofs.ListsLaws.{all_right, all_here, length_perm, flat_perm, over_over}
use Rattle.slices.specs.Test.{◌and◌}
use Rattle.slices.specs.Bytes.{Bytes}
use Rattle.slices.specs.Chunks.{flat}
use Rattle.names.specs.Name.{Variable, named}
use Rattle.entry.specs.Entry.{well_formed, same_target}
use Rattle.entry.proofs.EntryLaws.{well_formed_header}
use Rattle.policy.specs.Policy.{entries_of, pack_policy, policy_valid}
use Rattle.policy.proofs.PolicyLaws.{Entries, policy_valid-length, policy_entries, pack-entries_of, entries_of-formed, entries_of-pack, entries_policy, sizes_sum-flat, flat_unique}
use Rattle.policy.specs.Choice.{chosen, place_of}
use Rattle.policy.proofs.PlaceLaws.{StandsAt}
use Rattle.stores.specs.Pair.{sound, lookup}
use Rattle.status.specs.declared.Status.{Status}
use Rattle.status.specs.declared.Status.TheVariants.{Success, InvalidParameter}
use Rattle.status.specs.Status.{is_success}
use Rattle.switches.specs.declared.Switches.{Switches}
use Rattle.switches.specs.Switches.{fresh_switches, unless_exited}
use Rattle.rules.specs.declared.Ground.{Ground}
use Rattle.rules.specs.declared.Ground.TheVariants.{SizeGround, AttributeGround, LockGround}
use Rattle.rules.specs.Decision.{Decision}
use Rattle.rules.specs.Decision.{Refuse, Block, Delete, Keep, Store}
use Rattle.rules.specs.declared.Report.{Report}
use Rattle.rules.specs.Set.{Request, bad_request, request_status, decision}
use Rattle.rules.proofs.DecisionLaws.{taken_named}
use Rattle.rules.specs.Report.{report_for, decision_report}
use Rattle.rules.proofs.ReportLaws.{ground_given, chosen_stands}
use Rattle.rules.specs.Engine.{State, Call, Answer, state_of, uses, answer_of, set_decision, set_report, report_on, only_status, power_on_status, restart_status, register_status, dump_status, settled_status, speaking, decision_by, decision_in, is_settled, status, given, refusal, answer, after, effect, step}
use Rattle.rules.specs.Engine.Call.{power_on, restart, register, dump, lock, disable, exit, query, read, set, settled}
use Rattle.rules.proofs.EngineLaws.{step_status, refused_changes_nothing, granted_effect}
use Rattle.rules.proofs.FoundLaws.{tells_sound, lookup_found}
use Rattle.rules.proofs.SettledLaws.{settled_same}
use Rattle.rules.proofs.ExitLaws.{record_named}
use Rattle.rules.proofs.StateLaws.{Sound, passed, power_on_lists, restart_lists, register_lists, step_sound, restart_done_lem}
use Rattle.history.specs.History.{Outcome, Kind, entries_after, outcome_of, cut_after, AllGranted, end, rebuilding}
use Rattle.history.specs.History.Outcome.{granted, refused, cut}
use Rattle.history.specs.History.Kind.{starts, registers, dumps, keeps}
use Rattle.history.proofs.HistoryLaws.{granted_refused, SameChoice, Laws}
use Rattle.demand3.specs.Machine.{state_in, report_in, answer_in, outcome_by, kind_of, restart_of, closing_of, CanDumpInto, machine}
use Rattle.demand3.proofs.OrderLaws.{flat_length, length_flat, contains_perm, entries_perm, entries_left, entries_new, over_pack, overwrite_perm, overwrite_take}

-- ---- another order of the entries: a state of the rules with the record of the entries o
abbrev pub with_entries : State → List Bytes → State
with_entries s o = state_of s.nv s.vol (pack_policy o) s.switches

register_same : (locked : Bool) (es o : List Bytes) (e : Bytes) → Permᴰ es o → register_status locked o e ≡ register_status locked es e
unfolding register_status
register_same locked es o e d = rw (contains_perm (same_target e) d, ← length_perm d, length_flat d)

dump_same : (es o : List Bytes) (buffer : Bytes) → Permᴰ es o → dump_status o buffer ≡ dump_status es buffer
unfolding dump_status
dump_same es o buffer d = rw (length_flat d)

-- a set of a name that step 1 does not take never comes to the choice
set_unnamed : (exited : Bool) (x y : Option Bytes) (nv vol : Bytes) (r : Request) → named r.variable ≡ false → decision exited x nv vol r ≡ decision exited y nv vol r
unfolding decision request_status bad_request
set_unnamed exited x y nv vol r h = rw h

set_same : (es o : List Bytes) (w : Switches) (nv vol : Bytes) (r : Request) → SameChoice machine es o
    → decision_by (chosen o) w nv vol r ≡ decision_by (chosen es) w nv vol r
unfolding decision_by chosen
set_same es o w nv vol r l = go (named r.variable) refl
  where
    go : (b : Bool) → named r.variable ≡ b → decision_by (chosen o) w nv vol r ≡ decision_by (chosen es) w nv vol r
    go true e = ap (λ (x : Option Bytes). decision w.exited (speaking w.enabled x) nv vol r) (sym (l.choice r.variable e))
    go false e = set_unnamed w.exited _ _ nv vol r e

-- settled answers 0 only to a name that it takes
asked_named : (s : State) (v : Variable) → is_success (status s (settled v)) ≡ true → named v ≡ true
unfolding settled_status
asked_named s v h = go (named v) (passed (sound s.nv s.vol and policy_valid s.policy) (settled_status v) h).1
  where
    go : (b : Bool) → is_success (cond b Success InvalidParameter) ≡ true → b ≡ true
    go true k = refl
    go false k = absurd (false≢true k)

module _ (s : State) (w : Sound s) (o : List Bytes) where
  abbrev es : List Bytes
  es = entries_of s.policy

  module _ (d : Permᴰ es o) where
    entries_o : Entries o
    entries_o = entries_perm d (policy_entries s.policy w.policy).entries

    valid_o : policy_valid (pack_policy o) ≡ true
    valid_o = entries_policy o entries_o

    lists_o : entries_of (pack_policy o) ≡ o
    lists_o = entries_of-pack o entries_o.formed

    over_o : over o s.policy ≡ pack_policy o
    over_o = ap (over o) (sym (pack-entries_of s.policy w.policy)) ∙ over_pack d

    reordered_sound : Sound (with_entries s o)
    reordered_sound = record { stores = w.stores; policy = valid_o; leave = w.leave }

    -- a state with the record as it is, and with its entries in the order o
    kept : (nv vol : Bytes) (x : Switches) → state_of nv vol (pack_policy o) x ≡ state_of nv vol (over o s.policy) x
    kept nv vol x = ap (λ (p : Bytes). state_of nv vol p x) (sym over_o)

  -- if the same entries are chosen, each call has the same status there, and beside 0 it gives and leaves the same but for the order
  module _ (l : SameChoice machine es o) where
    record Same (c : Call) : Type 0 where
      given : is_success (status s c) ≡ true → given (with_entries s o) c ≡ answer_in c es o (given s c)
      status : status (with_entries s o) c ≡ status s c
      effect : effect (with_entries s o) c ≡ state_in (entries_after machine (kind_of c) granted o) (effect s c)

    decision_same : (r : Request) → decision_in (with_entries s o) r ≡ decision_in s r
    decision_same r = rw (lists_o l.perm) (set_same es o s.switches s.nv s.vol r l)

    -- what is decided of a set in any state
    decides_same : (r : Request) → set_decision (with_entries s o) r ≡ set_decision s r
    decides_same r = rw (valid_o l.perm, w.policy, decision_same r)

    -- the report of the entry e, at its place in es and in o
    moved : (g : Ground) (e : Bytes) (a : ℕ) → StandsAt es e → some (report_for (Some g) (place_of o e) e a) ≡ report_in es o (some (report_for (Some g) (place_of es e) e a))
    unfolding report_for
    moved SizeGround e a k = rw k.is
    moved AttributeGround e a k = rw k.is
    moved LockGround e a k = rw k.is

    decided_same : (r : Request) (d : Decision) → set_decision s r ≡ d
        → some (decision_report d o (chosen o r.variable) r.attributes) ≡ report_in es o (some (decision_report d es (chosen es r.variable) r.attributes))
    unfolding chosen
    decided_same r (Refuse n) e = refl
    decided_same r (Block g) e =
        let k = ground_given s r g e in
        rw (← l.choice r.variable (taken_named s.switches.exited r k.asked), k.choice) (moved g k.entry r.attributes (chosen_stands s r g k))
    decided_same r Delete e = refl
    decided_same r Keep e = refl
    decided_same r Store e = refl

    report_same : (r : Request) → some (set_report (with_entries s o) r) ≡ report_in es o (some (set_report s r))
    report_same r =
        ap₂ (λ (d : Decision) (x : List Bytes). some (decision_report d x (chosen x r.variable) r.attributes)) (decides_same r) (lists_o l.perm)
        ∙ decided_same r (set_decision s r) refl

    -- whether a variable is settled: it is asked only of one that can be named, and so are the triggers, which exist
    asks_same : (v : Variable) → named v ≡ true → is_settled (with_entries s o) v ≡ is_settled s v
    unfolding chosen
    asks_same v m =
        rw (lists_o l.perm) (settled_same (chosen o) (chosen es) (lookup s.nv s.vol) (λ u k. sym (l.choice u k)) (λ u r f.
        record_named s u r (lookup_found s u r ((tells_sound s.nv s.vol).0 w.stores) f)) max_links v m)

    same : (c : Call) → Same c
    unfolding power_on_status restart_status flat
    same (power_on allowed) = record { status = rw (policy_valid-length (pack_policy o) (valid_o l.perm), policy_valid-length s.policy w.policy); given = λ h. refl; effect = refl }
    same (restart allowed) = record { status = rw (policy_valid-length (pack_policy o) (valid_o l.perm), policy_valid-length s.policy w.policy); given = λ h. refl; effect = refl }
    same (register e) =
        record {
          status = rw (valid_o l.perm, lists_o l.perm, w.policy) (ap (unless_exited s.switches) (register_same s.switches.locked es o e l.perm));
          given = λ h. refl;
          effect = rw (lists_o l.perm) (ap (λ (p : Bytes). state_of s.nv s.vol p s.switches) (sym (over_pack (Permᴰ.append_right (e ∷ []) l.perm))));
        }
    same (dump buffer) =
        record {
          status = rw (valid_o l.perm, lists_o l.perm, w.policy) (ap (unless_exited s.switches) (dump_same es o buffer l.perm));
          given = λ h. rw (lists_o l.perm)
              (ap₂ (λ (m : ℕ) (b : Bytes). answer_of Success m b none) (length_flat l.perm) (overwrite_perm l.perm buffer));
          effect = kept l.perm _ _ _;
        }
    same lock = record { status = refl; given = λ h. refl; effect = kept l.perm _ _ _ }
    same disable = record { status = refl; given = λ h. refl; effect = kept l.perm _ _ _ }
    same exit = record { status = refl; given = λ h. refl; effect = kept l.perm _ _ _ }
    same query = record { status = refl; given = λ h. refl; effect = kept l.perm _ _ _ }
    same (read v) = record { status = refl; given = λ h. refl; effect = kept l.perm _ _ _ }
    same (set r) =
        record {
          status = rw (valid_o l.perm, w.policy, decision_same r);
          given = λ h. ap (λ (p : Option Report). record { status = Success; number = 0; bytes = []; switches = none; report = p }) (report_same r);
          effect = rw (decision_same r) (kept l.perm _ _ _);
        }
    same (settled v) =
        record {
          status = rw (valid_o l.perm, w.policy);
          given = λ h. ap (λ b. answer_of Success (cond b 1 0) [] none) (asks_same v (asked_named s v h));
          effect = kept l.perm _ _ _;
        }

    -- and it is refused the same
    reports_same : (x : Option Request) → report_on (with_entries s o) x ≡ report_in es o (report_on s x)
    reports_same none = refl
    reports_same (some r) = report_same r

    refusal_same : (c : Call) (n : Status) → is_success n ≡ false → refusal (with_entries s o) c n ≡ answer_in c es o (refusal s c n)
    refusal_same c n h = rw (h, reports_same (uses c).reports, lists_o l.perm, length_flat l.perm)

    answer_same : (c : Call) → answer (with_entries s o) c (status s c) ≡ answer_in c es o (answer s c (status s c))
    answer_same c = go (is_success (status s c)) refl
      where
        go : (b : Bool) → is_success (status s c) ≡ b
            → cond b (given (with_entries s o) c) (refusal (with_entries s o) c (status s c)) ≡ answer_in c es o (cond b (given s c) (refusal s c (status s c)))
        go true h = (same c).given h
        go false h = refusal_same c (status s c) h

    refused_after : (κ : Kind Bytes) → entries_after machine κ refused o ≡ o
    refused_after starts = refl
    refused_after (registers e) = refl
    refused_after dumps = refl
    refused_after keeps = refl

    leaves_same_lem : (c : Call) (b : Bool)
        → cond b (effect (with_entries s o) c) (with_entries s o) ≡ state_in (entries_after machine (kind_of c) (outcome_by b) o) (cond b (effect s c) s)
    leaves_same_lem c true = (same c).effect
    leaves_same_lem c false = kept l.perm _ _ _ ∙ ap (λ (x : List Bytes). state_in x s) (sym (refused_after (kind_of c)))

-- ---- THE STATES THAT ARE REACHED
pub record Reached (t : Bool) (s : State) : Type 0 where
  pub uncut : t ≡ false
  pub sound : Sound s

outcome_status : (s : State) (c : Call) → outcome_of machine s c ≡ outcome_by (is_success (status s c))
outcome_status s c = ap (λ (n : Status). outcome_by (is_success n)) (step_status s c)

uncut_after : (t b : Bool) → t ≡ false → cut_after machine t (outcome_by b) ≡ false
uncut_after t true h = refl
uncut_after t false h = h

continues : {t : Bool} {s : State} (c : Call) → Reached t s → Reached (cut_after machine t (outcome_of machine s c)) (step s c).1
continues {t} {s} c w = record { uncut = uncut_after t (is_success (step s c).0.status) w.uncut; sound = step_sound s c w.sound }

-- the state with its entries in the order o
reordered_in : (s : State) (o : List Bytes) → Sound s → Permᴰ (entries_of s.policy) o → state_in o s ≡ with_entries s o
reordered_in s o w d = ap (λ (p : Bytes). state_of s.nv s.vol p s.switches) (over_o s w o d)

reorders : {t : Bool} {s : State} {o : List Bytes} → Reached t s → Permᴰ (entries_of s.policy) o → Reached t (state_in o s)
reorders {s = s} {o = o} w d = record { uncut = w.uncut; sound = subst⁻¹ Sound (reordered_in s o w.sound d) (reordered_sound s w.sound o d) }

answers_same_lem : (s : State) (o : List Bytes) (c : Call) → Sound s → SameChoice machine (entries_of s.policy) o
    → (step (state_in o s) c).0 ≡ answer_in c (entries_of s.policy) o (step s c).0
unfolding step
answers_same_lem s o c w l =
    ap (λ (z : State). (step z c).0) (reordered_in s o w l.perm)
    ∙ ap (λ (n : Status). answer (with_entries s o) c n) (same s w o l c).status
    ∙ answer_same s w o l c

leaves_step : (s : State) (o : List Bytes) (c : Call) → Sound s → SameChoice machine (entries_of s.policy) o
    → (step (state_in o s) c).1 ≡ state_in (entries_after machine (kind_of c) (outcome_of machine s c) o) (step s c).1
unfolding step
leaves_step s o c w l =
    ap (λ (z : State). (step z c).1) (reordered_in s o w l.perm)
    ∙ ap (λ (n : Status). after (with_entries s o) c n) (same s w o l c).status
    ∙ leaves_same_lem s w o l c (is_success (status s c))
    ∙ ap (λ (r : Outcome). state_in (entries_after machine (kind_of c) r o) (step s c).1) (sym (outcome_status s c))

-- ---- what a granted call does, by its kind
-- the entries afterwards, and a dump's bytes
abbrev Does : State → Call → Kind Bytes → Type 0
Does s c starts = entries_of (effect s c).policy ≡ []
Does s c (registers e) = entries_of (effect s c).policy ≡ entries_of s.policy ++ (e ∷ [])
Does s c dumps = ((effect s c).policy ≡ s.policy) × (flat (entries_of s.policy) ≡ take (given s c).number (given s c).bytes)
Does s c keeps = (effect s c).policy ≡ s.policy

does : (s : State) (c : Call) → is_success (status s c) ≡ true → Does s c (kind_of c)
does s (power_on allowed) h = power_on_lists s allowed
does s (restart allowed) h = restart_lists s allowed
does s (register e) h = register_lists s e h
does s (dump buffer) h = (refl, overwrite_take (entries_of s.policy) buffer)
does s lock h = refl
does s disable h = refl
does s exit h = refl
does s query h = refl
does s (read v) h = refl
does s (set r) h = refl
does s (settled v) h = refl

lists_granted : (s : State) (c : Call) (κ : Kind Bytes) → Does s c κ → entries_of (effect s c).policy ≡ entries_after machine κ granted (entries_of s.policy)
lists_granted s c starts h = h
lists_granted s c (registers e) h = h
lists_granted s c dumps h = ap entries_of h.0
lists_granted s c keeps h = ap entries_of h

refused_lists : (κ : Kind Bytes) (l : List Bytes) → l ≡ entries_after machine κ refused l
refused_lists starts l = refl
refused_lists (registers e) l = refl
refused_lists dumps l = refl
refused_lists keeps l = refl

lists_after : (s : State) (c : Call) → entries_of (step s c).1.policy ≡ entries_after machine (kind_of c) (outcome_of machine s c) (entries_of s.policy)
unfolding step
lists_after s c =
    go (is_success (status s c)) refl
    ∙ ap (λ (r : Outcome). entries_after machine (kind_of c) r (entries_of s.policy)) (sym (outcome_status s c))
  where
    go : (b : Bool) → is_success (status s c) ≡ b
        → entries_of (cond b (effect s c) s).policy ≡ entries_after machine (kind_of c) (outcome_by b) (entries_of s.policy)
    go true e = lists_granted s c (kind_of c) (does s c e)
    go false e = refused_lists (kind_of c) (entries_of s.policy)

-- ---- refused calls and dumps
refused_leaves_lem : (s : State) (c : Call) → outcome_of machine s c ≡ refused → (step s c).1 ≡ s
refused_leaves_lem s c h = (refused_changes_nothing s c (go (is_success (step s c).0.status) h))
  where
    go : (b : Bool) → outcome_by b ≡ refused → b ≡ false
    go true k = absurd (granted_refused k)
    go false k = refl

dump_leaves_lem : (s : State) (buffer : Bytes) → (step s (dump buffer)).1 ≡ s
unfolding step
dump_leaves_lem s buffer = go (is_success (status s (dump buffer)))
  where
    go : (b : Bool) → cond b s s ≡ s
    go true = refl
    go false = refl

dump_granted_lem : (s : State) (buffer : Bytes) → Sound s → CanDumpInto s buffer → outcome_of machine s (dump buffer) ≡ granted
unfolding dump_status
dump_granted_lem s buffer w h =
    let k : length (flat (entries_of s.policy)) ≤ length buffer = omega (arith, sizes_sum-flat s.policy, h.room) in
    outcome_status s (dump buffer) ∙ rw (w.policy, h.before, le-leb (length (flat (entries_of s.policy))) (length buffer) k)

pub dump_holds_lem : (s : State) (c : Call) → kind_of c ≡ dumps → outcome_of machine s c ≡ granted
    → flat (entries_of s.policy) ≡ take (step s c).0.number (step s c).0.bytes
unfolding step
dump_holds_lem s c k h = go (is_success (status s c)) refl (sym (outcome_status s c) ∙ h)
  where
    go : (b : Bool) → is_success (status s c) ≡ b → outcome_by b ≡ granted
        → flat (entries_of s.policy) ≡ take (cond b (given s c) (refusal s c (status s c))).number (cond b (given s c) (refusal s c (status s c))).bytes
    go true e i = (subst (Does s c) k (does s c e)).1
    go false e i = absurd (granted_refused (sym i))

-- ---- A REBUILD: a list of calls that all answer 0, and where it leads
pub record Runs (s : State) (cs : List Call) (z : State) : Type 0 where
  pub done : AllGranted machine s cs
  pub ends : end machine s cs ≡ z

runs_nil : (s : State) → Runs s [] s
runs_nil s = record { done = tt; ends = refl }

runs_step : (s : State) (c : Call) (a : Answer) (z : State) (cs : List Call) (y : State) → step s c ≡ (a, z) → is_success a.status ≡ true
    → Runs z cs y → Runs s (c ∷ cs) y
runs_step s c a z cs y e h r =
    let next : (step s c).1 ≡ z = ap (λ (p : Answer × State). p.1) e in
    record {
      done = (ap outcome_by (ap (λ (p : Answer × State). is_success p.0.status) e ∙ h), subst⁻¹ (λ (x : State). AllGranted machine x cs) next r.done);
      ends = ap (λ (x : State). end machine x cs) next ∙ r.ends;
    }

runs_cons : (s : State) (c : Call) (z : State) (cs : List Call) (y : State) → is_success (status s c) ≡ true
    → effect s c ≡ z → Runs z cs y → Runs s (c ∷ cs) y
runs_cons s c z cs y h e r =
    let k : is_success (step s c).0.status ≡ true = ap is_success (step_status s c) ∙ h in
    runs_step s c (step s c).0 z cs y (ap (λ (x : State). ((step s c).0, x)) (granted_effect s c k ∙ e)) k r

runs_append : (s : State) (cs : List Call) (z : State) (ds : List Call) (y : State) → Runs s cs z → Runs z ds y → Runs s (cs ++ ds) y
runs_append s [] z ds y a b = subst⁻¹ (λ (x : State). Runs x ds y) a.ends b
runs_append s (c ∷ cs) z ds y a b =
    let r = runs_append (step s c).1 cs z ds y (record { done = a.done.1; ends = a.ends }) b in
    record { done = (a.done.0, r.done); ends = r.ends }

-- each entry registers behind those before it
register_done_lem : (es : List Bytes) (e : Bytes) (fs : List Bytes) → Entries (es ++ (e ∷ fs)) → register_status false es e ≡ Success
unfolding register_status ◌and◌ flat
register_done_lem es e fs a =
    let n : length (flat (es ++ (e ∷ fs))) ≡ length (flat es) + (length e + length (flat fs)) = flat_length es (e ∷ fs) ∙ ap (◌+◌ (length (flat es))) (length-append e (flat fs)) in
    let r = a.room in
    let few : suc (length es) ≤ max_entries = omega (arith, rw length-append at a.few) in
    let room : length (flat es) + length e ≤ policy_bytes = omega arith in
    rw (
      all_here (all_right es (e ∷ fs) a.formed),
      entries_new es e fs a,
      le-leb (suc (length es)) max_entries few,
      le-leb (length (flat es) + length e) policy_bytes room,
    )

pub register_granted : (k : State) (es : List Bytes) (e : Bytes) (fs : List Bytes) → k.switches.locked ≡ false → k.switches.exited ≡ false → Entries (es ++ (e ∷ fs))
    → step (with_entries k es) (register e) ≡ (only_status Success, with_entries k (es ++ (e ∷ [])))
unfolding step
register_granted k es e fs u x a =
    let b = entries_left es (e ∷ fs) a in
    rw (entries_policy es b, entries_of-pack es b.formed, x, u, register_done_lem es e fs a)

pub registers_run : (k : State) (es fs : List Bytes) → k.switches.locked ≡ false → k.switches.exited ≡ false → Entries (es ++ fs)
    → Runs (with_entries k es) (map register fs) (with_entries k (es ++ fs))
registers_run k es [] u x a = rw (append-nil es) (runs_nil (with_entries k es))
registers_run k es (e ∷ fs) u x a =
    let j : (es ++ (e ∷ [])) ++ fs ≡ es ++ (e ∷ fs) = append_assoc es (e ∷ []) fs in
    runs_step (with_entries k es) (register e) (only_status Success) (with_entries k (es ++ (e ∷ []))) (map register fs) (with_entries k (es ++ (e ∷ fs)))
    (register_granted k es e fs u x a) refl
    (subst (λ (l : List Bytes). Runs (with_entries k (es ++ (e ∷ []))) (map register fs) (with_entries k l)) j
    (registers_run k (es ++ (e ∷ [])) fs u x (subst⁻¹ Entries j a)))

abbrev switches_of : Bool → Bool → Bool → Bool → Switches
switches_of e l m x = record { enabled = e; locked = l; disabling_allowed = m; exited = x }

-- disable, then lock, then exit, each only if the old engine was so: the fresh engine gets its switches, and each call answers 0
module _ (nv vol p : Bytes) (o : List Bytes) where
  closing_ends : (e l m x : Bool) → (e ≡ false → m ≡ true)
      → end machine (state_of nv vol (pack_policy o) (fresh_switches m)) (closing_of (state_of nv vol p (switches_of e l m x))) ≡ state_of nv vol (pack_policy o) (switches_of e l m x)
  unfolding step
  closing_ends true true m true h = refl
  closing_ends true true m false h = refl
  closing_ends true false m true h = refl
  closing_ends true false m false h = refl
  closing_ends false true m true h = rw (h refl)
  closing_ends false true m false h = rw (h refl)
  closing_ends false false m true h = rw (h refl)
  closing_ends false false m false h = rw (h refl)

  closing_done : (e l m x : Bool) → (e ≡ false → m ≡ true)
      → AllGranted machine (state_of nv vol (pack_policy o) (fresh_switches m)) (closing_of (state_of nv vol p (switches_of e l m x)))
  unfolding step
  closing_done true true m true h = (refl, (refl, tt))
  closing_done true true m false h = (refl, tt)
  closing_done true false m true h = (refl, tt)
  closing_done true false m false h = tt
  closing_done false true m true h = rw (h refl) (refl, (refl, (refl, tt)))
  closing_done false true m false h = rw (h refl) (refl, (refl, tt))
  closing_done false false m true h = rw (h refl) (refl, (refl, tt))
  closing_done false false m false h = rw (h refl) (refl, tt)

rebuild_run : (s : State) (o : List Bytes) → Sound s → Permᴰ (entries_of s.policy) o → Runs s (rebuilding machine s o) (with_entries s o)
rebuild_run s o w d =
    let x = s.switches in
    let fresh : State = state_of s.nv s.vol s.policy (fresh_switches x.disabling_allowed) in
    runs_cons s (restart_of s) (with_entries fresh []) (map register o ++ closing_of s) (with_entries s o)
    (restart_done_lem s x.disabling_allowed w) refl
    (runs_append (with_entries fresh []) (map register o) (with_entries fresh o) (closing_of s) (with_entries s o)
    (registers_run fresh [] o refl refl (entries_o s w o d))
    (record {
      done = closing_done s.nv s.vol s.policy o x.enabled x.locked x.disabling_allowed x.exited w.leave;
      ends = closing_ends s.nv s.vol s.policy o x.enabled x.locked x.disabling_allowed x.exited w.leave;
    }))

-- the entries in one order over the record of another
ordered_again_lem : (s : State) (x o : List Bytes) → Permᴰ x o → state_in o (state_in x s) ≡ state_in o s
ordered_again_lem s x o d = ap (λ (p : Bytes). state_of s.nv s.vol p s.switches) (over_over x o s.policy (flat_perm d))

-- ---- THE LAWS
pub laws : Laws machine Reached
laws = record {
  unique = λ {ds} {es} p q h. flat_unique well_formed well_formed_header p q h;
  are_formed = λ {t} {s} w. entries_of-formed s.policy;
  as_listed = λ {t} {s} w.
      ap (λ (p : Bytes). state_of s.nv s.vol p s.switches)
      (over_o s w.sound (entries_of s.policy) (Permᴰ.refl (entries_of s.policy)) ∙ pack-entries_of s.policy w.sound.policy);
  ordered_again = λ {t} {s} {o} {x} w e d. ordered_again_lem s x o d;
  outcome_in = λ c es o a. refl;
  reorders = λ {t} {s} {o} w d. reorders w d;
  relists = λ {t} {s} {o} w d. ap entries_of (over_o s w.sound o d) ∙ lists_o s w.sound o d;
  continues = λ {t} {s} c w f. continues c w;
  lists = λ {t} {s} c w f. lists_after s c;
  answers_same = λ {t} {s} {o} c w f l. answers_same_lem s o c w.sound l;
  leaves_same = λ {t} {s} {o} c w f l. leaves_step s o c w.sound l;
  refused_leaves = refused_leaves_lem;
  dump_holds = λ {t} {s} c w f k h. dump_holds_lem s c k h;
  dump_kind = λ b. refl;
  dump_leaves = dump_leaves_lem;
  dump_granted = λ {s} b w h. dump_granted_lem s b w.sound h;
  rebuild_granted = λ {s} {o} w d. (rebuild_run s o w.sound d).done;
  rebuild_leaves = λ {s} {o} w d.
      (rebuild_run s o w.sound d).ends ∙ sym (reordered_in s o w.sound d);
}

-- no call of this engine is cut
pub never_cut : (s : State) (c : Call) → outcome_of machine s c ≡ cut → ⊥
never_cut s c = go (is_success (step s c).0.status)
  where
    go : (b : Bool) → outcome_by b ≡ cut → ⊥
    go true h = let z : ◌≡◌ {A = ℕ} 0 1 = cc in omega arith
    go false h = let z : ◌≡◌ {A = ℕ} 0 1 = cc in omega arith
