-- AFTER EXIT (RULES.md, 8.1, 12.2 and 12.3), over lists of calls and of rebuilds: what stays up to the history's next granted start (`exited_stays`,
-- `exited_stays_rebuilt`); where dumps are granted (`dump_exactly`); that a rebuild leaves an engine that had exited so (`rebuild_exits`); that until then a complete dump stays complete and serves again and again
-- (`exited_outdates`, `serves_again`), and that one which is made just before the exit serves where the history has none (`dump_before_exit`).
-- Assumes nothing but that the power-on answered 0.
use Rattle.std.specs.Prelude.{◌≤◌, ◌≡◌, refl, List, [], ◌∷◌, ◌++◌, map, Bool, true, false, cond, ◌↔◌, length, leb}
use Rattle.std.proofs.Common.{sym, ap, subst, ◌∙◌, append_assoc, true≢false, arith, leb-true}
use Rattle.std.proofs.Math.Path.{subst⁻¹}
use Rattle.std.proofs.lemmas.Bool.{false≢true}
use Rattle.std.proofs.Math.Option.{none, some}
use Rattle.slices.specs.Bytes.{Bytes}
use Rattle.slices.specs.Chunks.{flat}
use Rattle.names.specs.Name.{Variable}
use Rattle.policy.specs.Policy.{entries_of, sizes_sum, policy_valid}
use Rattle.policy.proofs.PolicyLaws.{sizes_sum-flat}
use Rattle.store.specs.Record.{attributes_of}
use Rattle.status.specs.declared.Status.{Status}
use Rattle.status.specs.declared.Status.TheVariants.{Success, Unsupported, BufferTooSmall}
use Rattle.status.specs.Status.{is_success}
use Rattle.switches.specs.Switches.{unless_exited}
use Rattle.rules.specs.Engine as rules
use Rattle.rules.specs.Engine.{State, Call, dump_status, step}
use Rattle.rules.specs.Engine.Call.{power_on, restart, register, dump, lock, disable, exit, query, read, set, settled}
use Rattle.rules.proofs.EngineLaws.{step_status}
use Rattle.rules.proofs.StateLaws.{passed, unexited, register_passed}
use Rattle.rules.specs.Grounds.{Not, RT, RecordOf, Exited}
use Rattle.rules.proofs.ExitLaws.{GoesOn, Stays, stays_same, stays_more, after_exit}
use Rattle.history.specs.History.{Items, Order, Complete, Permitted, outcome_of, end, end_with, rebuilding, registered, history, outdates, standing_order, state_by}
use Rattle.history.specs.History.Outcome.{granted, refused}
use Rattle.history.specs.History.Kind.{starts, registers}
use Rattle.history.specs.History.ItemOf.{call, own_dump, rebuild}
use Rattle.history.specs.StandingOrder.{restarts, NoneRestarts}
use Rattle.history.proofs.AnyMoment as moment
use Rattle.history.specs.AnyMoment.{NoneOutdates}
use Rattle.history.proofs.HistoryLaws.{granted_refused}
use Rattle.demand3.specs.Machine.{outcome_by, kind_of, restart_of, closing_of, CanDumpInto, machine}
use Rattle.demand3.proofs.MachineLaws.{Reached, laws}
use Rattle.demand3.specs.Demand3.{powered_on, ProperFrom, entries_at, past_at}
use Rattle.demand3.proofs.Demand3.{demand_3}
use Rattle.demand3.proofs.WhereRebuilds.{first_part}
use Rattle.demand3.proofs.WhereRebuilds as list

-- ---- one call

-- a call that is no granted start of the history
abbrev pub Unstarted : State → Call → Type 0
Unstarted s c = restarts machine (kind_of c) (outcome_of machine s c) ≡ false

refused_start : (b : Bool) → restarts machine starts (outcome_by b) ≡ false → b ≡ false
refused_start true h = absurd (true≢false h)
refused_start false h = refl

pub goes_on : (s : State) (c : Call) → Unstarted s c → GoesOn s c
goes_on s (power_on allowed) h e = refused_start (is_success (step s (power_on allowed)).0.status) h
goes_on s (restart allowed) h e = refused_start (is_success (step s (restart allowed)).0.status) h
goes_on s (register x) h e = absurd (false≢true e)
goes_on s (dump buffer) h e = absurd (false≢true e)
goes_on s lock h e = absurd (false≢true e)
goes_on s disable h e = absurd (false≢true e)
goes_on s exit h e = absurd (false≢true e)
goes_on s query h e = absurd (false≢true e)
goes_on s (read v) h e = absurd (false≢true e)
goes_on s (set r) h e = absurd (false≢true e)
goes_on s (settled v) h e = absurd (false≢true e)

still_exited : (s : State) (c : Call) → Exited s → Unstarted s c → Exited (step s c).1
still_exited s c x n = ap (λ w. w.exited) (after_exit s c x (goes_on s c n)).switches ∙ x

-- WHAT STAYS AFTER EXIT, up to the next granted start: the policy record, the switches, the volatile store, every record without RT
pub exited_stays : (cs : List Call) (s : State) → Exited s → NoneRestarts machine s cs → Stays s (end machine s cs)
exited_stays [] s x n = stays_same s
exited_stays (c ∷ cs) s x n =
    stays_more s (step s c).1 (end machine (step s c).1 cs) (after_exit s c x (goes_on s c n.0)) (exited_stays cs (step s c).1 (still_exited s c x n.0) n.1)

-- ---- dumps

-- no registration is granted after exit, and so only a granted start outdates a dump
unregistered : (s : State) (e : Bytes) → Exited s → (b : Bool) → is_success (step s (register e)).0.status ≡ b → outdates machine (registers e) (outcome_by b) ≡ false
unregistered s e x true h = absurd (true≢false (sym x ∙ (register_passed s e (ap is_success (sym (step_status s (register e))) ∙ h)).1))
unregistered s e x false h = refl

outdates_exited : (s : State) (c : Call) → Exited s → Unstarted s c → outdates machine (kind_of c) (outcome_of machine s c) ≡ false
outdates_exited s (power_on allowed) x h = h
outdates_exited s (restart allowed) x h = h
outdates_exited s (register e) x h = unregistered s e x (is_success (step s (register e)).0.status) refl
outdates_exited s (dump buffer) x h = refl
outdates_exited s lock x h = refl
outdates_exited s disable x h = refl
outdates_exited s exit x h = refl
outdates_exited s query x h = refl
outdates_exited s (read v) x h = refl
outdates_exited s (set r) x h = refl
outdates_exited s (settled v) x h = refl

-- AFTER EXIT NO DUMP IS GRANTED
pub exited_no_dump : (s : State) (buffer : Bytes) → Exited s → outcome_of machine s (dump buffer) ≡ refused
exited_no_dump s buffer x = go (is_success (step s (dump buffer)).0.status) refl
  where
    asked : Status
    asked = dump_status (entries_of s.policy) buffer

    go : (b : Bool) → is_success (step s (dump buffer)).0.status ≡ b → outcome_by b ≡ refused
    go true h =
        let p = passed (policy_valid s.policy) (unless_exited s.switches asked) (ap is_success (sym (step_status s (dump buffer))) ∙ h) in
        absurd (true≢false (sym x ∙ (unexited s.switches.exited asked p.1).0))
    go false h = refl

fits : (b : Bool) → is_success (cond b Success BufferTooSmall) ≡ true → b ≡ true
fits true h = refl
fits false h = h

dump_room : (s : State) (buffer : Bytes) → is_success (dump_status (entries_of s.policy) buffer) ≡ true → sizes_sum s.policy ≤ length buffer
unfolding dump_status
dump_room s buffer h =
    let k = leb-true (length (flat (entries_of s.policy))) (length buffer) (fits (leb (length (flat (entries_of s.policy))) (length buffer)) h) in
    omega (arith, sizes_sum-flat s.policy, k)

-- A DUMP IS GRANTED EXACTLY BEFORE EXIT AND WITH ROOM, in a state that histories lead to
pub dump_exactly : (s : State) (buffer : Bytes) → Reached false s → (outcome_of machine s (dump buffer) ≡ granted) ↔ CanDumpInto s buffer
dump_exactly s buffer w = ((λ h. to (is_success (step s (dump buffer)).0.status) refl h), laws.dump_granted buffer w)
  where
    asked : Status
    asked = dump_status (entries_of s.policy) buffer

    to : (b : Bool) → is_success (step s (dump buffer)).0.status ≡ b → outcome_by b ≡ granted → CanDumpInto s buffer
    to true h e =
        let p = passed (policy_valid s.policy) (unless_exited s.switches asked) (ap is_success (sym (step_status s (dump buffer))) ∙ h) in
        let u = unexited s.switches.exited asked p.1 in
        record { before = u.0; room = dump_room s buffer u.1 }
    to false h e = absurd (granted_refused (sym e))

-- ---- rebuilds

-- exit leaves an engine that has exited, whatever it was
exit_exits : (s : State) → Exited (step s exit).1
unfolding step
exit_exits s = go s.switches.exited refl
  where
    go : (b : Bool) → s.switches.exited ≡ b → Exited (rules.after s exit (cond b Unsupported Success))
    go true e = e
    go false e = refl

ends_exited : (cs : List Call) (s : State) → Exited (end machine s (cs ++ (exit ∷ [])))
ends_exited [] s = exit_exits s
ends_exited (c ∷ cs) s = ends_exited cs (step s c).1

-- A REBUILD OF AN ENGINE THAT HAD EXITED LEAVES ONE THAT HAS: exit is its last call
closing_exits : (s : State) → Exited s → (cs : List Call) × (closing_of s ≡ cs ++ (exit ∷ []))
closing_exits s x =
    let cs = cond s.switches.enabled [] (disable ∷ []) in
    let ds = cond s.switches.locked (lock ∷ []) [] in
    (cs ++ ds, ap (λ b. cs ++ (ds ++ cond b (exit ∷ []) [])) x ∙ sym (append_assoc cs ds (exit ∷ [])))

pub rebuild_exits : (s : State) (o : List Bytes) → Exited s → Exited (end machine s (rebuilding machine s o))
rebuild_exits s o x =
    let k = closing_exits s x in
    let first = restart_of s ∷ (map register o ++ k.0) in
    let e : first ++ (exit ∷ []) ≡ rebuilding machine s o =
    ap (λ l. restart_of s ∷ l) (append_assoc (map register o) k.0 (exit ∷ []) ∙ ap (λ l. map register o ++ l) (sym k.1)) in
    subst (λ cs. Exited (end machine s cs)) e (ends_exited first s)

-- no call of the history in a list is a granted start
abbrev pub NoneStarts : State → Items machine → Type 0
NoneStarts s [] = Unit
NoneStarts s (call c ∷ is) = (restarts machine (kind_of c) (outcome_of machine s c) ≡ false) × NoneStarts (step s c).1 is
NoneStarts s (own_dump b ∷ is) = NoneStarts (step s (dump b)).1 is
NoneStarts s (rebuild ds x ∷ is) = NoneStarts (end machine s (rebuilding machine s (registered machine ds x))) is

-- AFTER EXIT ONLY A GRANTED START OUTDATES A DUMP
pub exited_outdates : (is : Items machine) (s : State) → Exited s → NoneStarts s is → NoneOutdates machine s is
exited_outdates [] s x n = tt
exited_outdates (call c ∷ is) s x n = (outdates_exited s c x n.0, exited_outdates is (step s c).1 (still_exited s c x n.0) n.1)
exited_outdates (own_dump b ∷ is) s x n = exited_outdates is (step s (dump b)).1 (still_exited s (dump b) x refl) n
exited_outdates (rebuild ds y ∷ is) s x n =
    exited_outdates is (end machine s (rebuilding machine s (registered machine ds y))) (rebuild_exits s (registered machine ds y) x) n

-- what stays of a state whose entries may stand in another order
pub record StaysButOrder (s t : State) : Type 0 where
  pub switches : t.switches ≡ s.switches
  pub vol : t.vol ≡ s.vol
  pub hidden : (v : Variable) (q : Bytes) → Not (RT (attributes_of q)) → RecordOf s v q ↔ RecordOf t v q

pub record_by : (w : Order machine) (t : State) (v : Variable) (q : Bytes) → RecordOf t v q ↔ RecordOf (state_by machine w t) v q
record_by none t v q = ((λ f. f), λ f. f)
record_by (some o) t v q = (
  (λ f. record { in_nv = f.in_nv; in_vol = f.in_vol; records = f.records; stands = f.stands; own = f.own }),
  λ f. record { in_nv = f.in_nv; in_vol = f.in_vol; records = f.records; stands = f.stands; own = f.own },
)

pub switches_by : (w : Order machine) (t : State) → ((state_by machine w t).switches ≡ t.switches) × ((state_by machine w t).vol ≡ t.vol)
switches_by none t = (refl, refl)
switches_by (some o) t = (refl, refl)

stays_in_order : (t u : State) (w y : Order machine) → Stays t u → StaysButOrder (state_by machine w t) (state_by machine y u)
stays_in_order t u w y k =
    record {
      switches = (switches_by y u).0 ∙ k.switches ∙ sym (switches_by w t).0;
      vol = (switches_by y u).1 ∙ k.vol ∙ sym (switches_by w t).1;
      hidden = λ v q n. (
        (λ f. (record_by y u v q).0 ((k.hidden v q n).0 ((record_by w t v q).1 f))),
        λ f. (record_by w t v q).0 ((k.hidden v q n).1 ((record_by y u v q).1 f)),
      );
    }

-- the history of a list in two parts
pub end_history : (xs ys : Items machine) (s : State) → end machine s (history machine (xs ++ ys)) ≡ end machine (end machine s (history machine xs)) (history machine ys)
end_history [] ys s = refl
end_history (call c ∷ xs) ys s = end_history xs ys (step s c).1
end_history (own_dump b ∷ xs) ys s = end_history xs ys s
end_history (rebuild ds x ∷ xs) ys s = end_history xs ys s

module _ (s : State) (allowed : Bool) (answered0 : is_success (rules.step s (power_on allowed)).0.status ≡ true) where
  abbrev begun : State
  begun = powered_on s allowed

  -- WHAT STAYS AFTER EXIT WITH REBUILDS BETWEEN: the switches, the volatile store and every record without RT. (The policy record has the same entries, in
  -- the order that stands: `same_end`.) Where there is an exit and no granted start, the history without the rebuilds says
  pub exited_stays_rebuilt : (xs ys : Items machine) → ProperFrom s allowed answered0 (xs ++ ys) → Exited (end machine begun (history machine xs))
      → NoneRestarts machine (end machine begun (history machine xs)) (history machine ys) → StaysButOrder (end_with machine begun xs) (end_with machine begun (xs ++ ys))
  exited_stays_rebuilt xs ys p e n =
      let t = end machine begun (history machine xs) in
      let u = end machine begun (history machine (xs ++ ys)) in
      let k : Stays t u = subst⁻¹ (Stays t) (end_history xs ys begun) (exited_stays (history machine ys) t e n) in
      subst⁻¹ (λ z. StaysButOrder z (end_with machine begun (xs ++ ys))) (demand_3 s allowed answered0 xs (first_part s allowed answered0 xs ys p)).same_end
      (subst⁻¹ (StaysButOrder (state_by machine (standing_order machine none begun xs) t)) (demand_3 s allowed answered0 (xs ++ ys) p).same_end
      (stays_in_order t u (standing_order machine none begun xs) (standing_order machine none begun (xs ++ ys)) k))

  -- ONE DUMP SERVES AGAIN AND AGAIN: complete where the engine has exited, it serves behind whatever follows but a granted start
  pub serves_again : (is zs : Items machine) (ds : List Bytes) (x : Order machine) → ProperFrom s allowed answered0 (is ++ zs)
      → Exited (end_with machine begun is) → Complete machine ds (past_at s allowed answered0 is) → NoneStarts (end_with machine begun is) zs
      → Permitted machine ds x → ProperFrom s allowed answered0 ((is ++ zs) ++ (rebuild ds x ∷ []))
  serves_again is zs ds x p e d n m =
      list.append_rebuild s allowed answered0 (is ++ zs) ds x p
      (subst⁻¹ (Complete machine ds) (moment.past_append machine is zs [] begun)
      (list.stays_complete zs ds (past_at s allowed answered0 is) (end_with machine begun is) (exited_outdates zs (end_with machine begun is) e n) d))
      m

  -- WHERE THE HISTORY HAS NO DUMP, ONE THAT IS MADE JUST BEFORE THE EXIT SERVES, at any later moment up to the next granted start, in any permitted
  -- order; and then again, by `serves_again`
  pub dump_before_exit : (xs ys : Items machine) (buffer : Bytes) (x : Order machine) → ProperFrom s allowed answered0 (xs ++ (call exit ∷ ys))
      → CanDumpInto (end_with machine begun xs) buffer → NoneStarts (step (end_with machine begun xs) exit).1 ys
      → Permitted machine (entries_at s allowed answered0 xs) x
      → ProperFrom s allowed answered0 ((xs ++ (own_dump buffer ∷ call exit ∷ ys)) ++ (rebuild (entries_at s allowed answered0 xs) x ∷ []))
  dump_before_exit xs ys buffer x p room n m =
      let z = end_with machine begun xs in
      list.dump_now_rebuild_later s allowed answered0 xs (call exit ∷ ys) buffer x p room (refl, exited_outdates ys (step z exit).1 (exit_exits z) n) m
