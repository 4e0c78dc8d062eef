-- HOW LONG A LOCK LASTS (RULES.md, 12.9), WITH REBUILDS BETWEEN (`how_long_rebuilt`): what HowLong.antt says of calls alone, of a list of calls and rebuilds too.
-- Assumes nothing but that the power-on answered 0.
use Rattle.std.specs.Prelude.{◌≡◌, refl, List, [], ◌∷◌, ◌++◌, Bool, true, ◌↔◌}
use Rattle.std.proofs.Common.{sym, ap, ◌∙◌}
use Rattle.std.proofs.Math.Path.{subst⁻¹}
use Rattle.std.proofs.Math.Option.{none, some}
use Rattle.slices.specs.Bytes.{Bytes}
use Rattle.names.specs.Name.{Variable}
use Rattle.status.specs.Status.{is_success}
use Rattle.rules.specs.Engine as rules
use Rattle.rules.specs.Engine.{State, Call, Answer, step}
use Rattle.rules.specs.Engine.Call.{power_on, dump, settled}
use Rattle.rules.specs.Grounds.{RecordOf}
use Rattle.rules.specs.SettledStays.{yes}
use Rattle.history.specs.History.{Items, Entries, Order, outcome_of, end, end_with, answers_with, answers_in_order, answer_by, rebuilding, registered, history, order_after, order_rebuilt, standing_order}
use Rattle.history.specs.History.ItemOf.{call, own_dump, rebuild}
use Rattle.history.specs.StandingOrder.{NoneRestarts}
use Rattle.demand3.specs.Machine.{kind_of, machine}
use Rattle.demand3.specs.Demand3.{powered_on, ProperFrom}
use Rattle.demand3.specs.HowLong.{AsItWas}
use Rattle.demand3.proofs.Demand3.{demand_3}
use Rattle.demand3.proofs.WhereRebuilds.{first_part, append_calls}
use Rattle.demand3.proofs.AfterExit.{end_history, record_by, switches_by}
use Rattle.demand3.proofs.HowLong.{how_long_lem}

-- the last of a list, and d of an empty one
last_of : Answer → List Answer → Answer
last_of d [] = d
last_of d (a ∷ l) = last_of a l

-- the answer to a call behind a list
answer_behind : (d : Answer) (c : Call) (is : Items machine) (s : State) → last_of d (answers_with machine s (is ++ (call c ∷ []))) ≡ (step (end_with machine s is) c).0
unfolding last_of
answer_behind d c [] s = refl
answer_behind d c (call b ∷ is) s = answer_behind (step s b).0 c is (step s b).1
answer_behind d c (own_dump b ∷ is) s = answer_behind d c is (step s (dump b)).1
answer_behind d c (rebuild ds x ∷ is) s = answer_behind d c is (end machine s (rebuilding machine s (registered machine ds x)))

-- and behind the history alone, in the order that stands
answer_in_order : (d : Answer) (c : Call) (is : Items machine) (w : Order machine) (s : State)
    → (es : Entries machine) × (o : Order machine) × (last_of d (answers_in_order machine w s (is ++ (call c ∷ []))) ≡ answer_by machine c es o (step (end machine s (history machine is)) c).0)
unfolding last_of
answer_in_order d c [] w s = (_, w, refl)
answer_in_order d c (call b ∷ is) w s =
    answer_in_order (answer_by machine b (machine.entries s) w (step s b).0) c is (order_after machine (kind_of b) (outcome_of machine s b) w) (step s b).1
answer_in_order d c (own_dump b ∷ is) w s = answer_in_order d c is w s
answer_in_order d c (rebuild ds x ∷ is) w s = answer_in_order d c is (order_rebuilt machine w ds x) s

-- a yes is the same in every order
yes_in_order : (v : Variable) (es : Entries machine) (o : Order machine) → answer_by machine (settled v) es o yes ≡ yes
yes_in_order v es none = refl
yes_in_order v es (some o) = refl

module _ (s : State) (allowed : Bool) (answered0 : is_success (rules.step s (power_on allowed)).0.status ≡ true) where
  abbrev begun : State
  begun = powered_on s allowed

  -- a yes of the history alone is one of the list with rebuilds
  yes_rebuilt : (is : Items machine) → ProperFrom s allowed answered0 is → (v : Variable) → (step (end machine begun (history machine is)) (settled v)).0 ≡ yes
      → (step (end_with machine begun is) (settled v)).0 ≡ yes
  yes_rebuilt is p v a =
      let k = (demand_3 s allowed answered0 (is ++ (call (settled v) ∷ [])) (append_calls s allowed answered0 is (settled v ∷ []) p)).same_answers in
      let o = answer_in_order yes (settled v) is none begun in
      sym (answer_behind yes (settled v) is begun) ∙ ap (last_of yes) k ∙ o.2 ∙ ap (answer_by machine (settled v) o.0 o.1) a ∙ yes_in_order v o.0 o.1

  switches_rebuilt : (is : Items machine) → ProperFrom s allowed answered0 is → (end_with machine begun is).switches ≡ (end machine begun (history machine is)).switches
  switches_rebuilt is p =
      ap (λ t. t.switches) (demand_3 s allowed answered0 is p).same_end ∙ (switches_by (standing_order machine none begun is) (end machine begun (history machine is))).0

  -- its record in the list is that in the history
  record_rebuilt : (is : Items machine) → ProperFrom s allowed answered0 is → (v : Variable) (q : Bytes)
      → RecordOf (end machine begun (history machine is)) v q ↔ RecordOf (end_with machine begun is) v q
  record_rebuilt is p v q =
      subst⁻¹ (λ t. RecordOf (end machine begun (history machine is)) v q ↔ RecordOf t v q) (demand_3 s allowed answered0 is p).same_end
      (record_by (standing_order machine none begun is) (end machine begun (history machine is)) v q)

  -- THE SAME WITH REBUILDS at any places of a list xs and ys, where the history without them is such a one from the end of xs on
  pub how_long_rebuilt : (xs ys : Items machine) → ProperFrom s allowed answered0 (xs ++ ys) → (v : Variable)
      → (step (end machine begun (history machine xs)) (settled v)).0 ≡ yes
      → (end machine begun (history machine xs)).switches.enabled ≡ true → (end machine begun (history machine xs)).switches.locked ≡ true
      → NoneRestarts machine (end machine begun (history machine xs)) (history machine ys)
      → AsItWas (end_with machine begun xs) (end_with machine begun (xs ++ ys)) v
  how_long_rebuilt xs ys p v a e l n =
      let t = end machine begun (history machine xs) in
      let k = how_long_lem t v a e l (history machine ys) n in
      let same = end_history xs ys begun in
      let j : AsItWas t (end machine begun (history machine (xs ++ ys))) v = subst⁻¹ (λ u. AsItWas t u v) same k in
      let w = switches_rebuilt (xs ++ ys) p in
      record {
        stands = λ q.
            let f = record_rebuilt xs (first_part s allowed answered0 xs ys p) v q in
            let g = record_rebuilt (xs ++ ys) p v q in
            ((λ z. g.0 ((j.stands q).0 (f.1 z))), λ z. f.0 ((j.stands q).1 (g.1 z)));
        answers = yes_rebuilt (xs ++ ys) p v j.answers;
        enabled = ap (λ x. x.enabled) w ∙ j.enabled;
        locked = ap (λ x. x.locked) w ∙ j.locked;
      }
