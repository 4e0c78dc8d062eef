-- SIZES OVER A HISTORY (RULES.md, 12.7): of a variable that is absent at the start (`absent_sized`), or of a size that an entry allows, and where
-- that entry is enforced at each granted set of it that is no deletion, the stored length never leaves the entry's MinSize to MaxSize.
-- Assumes nothing but that the power-on answered 0.
use Rattle.std.specs.Prelude.{◌≡◌, List, [], ◌++◌, Bool, true, false}
use Rattle.std.proofs.Math.Path.{subst⁻¹}
use Rattle.std.proofs.Math.Option.{none, some}
use Rattle.slices.specs.Bytes.{Bytes}
use Rattle.names.specs.Name.{Variable}
use Rattle.status.specs.Status.{is_success}
use Rattle.rules.specs.Engine as rules
use Rattle.rules.specs.Engine.{State, Call}
use Rattle.rules.specs.Engine.Call.{power_on}
use Rattle.rules.proofs.StateLaws.{Sound, step_sound, power_on_sound}
use Rattle.rules.proofs.SizeLaws.{EnforcedAt, Sized, step_sizes}
use Rattle.history.specs.History.{Items, Order, Proper, end, end_with, history, standing_order, state_by}
use Rattle.history.specs.AtEach.{AtEach}
use Rattle.history.proofs.AtEach.{kept_to_end, at_each_first, at_each_history}
use Rattle.demand3.specs.Machine.{machine}
use Rattle.demand3.specs.Demand3.{powered_on}
use Rattle.demand3.proofs.Demand3.{demand_3}
use Rattle.demand3.proofs.WhereRebuilds.{first_part}

-- another order of the entries changes no variable
sized_in_order : (e : Bytes) (v : Variable) (t : State) (w : Order machine) → Sized e v t → Sized e v (state_by machine w t)
sized_in_order e v t none k = k
sized_in_order e v t (some o) k = λ q f. k q (record { in_nv = f.in_nv; in_vol = f.in_vol; records = f.records; stands = f.stands; own = f.own })

module _ (s : State) (allowed : Bool) (answered0 : is_success (rules.step s (power_on allowed)).0.status ≡ true) (v : Variable) (e : Bytes)
    (sized : Sized e v (powered_on s allowed)) where
  -- where the history starts
  abbrev begun : State
  begun = powered_on s allowed

  end_sized : (cs : List Call) → AtEach machine (EnforcedAt e v) begun cs → Sized e v (end machine begun cs)
  end_sized cs p =
      (kept_to_end machine (EnforcedAt e v) (λ t. Sound t × Sized e v t) (λ t c h k. (step_sound t c k.0, step_sizes t c e v k.0 h k.1)) cs begun p
      (power_on_sound s allowed answered0, sized)
      ).1

  -- AT EVERY MOMENT OF A HISTORY, between its calls cs and ds
  pub sizes_kept : (cs ds : List Call) → AtEach machine (EnforcedAt e v) begun (cs ++ ds) → Sized e v (end machine begun cs)
  sizes_kept cs ds p = end_sized cs (at_each_first machine (EnforcedAt e v) cs ds begun p)

  -- and of one with rebuilds, between its items xs and ys; which entry is enforced, the history without them says
  pub sizes_kept_rebuilt : (xs ys : Items machine) → Proper machine false [] begun (xs ++ ys)
      → AtEach machine (EnforcedAt e v) begun (history machine (xs ++ ys)) → Sized e v (end_with machine begun xs)
  sizes_kept_rebuilt xs ys proper p =
      subst⁻¹ (Sized e v) (demand_3 s allowed answered0 xs (first_part s allowed answered0 xs ys proper)).same_end
      (sized_in_order e v _ (standing_order machine none begun xs) (end_sized (history machine xs) (at_each_history machine (EnforcedAt e v) xs ys begun p)))
