-- The order that stands (RULES.md, 12.4): after a rebuild in another order, or in order where another stood, and calls of the
-- history of which none is a granted start, it is the order in which the rebuild registered, and what is registered later
-- stands behind it; a granted start ends it. Assumes nothing.
use Rattle.std.specs.Prelude.{◌≡◌, refl, List, [], ◌∷◌, ◌++◌, map, false}
use Rattle.std.proofs.Common.{sym, ◌∙◌, ap, ap₂, append_assoc, append-nil, true≢false}
use Rattle.std.proofs.Math.Option.{none, some}
use Rattle.history.specs.History.{Outcome, Kind, Machine, Entry, Entries, Items, Order}
use Rattle.history.specs.History.Outcome.{granted, refused, cut}
use Rattle.history.specs.History.Kind.{starts, registers, dumps, keeps}
use Rattle.history.specs.History.ItemOf.{call, own_dump, rebuild}
use Rattle.history.specs.History.{outcome_of, end, history, order_in, order_after, order_rebuilt, standing_order}
use Rattle.history.specs.StandingOrder.{registered_by, registered_since, restarts, NoneRestarts}

module _ (M : Machine) where
  open M use {State, Call, step, kind}

  order_in_lem : (κ : Kind (Entry M)) (r : Outcome) (o : Entries M) → restarts M κ r ≡ false
      → order_in M κ r o ≡ some (o ++ registered_by M κ r)
  order_in_lem starts granted o h = absurd (true≢false h)
  order_in_lem starts refused o h = ap some (sym (append-nil o))
  order_in_lem starts cut o h = ap some (sym (append-nil o))
  order_in_lem (registers e) granted o h = refl
  order_in_lem (registers e) refused o h = ap some (sym (append-nil o))
  order_in_lem (registers e) cut o h = ap some (sym (append-nil o))
  order_in_lem dumps r o h = ap some (sym (append-nil o))
  order_in_lem keeps r o h = ap some (sym (append-nil o))

  -- THOSE REGISTERED SINCE STAND BEHIND
  pub behind : (cs : List Call) (s : State) (o : Entries M) → NoneRestarts M s cs
      → standing_order M (some o) s (map call cs) ≡ some (o ++ registered_since M s cs)
  behind [] s o n = ap some (sym (append-nil o))
  behind (c ∷ cs) s o n =
      let e = registered_by M (kind c) (outcome_of M s c) in
      ap (λ w. standing_order M w (step s c).1 (map call cs)) (order_in_lem (kind c) (outcome_of M s c) o n.0)
      ∙ behind cs (step s c).1 (o ++ e) n.1
      ∙ ap some (append_assoc o e (registered_since M (step s c).1 cs))

  standing_append : (xs ys : Items M) (w : Order M) (s : State)
      → standing_order M w s (xs ++ ys) ≡ standing_order M (standing_order M w s xs) (end M s (history M xs)) ys
  standing_append [] ys w s = refl
  standing_append (call c ∷ xs) ys w s = standing_append xs ys (order_after M (kind c) (outcome_of M s c) w) (step s c).1
  standing_append (own_dump b ∷ xs) ys w s = standing_append xs ys w s
  standing_append (rebuild ds x ∷ xs) ys w s = standing_append xs ys (order_rebuilt M w ds x) s

  -- THE LAST REBUILD'S ORDER: of one in another order, whatever stood before it
  pub last_rebuild : (xs : Items M) (ds o : Entries M) (cs : List Call) (s : State) → NoneRestarts M (end M s (history M xs)) cs
      → standing_order M none s (xs ++ (rebuild ds (some o) ∷ map call cs)) ≡ some (o ++ registered_since M (end M s (history M xs)) cs)
  last_rebuild xs ds o cs s n = standing_append xs (rebuild ds (some o) ∷ map call cs) none s ∙ behind cs (end M s (history M xs)) o n

  -- of one in order, where another order stood
  pub last_in_order : (xs : Items M) (ds o : Entries M) (cs : List Call) (s : State) → standing_order M none s xs ≡ some o
      → NoneRestarts M (end M s (history M xs)) cs
      → standing_order M none s (xs ++ (rebuild ds none ∷ map call cs)) ≡ some (ds ++ registered_since M (end M s (history M xs)) cs)
  last_in_order xs ds o cs s h n =
      standing_append xs (rebuild ds none ∷ map call cs) none s
      ∙ ap (λ w. standing_order M (order_rebuilt M w ds none) (end M s (history M xs)) (map call cs)) h
      ∙ behind cs (end M s (history M xs)) ds n

  -- A GRANTED START ENDS IT
  start_ends : (w : Order M) → order_after M starts granted w ≡ none
  start_ends none = refl
  start_ends (some o) = refl

  pub start_ends_order : (xs : Items M) (c : Call) (s : State) → kind c ≡ starts → outcome_of M (end M s (history M xs)) c ≡ granted
      → standing_order M none s (xs ++ (call c ∷ [])) ≡ none
  start_ends_order xs c s k g =
      let w = standing_order M none s xs in
      standing_append xs (call c ∷ []) none s
      ∙ ap₂ (λ κ r. order_after M κ r w) k g
      ∙ start_ends w
