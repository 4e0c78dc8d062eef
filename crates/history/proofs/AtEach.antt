-- What holds at each call of a history alone, and what such calls keep to its end. Assumes nothing.
use Rattle.std.specs.Prelude.{List, [], ◌∷◌, ◌++◌}
use Rattle.history.specs.History.{Machine, Items, end, history}
use Rattle.history.specs.History.ItemOf.{call, own_dump, rebuild}
use Rattle.history.specs.AtEach.{AtEach}

module _ (M : Machine) where
  open M use {State, Call, step}

  -- what holds at the start, and is kept by every call for which P holds, holds at the end
  pub kept_to_end : (P : State → Call → Type 0) (Kept : State → Type 0)
      → ((s : State) (c : Call) → P s c → Kept s → Kept (step s c).1)
      → (cs : List Call) (s : State) → AtEach M P s cs → Kept s → Kept (end M s cs)
  kept_to_end P Kept keeps [] s p k = k
  kept_to_end P Kept keeps (c ∷ cs) s p k = kept_to_end P Kept keeps cs (step s c).1 p.1 (keeps s c p.0 k)

  -- of a history and of a list with rebuilds it holds in each first part
  pub at_each_first : (P : State → Call → Type 0) (cs ds : List Call) (s : State) → AtEach M P s (cs ++ ds) → AtEach M P s cs
  at_each_first P [] ds s p = tt
  at_each_first P (c ∷ cs) ds s p = (p.0, at_each_first P cs ds (step s c).1 p.1)

  pub at_each_history : (P : State → Call → Type 0) (xs ys : Items M) (s : State) → AtEach M P s (history M (xs ++ ys)) → AtEach M P s (history M xs)
  at_each_history P [] ys s p = tt
  at_each_history P (call c ∷ xs) ys s p = (p.0, at_each_history P xs ys (step s c).1 p.1)
  at_each_history P (own_dump b ∷ xs) ys s p = at_each_history P xs ys s p
  at_each_history P (rebuild ds x ∷ xs) ys s p = at_each_history P xs ys s p
