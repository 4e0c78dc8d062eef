-- Where rebuilds may stand, and how often (RULES.md, 12.3): what counts for complete dumps after a list, what outdates none, and what is claimed of one rebuild.
-- Assumes nothing: these are definitions.
use Rattle.std.specs.Prelude.{◌≡◌, Bool, false}
use mathlib.Core.List.{List, [], ◌∷◌, ◌++◌}
use Rattle.history.specs.History.{Machine, Items, Past}
use Rattle.history.specs.History.Outcome.{cut}
use Rattle.history.specs.History.ItemOf.{call, own_dump, rebuild}
use Rattle.history.specs.History.{outcome_of, answers, end, AllGranted, rebuilding, registered, event, outdates, cut_after}

module _ (M : Machine) where
  open M use {State, Call, step, kind, entries, dump}

  -- whether the last call of a list that was not refused was cut
  abbrev pub cut_at_end : Bool → State → Items M → Bool
  cut_at_end t s [] = t
  cut_at_end t s (call c ∷ is) = cut_at_end (cut_after M t (outcome_of M s c)) (step s c).1 is
  cut_at_end t s (own_dump b ∷ is) = cut_at_end false (step s (dump b)).1 is
  cut_at_end t s (rebuild ds x ∷ is) = cut_at_end false (end M s (rebuilding M s (registered M ds x))) is

  -- what counts for complete dumps after a list
  abbrev pub past_after : Past M → State → Items M → Past M
  past_after past s [] = past
  past_after past s (call c ∷ is) = past_after (event M s c ∷ past) (step s c).1 is
  past_after past s (own_dump b ∷ is) = past_after (event M s (dump b) ∷ past) (step s (dump b)).1 is
  past_after past s (rebuild ds x ∷ is) = past_after past (end M s (rebuilding M s (registered M ds x))) is

  -- no call of the history in a list outdates a dump
  abbrev pub NoneOutdates : State → Items M → Type 0
  NoneOutdates s [] = Unit
  NoneOutdates s (call c ∷ is) = (outdates M (kind c) (outcome_of M s c) ≡ false) × NoneOutdates (step s c).1 is
  NoneOutdates s (own_dump b ∷ is) = NoneOutdates (step s (dump b)).1 is
  NoneOutdates s (rebuild ds x ∷ is) = NoneOutdates (end M s (rebuilding M s (registered M ds x))) is

  -- no call is ever cut
  abbrev pub NeverCut : Type 0
  NeverCut = (s : State) (c : Call) → outcome_of M s c ≡ cut → ⊥

  -- the calls of a rebuild in order behind a history
  abbrev pub rebuild_after : State → List Call → List Call
  rebuild_after s cs = rebuilding M (end M s cs) (entries (end M s cs))

  -- One rebuild between two parts of a history: each of its calls is granted; the history's calls get the answers, and the end
  -- is the state, that there would be without it
  pub record OneRebuild (s : State) (cs₁ cs₂ : List Call) : Type 0 where
    pub succeeds : AllGranted M (end M s cs₁) (rebuild_after s cs₁)
    pub same_answers :
        answers M s cs₁ ++ answers M (end M s (cs₁ ++ rebuild_after s cs₁)) cs₂ ≡ answers M s (cs₁ ++ cs₂)
    pub same_end : end M s (cs₁ ++ (rebuild_after s cs₁ ++ cs₂)) ≡ end M s (cs₁ ++ cs₂)
