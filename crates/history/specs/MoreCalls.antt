-- A machine with more calls: each of them is, whatever the state, one call that the machine has, or it makes none, is refused and changes nothing. What a history
-- with such calls is. Assumes nothing: these are definitions.
use Rattle.std.specs.Prelude.{◌≡◌, Bool, false}
use mathlib.Core.List.{List, [], ◌∷◌, map, Permᴰ}
use Rattle.std.proofs.Math.Option.{Option, none, some}
use Rattle.history.specs.History.{Kind, Machine, Entry, Entries}
use Rattle.history.specs.History.Outcome.{refused}
use Rattle.history.specs.History.Kind.{keeps}

-- a call of the machine, or one of the others
pub data CallOr (Call More : Type 0) : Type 0 where
  own : Call → CallOr Call More
  more : More → CallOr Call More

-- ---- by the call that one makes, none where it makes none
module _ (M : Machine) where
  open M use {State, Answer, Call, step, outcome, kind, answer_in, starts_after_cut}

  -- kind by kind as that call
  abbrev pub kind_by : Option Call → Kind (Entry M)
  kind_by none = keeps
  kind_by (some c) = kind c

  abbrev pub answer_in_by : Option Call → Entries M → Entries M → Answer → Answer
  answer_in_by none es o a = a
  answer_in_by (some c) es o a = answer_in c es o a

  abbrev pub starts_by : Option Call → Bool
  starts_by none = false
  starts_by (some c) = starts_after_cut c

  -- y is what it gives in the state s
  abbrev pub GivenBy : State → Answer × State → Option Call → Type 0
  GivenBy s y none = (outcome y.0 ≡ refused) × (y.1 ≡ s)
  GivenBy s y (some c) = y ≡ step s c

  -- it and the calls behind it
  abbrev pub behind_made : Option Call → List Call → List Call
  behind_made none cs = cs
  behind_made (some c) cs = c ∷ cs

-- `makes` is the call that each of the others makes
module _ (M : Machine) (More : Type 0) (makes : More → Option M.Call) where
  open M use {Call}

  abbrev pub made : CallOr Call More → Option Call
  made (own c) = some c
  made (more x) = makes x

  -- the calls that a list makes
  abbrev pub made_calls : List (CallOr Call More) → List Call
  made_calls [] = []
  made_calls (c ∷ cs) = behind_made M (made c) (made_calls cs)

  -- and `moreStep` what it gives
  module _ (moreStep : M.State → More → M.Answer × M.State) where
    open M use {Symbol, State, Answer, Variable, step, outcome, dumped, formed, entries, state_in}
    open M use {named, targets, rank, dump, restart, register, closing, CanDump}

    abbrev pub step_of : State → CallOr Call More → Answer × State
    step_of s (own c) = step s c
    step_of s (more x) = moreStep s x

    -- THE MACHINE WITH THEM: all else is as it was, and a rebuild makes the same calls
    abbrev pub with_more : Machine
    with_more =
        record {
          Symbol = Symbol;
          State = State;
          Answer = Answer;
          Call = CallOr Call More;
          Variable = Variable;
          step = step_of;
          outcome = outcome;
          kind = λ c. kind_by M (made c);
          dumped = dumped;
          formed = formed;
          entries = entries;
          state_in = state_in;
          answer_in = λ c. answer_in_by M (made c);
          named = named;
          targets = targets;
          rank = rank;
          dump = λ b. own (dump b);
          restart = λ s. own (restart s);
          register = λ e. own (register e);
          closing = λ s. map own (closing s);
          CanDump = CanDump;
          starts_after_cut = λ c. starts_by M (made c);
        }

    -- WHAT IS ASKED of the others; `Invariant` says which states are reached
    pub record Makes (Invariant : Bool → State → Type 0) : Type 0 where
      pub is : (s : State) (x : More) → GivenBy M s (moreStep s x) (makes x)
      -- one that makes no call answers the same in every order of the entries
      pub same : {s : State} {o : Entries M} (x : More) → makes x ≡ none → Invariant false s → Permᴰ (entries s) o
          → (moreStep (state_in o s) x).0 ≡ (moreStep s x).0
