-- Demand 3 over any machine (RULES.md, 12): what a history with rebuilds is, and what is claimed.
-- Nothing here knows a byte, a store or a switch, and of calls only those that a rebuild makes. Which order of the entries stands when is fixed here; what
-- another order changes in a state and in an answer is the machine's, `state_in` and `answer_in`.
-- Assumes nothing: these are definitions.
use Rattle.std.specs.Prelude.{◌≡◌, Bool, true, false, ◌⊎◌, ℕ}
use mathlib.Core.List.{List, [], ◌∷◌, ◌++◌, map, Permᴰ}
use Rattle.std.proofs.Math.Option.{Option, none, some}
use Rattle.lists.specs.Lists.{All, Pairs, flat, RanksDiffer}

-- Granted is status 0, refused any other. A call that was cut, stopped half-way by a power failure, is neither
pub data Outcome : Type 0 where
  granted : Outcome
  refused : Outcome
  cut : Outcome

abbrev pub if_granted : {A : Type 0} → Outcome → A → A → A
if_granted granted x y = x
if_granted refused x y = y
if_granted cut x y = y

abbrev pub if_refused : {A : Type 0} → Outcome → A → A → A
if_refused granted x y = y
if_refused refused x y = x
if_refused cut x y = y

-- What a call does to the entries, if it is granted
pub data Kind (Entry : Type 0) : Type 0 where
  -- a power-on or a restart: there are none afterwards
  starts : Kind Entry
  -- a registration: the entry stands last afterwards
  registers : Entry → Kind Entry
  -- a dump: they stay, and the answer's bytes hold them
  dumps : Kind Entry
  -- any other: they stay
  keeps : Kind Entry

-- The items of a list: calls of the history, and between them what rebuilds do (RULES.md, 12.3). An entry is a list of symbols, and so is a buffer
pub data ItemOf (Call Symbol : Type 0) : Type 0 where
  -- a call of the history
  call : Call → ItemOf Call Symbol
  -- a dump that a rebuild takes itself, into a buffer
  own_dump : List Symbol → ItemOf Call Symbol
  -- a rebuild: the entries of the dump used, and the order in which they are registered, if it is another
  rebuild : List (List Symbol) → Option (List (List Symbol)) → ItemOf Call Symbol

-- The machine that demand 3 is about
pub record Machine : Type 1 where
  pub Symbol : Type 0
  pub State : Type 0
  pub Answer : Type 0
  pub Call : Type 0
  pub Variable : Type 0
  pub step : State → Call → Answer × State
  pub outcome : Answer → Outcome
  pub kind : Call → Kind (List Symbol)
  -- of the answer of a granted dump: the bytes of the entries
  pub dumped : Answer → List Symbol
  -- well-formed entries; the entries of a state, in the order in which they stand
  pub formed : List Symbol → Bool
  pub entries : State → List (List Symbol)
  -- what another order changes: the state with its entries in the order o; what the answer of a call, in a state with the entries es,
  -- becomes in the state in which they stand in the order o
  pub state_in : List (List Symbol) → State → State
  pub answer_in : Call → List (List Symbol) → List (List Symbol) → Answer → Answer
  -- the variables with a name that step 1 takes; which of them an entry targets, and at which rank
  pub named : Variable → Bool
  pub targets : List Symbol → Variable → Bool
  pub rank : List Symbol → ℕ
  -- the calls of a rebuild: its own dump into a buffer; the restart with the old engine's disable setting; the registration
  -- of an entry; what then gives the engine the old one's switches
  pub dump : List Symbol → Call
  pub restart : State → Call
  pub register : List Symbol → Call
  pub closing : State → List Call
  -- where a rebuild's own dump has to be granted, as where its buffer has room
  pub CanDump : State → List Symbol → Type 0
  -- the calls that may follow one that was cut
  pub starts_after_cut : Call → Bool

module _ (M : Machine) where
  open M use {Symbol, State, Answer, Call, Variable, step, outcome, kind, dumped, formed, entries, state_in, answer_in}
  open M use {named, targets, rank, dump, restart, register, closing, CanDump, starts_after_cut}

  abbrev pub Buffer : Type 0
  Buffer = List Symbol

  abbrev pub Entry : Type 0
  Entry = List Symbol

  abbrev pub Entries : Type 0
  Entries = List Entry

  abbrev pub Items : Type 0
  Items = List (ItemOf Call Symbol)

  -- in which order the entries stand: none, as without rebuilds; some o, in the order o. And in which order a rebuild registers:
  -- none, in the dump's own; some o, in the order o
  abbrev pub Order : Type 0
  Order = Option Entries

  abbrev pub outcome_of : State → Call → Outcome
  outcome_of s c = outcome (step s c).0

  -- A HISTORY ALONE (RULES.md, 12.1), each call from the state that its predecessor left: the answers, the end state, and that each
  -- call is granted
  abbrev pub answers : State → List Call → List Answer
  answers s [] = []
  answers s (c ∷ cs) = (step s c).0 ∷ answers (step s c).1 cs

  abbrev pub end : State → List Call → State
  end s [] = s
  end s (c ∷ cs) = end (step s c).1 cs

  abbrev pub AllGranted : State → List Call → Type 0
  AllGranted s [] = Unit
  AllGranted s (c ∷ cs) = (outcome_of s c ≡ granted) × AllGranted (step s c).1 cs

  -- A REBUILD (RULES.md, 12.3) in the state s: restart, one registration for each entry, then what closes it by s
  abbrev pub rebuilding : State → Entries → List Call
  rebuilding s o = restart s ∷ (map register o ++ closing s)

  -- the entries in the order in which a rebuild from the dump ds registers them
  abbrev pub registered : Entries → Order → Entries
  registered ds none = ds
  registered ds (some o) = o

  -- A HISTORY WITH REBUILDS, which are calls of the same step: the answers that the history's calls get, the end state, and
  -- that every step of every rebuild succeeds
  abbrev pub answers_with : State → Items → List Answer
  answers_with s [] = []
  answers_with s (call c ∷ is) = (step s c).0 ∷ answers_with (step s c).1 is
  answers_with s (own_dump b ∷ is) = answers_with (step s (dump b)).1 is
  answers_with s (rebuild ds x ∷ is) = answers_with (end s (rebuilding s (registered ds x))) is

  abbrev pub end_with : State → Items → State
  end_with s [] = s
  end_with s (call c ∷ is) = end_with (step s c).1 is
  end_with s (own_dump b ∷ is) = end_with (step s (dump b)).1 is
  end_with s (rebuild ds x ∷ is) = end_with (end s (rebuilding s (registered ds x))) is

  abbrev pub RebuildsSucceed : State → Items → Type 0
  RebuildsSucceed s [] = Unit
  RebuildsSucceed s (call c ∷ is) = RebuildsSucceed (step s c).1 is
  RebuildsSucceed s (own_dump b ∷ is) =
      (CanDump s b → outcome_of s (dump b) ≡ granted) × RebuildsSucceed (step s (dump b)).1 is
  RebuildsSucceed s (rebuild ds x ∷ is) =
      AllGranted s (rebuilding s (registered ds x)) × RebuildsSucceed (end s (rebuilding s (registered ds x))) is

  -- the history without its rebuilds
  abbrev pub history : Items → List Call
  history [] = []
  history (call c ∷ is) = c ∷ history is
  history (own_dump b ∷ is) = history is
  history (rebuild ds x ∷ is) = history is

  -- COMPLETE DUMPS (RULES.md, 12.2). What counts for them are the calls of the history and the rebuilds' own dumps, each with its answer, the
  -- latest first. A rebuild's restart and registrations hold no dump and outdate none
  pub record Event : Type 0 where
    pub made : Call
    pub got : Answer

  abbrev pub Past : Type 0
  Past = List Event

  abbrev pub event : State → Call → Event
  event s c = record { made = c; got = (step s c).0 }

  -- a granted registration, power-on or restart: dumps taken before it are no longer complete
  abbrev pub outdates : Kind Entry → Outcome → Bool
  outdates starts r = if_granted r true false
  outdates (registers e) r = if_granted r true false
  outdates dumps r = false
  outdates keeps r = false

  -- a granted dump, whose bytes are the well-formed entries ds end to end
  pub record DumpOf (ds : Entries) (c : Call) (a : Answer) : Type 0 where
    pub is_dump : kind c ≡ dumps
    pub is_granted : outcome a ≡ granted
    pub are_formed : All (λ e. formed e ≡ true) ds
    pub are_dumped : flat ds ≡ dumped a

  -- complete: such a dump is in the past, and nothing behind it outdates it
  abbrev pub Complete : Entries → Past → Type 0
  Complete ds [] = ⊥
  Complete ds (e ∷ past) =
      DumpOf ds e.made e.got ⊎ ((outdates (kind e.made) (outcome e.got) ≡ false) × Complete ds past)

  -- THE ORDERS (RULES.md, 12.4). Unambiguous: of all variables with a name that a set takes, stored or not, none is targeted by two of the
  -- entries at one rank
  abbrev pub Unambiguous : Entries → Type 0
  Unambiguous ds = (v : Variable) → named v ≡ true → Pairs (RanksDiffer rank (λ e. targets e v)) ds

  -- the dump's own order; or under that condition any permutation of it
  abbrev pub Permitted : Entries → Order → Type 0
  Permitted ds none = Unit
  Permitted ds (some o) = Permᴰ ds o × Unambiguous ds

  -- what may follow a call that was cut; and whether the last call that was not refused was cut
  abbrev pub MayFollow : Bool → Call → Type 0
  MayFollow true c = starts_after_cut c ≡ true
  MayFollow false c = Unit

  abbrev pub cut_after : Bool → Outcome → Bool
  cut_after t granted = false
  cut_after t refused = t
  cut_after t cut = true

  -- WHICH LISTS: calls as they come, refused ones too, with rebuilds at any places, each from a complete dump in
  -- a permitted order; after a call that was cut only some calls, and no own dump and no rebuild
  abbrev pub Proper : Bool → Past → State → Items → Type 0
  Proper t past s [] = Unit
  Proper t past s (call c ∷ is) =
      MayFollow t c × Proper (cut_after t (outcome_of s c)) (event s c ∷ past) (step s c).1 is
  Proper t past s (own_dump b ∷ is) = (t ≡ false) × Proper false (event s (dump b) ∷ past) (step s (dump b)).1 is
  Proper t past s (rebuild ds x ∷ is) =
      (t ≡ false) × Complete ds past × Permitted ds x × Proper false past (end s (rebuilding s (registered ds x))) is

  -- the same of a history alone: any list of calls, but for what may follow one that was cut
  abbrev pub ProperHistory : Bool → State → List Call → Type 0
  ProperHistory t s [] = Unit
  ProperHistory t s (c ∷ cs) = MayFollow t c × ProperHistory (cut_after t (outcome_of s c)) (step s c).1 cs

  -- every rebuild registers in the order of its dump
  abbrev pub InOrder : Items → Type 0
  InOrder [] = Unit
  InOrder (call c ∷ is) = InOrder is
  InOrder (own_dump b ∷ is) = InOrder is
  InOrder (rebuild ds none ∷ is) = InOrder is
  InOrder (rebuild ds (some o) ∷ is) = ⊥

  -- WHAT DIFFERS, where an order stands (RULES.md, 12.5): the state and the answer as the machine has them in that order
  abbrev pub state_by : Order → State → State
  state_by none s = s
  state_by (some o) s = state_in o s

  abbrev pub answer_by : Call → Entries → Order → Answer → Answer
  answer_by c es none a = a
  answer_by c es (some o) a = answer_in c es o a

  -- the entries after a call: a registered one stands last, a start leaves none
  abbrev pub entries_after : Kind Entry → Outcome → Entries → Entries
  entries_after starts r l = if_granted r [] l
  entries_after (registers e) r l = if_granted r (l ++ (e ∷ [])) l
  entries_after dumps r l = l
  entries_after keeps r l = l

  -- the order after a call: a granted start ends it
  abbrev pub order_in : Kind Entry → Outcome → Entries → Order
  order_in starts r o = if_granted r none (some o)
  order_in (registers e) r o = some (entries_after (registers e) r o)
  order_in dumps r o = some o
  order_in keeps r o = some o

  abbrev pub order_after : Kind Entry → Outcome → Order → Order
  order_after κ r none = none
  order_after κ r (some o) = order_in κ r o

  -- after a rebuild from the dump ds the order in which it registered stands; but one in order, where no other order stood,
  -- leaves none
  abbrev pub order_rebuilt : Order → Entries → Order → Order
  order_rebuilt w ds (some o) = some o
  order_rebuilt none ds none = none
  order_rebuilt (some o) ds none = some ds

  -- the order that stands at the end of a list, by the plain history's states; the plain history's answers, each in the
  -- order that stands at its call
  abbrev pub standing_order : Order → State → Items → Order
  standing_order w s [] = w
  standing_order w s (call c ∷ is) = standing_order (order_after (kind c) (outcome_of s c) w) (step s c).1 is
  standing_order w s (own_dump b ∷ is) = standing_order w s is
  standing_order w s (rebuild ds x ∷ is) = standing_order (order_rebuilt w ds x) s is

  abbrev pub answers_in_order : Order → State → Items → List Answer
  answers_in_order w s [] = []
  answers_in_order w s (call c ∷ is) =
      answer_by c (entries s) w (step s c).0 ∷ answers_in_order (order_after (kind c) (outcome_of s c) w) (step s c).1 is
  answers_in_order w s (own_dump b ∷ is) = answers_in_order w s is
  answers_in_order w s (rebuild ds x ∷ is) = answers_in_order (order_rebuilt w ds x) s is

  -- whatever order stands, now and at every moment, is a permutation of the plain history's entries
  abbrev pub SameEntries : Order → State → Type 0
  SameEntries none s = Unit
  SameEntries (some o) s = Permᴰ (entries s) o

  abbrev pub AlwaysSameEntries : Order → State → Items → Type 0
  AlwaysSameEntries w s [] = SameEntries w s
  AlwaysSameEntries w s (call c ∷ is) =
      SameEntries w s × AlwaysSameEntries (order_after (kind c) (outcome_of s c) w) (step s c).1 is
  AlwaysSameEntries w s (own_dump b ∷ is) = AlwaysSameEntries w s is
  AlwaysSameEntries w s (rebuild ds x ∷ is) = SameEntries w s × AlwaysSameEntries (order_rebuilt w ds x) s is

  -- REFUSED CALLS STRUCK (RULES.md, 12.6): from a list with rebuilds, from a history alone, and their answers from the answers
  abbrev pub struck : State → Items → Items
  struck s [] = []
  struck s (call c ∷ is) = if_refused (outcome_of s c) (struck (step s c).1 is) (call c ∷ struck (step s c).1 is)
  struck s (own_dump b ∷ is) = own_dump b ∷ struck (step s (dump b)).1 is
  struck s (rebuild ds x ∷ is) = rebuild ds x ∷ struck (end s (rebuilding s (registered ds x))) is

  abbrev pub struck_calls : State → List Call → List Call
  struck_calls s [] = []
  struck_calls s (c ∷ cs) =
      if_refused (outcome_of s c) (struck_calls (step s c).1 cs) (c ∷ struck_calls (step s c).1 cs)

  abbrev pub struck_answers : List Answer → List Answer
  struck_answers [] = []
  struck_answers (a ∷ l) = if_refused (outcome a) (struck_answers l) (a ∷ struck_answers l)

  -- DEMAND 3 (RULES.md, 12.5 and 12.6), of one list as a whole, from a state
  pub record Demand3 (s : State) (is : Items) : Type 0 where
    -- every call of every rebuild is granted (an own dump where `CanDump`)
    pub succeed : RebuildsSucceed s is
    -- answers and end state are those without the rebuilds, but for the order that stands, which is a permutation of the same
    -- entries
    pub same_answers : answers_with s is ≡ answers_in_order none s is
    pub same_end : end_with s is ≡ state_by (standing_order none s is) (end s (history is))
    pub same_entries : AlwaysSameEntries none s is
    -- in order: answers and end state are those without the rebuilds
    pub exact_answers : InOrder is → answers_with s is ≡ answers s (history is)
    pub exact_end : InOrder is → end_with s is ≡ end s (history is)
    -- every refused call struck: the list is again a proper one, of the history without its refused calls, and has no refused
    -- call; the calls that are left get the answers that they got, and the end is the same
    pub struck_proper : Proper false [] s (struck s is)
    pub struck_history : history (struck s is) ≡ struck_calls s (history is)
    pub struck_none_refused : All (λ a. outcome a ≡ refused → ⊥) (answers_with s (struck s is))
    pub struck_same_answers : answers_with s (struck s is) ≡ struck_answers (answers_with s is)
    pub struck_same_end : end_with s (struck s is) ≡ end_with s is
    -- and so of the history alone, which is itself a proper one
    pub proper_history : ProperHistory false s (history is)
    pub plain_struck_answers : answers s (struck_calls s (history is)) ≡ struck_answers (answers s (history is))
    pub plain_struck_end : end s (struck_calls s (history is)) ≡ end s (history is)
