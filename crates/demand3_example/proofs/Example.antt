-- A history with rebuilds, computed by the rules: what each of its calls answers, that it is one of the lists that the claim
-- is about, and what the claim then says of it.
use Rattle.std.specs.Prelude.{ℕ, zero, suc, ◌≡◌, refl, Bool, true, false, take, replicate, None, Some, Ok}
use Rattle.std.proofs.Common.{ap, ◌∙◌, inl, inr, arith}
use mathlib.Core.List.{List, [], ◌∷◌, ◌++◌, map, Permᴰ}
use Rattle.std.proofs.Math.Option.{Option, none, some}
use Rattle.limits.specs.Limits.{policy_bytes}
use Rattle.lists.specs.Lists.{All, nil, more}
use Rattle.slices.specs.Test.{◌and◌}
use Rattle.slices.proofs.TestLaws.{and_left, and_right}
use Rattle.slices.specs.Bytes.{Bytes, same}
use Rattle.slices.proofs.BytesLaws.{same_eq}
use Rattle.slices.specs.Chunks.{flat}
use Rattle.names.specs.Name.{Variable, units}
use Rattle.patterns.specs.Common.{least_name}
use Rattle.entry.specs.Entry.{well_formed, targets, rank}
use Rattle.policy.specs.Dump.{dump_valid}
use Rattle.quarrels.specs.Pairs.{row_from, pair_from}
use Rattle.quarrels.specs.Quarrel.{quarrel, first_quarrel, quarrels_of, buffer_after}
use Rattle.status.specs.Status.{is_success, status_number}
use Rattle.switches.specs.Switches.{fresh_switches}
use Rattle.rules.specs.declared.Ground.TheVariants.{LockGround}
use Rattle.rules.specs.declared.Report.{Report}
use Rattle.rules.specs.Report.{report_of}
use Rattle.rules.specs.Engine as rules
use Rattle.rules.specs.Engine.{State, Answer, Call, step}
use Rattle.rules.specs.Engine.Call.{power_on, restart, register, dump, lock, disable, exit, read, set}
use Rattle.rules.specs.Opened.{rules_opened}
use Rattle.history.specs.History.{Items, Order, Complete, Demand3, Permitted, Past, answers, end, answers_with, end_with, history, state_by, standing_order, struck}
use Rattle.history.specs.AnyMoment.{past_after}
use Rattle.history.specs.History.Kind.{dumps}
use Rattle.history.specs.History.ItemOf.{call, own_dump, rebuild}
use Rattle.demand3.specs.Machine.{outcome_by, kind_of, machine}
use Rattle.demand3.specs.Demand3.{powered_on, ProperFrom}
use Rattle.demand3.proofs.Demand3.{demand_3}
use Rattle.demand3.proofs.WhereRebuilds.{append_calls, insert_dump, append_rebuild}
use Rattle.demand3.proofs.AnyOrder.{any_order, quarrel_no_order}

-- to compute by the checker of a dump as well
unfoldable checker_opened : Bool
unfolding rules_opened least_name dump_valid row_from pair_from quarrel quarrels_of buffer_after
checker_opened = true

-- two namespaces; the names "A#", "#A", "A1" and "AA"
abbrev G : Bytes
G = 0x5C ∷ 0x67 ∷ 0xD1 ∷ 0x81 ∷ 0xF6 ∷ 0x86 ∷ 0xDF ∷ 0x48 ∷ 0xBD ∷ 0x95 ∷ 0x9A ∷ 0x6E ∷ 0x4F ∷ 0x09 ∷ 0x25 ∷ 0xC3 ∷ []

abbrev H : Bytes
H = 7 ∷ 7 ∷ 7 ∷ 7 ∷ 7 ∷ 7 ∷ 7 ∷ 7 ∷ 7 ∷ 7 ∷ 7 ∷ 7 ∷ 7 ∷ 7 ∷ 7 ∷ 7 ∷ []

abbrev name : ℕ → ℕ → Bytes
name a b = a ∷ 0 ∷ b ∷ 0 ∷ []

-- a well-formed entry of 50 bytes: namespace, lock type, and a name of two units; any size and attributes
abbrev entry : Bytes → ℕ → Bytes → Bytes
entry space type units =
    (0 ∷ 0 ∷ 1 ∷ 0 ∷ 50 ∷ 0 ∷ 44 ∷ 0 ∷ []) ++ space
    ++ (0 ∷ 0 ∷ 0 ∷ 0 ∷ 255 ∷ 255 ∷ 255 ∷ 255 ∷ 0 ∷ 0 ∷ 0 ∷ 0 ∷ 0 ∷ 0 ∷ 0 ∷ 0 ∷ type ∷ 0 ∷ 0 ∷ 0 ∷ []) ++ units ++ (0 ∷ 0 ∷ [])

-- "A#" of namespace G, which locks now; "A#" of namespace H, of equal rank; and "#A" of namespace G, which targets "AA" at
-- the rank of the first
abbrev e₁ : Bytes
e₁ = entry G 1 (name 0x41 0x23)

abbrev e₂ : Bytes
e₂ = entry H 0 (name 0x41 0x23)

abbrev e₃ : Bytes
e₃ = entry G 0 (name 0x23 0x41)

abbrev variable : Bytes → ℕ → ℕ → Variable
variable space a b = record { namespace = space; name = name a b }

-- a set with NV and BS, and one with RT beside them
abbrev setting : Variable → Bytes → Call
setting v payload = set (record { variable = v; attributes = 3; payload = payload })

abbrev setting_rt : Variable → Bytes → Call
setting_rt v payload = set (record { variable = v; attributes = 7; payload = payload })

-- before the power-on: an erased non-volatile store, a volatile one and a policy record that hold anything
abbrev board : rules.State
board = record { nv = replicate 128 255; vol = replicate 8 0; policy = replicate policy_bytes 7; switches = fresh_switches false }

-- the entries in the order of the history, in another, in that with the third behind, and the third alone
abbrev d₁₂ : List Bytes
d₁₂ = e₁ ∷ e₂ ∷ []

abbrev d₂₁ : List Bytes
d₂₁ = e₂ ∷ e₁ ∷ []

abbrev d₂₁₃ : List Bytes
d₂₁₃ = e₂ ∷ e₁ ∷ e₃ ∷ []

abbrev d₃ : List Bytes
d₃ = e₃ ∷ []

-- behind a restart: the third and then the second, and in another order
abbrev d₃₂ : List Bytes
d₃₂ = e₃ ∷ e₂ ∷ []

abbrev d₂₃ : List Bytes
d₂₃ = e₂ ∷ e₃ ∷ []

-- THE LIST, part by part: each time a rebuild, then calls of the history
abbrev and_then : Items machine → List Bytes → Order machine → List Call → Items machine
and_then is ds x cs = (is ++ (rebuild ds x ∷ [])) ++ map call cs

-- 1. Before the first call, from an own dump of no entries. Two registrations; a set that is refused by the lock; a create; a
-- read; a dump at 5
abbrev calls₁ : List Call
calls₁ =
    register e₁ ∷ register e₂ ∷ setting (variable G 0x41 0x31) (7 ∷ []) ∷ setting (variable H 0x41 0x31) (1 ∷ 2 ∷ [])
    ∷ read (variable H 0x41 0x31) ∷ dump (replicate 99 5) ∷ []

abbrev items₁ : Items machine
items₁ = and_then (own_dump [] ∷ []) [] none calls₁

-- 2. From an own dump into a buffer of exact length, in another order. A dump
abbrev dumped₁ : Items machine
dumped₁ = items₁ ++ (own_dump (replicate 100 5) ∷ [])

abbrev calls₂ : List Call
calls₂ = dump (replicate 101 8) ∷ []

abbrev items₂ : Items machine
items₂ = and_then dumped₁ d₁₂ (some d₂₁) calls₂

-- 3. From the same dump, which was taken before the other order, in order. A dump
abbrev calls₃ : List Call
calls₃ = dump (replicate 100 8) ∷ []

abbrev items₃ : Items machine
items₃ = and_then items₂ d₁₂ none calls₃

-- 4. From the same dump, in the other order again. A registration that quarrels with the first entry; a set of "AA", for which
-- the first still speaks; a dump
abbrev calls₄ : List Call
calls₄ = register e₃ ∷ setting (variable G 0x41 0x41) (7 ∷ []) ∷ dump (replicate 152 9) ∷ []

abbrev items₄ : Items machine
items₄ = and_then items₃ d₁₂ (some d₂₁) calls₄

-- 5. From the history's dump, in order. Disabled, locked, and a refused registration
abbrev calls₅ : List Call
calls₅ = disable ∷ lock ∷ register e₁ ∷ []

abbrev items₅ : Items machine
items₅ = and_then items₄ d₂₁₃ none calls₅

-- 6. From the same dump, in order, of an engine that is disabled and locked. A set that the lock refused before, and that a
-- disabled engine takes; a restart of the history; a registration; a dump
abbrev calls₆ : List Call
calls₆ = setting (variable G 0x41 0x31) (7 ∷ []) ∷ restart true ∷ register e₃ ∷ dump (replicate 51 4) ∷ []

abbrev items₆ : Items machine
items₆ = and_then items₅ d₂₁₃ none calls₆

-- 7. From the history's dump, in order. A registration; disabled and locked
abbrev calls₇ : List Call
calls₇ = register e₂ ∷ disable ∷ lock ∷ []

abbrev items₇ : Items machine
items₇ = and_then items₆ d₃ none calls₇

-- An own dump, and the exit of the history; a dump of the history, which is refused now
abbrev dumped₇ : Items machine
dumped₇ = items₇ ++ (own_dump (replicate 100 6) ∷ [])

abbrev exited₇ : Items machine
exited₇ = dumped₇ ++ map call (exit ∷ dump (replicate 100 2) ∷ [])

-- 8. After exit, from the dump before it, in another order: the engine is disabled, locked and exited again. A registration that is refused now; a read of a variable without RT, which is hidden; a set
-- with RT
abbrev calls₈ : List Call
calls₈ = register e₁ ∷ read (variable H 0x41 0x31) ∷ setting_rt (variable H 0x41 0x32) (5 ∷ []) ∷ []

abbrev items₈ : Items machine
items₈ = and_then exited₇ d₃₂ (some d₂₃) calls₈

-- 9. After exit again, from the same dump, in order. A read of the variable with RT; a lock that is refused; the next power-on
abbrev items : Items machine
items = and_then items₈ d₃₂ none (read (variable H 0x41 0x32) ∷ lock ∷ power_on false ∷ [])

abbrev start : State
start = powered_on board true

-- what the history's calls answer, with the rebuilds and without them
abbrev answers_got : List Answer
answers_got = answers_with machine start items

abbrev answers_without : List Answer
answers_without = answers machine start (history machine items)

abbrev status_numbers : List Answer → List ℕ
status_numbers [] = []
status_numbers (a ∷ l) = status_number a.status ∷ status_numbers l

abbrev bytes_of : ℕ → List Answer → Bytes
bytes_of n [] = []
bytes_of zero (a ∷ l) = a.bytes
bytes_of (suc n) (a ∷ l) = bytes_of n l

abbrev number_of : ℕ → List Answer → ℕ
number_of n [] = 0
number_of zero (a ∷ l) = a.number
number_of (suc n) (a ∷ l) = number_of n l

abbrev report_at : ℕ → List Answer → Option Report
report_at n [] = none
report_at zero (a ∷ l) = a.report
report_at (suc n) (a ∷ l) = report_at n l

-- WHAT THE CALLS ANSWER, computed
pub record Answers : Type 0 where
  pub powered : is_success (step board (power_on true)).0.status ≡ true
  pub statuses : status_numbers answers_got ≡ 0 ∷ 0 ∷ 8 ∷ 0 ∷ 0 ∷ 5 ∷ 0 ∷ 0 ∷ 0 ∷ 8 ∷ 0 ∷ 0 ∷ 0 ∷ 8 ∷ 0 ∷ 0 ∷ 0 ∷ 0
      ∷ 0 ∷ 0 ∷ 0 ∷ 0 ∷ 3 ∷ 3 ∷ 14 ∷ 0 ∷ 0 ∷ 3 ∷ 0 ∷ []
  -- the read's attributes and payload
  pub attributes : number_of 4 answers_got ≡ 3
  pub payload : bytes_of 4 answers_got ≡ 1 ∷ 2 ∷ []
  -- the needed length at 5
  pub needed : number_of 5 answers_got ≡ 100
  -- the dumps in the other order, in the older dump's, and in the other with the entry registered since behind it, each with its
  -- buffer's old bytes; the last of them without the rebuilds
  pub dumped_other : bytes_of 6 answers_got ≡ e₂ ++ e₁ ++ (8 ∷ [])
  pub dumped_older : bytes_of 7 answers_got ≡ e₁ ++ e₂
  pub dumped : bytes_of 10 answers_got ≡ e₂ ++ e₁ ++ e₃ ++ (9 ∷ 9 ∷ [])
  pub dumped_plain : bytes_of 10 answers_without ≡ e₁ ++ e₂ ++ e₃ ++ (9 ∷ 9 ∷ [])
  -- the last dump, after the restart
  pub dumped_last : bytes_of 17 answers_got ≡ e₃ ++ (4 ∷ [])
  -- the report of the first refused set: a lock, by the entry at place 0 with one '#'. That of the set of "AA": in the other order the
  -- same entry stands at place 1; without the rebuilds at place 0
  pub reported : report_at 2 answers_got ≡ some (report_of (Some LockGround) 0 1 0 0 0)
  pub reported_other : report_at 9 answers_got ≡ some (report_of (Some LockGround) 1 1 0 0 0)
  pub reported_plain : report_at 9 answers_without ≡ some (report_of (Some LockGround) 0 1 0 0 0)

pub answered : Answers
unfolding rules_opened
answered = record {
  powered = refl;
  statuses = refl;
  attributes = refl;
  payload = refl;
  needed = refl;
  dumped_other = same_eq (bytes_of 6 answers_got) (e₂ ++ e₁ ++ (8 ∷ [])) refl;
  dumped_older = same_eq (bytes_of 7 answers_got) (e₁ ++ e₂) refl;
  dumped = same_eq (bytes_of 10 answers_got) (e₂ ++ e₁ ++ e₃ ++ (9 ∷ 9 ∷ [])) refl;
  dumped_plain = same_eq (bytes_of 10 answers_without) (e₁ ++ e₂ ++ e₃ ++ (9 ∷ 9 ∷ [])) refl;
  dumped_last = same_eq (bytes_of 17 answers_got) (e₃ ++ (4 ∷ [])) refl;
  reported = refl;
  reported_other = refl;
  reported_plain = refl;
}

-- and after exit: the refused dump, whose buffer is as it was, with no length; the hidden read, which tells nothing; the read of the variable with RT
pub record AnswersAfterExit : Type 0 where
  pub undumped : bytes_of 22 answers_got ≡ replicate 100 2
  pub unneeded : number_of 22 answers_got ≡ 0
  pub untold : bytes_of 24 answers_got ≡ []
  pub told : bytes_of 26 answers_got ≡ 5 ∷ []

pub answered_after_exit : AnswersAfterExit
unfolding rules_opened
answered_after_exit = record { undumped = same_eq (bytes_of 22 answers_got) (replicate 100 2) refl; unneeded = refl; untold = refl; told = refl }

-- THE ORDER THAT STANDS, computed
pub record Orders : Type 0 where
  -- after the third part: the older dump's
  pub older : standing_order machine none start items₃ ≡ some d₁₂
  -- after the fifth: the other, the entry registered since behind it
  pub other : standing_order machine none start items₅ ≡ some d₂₁₃
  -- after the eighth, behind a restart of the history and exit: another again
  pub exited : standing_order machine none start items₈ ≡ some d₂₃
  -- at the end, a power-on of the history later: none
  pub last : standing_order machine none start items ≡ none

pub orders : Orders
unfolding rules_opened
orders = record { older = refl; other = refl; exited = refl; last = refl }

-- THE REFUSED CALLS STRUCK, computed
abbrev not_refused : Items machine
not_refused =
    own_dump [] ∷ rebuild [] none
    ∷ call (register e₁) ∷ call (register e₂) ∷ call (setting (variable H 0x41 0x31) (1 ∷ 2 ∷ [])) ∷ call (read (variable H 0x41 0x31))
    ∷ own_dump (replicate 100 5) ∷ rebuild d₁₂ (some d₂₁)
    ∷ call (dump (replicate 101 8)) ∷ rebuild d₁₂ none
    ∷ call (dump (replicate 100 8)) ∷ rebuild d₁₂ (some d₂₁)
    ∷ call (register e₃) ∷ call (dump (replicate 152 9)) ∷ rebuild d₂₁₃ none
    ∷ call disable ∷ call lock ∷ rebuild d₂₁₃ none
    ∷ call (setting (variable G 0x41 0x31) (7 ∷ [])) ∷ call (restart true) ∷ call (register e₃) ∷ call (dump (replicate 51 4))
    ∷ rebuild d₃ none
    ∷ call (register e₂) ∷ call disable ∷ call lock ∷ own_dump (replicate 100 6) ∷ call exit ∷ rebuild d₃₂ (some d₂₃)
    ∷ call (setting_rt (variable H 0x41 0x32) (5 ∷ [])) ∷ rebuild d₃₂ none
    ∷ call (read (variable H 0x41 0x32)) ∷ call (power_on false) ∷ []

pub record Struck : Type 0 where
  pub list : struck machine start items ≡ not_refused
  pub statuses : status_numbers (answers_with machine start not_refused) ≡ replicate 21 0

pub strikes : Struck
unfolding rules_opened
strikes = record { list = refl; statuses = refl }

-- THE LIST IS PROPER: each rebuild is from a complete dump, computed
abbrev past : Items machine → Past machine
past is = past_after machine [] start is

-- a dump that answered 0, whose bytes are compared one by one
abbrev shows : List Bytes → Answer → Bool
shows ds a = is_success a.status and same (flat ds) (take a.number a.bytes)

-- and whose entries are well formed
abbrev all_formed : List Bytes → Bool
all_formed [] = true
all_formed (e ∷ es) = well_formed e and all_formed es

all_formed_lem : (ds : List Bytes) → all_formed ds ≡ true → All (λ e. well_formed e ≡ true) ds
all_formed_lem [] h = nil
all_formed_lem (e ∷ es) h = more (and_left _ _ h) (all_formed_lem es (and_right _ _ h))

-- the last call of the past is such a dump
abbrev ShownLast : List Bytes → Past machine → Type 0
ShownLast ds [] = ⊥
ShownLast ds (e ∷ past) = (kind_of e.made ≡ dumps) × (all_formed ds ≡ true) × (shows ds e.got ≡ true)

complete_here : (ds : List Bytes) (past : Past machine) → ShownLast ds past → Complete machine ds past
complete_here ds (e ∷ past) h =
    inl (record {
      is_dump = h.0;
      is_granted = ap outcome_by (and_left _ _ h.2);
      are_formed = all_formed_lem ds h.1;
      are_dumped = same_eq (flat ds) (take e.got.number e.got.bytes) (and_right _ _ h.2);
    })
complete_here ds [] h = elim h [ ]

complete_empty : Complete machine [] (past (own_dump [] ∷ []))
unfolding rules_opened
complete_empty = complete_here [] (past (own_dump [] ∷ [])) (refl, refl, refl)

-- the own dump; neither rebuilds nor dumps outdate it
complete_own : Complete machine d₁₂ (past dumped₁)
unfolding rules_opened
complete_own = complete_here d₁₂ (past dumped₁) (refl, refl, refl)

complete_own₂ : Complete machine d₁₂ (past items₂)
complete_own₂ = inr (refl, complete_own)

complete_own₃ : Complete machine d₁₂ (past items₃)
complete_own₃ = inr (refl, complete_own₂)

-- the history's dump; a disable, a lock and a refused registration do not outdate it
complete_new : Complete machine d₂₁₃ (past items₄)
unfolding rules_opened
complete_new = complete_here d₂₁₃ (past items₄) (refl, refl, refl)

complete_old : Complete machine d₂₁₃ (past items₅)
unfolding rules_opened
complete_old = inr (refl, inr (refl, inr (refl, complete_new)))

complete_last : Complete machine d₃ (past items₆)
unfolding rules_opened
complete_last = complete_here d₃ (past items₆) (refl, refl, refl)

-- the own dump before exit; the exit, a refused dump, a rebuild in another order, a refused registration, a read and a set do not outdate it
complete_before : Complete machine d₃₂ (past dumped₇)
unfolding rules_opened
complete_before = complete_here d₃₂ (past dumped₇) (refl, refl, refl)

complete_exited : Complete machine d₃₂ (past exited₇)
complete_exited = inr (refl, inr (refl, complete_before))

complete_again : Complete machine d₃₂ (past items₈)
unfolding rules_opened
complete_again = inr (refl, inr (refl, inr (refl, complete_exited)))

-- WHAT THE CHECKER OF A DUMP ANSWERS (RULES.md, 10.11), computed. No quarrel in the first dump, and so it can be rebuilt in every order
no_quarrel_lem : quarrels_of (flat d₁₂) ≡ Ok None
unfolding checker_opened
no_quarrel_lem = refl

other_order : Permᴰ d₁₂ d₂₁
other_order = Permᴰ.swap refl refl

no_quarrel₃₂ : quarrels_of (flat d₃₂) ≡ Ok None
unfolding checker_opened
no_quarrel₃₂ = refl

-- with the third entry behind it a pair, at the places 1 and 2, with the name "AA", and so no other order is permitted
one_quarrel : quarrels_of (flat d₂₁₃) ≡ Ok (Some (first_quarrel 1 2 4))
unfolding checker_opened
one_quarrel = refl

least_name_lem : buffer_after (flat d₂₁₃) (9 ∷ 9 ∷ 9 ∷ 9 ∷ 9 ∷ []) ≡ name 0x41 0x41 ++ (9 ∷ [])
unfolding checker_opened
least_name_lem = refl

all_three_formed : all_formed d₂₁₃ ≡ true
unfolding rules_opened
all_three_formed = refl

pub no_other_order : (o : List Bytes) → Permitted machine d₂₁₃ (some o) → ⊥
no_other_order = quarrel_no_order d₂₁₃ (all_formed_lem d₂₁₃ all_three_formed) 1 2 4 one_quarrel

-- and entries that target one variable at different ranks may stand in any order: "A#" and "A1" of one namespace, both of which
-- target "A1"
abbrev e₄ : Bytes
e₄ = entry G 0 (name 0x41 0x31)

both_target : (targets e₁ (variable G 0x41 0x31) ≡ true) × (targets e₄ (variable G 0x41 0x31) ≡ true)
unfolding rules_opened
both_target = (refl, refl)

other_rank : rank e₁ ≡ rank e₄ → ⊥
unfolding rules_opened
other_rank h = let z : ◌≡◌ {A = ℕ} 1 0 = h in omega arith

pub other_ranks : Permitted machine (e₁ ∷ e₄ ∷ []) (some (e₄ ∷ e₁ ∷ []))
other_ranks = (Permᴰ.swap refl refl, λ v n. (more (λ p q r. other_rank r) nil, (nil, tt)))

abbrev ProperHere : Items machine → Type 0
ProperHere = ProperFrom board true answered.powered

then_proper : (is : Items machine) (ds : List Bytes) (x : Order machine) (cs : List Call) → ProperHere is
    → Complete machine ds (past is) → Permitted machine ds x → ProperHere (and_then is ds x cs)
then_proper is ds x cs p d m =
    append_calls board true answered.powered (is ++ (rebuild ds x ∷ [])) cs
    (append_rebuild board true answered.powered is ds x p d m)

proper₁ : ProperHere items₁
proper₁ =
    then_proper (own_dump [] ∷ []) [] none calls₁ (insert_dump board true answered.powered [] [] [] tt) complete_empty tt

proper₂ : ProperHere items₂
proper₂ =
    (any_order board true answered.powered dumped₁ d₁₂ (insert_dump board true answered.powered items₁ [] (replicate 100 5) proper₁)
    complete_own no_quarrel_lem d₂₁ other_order).proper_on calls₂

proper₄ : ProperHere items₄
proper₄ =
    (any_order board true answered.powered items₃ d₁₂ (then_proper items₂ d₁₂ none calls₃ proper₂ complete_own₂ tt)
    complete_own₃ no_quarrel_lem d₂₁ other_order).proper_on calls₄

proper₆ : ProperHere items₆
proper₆ =
    then_proper items₅ d₂₁₃ none calls₆ (then_proper items₄ d₂₁₃ none calls₅ proper₄ complete_new tt) complete_old tt

proper₇ : ProperHere exited₇
proper₇ =
    append_calls board true answered.powered dumped₇ (exit ∷ dump (replicate 100 2) ∷ [])
    (insert_dump board true answered.powered items₇ [] (replicate 100 6) (then_proper items₆ d₃ none calls₇ proper₆ complete_last tt))

proper₈ : ProperHere items₈
proper₈ =
    (any_order board true answered.powered exited₇ d₃₂ proper₇ complete_exited no_quarrel₃₂ d₂₃ (Permᴰ.swap refl refl)).proper_on calls₈

pub proper : ProperHere items
proper = then_proper items₈ d₃₂ none (read (variable H 0x41 0x32) ∷ lock ∷ power_on false ∷ []) proper₈ complete_again tt

-- AND SO THE CLAIM HOLDS OF IT
pub holds : Demand3 machine start items
holds = demand_3 board true answered.powered items proper

-- and since no other order stands at the end, it says that the end is the very state without the rebuilds
pub same_end_lem : end_with machine start items ≡ end machine start (history machine items)
same_end_lem = holds.same_end ∙ ap (λ w. state_by machine w (end machine start (history machine items))) orders.last
