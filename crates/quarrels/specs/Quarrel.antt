-- Entries that quarrel (RULES.md, 10.11): of equal rank, and some variable is targeted by both. What the checker of a dump answers.
-- Assumes nothing: these are definitions.
use Rattle.std.specs.Prelude.{ℕ, List, [], Bool, cond, length, get_or, eqb, Option, Some, None, Result, Ok, Err}
use Rattle.slices.specs.Test.{◌and◌}
use Rattle.slices.specs.Bytes.{Bytes, overwrite}
use Rattle.names.specs.Name.{Variable, variable, named}
use Rattle.patterns.specs.Common.{least_name}
use Rattle.entry.specs.Entry.{namespace_of, name_of, targets, rank}
use Rattle.policy.specs.Policy.{entries_of}
use Rattle.policy.specs.Dump.{dump_valid}
use Rattle.quarrels.specs.declared.Pair.{Pair}
use Rattle.quarrels.specs.declared.FoundQuarrel.{FoundQuarrel}
use Rattle.quarrels.specs.declared.NoDump.{NoDump}
use Rattle.quarrels.specs.Pairs.{pair, first_pair}

-- the least name that both could match, and the variable of that name in the first one's namespace
abbrev pub least_common : Bytes → Bytes → Bytes
least_common e f = least_name (name_of e) (name_of f)

abbrev pub least_variable : Bytes → Bytes → Variable
least_variable e f = variable (namespace_of e) (least_common e f)

-- two entries quarrel: equal ranks, and both target that variable (QuarrelLaws.antt: so they do if both target any)
unfoldable pub quarrel : Bytes → Bytes → Bool
quarrel e f = eqb (rank e) (rank f) and named (least_variable e f) and targets e (least_variable e f) and targets f (least_variable e f)

-- the same of two places in a list of entries, and the first such pair
abbrev pub quarrel_at : List Bytes → ℕ → ℕ → Bool
quarrel_at es i j = quarrel (get_or es i []) (get_or es j [])

abbrev pub pair_of : List Bytes → Option Pair
pair_of es = first_pair (quarrel_at es) (length es)

-- the least name of a pair of places
abbrev pub least_at : List Bytes → ℕ → ℕ → Bytes
least_at es i j = least_common (get_or es i []) (get_or es j [])

-- THE ANSWER: no dump (2); no quarrel; or the first pair, with the length of its least name
abbrev pub Verdict : Type 0
Verdict = Result (Option FoundQuarrel) NoDump

abbrev pub no_dump_error : NoDump
no_dump_error = record {}

abbrev pub first_quarrel : ℕ → ℕ → ℕ → FoundQuarrel
first_quarrel i j n = record { pair = pair i j; length = n }

abbrev pub answer_for : List Bytes → Option Pair → Verdict
answer_for es None = Ok None
answer_for es (Some p) = Ok (Some (record { pair = p; length = length (least_at es p.earlier p.later) }))

unfoldable pub quarrels_of : Bytes → Verdict
quarrels_of d = cond (dump_valid d) (answer_for (entries_of d) (pair_of (entries_of d))) (Err no_dump_error)

-- and the buffer afterwards: the name of a pair that was found over its first bytes
abbrev pub buffer_for : List Bytes → Option Pair → Bytes → Bytes
buffer_for es None b = b
buffer_for es (Some p) b = overwrite b 0 (least_at es p.earlier p.later)

unfoldable pub buffer_after : Bytes → Bytes → Bytes
buffer_after d b = cond (dump_valid d) (buffer_for (entries_of d) (pair_of (entries_of d)) b) b
