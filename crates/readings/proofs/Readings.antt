-- The proved bench readings (RULES.md, 13), as the statuses that whole calls answer from a power-on, under one claim; reports of sets, under
-- another; settled variables, under a third; and phases, under a fourth, with the bytes of their entries.
-- Assumes nothing.
use Rattle.std.specs.Prelude.{ℕ, ◌≡◌, refl, List, [], ◌∷◌, ◌++◌, Bool, true, false}
use Rattle.limits.specs.Limits.{max_links}
use Rattle.lists.specs.Lists.{All, nil, more}
use Rattle.lists.proofs.ListsLaws.{all_append}
use Rattle.slices.specs.Bytes.{same}
use Rattle.entry.specs.Encoding.{encode_entry, encode_numbers, encode_lock, offset_for, size_for}
use Rattle.policy.specs.Choice.{chosen}
use Rattle.rules.specs.Settled.{settled_in}
use Rattle.rules.specs.Engine.{Call}
use Rattle.rules.specs.Phases.{flag_entry, lock_entry, lockable, lock_step}
use Rattle.rules.specs.Phases.PhaseCall.{phase_policy, write_once_policy, end_of_dxe, ready_to_boot, exit_flag}
use Rattle.rules.specs.Opened.{rules_opened}
use Rattle.readings.specs.Readings.{board, Holds, A, Tells, readings, reports, Answers, by_entry, by_link, by_links, how_long, settled_readings, chain_from, all_hold, first_of_chain, P, W, AnyCall, answers, AnswersAny, locking, written, flagged, older_lock, phase_readings}
use Rattle.readings.specs.Readings.AnyCall.{phase}

-- P of each of a list, as a tuple: no part of it is a blank while it is computed
abbrev Each : (List Call × List ℕ → Type 0) → List (List Call × List ℕ) → Type 0
Each P [] = Unit
Each P (r ∷ rs) = P r × Each P rs

each_all : (P : List Call × List ℕ → Type 0) (rs : List (List Call × List ℕ)) → Each P rs → All P rs
each_all P [] t = nil
each_all P (r ∷ rs) t = more t.0 (each_all P rs t.1)

-- ---- the readings and what they say

each_reading : Each Holds readings
unfolding rules_opened
each_reading = (refl, (refl, (refl, (refl, (refl, (refl, (refl, (refl, (refl, (refl, (refl, (refl, (refl, (refl, (refl, (refl, (refl, (refl, (refl, (refl, (refl, (refl, (refl, (refl, (refl, (refl, (refl, (refl, (refl, (refl, tt))))))))))))))))))))))))))))))

-- THE READINGS HOLD
pub readings_hold : All Holds readings
readings_hold = each_all Holds readings each_reading

-- ---- the reports

each_report : Each Tells reports
unfolding rules_opened
each_report = (refl, (refl, (refl, (refl, (refl, tt)))))

-- THE REPORTS HOLD
pub reports_hold : All Tells reports
reports_hold = each_all Tells reports each_report

-- ---- settled variables

by_entry_lem : Each Answers by_entry
unfolding rules_opened
by_entry_lem = (refl, (refl, (refl, tt)))

by_link_lem : Each Answers by_link
unfolding rules_opened
by_link_lem = (refl, (refl, (refl, (refl, tt))))

by_links_lem : Each Answers by_links
unfolding rules_opened
by_links_lem = (refl, (refl, (refl, (refl, (refl, (refl, tt))))))

how_long_lem : Each Answers how_long
unfolding rules_opened
how_long_lem = (refl, (refl, (refl, (refl, tt))))

-- THEY HOLD
pub settled_readings_hold : All Answers settled_readings
settled_readings_hold = all_append by_entry (by_link ++ by_links ++ how_long) (each_all Answers by_entry by_entry_lem) (all_append by_link (by_links ++ how_long) (each_all Answers by_link by_link_lem) (all_append by_links how_long (each_all Answers by_links by_links_lem) (each_all Answers how_long how_long_lem)))

pub sixteen_links : settled_in max_links (chosen (chain_from 0x41 16)) all_hold first_of_chain ≡ true
unfolding rules_opened
sixteen_links = refl

pub seventeen_links : settled_in max_links (chosen (chain_from 0x41 17)) all_hold first_of_chain ≡ false
unfolding rules_opened
seventeen_links = refl

-- ---- phases

-- P of each of a list of such calls, as a tuple
abbrev EachAny : (List AnyCall × List ℕ → Type 0) → List (List AnyCall × List ℕ) → Type 0
EachAny P [] = Unit
EachAny P (r ∷ rs) = P r × EachAny P rs

each_any_all : (P : List AnyCall × List ℕ → Type 0) (rs : List (List AnyCall × List ℕ)) → EachAny P rs → All P rs
each_any_all P [] t = nil
each_any_all P (r ∷ rs) t = more t.0 (each_any_all P rs t.1)

-- with what phases write
unfoldable phases_opened : Bool
unfolding rules_opened flag_entry lock_entry lockable lock_step encode_entry encode_numbers encode_lock offset_for size_for
phases_opened = true

each_written : EachAny AnswersAny written
unfolding phases_opened
each_written = (refl, (refl, (refl, (refl, (refl, tt)))))

each_flagged : EachAny AnswersAny flagged
unfolding phases_opened
each_flagged = (refl, (refl, (refl, (refl, tt))))

each_older_lock : EachAny AnswersAny older_lock
unfolding phases_opened
each_older_lock = (refl, (refl, tt))

-- THEY HOLD
pub phase_readings_hold : All AnswersAny phase_readings
phase_readings_hold =
    all_append written (flagged ++ older_lock) (each_any_all AnswersAny written each_written)
    (all_append flagged older_lock (each_any_all AnswersAny flagged each_flagged) (each_any_all AnswersAny older_lock each_older_lock))

-- BEFORE A POWER-ON, the record and the volatile store holding anything, all six answer 10, a bad name among what they are given too
pub damaged_first : same (answers board (phase (phase_policy P) ∷ phase (write_once_policy W) ∷ locking A ∷ locking (0x41 ∷ 0x23 ∷ []) ∷ phase (end_of_dxe P) ∷ phase (ready_to_boot P) ∷ phase (exit_flag P []) ∷ []))
    (10 ∷ 0 ∷ 10 ∷ 0 ∷ 10 ∷ 0 ∷ 10 ∷ 0 ∷ 10 ∷ 0 ∷ 10 ∷ 0 ∷ 10 ∷ 0 ∷ [])
    ≡ true
unfolding phases_opened
damaged_first = refl
