-- The bench readings (RULES.md, 13): how they are written down, what they say, and when one holds. They are proved in proofs/Readings.antt.
-- Assumes nothing: these are definitions.
use Rattle.std.specs.Prelude.{ℕ, zero, suc, ◌+◌, ◌*◌, ◌≡◌, List, [], ◌∷◌, ◌++◌, true, false, length, replicate, take}
use Rattle.std.proofs.Math.Option.{Option, none, some}
use Rattle.limits.specs.Limits.{policy_bytes}
use Rattle.slices.specs.Bytes.{Bytes, le16_bytes, le32_bytes, same}
use Rattle.names.specs.Name.{Variable}
use Rattle.store.specs.Record.{encode_record}
use Rattle.status.specs.Status.{status_number}
use Rattle.switches.specs.Switches.{fresh_switches}
use Rattle.rules.specs.declared.Report.{Report}
use Rattle.rules.specs.Set.{Lookup}
use Rattle.rules.specs.Report.{ground_number}
use Rattle.rules.specs.Engine.{State, Call, Answer, step}
use Rattle.rules.specs.Engine.Call.{power_on, restart, register, dump, lock, disable, exit, query, read, set, settled}
use Rattle.rules.specs.Phases.{PhaseCall, phase_step}
use Rattle.rules.specs.Phases.PhaseCall.{phase_policy, write_once_policy, lock_variable, end_of_dxe, ready_to_boot, exit_flag}

-- ---- how the readings are written down

-- the namespace G
abbrev pub G : Bytes
G = 0x5C ∷ 0x67 ∷ 0xD1 ∷ 0x81 ∷ 0xF6 ∷ 0x86 ∷ 0xDF ∷ 0x48 ∷ 0xBD ∷ 0x95 ∷ 0x9A ∷ 0x6E ∷ 0x4F ∷ 0x09 ∷ 0x25 ∷ 0xC3 ∷ []

-- a text as the bytes of its units, without and with the closing zero unit
abbrev pub text : List ℕ → Bytes
text [] = []
text (u ∷ us) = u ∷ 0 ∷ text us

abbrev pub closed : List ℕ → Bytes
closed us = text us ++ (0 ∷ 0 ∷ [])

-- an entry of namespace G: Size, OffsetToName, MinSize, MaxSize, required and prohibited attributes, lock type, and what follows the header
abbrev pub whole_entry : ℕ → ℕ → ℕ → ℕ → ℕ → ℕ → ℕ → Bytes → Bytes
whole_entry size offset min max must cant type tail =
    le32_bytes 0x10000 ++ le16_bytes size ++ le16_bytes offset ++ G ++ le32_bytes min ++ le32_bytes max ++ le32_bytes must ++ le32_bytes cant
    ++ (type ∷ 0 ∷ 0 ∷ 0 ∷ []) ++ tail

-- one with any attributes
abbrev pub sized_entry : ℕ → ℕ → ℕ → ℕ → ℕ → Bytes → Bytes
sized_entry size offset min max type tail = whole_entry size offset min max 0 0 type tail

-- one without an upper limit to the size
abbrev pub entry : ℕ → ℕ → ℕ → ℕ → Bytes → Bytes
entry size offset min type tail = sized_entry size offset min 0xFFFFFFFF type tail

-- one of types 0 to 2 with a name, one with a MaxSize, and one of type 3 with a trigger and Value 0
abbrev pub named_entry : ℕ → ℕ → List ℕ → Bytes
named_entry min type us = entry (46 + 2 * length us) 44 min type (closed us)

abbrev pub capped : ℕ → ℕ → List ℕ → Bytes
capped max type us = sized_entry (46 + 2 * length us) 44 0 max type (closed us)

abbrev pub triggered : List ℕ → List ℕ → Bytes
triggered ts us = entry (66 + 2 * length ts + 2 * length us) (64 + 2 * length ts) 0 3 (G ++ (0 ∷ 0 ∷ []) ++ closed ts ++ closed us)

abbrev pub whole_namespace : ℕ → Bytes
whole_namespace type = entry 44 44 0 type []

abbrev pub boot : List ℕ → List ℕ
boot us = 0x42 ∷ 0x6F ∷ 0x6F ∷ 0x74 ∷ us

-- a set of a variable of namespace G
abbrev pub setting : List ℕ → ℕ → Bytes → Call
setting us a d = set (record { variable = record { namespace = G; name = text us }; attributes = a; payload = d })

-- a set of one byte with NV and BS; a deletion
abbrev pub write : List ℕ → Call
write us = setting us 3 (7 ∷ [])

abbrev pub delete : List ℕ → Call
delete us = setting us 3 []

-- a read
abbrev pub reading : List ℕ → Call
reading us = read (record { namespace = G; name = text us })

-- an append of n bytes with NV and BS
abbrev pub append : List ℕ → ℕ → Call
append us n = setting us 0x43 (replicate n 7)

-- before the power-on: an erased non-volatile store of 128 bytes, a volatile one and a policy record that hold anything
abbrev pub board : State
board = record { nv = replicate 128 255; vol = replicate 128 0; policy = replicate policy_bytes 7; switches = fresh_switches false }

-- the numbers of the statuses of calls one after the other
abbrev pub statuses : State → List Call → List ℕ
statuses s [] = []
statuses s (c ∷ cs) = status_number (step s c).0.status ∷ statuses (step s c).1 cs

-- the reading says what the rules answer
abbrev pub Holds : List Call × List ℕ → Type 0
Holds r = same (statuses board (power_on true ∷ r.0)) r.1 ≡ true

abbrev pub A : List ℕ
A = 0x41 ∷ []

abbrev pub T : List ℕ
T = 0x54 ∷ []

-- "A" with NV and BS, "B" with BS and RT, "C" with NV, BS and RT, and then exit
abbrev pub booted : List Call → List Call
booted cs = setting A 3 (7 ∷ []) ∷ setting (0x42 ∷ []) 6 (7 ∷ []) ∷ setting (0x43 ∷ []) 7 (7 ∷ []) ∷ exit ∷ cs

-- ---- how reports are written down

-- a report as its six numbers, and nothing where there is none
abbrev pub report_numbers : Option Report → List ℕ
report_numbers none = []
report_numbers (some p) = ground_number p.ground ∷ p.place ∷ p.rank ∷ p.missing ∷ p.prohibited ∷ p.lowest ∷ []

-- the number of the status of each call, and of a set its report behind it
abbrev pub told : State → List Call → List ℕ
told s [] = []
told s (c ∷ cs) = status_number (step s c).0.status ∷ (report_numbers (step s c).0.report ++ told (step s c).1 cs)

abbrev pub Tells : List Call × List ℕ → Type 0
Tells r = same (told board (power_on true ∷ r.0)) r.1 ≡ true

abbrev pub A0 : List ℕ
A0 = 0x41 ∷ 0x30 ∷ []

-- "A#" with MaxSize 2, NV and RT required, append prohibited, lock now
abbrev pub demanding : Bytes
demanding = whole_entry 50 44 0 2 5 0x40 1 (closed (0x41 ∷ 0x23 ∷ []))

-- ---- the readings and what they say

-- calls after a power-on that allows disabling, and the numbers of their statuses, the power-on's first
abbrev pub readings : List (List Call × List ℕ)
readings =
    -- one byte too few; the shortest entry
    ((register (take 43 (entry 43 44 0 0 [])) ∷ register (whole_namespace 0) ∷ []), 0 ∷ 2 ∷ 0 ∷ [])
    -- a name of no units, closed
    ∷ ((register (named_entry 0 0 []) ∷ []), 0 ∷ 2 ∷ [])
    -- a trigger's name of no units, and of one
    ∷ ((register (entry 64 64 0 3 (G ++ (0 ∷ 0 ∷ []) ++ closed [])) ∷ register (entry 66 66 0 3 (G ++ (0 ∷ 0 ∷ []) ++ closed T)) ∷ []), 0 ∷ 2 ∷ 0 ∷ [])
    -- '#' in a trigger's name, behind and before another unit; a hex digit in its place
    ∷ ((register (triggered (0x41 ∷ 0x23 ∷ []) A) ∷ register (triggered (0x23 ∷ 0x41 ∷ []) A) ∷ register (triggered (0x41 ∷ 0x30 ∷ []) A) ∷ []), 0 ∷ 2 ∷ 2 ∷ 0 ∷ [])
    -- '#' over hex digits, over '#', and over another letter
    ∷ ((register (named_entry 0 1 (boot (0x23 ∷ 0x23 ∷ 0x23 ∷ 0x23 ∷ []))) ∷ write (boot (0x30 ∷ 0x30 ∷ 0x66 ∷ 0x46 ∷ [])) ∷ write (boot (0x23 ∷ 0x23 ∷ 0x23 ∷ 0x23 ∷ [])) ∷ write (boot (0x30 ∷ 0x30 ∷ 0x30 ∷ 0x47 ∷ [])) ∷ []), 0 ∷ 0 ∷ 8 ∷ 0 ∷ 0 ∷ [])
    -- a name with '#' is registered once, and its own variable is guarded by the whole namespace alone
    ∷ ((register (named_entry 0 0 (boot (0x23 ∷ 0x23 ∷ 0x23 ∷ 0x23 ∷ []))) ∷ register (named_entry 0 0 (boot (0x23 ∷ 0x23 ∷ 0x23 ∷ 0x23 ∷ []))) ∷ register (whole_namespace 1) ∷ write (boot (0x23 ∷ 0x23 ∷ 0x23 ∷ 0x23 ∷ [])) ∷ []), 0 ∷ 0 ∷ 20 ∷ 0 ∷ 8 ∷ [])
    -- of two entries of one rank the first registered speaks, be it the one that locks or the other
    ∷ ((register (named_entry 0 1 (boot (0x30 ∷ 0x30 ∷ 0x23 ∷ 0x23 ∷ []))) ∷ register (named_entry 0 0 (boot (0x23 ∷ 0x23 ∷ 0x30 ∷ 0x31 ∷ []))) ∷ write (boot (0x30 ∷ 0x30 ∷ 0x30 ∷ 0x31 ∷ [])) ∷ []), 0 ∷ 0 ∷ 0 ∷ 8 ∷ [])
    ∷ ((register (named_entry 0 0 (boot (0x30 ∷ 0x30 ∷ 0x23 ∷ 0x23 ∷ []))) ∷ register (named_entry 0 1 (boot (0x23 ∷ 0x23 ∷ 0x30 ∷ 0x31 ∷ []))) ∷ write (boot (0x30 ∷ 0x30 ∷ 0x30 ∷ 0x31 ∷ [])) ∷ []), 0 ∷ 0 ∷ 0 ∷ 0 ∷ [])
    -- a whole_namespace entry speaks only where no other targets, be it the one that locks or the other
    ∷ ((register (whole_namespace 1) ∷ register (named_entry 0 0 (boot (0x23 ∷ 0x23 ∷ 0x23 ∷ 0x23 ∷ []))) ∷ write (boot (0x30 ∷ 0x30 ∷ 0x30 ∷ 0x31 ∷ [])) ∷ write A ∷ []), 0 ∷ 0 ∷ 0 ∷ 0 ∷ 8 ∷ [])
    ∷ ((register (whole_namespace 0) ∷ register (named_entry 0 1 (boot (0x23 ∷ 0x23 ∷ 0x23 ∷ 0x23 ∷ []))) ∷ write (boot (0x30 ∷ 0x30 ∷ 0x30 ∷ 0x31 ∷ [])) ∷ write A ∷ []), 0 ∷ 0 ∷ 0 ∷ 8 ∷ 0 ∷ [])
    -- a trigger with Value 0: absent, with the byte 0, with two bytes 0
    ∷ ((register (triggered T A) ∷ write A ∷ setting T 3 (0 ∷ []) ∷ write A ∷ setting T 3 (0 ∷ 0 ∷ []) ∷ write A ∷ []), 0 ∷ 0 ∷ 0 ∷ 0 ∷ 8 ∷ 0 ∷ 0 ∷ [])
    -- lock on create: before and after
    ∷ ((register (named_entry 0 2 A) ∷ write A ∷ write A ∷ delete A ∷ []), 0 ∷ 0 ∷ 0 ∷ 8 ∷ 8 ∷ [])
    -- MinSize 2, which a deletion is not held to
    ∷ ((register (named_entry 2 0 A) ∷ write A ∷ setting A 3 (1 ∷ 2 ∷ []) ∷ delete A ∷ []), 0 ∷ 0 ∷ 2 ∷ 0 ∷ 0 ∷ [])
    -- MaxSize 64, which holds for what is stored afterwards: 60 bytes, 5 more, 4 more, none
    ∷ ((register (capped 64 0 A) ∷ append A 60 ∷ append A 5 ∷ append A 4 ∷ append A 0 ∷ []), 0 ∷ 0 ∷ 0 ∷ 2 ∷ 0 ∷ 0 ∷ [])
    -- and so does MinSize 4: none and 3 bytes for an absent variable, 4, 1 more, none
    ∷ ((register (named_entry 4 0 A) ∷ append A 0 ∷ append A 3 ∷ append A 4 ∷ append A 1 ∷ append A 0 ∷ []), 0 ∷ 0 ∷ 2 ∷ 2 ∷ 0 ∷ 0 ∷ 0 ∷ [])
    -- what is stored counts in the other store and with other attributes too: 60 bytes with BS alone, then under MaxSize 64 and lock now 5 more, 4 more
    ∷ ((setting A 2 (replicate 60 7) ∷ register (capped 64 1 A) ∷ append A 5 ∷ append A 4 ∷ []), 0 ∷ 0 ∷ 0 ∷ 2 ∷ 8 ∷ [])
    -- RT without BS; a bit that is not known
    ∷ ((setting A 4 (1 ∷ []) ∷ setting A 8 (1 ∷ []) ∷ []), 0 ∷ 2 ∷ 3 ∷ [])
    -- lock and disable in both orders; disable twice
    ∷ ((disable ∷ lock ∷ []), 0 ∷ 0 ∷ 0 ∷ [])
    ∷ ((lock ∷ disable ∷ []), 0 ∷ 0 ∷ 8 ∷ [])
    ∷ ((disable ∷ disable ∷ []), 0 ∷ 0 ∷ 20 ∷ [])
    -- exit, and what is not to be had behind it; a power-on ends that
    ∷ ((exit ∷ exit ∷ register (whole_namespace 0) ∷ dump [] ∷ lock ∷ disable ∷ query ∷ power_on true ∷ lock ∷ []), 0 ∷ 0 ∷ 3 ∷ 3 ∷ 3 ∷ 3 ∷ 3 ∷ 0 ∷ 0 ∷ 0 ∷ [])
    -- reads after exit: without RT, volatile with RT, with RT, absent
    ∷ (booted (reading A ∷ reading (0x42 ∷ []) ∷ reading (0x43 ∷ []) ∷ reading (0x44 ∷ []) ∷ []), 0 ∷ 0 ∷ 0 ∷ 0 ∷ 0 ∷ 14 ∷ 0 ∷ 0 ∷ 14 ∷ [])
    -- a set after exit: without RT, without NV, with both; an append with both, and without RT
    ∷ (booted (setting (0x44 ∷ []) 3 (7 ∷ []) ∷ setting (0x44 ∷ []) 6 (7 ∷ []) ∷ setting (0x44 ∷ []) 7 (7 ∷ []) ∷ setting (0x44 ∷ []) 0x47 (7 ∷ []) ∷ setting (0x44 ∷ []) 0x43 (7 ∷ []) ∷ []), 0 ∷ 0 ∷ 0 ∷ 0 ∷ 0 ∷ 2 ∷ 2 ∷ 0 ∷ 0 ∷ 2 ∷ [])
    -- deletions after exit: absent, without RT, volatile, with both; a variable without RT set with it
    ∷ (booted (delete (0x45 ∷ []) ∷ delete A ∷ delete (0x42 ∷ []) ∷ delete (0x43 ∷ []) ∷ setting A 7 (7 ∷ []) ∷ []), 0 ∷ 0 ∷ 0 ∷ 0 ∷ 0 ∷ 14 ∷ 14 ∷ 8 ∷ 0 ∷ 2 ∷ [])
    -- step 2 and a bad name come before what exit asks; a deletion by its attributes is one after exit too, and an empty append is none
    ∷ (booted (setting (0x44 ∷ []) 0x0E (7 ∷ []) ∷ reading [] ∷ setting (0x43 ∷ []) 0 (7 ∷ []) ∷ setting (0x44 ∷ []) 0x43 [] ∷ []), 0 ∷ 0 ∷ 0 ∷ 0 ∷ 0 ∷ 3 ∷ 2 ∷ 0 ∷ 2 ∷ [])
    -- a disabled and locked engine exits
    ∷ ((disable ∷ lock ∷ exit ∷ []), 0 ∷ 0 ∷ 0 ∷ 0 ∷ [])
    -- a volatile variable without RT is absent to both
    ∷ ((setting A 2 (7 ∷ []) ∷ exit ∷ reading A ∷ delete A ∷ []), 0 ∷ 0 ∷ 0 ∷ 14 ∷ 14 ∷ [])
    -- a trigger without RT locks, and so does a variable without RT that exists
    ∷ ((register (triggered T A) ∷ setting T 3 (0 ∷ []) ∷ exit ∷ setting A 7 (7 ∷ []) ∷ []), 0 ∷ 0 ∷ 0 ∷ 0 ∷ 8 ∷ [])
    ∷ ((register (named_entry 0 2 A) ∷ write A ∷ exit ∷ setting A 7 (7 ∷ []) ∷ delete A ∷ []), 0 ∷ 0 ∷ 0 ∷ 0 ∷ 8 ∷ 8 ∷ [])
    -- the lock comes before step 5, and what a set needs after exit before the lock
    ∷ ((register (whole_namespace 1) ∷ exit ∷ delete A ∷ write A ∷ []), 0 ∷ 0 ∷ 0 ∷ 8 ∷ 2 ∷ [])
    ∷ []

-- ---- the reports

abbrev pub reports : List (List Call × List ℕ)
reports =
    -- beside another entry: size, then attributes, then the lock, of a deletion too; step 2, and a variable that the other entry is for; a disabled engine
    (
      (register (named_entry 0 0 (0x42 ∷ [])) ∷ register demanding
          ∷ setting A0 2 (1 ∷ 2 ∷ 3 ∷ []) ∷ setting A0 2 (7 ∷ []) ∷ setting A0 0x47 (7 ∷ []) ∷ setting A0 0x42 (7 ∷ []) ∷ setting A0 7 (7 ∷ []) ∷ delete A0
          ∷ setting A0 8 (7 ∷ []) ∷ write (0x42 ∷ []) ∷ disable ∷ setting A0 2 (7 ∷ []) ∷ []),
      0 ∷ 0 ∷ 0
          ∷ 2 ∷ 1 ∷ 1 ∷ 1 ∷ 0 ∷ 0 ∷ 0
          ∷ 2 ∷ 2 ∷ 1 ∷ 1 ∷ 2 ∷ 0 ∷ 0
          ∷ 2 ∷ 2 ∷ 1 ∷ 1 ∷ 0 ∷ 1 ∷ 6
          ∷ 2 ∷ 2 ∷ 1 ∷ 1 ∷ 2 ∷ 1 ∷ 0
          ∷ 8 ∷ 3 ∷ 1 ∷ 1 ∷ 0 ∷ 0 ∷ 0
          ∷ 8 ∷ 3 ∷ 1 ∷ 1 ∷ 0 ∷ 0 ∷ 0
          ∷ 3 ∷ 0 ∷ 0 ∷ 0 ∷ 0 ∷ 0 ∷ 0
          ∷ 0 ∷ 0 ∷ 0 ∷ 0 ∷ 0 ∷ 0 ∷ 0
          ∷ 0
          ∷ 0 ∷ 0 ∷ 0 ∷ 0 ∷ 0 ∷ 0 ∷ 0 ∷ [],
    )
    -- a whole namespace that requires the highest bit; that prohibits BS beside it
    ∷ ((register (whole_entry 44 44 0 0xFFFFFFFF 0x80000000 0 0 []) ∷ write A ∷ []), 0 ∷ 0 ∷ 2 ∷ 2 ∷ 0 ∷ 65 ∷ 1 ∷ 0 ∷ 31 ∷ [])
    ∷ ((register (whole_entry 44 44 0 0xFFFFFFFF 0x80000000 2 0 []) ∷ write A ∷ []), 0 ∷ 0 ∷ 2 ∷ 2 ∷ 0 ∷ 65 ∷ 1 ∷ 1 ∷ 1 ∷ [])
    -- the 8 of a volatile variable after exit has no ground, that of a lock has; a set without RT has none
    ∷ (
      (setting A 6 (7 ∷ []) ∷ register (named_entry 0 1 (0x42 ∷ [])) ∷ exit ∷ delete A ∷ delete (0x42 ∷ []) ∷ write (0x42 ∷ []) ∷ []),
      0 ∷ 0 ∷ 0 ∷ 0 ∷ 0 ∷ 0 ∷ 0 ∷ 0
          ∷ 0 ∷ 0
          ∷ 8 ∷ 0 ∷ 0 ∷ 0 ∷ 0 ∷ 0 ∷ 0
          ∷ 8 ∷ 3 ∷ 0 ∷ 0 ∷ 0 ∷ 0 ∷ 0
          ∷ 2 ∷ 0 ∷ 0 ∷ 0 ∷ 0 ∷ 0 ∷ 0 ∷ [],
    )
    -- a stored payload without RT is measured: 60 bytes, and under MaxSize 64 an append of 5, and of 4 to a variable with other attributes
    ∷ (
      (setting A 3 (replicate 60 7) ∷ register (capped 64 0 A) ∷ exit ∷ setting A 0x47 (replicate 5 7) ∷ setting A 0x47 (replicate 4 7) ∷ []),
      0 ∷ 0 ∷ 0 ∷ 0 ∷ 0 ∷ 0 ∷ 0 ∷ 0
          ∷ 0 ∷ 0
          ∷ 2 ∷ 1 ∷ 0 ∷ 0 ∷ 0 ∷ 0 ∷ 0
          ∷ 2 ∷ 0 ∷ 0 ∷ 0 ∷ 0 ∷ 0 ∷ 0 ∷ [],
    )
    ∷ []

-- ---- settled variables

-- the number of the status of each call, and the number beside it: of settled 1 for yes and 0 for no
abbrev pub answered : State → List Call → List ℕ
answered s [] = []
answered s (c ∷ cs) = status_number (step s c).0.status ∷ (step s c).0.number ∷ answered (step s c).1 cs

abbrev pub Answers : List Call × List ℕ → Type 0
Answers r = same (answered board (power_on true ∷ r.0)) (0 ∷ 0 ∷ r.1) ≡ true

abbrev pub U : List ℕ
U = 0x55 ∷ []

abbrev pub asking : List ℕ → Call
asking us = settled (record { namespace = G; name = text us })

-- by an entry alone
abbrev pub by_entry : List (List Call × List ℕ)
by_entry =
    -- no entry, and one that locks nothing
    ((asking A ∷ register (named_entry 0 0 A) ∷ asking A ∷ []), 0 ∷ 0 ∷ 0 ∷ 0 ∷ 0 ∷ 0 ∷ [])
    -- lock now, for a whole namespace; a bad name; another namespace
    ∷ ((register (whole_namespace 1) ∷ asking A ∷ asking [] ∷ settled (record { namespace = replicate 16 1; name = text A }) ∷ []), 0 ∷ 0 ∷ 0 ∷ 1 ∷ 2 ∷ 0 ∷ 0 ∷ 0 ∷ [])
    -- lock on create: before and after
    ∷ ((register (named_entry 0 2 A) ∷ asking A ∷ write A ∷ asking A ∷ []), 0 ∷ 0 ∷ 0 ∷ 0 ∷ 0 ∷ 0 ∷ 0 ∷ 1 ∷ [])
    ∷ []

-- by one link
abbrev pub by_link : List (List Call × List ℕ)
by_link =
    -- a link: the trigger absent, and with the Value
    ((register (triggered T A) ∷ register (named_entry 0 2 T) ∷ asking A ∷ setting T 3 (0 ∷ []) ∷ asking A ∷ asking T ∷ []), 0 ∷ 0 ∷ 0 ∷ 0 ∷ 0 ∷ 0 ∷ 0 ∷ 0 ∷ 0 ∷ 1 ∷ 0 ∷ 1 ∷ [])
    -- with another byte, and with two bytes
    ∷ ((register (triggered T A) ∷ register (named_entry 0 2 T) ∷ setting T 3 (1 ∷ []) ∷ asking A ∷ []), 0 ∷ 0 ∷ 0 ∷ 0 ∷ 0 ∷ 0 ∷ 0 ∷ 0 ∷ [])
    ∷ ((register (triggered T A) ∷ register (named_entry 0 2 T) ∷ setting T 3 (0 ∷ 0 ∷ []) ∷ asking A ∷ []), 0 ∷ 0 ∷ 0 ∷ 0 ∷ 0 ∷ 0 ∷ 0 ∷ 0 ∷ [])
    -- locked, but by a trigger that is not settled: it is changed, and the lock is gone
    ∷ (
      (register (triggered T A) ∷ setting T 3 (0 ∷ []) ∷ write A ∷ asking A ∷ setting T 3 (1 ∷ []) ∷ write A ∷ []),
      0 ∷ 0 ∷ 0 ∷ 0 ∷ 8 ∷ 0 ∷ 0 ∷ 0 ∷ 0 ∷ 0 ∷ 0 ∷ 0 ∷ [],
    )
    ∷ []

-- by more of them
abbrev pub by_links : List (List Call × List ℕ)
by_links =
    -- loops of one and of two
    ((register (triggered A A) ∷ setting A 3 (0 ∷ []) ∷ write A ∷ asking A ∷ []), 0 ∷ 0 ∷ 0 ∷ 0 ∷ 8 ∷ 0 ∷ 0 ∷ 0 ∷ [])
    ∷ (
      (register (triggered T A) ∷ setting A 3 (0 ∷ []) ∷ setting T 3 (0 ∷ []) ∷ register (triggered A T) ∷ write A ∷ write T ∷ asking A ∷ asking T ∷ []),
      0 ∷ 0 ∷ 0 ∷ 0 ∷ 0 ∷ 0 ∷ 0 ∷ 0 ∷ 8 ∷ 0 ∷ 8 ∷ 0 ∷ 0 ∷ 0 ∷ 0 ∷ 0 ∷ [],
    )
    -- two links, the second trigger absent and with the Value
    ∷ (
      (register (triggered T A) ∷ register (triggered U T) ∷ register (named_entry 0 2 U) ∷ setting T 3 (0 ∷ []) ∷ asking A ∷ setting U 3 (0 ∷ []) ∷ asking A ∷ []),
      0 ∷ 0 ∷ 0 ∷ 0 ∷ 0 ∷ 0 ∷ 0 ∷ 0 ∷ 0 ∷ 0 ∷ 0 ∷ 0 ∷ 0 ∷ 1 ∷ [],
    )
    -- a trigger that exists and is locked now, and one in the volatile store that is locked on create
    ∷ ((setting T 3 (0 ∷ []) ∷ register (named_entry 0 1 T) ∷ register (triggered T A) ∷ asking A ∷ asking T ∷ []), 0 ∷ 0 ∷ 0 ∷ 0 ∷ 0 ∷ 0 ∷ 0 ∷ 1 ∷ 0 ∷ 1 ∷ [])
    ∷ ((setting T 2 (0 ∷ []) ∷ register (named_entry 0 2 T) ∷ register (triggered T A) ∷ asking A ∷ asking T ∷ []), 0 ∷ 0 ∷ 0 ∷ 0 ∷ 0 ∷ 0 ∷ 0 ∷ 1 ∷ 0 ∷ 1 ∷ [])
    -- a trigger that can never be set
    ∷ ((register (triggered T A) ∷ register (named_entry 0 1 T) ∷ setting T 3 (0 ∷ []) ∷ asking A ∷ asking T ∷ []), 0 ∷ 0 ∷ 0 ∷ 0 ∷ 8 ∷ 0 ∷ 0 ∷ 0 ∷ 0 ∷ 1 ∷ [])
    ∷ []

-- how long: what each condition of 12.9 is for
abbrev pub how_long : List (List Call × List ℕ)
how_long =
    -- not locked: an entry of lower rank is registered
    (
      (register (whole_namespace 1) ∷ asking A ∷ register (named_entry 0 0 A) ∷ asking A ∷ write A ∷ []),
      0 ∷ 0 ∷ 0 ∷ 1 ∷ 0 ∷ 0 ∷ 0 ∷ 0 ∷ 0 ∷ 0 ∷ [],
    )
    -- not enabled: the answer is by the entries, and a set is granted
    ∷ ((register (named_entry 0 1 A) ∷ disable ∷ lock ∷ asking A ∷ write A ∷ []), 0 ∷ 0 ∷ 0 ∷ 0 ∷ 0 ∷ 0 ∷ 0 ∷ 1 ∷ 0 ∷ 0 ∷ [])
    -- a start takes the entries away
    ∷ (
      (register (named_entry 0 1 A) ∷ lock ∷ asking A ∷ restart true ∷ asking A ∷ write A ∷ []),
      0 ∷ 0 ∷ 0 ∷ 0 ∷ 0 ∷ 1 ∷ 0 ∷ 0 ∷ 0 ∷ 0 ∷ 0 ∷ 0 ∷ [],
    )
    -- after exit a trigger without RT counts, though no read tells it
    ∷ (
      (register (triggered T A) ∷ setting T 3 (0 ∷ []) ∷ register (named_entry 0 2 T) ∷ lock ∷ exit ∷ asking A ∷ reading T ∷ []),
      0 ∷ 0 ∷ 0 ∷ 0 ∷ 0 ∷ 0 ∷ 0 ∷ 0 ∷ 0 ∷ 0 ∷ 0 ∷ 1 ∷ 14 ∷ 0 ∷ [],
    )
    ∷ []

abbrev pub settled_readings : List (List Call × List ℕ)
settled_readings = by_entry ++ by_link ++ by_links ++ how_long

-- 16 LINKS AND 17, computed: entries of n links one behind the other, from the variable whose name is the unit k on, and lock now behind the last
abbrev pub chain_from : ℕ → ℕ → List Bytes
chain_from k zero = named_entry 0 1 (k ∷ []) ∷ []
chain_from k (suc n) = triggered (suc k ∷ []) (k ∷ []) ∷ chain_from (suc k) n

-- every variable holds 0
abbrev pub all_hold : Lookup
all_hold u = some (encode_record 3 u (0 ∷ []))

abbrev pub first_of_chain : Variable
first_of_chain = record { namespace = G; name = text A }

-- ---- phases

-- the phase namespace, and the write-once one
abbrev pub P : Bytes
P = 0x50 ∷ 0x51 ∷ 0x52 ∷ 0x53 ∷ 0x54 ∷ 0x55 ∷ 0x56 ∷ 0x57 ∷ 0x58 ∷ 0x59 ∷ 0x5A ∷ 0x5B ∷ 0x5C ∷ 0x5D ∷ 0x5E ∷ 0x5F ∷ []

abbrev pub W : Bytes
W = 0xA0 ∷ 0xA1 ∷ 0xA2 ∷ 0xA3 ∷ 0xA4 ∷ 0xA5 ∷ 0xA6 ∷ 0xA7 ∷ 0xA8 ∷ 0xA9 ∷ 0xAA ∷ 0xAB ∷ 0xAC ∷ 0xAD ∷ 0xAE ∷ 0xAF ∷ []

-- the entries byte by byte, as RULES.md, 10.15, has them: the policy of a namespace of flags, and the older lock of a variable of namespace G
abbrev pub flag_bytes : Bytes → Bytes
flag_bytes namespace =
    (0x00 ∷ 0x00 ∷ 0x01 ∷ 0x00 ∷ 0x2C ∷ 0x00 ∷ 0x2C ∷ 0x00 ∷ [])
    ++ namespace
    ++ (0x01 ∷ 0x00 ∷ 0x00 ∷ 0x00 ∷ 0x01 ∷ 0x00 ∷ 0x00 ∷ 0x00 ∷ 0x06 ∷ 0x00 ∷ 0x00 ∷ 0x00 ∷ 0x01 ∷ 0x00 ∷ 0x00 ∷ 0x00 ∷ 0x02 ∷ 0x00 ∷ 0x00 ∷ 0x00 ∷ [])

abbrev pub lock_bytes : ℕ → List ℕ → Bytes
lock_bytes size us =
    (0x00 ∷ 0x00 ∷ 0x01 ∷ 0x00 ∷ size ∷ 0x00 ∷ 0x46 ∷ 0x00 ∷ [])
    ++ G
    ++ (0x00 ∷ 0x00 ∷ 0x00 ∷ 0x00 ∷ 0xFF ∷ 0xFF ∷ 0xFF ∷ 0xFF ∷ 0x00 ∷ 0x00 ∷ 0x00 ∷ 0x00 ∷ 0x00 ∷ 0x00 ∷ 0x00 ∷ 0x00 ∷ 0x03 ∷ 0x00 ∷ 0x00 ∷ 0x00 ∷ [])
    ++ P
    ++ (0x01 ∷ 0x00 ∷ 0x45 ∷ 0x00 ∷ 0x4F ∷ 0x00 ∷ 0x44 ∷ 0x00 ∷ 0x00 ∷ 0x00 ∷ [])
    ++ closed us

-- a call of the engine, or one of phases
pub data AnyCall : Type 0 where
  engine : Call → AnyCall
  phase : PhaseCall → AnyCall

abbrev pub step_any : State → AnyCall → Answer × State
step_any s (engine c) = step s c
step_any s (phase x) = phase_step s x

-- of each call the number of the status, the number beside it, and the bytes
abbrev pub answers : State → List AnyCall → List ℕ
answers s [] = []
answers s (c ∷ cs) = status_number (step_any s c).0.status ∷ (step_any s c).0.number ∷ ((step_any s c).0.bytes ++ answers (step_any s c).1 cs)

abbrev pub AnswersAny : List AnyCall × List ℕ → Type 0
AnswersAny r = same (answers board (engine (power_on true) ∷ r.0)) (0 ∷ 0 ∷ r.1) ≡ true

-- the older lock of a variable of namespace G, and a set in one of the two namespaces
abbrev pub locking : List ℕ → AnyCall
locking us = phase (lock_variable P (record { namespace = G; name = text us }))

abbrev pub flagging : Bytes → List ℕ → ℕ → Bytes → AnyCall
flagging namespace us a d = engine (set (record { variable = record { namespace = namespace; name = text us }; attributes = a; payload = d }))

abbrev pub EOD : List ℕ
EOD = 0x45 ∷ 0x4F ∷ 0x44 ∷ []

abbrev pub RTB : List ℕ
RTB = 0x52 ∷ 0x54 ∷ 0x42 ∷ []

-- the entries
abbrev pub written : List (List AnyCall × List ℕ)
written =
    -- each policy once, and both dumped; one namespace for both
    (
      (phase (phase_policy P) ∷ phase (phase_policy P) ∷ phase (write_once_policy W) ∷ engine (dump (replicate 88 7)) ∷ []),
      0 ∷ 0 ∷ 20 ∷ 0 ∷ 0 ∷ 0 ∷ 0 ∷ 88 ∷ (flag_bytes P ++ flag_bytes W),
    )
    ∷ ((phase (phase_policy P) ∷ phase (write_once_policy P) ∷ []), 0 ∷ 0 ∷ 20 ∷ 0 ∷ [])
    -- the older lock once, and it dumped; '#' in its name, no name, 65 units, 64, half a unit
    ∷ ((locking A ∷ locking A ∷ engine (dump (replicate 74 7)) ∷ []), 0 ∷ 0 ∷ 20 ∷ 0 ∷ 0 ∷ 74 ∷ lock_bytes 74 A)
    ∷ (
      (locking (0x41 ∷ 0x23 ∷ []) ∷ locking [] ∷ locking (replicate 65 0x41) ∷ locking (replicate 64 0x41) ∷ phase (lock_variable P (record { namespace = G; name = 0x41 ∷ [] })) ∷ engine (dump (replicate 200 7)) ∷ []),
      2 ∷ 0 ∷ 2 ∷ 0 ∷ 2 ∷ 0 ∷ 0 ∷ 0 ∷ 2 ∷ 0 ∷ 0 ∷ 200 ∷ lock_bytes 200 (replicate 64 0x41),
    )
    -- of a locked engine, and after exit: the name's 2 comes before 8 and 3
    ∷ (
      (engine lock ∷ locking (0x41 ∷ 0x23 ∷ []) ∷ locking A ∷ phase (phase_policy P) ∷ engine exit ∷ locking (0x41 ∷ 0x23 ∷ []) ∷ locking A ∷ phase (write_once_policy W) ∷ []),
      0 ∷ 0 ∷ 2 ∷ 0 ∷ 8 ∷ 0 ∷ 8 ∷ 0 ∷ 0 ∷ 0 ∷ 2 ∷ 0 ∷ 3 ∷ 0 ∷ 3 ∷ 0 ∷ [],
    )
    ∷ []

-- the flags
abbrev pub flagged : List (List AnyCall × List ℕ)
flagged =
    -- "EOD" under the phase policy: created once, then neither changed nor deleted
    (
      (phase (phase_policy P) ∷ engine lock ∷ phase (end_of_dxe P) ∷ phase (end_of_dxe P) ∷ flagging P EOD 6 (0 ∷ []) ∷ flagging P EOD 6 [] ∷ engine (read (record { namespace = P; name = text EOD })) ∷ []),
      0 ∷ 0 ∷ 0 ∷ 0 ∷ 0 ∷ 0 ∷ 8 ∷ 0 ∷ 8 ∷ 0 ∷ 8 ∷ 0 ∷ 0 ∷ 6 ∷ 1 ∷ [],
    )
    -- what the policy asks of a flag: two bytes, NV, no RT; a '#' in an exit flag's name, none
    ∷ (
      (phase (phase_policy P) ∷ flagging P RTB 6 (1 ∷ 1 ∷ []) ∷ flagging P RTB 7 (1 ∷ []) ∷ flagging P RTB 2 (1 ∷ []) ∷ phase (ready_to_boot P) ∷ phase (exit_flag P (text (0x58 ∷ 0x23 ∷ []))) ∷ phase (exit_flag P []) ∷ []),
      0 ∷ 0 ∷ 2 ∷ 0 ∷ 2 ∷ 0 ∷ 2 ∷ 0 ∷ 0 ∷ 0 ∷ 0 ∷ 0 ∷ 2 ∷ 0 ∷ [],
    )
    -- after exit no flag is created, and those that are there can be read
    ∷ (
      (phase (phase_policy P) ∷ phase (ready_to_boot P) ∷ engine exit ∷ phase (exit_flag P (text A)) ∷ engine (read (record { namespace = P; name = text RTB })) ∷ []),
      0 ∷ 0 ∷ 0 ∷ 0 ∷ 0 ∷ 0 ∷ 2 ∷ 0 ∷ 0 ∷ 6 ∷ 1 ∷ [],
    )
    -- a write-once variable: any byte, once
    ∷ ((phase (write_once_policy W) ∷ flagging W A 6 (9 ∷ []) ∷ flagging W A 6 (9 ∷ []) ∷ flagging W A 6 [] ∷ []), 0 ∷ 0 ∷ 0 ∷ 0 ∷ 8 ∷ 0 ∷ 8 ∷ 0 ∷ [])
    ∷ []

-- the older lock: free before the end of DXE, settled behind it
abbrev pub older_lock : List (List AnyCall × List ℕ)
older_lock = (
  (phase (phase_policy P) ∷ locking A ∷ engine lock ∷ engine (write A) ∷ engine (delete A) ∷ engine (write A) ∷ engine (asking A) ∷ phase (end_of_dxe P)
      ∷ engine (write A) ∷ engine (delete A) ∷ engine (asking A) ∷ []),
  0 ∷ 0 ∷ 0 ∷ 0 ∷ 0 ∷ 0 ∷ 0 ∷ 0 ∷ 0 ∷ 0 ∷ 0 ∷ 0 ∷ 0 ∷ 0 ∷ 0 ∷ 0
      ∷ 8 ∷ 0 ∷ 8 ∷ 0 ∷ 0 ∷ 1 ∷ [],
)
    -- without the phase policy "EOD" can be deleted again, and the lock is gone
    ∷ (
      (locking A ∷ engine lock ∷ phase (end_of_dxe P) ∷ engine (write A) ∷ engine (asking A) ∷ flagging P EOD 6 [] ∷ engine (write A) ∷ []),
      0 ∷ 0 ∷ 0 ∷ 0 ∷ 0 ∷ 0 ∷ 8 ∷ 0 ∷ 0 ∷ 0 ∷ 0 ∷ 0 ∷ 0 ∷ 0 ∷ [],
    )
    ∷ []

abbrev pub phase_readings : List (List AnyCall × List ℕ)
phase_readings = written ++ flagged ++ older_lock
