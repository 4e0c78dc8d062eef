-- The report of a set (RULES.md, 10.10): what step 4 said against it. Assumes nothing: these are definitions.
use Rattle.std.specs.Prelude.{ℕ, Some, None, List}
use Rattle.std.specs.Prelude as std
use Rattle.std.proofs.Math.Option.{Option, none, some}
use Rattle.slices.specs.Bytes.{Bytes}
use Rattle.entry.specs.Entry.{attributes_must_have, attributes_cant_have, rank}
use Rattle.policy.specs.Choice.{place_of}
use Rattle.bits.specs.Bits.{missing_bits, prohibited_bits, lowest_bit}
use Rattle.rules.specs.declared.Ground.{Ground}
use Rattle.rules.specs.declared.Ground.TheVariants.{SizeGround, AttributeGround, LockGround}
use Rattle.rules.specs.Decision.{Decision}
use Rattle.rules.specs.Decision.{Refuse, Block, Delete, Keep, Store}
use Rattle.rules.specs.declared.Report.{Report}

-- a ground, the place and the rank of the entry that gave it, and the three numbers of its attributes
abbrev pub report_of : (ground : std.Option Ground) → ℕ → ℕ → ℕ → ℕ → ℕ → Report
report_of ground place rank missing prohibited lowest =
    record { ground = ground; place = place; rank = rank; missing = missing; prohibited = prohibited; lowest = lowest }

-- the number of a ground, and 0 of none
abbrev pub ground_number : std.Option Ground → ℕ
ground_number None = 0
ground_number (Some SizeGround) = 1
ground_number (Some AttributeGround) = 2
ground_number (Some LockGround) = 3

-- step 4 gave no ground: every number is zero
abbrev pub no_report : Report
no_report = report_of None 0 0 0 0 0

-- the ground that the entry e at a place gave against a request with the attributes a
unfoldable pub report_for : std.Option Ground → ℕ → Bytes → ℕ → Report
report_for None place e a = no_report
report_for (Some SizeGround) place e a = report_of (Some SizeGround) place (rank e) 0 0 0
report_for (Some AttributeGround) place e a =
    report_of (Some AttributeGround) place (rank e) (missing_bits (attributes_must_have e) a) (prohibited_bits (attributes_cant_have e) a)
    (lowest_bit (attributes_must_have e) (attributes_cant_have e) a)
report_for (Some LockGround) place e a = report_of (Some LockGround) place (rank e) 0 0 0

-- the ground that the chosen entry gave, at its place among the entries es
abbrev pub report_by : std.Option Ground → List Bytes → Option Bytes → ℕ → Report
report_by g es none a = no_report
report_by g es (some e) a = report_for g (place_of es e) e a

-- THE REPORT of a decision: of a ground of step 4, and of nothing else
abbrev pub decision_report : Decision → List Bytes → Option Bytes → ℕ → Report
decision_report (Refuse n) es choice a = no_report
decision_report (Block g) es choice a = report_by (Some g) es choice a
decision_report Delete es choice a = no_report
decision_report Keep es choice a = no_report
decision_report Store es choice a = no_report
