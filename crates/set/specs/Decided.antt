-- What is decided of a set, with its report: two readings of the rules' one decision. Assumes nothing: this is a definition.
use Rattle.std.specs.Prelude.{List}
use Rattle.slices.specs.Bytes.{Bytes}
use Rattle.policy.specs.Choice.{chosen}
use Rattle.switches.specs.declared.Switches.{Switches}
use Rattle.rules.specs.Set.{Request}
use Rattle.rules.specs.Report.{decision_report}
use Rattle.rules.specs.Engine.{decision_by}
use Rattle.set.specs.declared.Decided.{Decided}

abbrev pub decided_by : List Bytes → Switches → Bytes → Bytes → Request → Decided
decided_by es w nv vol r =
    record {
      decision = decision_by (chosen es) w nv vol r;
      report = decision_report (decision_by (chosen es) w nv vol r) es (chosen es r.variable) r.attributes;
    }
