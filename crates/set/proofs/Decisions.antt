-- What is decided, with its report, by where the steps end. Assumes nothing.
use mathlib.Core.Path.{◌≡◌, sym, ap, ap₂, ◌∙◌}
use Rattle.std.specs.Prelude.{Some, None}
use Rattle.std.specs.Prelude as std
use mathlib.Core.List.{List}
use mathlib.Core.Option.{Option}
use Rattle.slices.specs.Bytes.{Bytes}
use Rattle.policy.specs.Choice.{chosen}
use Rattle.stores.specs.Pair.{lookup}
use Rattle.switches.specs.declared.Switches.{Switches}
use Rattle.rules.specs.declared.Ground.{Ground}
use Rattle.rules.specs.Decision.{Decision}
use Rattle.rules.specs.Decision.{Block}
use Rattle.rules.specs.declared.Report.{Report}
use Rattle.rules.specs.Set.{Request, ground_by, decision}
use Rattle.rules.proofs.DecisionLaws.{blocked_by}
use Rattle.rules.specs.Report.{no_report, report_by, decision_report}
use Rattle.rules.proofs.ReportLaws.{unblocked_report}
use Rattle.rules.specs.Engine.{speaking, decision_by}
use Rattle.set.specs.declared.Decided.{Decided}
use Rattle.set.specs.Decided.{decided_by}
use Rattle.set.proofs.Reports.{report_ground, no_ground_report}

module _ (es : List Bytes) (w : Switches) (nv vol : Bytes) (r : Request) where
  abbrev choice : Option Bytes
  choice = chosen es r.variable

  abbrev pub spoken_ground : std.Option Ground
  spoken_ground = ground_by (speaking w.enabled choice) (lookup nv vol) r

  abbrev decides : Decision
  decides = decision w.exited (speaking w.enabled choice) nv vol r

  -- without a ground of step 4
  pub decided_silent : {x : Decided} (d : Decision) → x ≡ record { decision = d; report = no_report } → d ≡ decides → blocked_by d ≡ None → x ≡ decided_by es w nv vol r
  unfolding decision_by
  decided_silent d k e h =
      k ∙ ap₂ (λ y z. record { decision = y; report = z }) e (sym (unblocked_report d es choice r.attributes h) ∙ ap (λ y. decision_report y es choice r.attributes) e)

  -- the report is then one without a ground
  pub silent_report : {p : Report} → p ≡ report_by spoken_ground es choice r.attributes → spoken_ground ≡ None → p ≡ no_report
  silent_report h k = h ∙ ap (λ g. report_by g es choice r.attributes) k ∙ no_ground_report es choice r.attributes

  -- by one
  pub decided_blocked : {p : Report} (g : Ground) → decides ≡ Block g → p ≡ report_by spoken_ground es choice r.attributes → spoken_ground ≡ Some g
      → record { decision = Block g; report = p } ≡ decided_by es w nv vol r
  unfolding decision_by
  decided_blocked g e h k =
      ap₂ (λ y z. record { decision = y; report = z }) (sym e)
      (h ∙ ap (λ y. report_by y es choice r.attributes) k ∙ sym (ap (λ y. decision_report y es choice r.attributes) e))

  -- the ground in the report is that of step 4
  pub ground_in : {p : Report} → p ≡ report_by spoken_ground es choice r.attributes → p.ground ≡ spoken_ground
  ground_in h = ap (λ q. q.ground) h ∙ report_ground es (lookup nv vol) r r.attributes w.enabled choice
