-- The report of step 4, by what the code found. Assumes nothing.
use Prim.Native.Nat.{ℕ}
use mathlib.Core.Path.{◌≡◌, refl, sym, ap, ap₂, ◌∙◌}
use Rattle.std.specs.Prelude.{Some, None}
use Rattle.std.specs.Prelude as std
use mathlib.Core.List.{List}
use mathlib.Core.Bool.{Bool, true, false}
use mathlib.Core.Option.{Option, none, some}
use Rattle.slices.specs.Bytes.{Bytes}
use Rattle.entry.specs.Entry.{attributes_must_have, attributes_cant_have, rank}
use Rattle.policy.specs.Choice.{place_of}
use Rattle.bits.specs.Bits.{missing_bits, prohibited_bits, lowest_bit}
use Rattle.rules.specs.declared.Ground.{Ground}
use Rattle.rules.specs.declared.Ground.TheVariants.{AttributeGround}
use Rattle.rules.specs.declared.Report.{Report}
use Rattle.rules.specs.Set.{Request, Lookup, ground_of, ground_by}
use Rattle.rules.specs.Report.{report_of, no_report, report_for, report_by}
use Rattle.rules.proofs.ReportLaws.{ground_for}
use Rattle.rules.specs.Engine.{speaking}

-- ---- of an entry at a place
module _ (place : ℕ) (e : Bytes) (a : ℕ) where
  pub attribute_report : {k m p l must cant : ℕ} → k ≡ rank e → must ≡ attributes_must_have e → cant ≡ attributes_cant_have e → m ≡ missing_bits must a
      → p ≡ prohibited_bits cant a → l ≡ lowest_bit must cant a → report_of (Some AttributeGround) place k m p l ≡ report_for (Some AttributeGround) place e a
  unfolding report_for
  attribute_report j k h b c d = rw (j, b, c, d, k, h)

-- without a ground there is nothing to report
pub no_ground_report : (es : List Bytes) (o : Option Bytes) (a : ℕ) → report_by None es o a ≡ no_report
unfolding report_for
no_ground_report es none a = refl
no_ground_report es (some e) a = refl

-- ---- of the entry that speaks
module _ (es : List Bytes) (found : Lookup) (r : Request) (a : ℕ) where
  abbrev Told : Bool → Option Bytes → Report
  Told enabled o = report_by (ground_by (speaking enabled o) found r) es o a

  pub disabled_report : {x : Report} (enabled : Bool) (o : Option Bytes) → x ≡ no_report → enabled ≡ false → x ≡ Told enabled o
  disabled_report enabled o h k = h ∙ sym (no_ground_report es o a) ∙ sym (ap (λ b. Told b o) k)

  pub unchosen_report : {x : Report} (enabled : Bool) (o : Option Bytes) → x ≡ no_report → o ≡ none → x ≡ Told enabled o
  unchosen_report enabled o h k = h ∙ sym (ap (Told enabled) k)

  pub spoken_report : {x : Report} {g : std.Option Ground} {k : ℕ} (enabled : Bool) (o : Option Bytes) (e : Bytes) → x ≡ report_for g k e a → g ≡ ground_of e found r
      → place_of es e ≡ k → o ≡ some e → enabled ≡ true → x ≡ Told enabled o
  spoken_report enabled o e h j p k l =
      h ∙ ap₂ (λ y z. report_for y z e a) j (sym p) ∙ sym (ap₂ Told l k)

  -- its ground is the ground
  pub report_ground : (enabled : Bool) (o : Option Bytes) → (Told enabled o).ground ≡ ground_by (speaking enabled o) found r
  report_ground true none = refl
  report_ground false none = refl
  report_ground true (some e) = ground_for (ground_of e found r) (place_of es e) e a
  report_ground false (some e) = ground_for None (place_of es e) e a
