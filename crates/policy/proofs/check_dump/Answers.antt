use mathlib.Core.Path.{sym, ◌∙◌}
use lib.ListN.{length}
use Rattle.slices.specs.Bytes.{Bytes}
use Rattle.policy.specs.declared.Extent.{Extent}
use Rattle.policy.proofs.PolicyLaws.{CheckedWithin, within_valid, within_invalid}
use Rattle.policy.proofs.DumpLaws.{dump_long, dump_invalid, dump_refused_lem, dump_checked_lem}
use Rattle.policy.proofs.check_dump.Goals as goal

pub returns-then-dump-gt-POLICY_BYTES : goal.returns-then-dump-gt-POLICY_BYTES
returns-then-dump-gt-POLICY_BYTES c =
    let d = c.args.dump.now in
    let both = dump_refused_lem d (dump_long d c.if-dump-gt-POLICY_BYTES.true) in record { answer = both.0; noted = both.1 }

pub returns-in_err-extent : goal.returns-in_err-extent
returns-in_err-extent c =
    let D : Bytes = c.args.dump.now in
    let both = dump_refused_lem (D) (dump_invalid (D) (within_invalid _ (D) (sym c.scan_noting.ensures.answer ∙ c.in_err-extent.was))) in record { answer = c.from_residual.ensures ∙ both.0; noted = both.1 }

pub returns : goal.returns
returns c =
    let D : Bytes = c.args.dump.now in
    let x : Extent = c.in_ok-extent.extent in
    let k : CheckedWithin (length (D)) (D) x.count x.used = within_valid _ _ _ (sym c.scan_noting.ensures.answer ∙ c.in_ok-extent.was) in
    record { answer = c.then_some.ensures ∙ dump_checked_lem (D) c.if-dump-gt-POLICY_BYTES.false k; noted = λ v. c.scan_noting.ensures.noted k.valid }
