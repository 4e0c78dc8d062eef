use Rattle.stores.proofs.Both.{empty_met, Ended, ends_at, repeated_in, long_alone, repeated_alone, check_alone}
use mathlib.Core.Bool.{true}
use mathlib.Core.List.{[]}
use mathlib.Core.Path.{sym, ap, ◌∙◌}
use Rattle.stores.specs.Filter.{scanned}
use Rattle.stores.proofs.check_alone.Goals as goal

pub returns-then-nv-gt-MAX_STORE : goal.returns-then-nv-gt-MAX_STORE
returns-then-nv-gt-MAX_STORE c = long_alone _ c.if-nv-gt-MAX_STORE.true

pub scan-requires : goal.scan-requires
scan-requires c = empty_met c.no_records.ensures c.empty-t.ensures

pub returns-in_default : goal.returns-in_default
returns-in_default c = repeated_alone _ (repeated_in true _ _ (ap (scanned true _) (sym c.no_records.ensures) ∙ sym c.scan.ensures.answer ∙ c.in_default.is))

pub slice_bounds-all_are-count : goal.slice_bounds-all_are-count
slice_bounds-all_are-count c =
    let first : Ended true c.args.nv.now [] c.in-Some.end = ends_at true _ _ _ (ap (scanned true _) (sym c.no_records.ensures) ∙ sym c.scan.ensures.answer ∙ c.in-Some.is) in
    (first).within

pub slice_bounds-all_are-start : goal.slice_bounds-all_are-start
slice_bounds-all_are-start c =
    let first : Ended true c.args.nv.now [] c.in-Some.end = ends_at true _ _ _ (ap (scanned true _) (sym c.no_records.ensures) ∙ sym c.scan.ensures.answer ∙ c.in-Some.is) in
    (first).within

pub returns : goal.returns
returns c =
    let first : Ended true c.args.nv.now [] c.in-Some.end = ends_at true _ _ _ (ap (scanned true _) (sym c.no_records.ensures) ∙ sym c.scan.ensures.answer ∙ c.in-Some.is) in
    check_alone _ c.if-nv-gt-MAX_STORE.false (first) c.all_are.ensures
