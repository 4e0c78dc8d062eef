use Rattle.stores.proofs.Both.{empty_met, first_met, Ended, ends_at, repeated_in, long_first, long_second, repeated_first, repeated_second, check_is}
use Rattle.store.specs.Store.{records_of}
use mathlib.Core.Bool.{true, false}
use mathlib.Core.List.{[]}
use mathlib.Core.Path.{sym, ap, ◌∙◌}
use Rattle.stores.specs.Filter.{scanned}
use Rattle.stores.proofs.check.Goals as goal

pub returns-then-nv-gt-MAX_STORE : goal.returns-then-nv-gt-MAX_STORE
returns-then-nv-gt-MAX_STORE c = long_first _ _ c.if-nv-gt-MAX_STORE.true

pub returns-then-vol-gt-MAX_STORE : goal.returns-then-vol-gt-MAX_STORE
returns-then-vol-gt-MAX_STORE c = long_second _ _ c.if-vol-gt-MAX_STORE.true

pub scan-requires : goal.scan-requires
scan-requires c = empty_met c.no_records.ensures c.empty-t.ensures

pub returns-in_err-nv_end : goal.returns-in_err-nv_end
returns-in_err-nv_end c = c.from_residual.ensures ∙ repeated_first _ _ (repeated_in true _ _ (ap (scanned true _) (sym c.no_records.ensures) ∙ sym c.in_err-nv_end.ensures.answer))

pub invariant_of-walked : goal.invariant_of-walked
invariant_of-walked c =
    let first : Ended true c.args.nv.now [] c.in_ok-nv_end.nv_end = ends_at true _ _ _ (ap (scanned true _) (sym c.no_records.ensures) ∙ sym c.in_ok-nv_end.ensures.answer) in
    record { ended = first.is }

pub scan-requires-2 : goal.scan-requires-2
scan-requires-2 c =
    let first : Ended true c.args.nv.now [] c.in_ok-nv_end.nv_end = ends_at true _ _ _ (ap (scanned true _) (sym c.no_records.ensures) ∙ sym c.in_ok-nv_end.ensures.answer) in
    first_met c.no_records.ensures first.free c.scan.ensures.filter

pub returns-in_err-vol_end : goal.returns-in_err-vol_end
returns-in_err-vol_end c = c.from_residual-in_err-vol_end.ensures ∙ repeated_second _ _ (repeated_in false _ _ (sym c.in_err-vol_end.ensures.answer))

pub slice_bounds-all_are-count : goal.slice_bounds-all_are-count
slice_bounds-all_are-count c =
    let first : Ended true c.args.nv.now [] c.in_ok-nv_end.nv_end = ends_at true _ _ _ (ap (scanned true _) (sym c.no_records.ensures) ∙ sym c.in_ok-nv_end.ensures.answer) in
    first.within

pub slice_bounds-all_are-start : goal.slice_bounds-all_are-start
slice_bounds-all_are-start c =
    let first : Ended true c.args.nv.now [] c.in_ok-nv_end.nv_end = ends_at true _ _ _ (ap (scanned true _) (sym c.no_records.ensures) ∙ sym c.in_ok-nv_end.ensures.answer) in
    first.within

pub slice_bounds-all_are-count-2 : goal.slice_bounds-all_are-count-2
slice_bounds-all_are-count-2 c =
    let second : Ended false c.args.vol.now (records_of true c.args.nv.now) c.in_ok-vol_end.vol_end = ends_at false _ _ _ (sym c.in_ok-vol_end.ensures.answer) in
    second.within

pub slice_bounds-all_are-start-2 : goal.slice_bounds-all_are-start-2
slice_bounds-all_are-start-2 c =
    let second : Ended false c.args.vol.now (records_of true c.args.nv.now) c.in_ok-vol_end.vol_end = ends_at false _ _ _ (sym c.in_ok-vol_end.ensures.answer) in
    second.within

pub returns : goal.returns
returns c =
    let first : Ended true c.args.nv.now [] c.in_ok-nv_end.nv_end = ends_at true _ _ _ (ap (scanned true _) (sym c.no_records.ensures) ∙ sym c.in_ok-nv_end.ensures.answer) in
    let second : Ended false c.args.vol.now (records_of true c.args.nv.now) c.in_ok-vol_end.vol_end = ends_at false _ _ _ (sym c.in_ok-vol_end.ensures.answer) in
    c.then_some.ensures ∙ check_is _ _ c.if-nv-gt-MAX_STORE.false c.if-vol-gt-MAX_STORE.false first.is second c.all_are.ensures c.all_are-2.ensures
