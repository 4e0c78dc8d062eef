use Rattle.stores.specs.Pair.{lookup}
use Rattle.policy.specs.Policy.{entries_of}
use Rattle.policy.specs.Choice.{chosen}
use Rattle.policy.proofs.ChoiceLaws.{choice_none}
use Rattle.set.specs.Asked.{asked}
use Rattle.set.proofs.Spoken.{header_within, end_within, entry_formed, entry_chosen, index_below, rank_below, entry_rank, entry_place}
use Rattle.set.proofs.Reports.{disabled_report, unchosen_report, spoken_report}
use native.Mathlib.Omega.{arith}
use mathlib.Core.Path.{sym, ◌∙◌}
use Rattle.set.proofs.report.Goals as goal

pub returns-then-not-enabled : goal.returns-then-not-enabled
returns-then-not-enabled c =
    let a = c.args in
    disabled_report (entries_of a.entries.bytes.now) (lookup a.located.stores.nv.now a.located.stores.vol.now) (asked a.located.request) a.located.request.attributes
    a.enabled (chosen (entries_of a.entries.bytes.now) (asked a.located.request).variable) c.no_report.ensures c.if-not-enabled.true

pub returns-in_default : goal.returns-in_default
returns-in_default c =
    let a = c.args in
    unchosen_report (entries_of a.entries.bytes.now) (lookup a.located.stores.nv.now a.located.stores.vol.now) (asked a.located.request) a.located.request.attributes
    a.enabled _ c.no_report-in_default.ensures
    (choice_none _ _ (sym c.choose.ensures ∙ c.in_default.is))

pub overflow_add-at : goal.overflow_add-at
overflow_add-at c =
    let chosen_is = sym c.choose.ensures ∙ c.in-Some.is in
    omega (arith, header_within _ _ _ chosen_is)

pub get16-requires : goal.get16-requires
get16-requires c =
    let chosen_is = sym c.choose.ensures ∙ c.in-Some.is in
    omega (arith, header_within _ _ _ chosen_is)

pub overflow_add-end : goal.overflow_add-end
overflow_add-end c =
    let chosen_is = sym c.choose.ensures ∙ c.in-Some.is in
    omega (arith, end_within _ _ _ chosen_is _ c.get16.ensures.is)

pub slice_bounds-e-end : goal.slice_bounds-e-end
slice_bounds-e-end c =
    let chosen_is = sym c.choose.ensures ∙ c.in-Some.is in
    end_within _ _ _ chosen_is _ c.get16.ensures.is

pub entry_ground-ground-requires : goal.entry_ground-ground-requires
entry_ground-ground-requires c =
    let chosen_is = sym c.choose.ensures ∙ c.in-Some.is in
    entry_formed _ _ _ chosen_is _ c.get16.ensures.is

pub overflow_cast-place : goal.overflow_cast-place
overflow_cast-place c =
    let chosen_is = sym c.choose.ensures ∙ c.in-Some.is in
    omega (arith, index_below _ _ _ chosen_is c.args.entries.noted.few)

pub overflow_cast-chosen : goal.overflow_cast-chosen
overflow_cast-chosen c =
    let chosen_is = sym c.choose.ensures ∙ c.in-Some.is in
    omega (arith, rank_below _ _ _ chosen_is)

pub report_for-requires : goal.report_for-requires
report_for-requires c =
    let chosen_is = sym c.choose.ensures ∙ c.in-Some.is in
    entry_rank _ _ _ chosen_is _ c.get16.ensures.is

pub returns : goal.returns
returns c =
    let chosen_is = sym c.choose.ensures ∙ c.in-Some.is in
    spoken_report _ _ _ _ c.args.enabled _ _ c.report_for.ensures c.entry_ground-ground.ensures
    (entry_place _ _ _ chosen_is _ c.get16.ensures.is) (entry_chosen _ _ _ chosen_is _ c.get16.ensures.is) c.if-not-enabled.false
