use Rattle.rules.specs.Decision.{Refuse}
use Rattle.rules.proofs.DecisionLaws.{taken_named, blocked_by, write_unblocked, decision_refused, decision_blocked, decision_written}
use Rattle.rules.specs.Set.{Request, request_status}
use Rattle.set.specs.Asked.{asked}
use Rattle.policy.specs.Policy.{entries_of}
use Rattle.slices.specs.Bytes.{Bytes}
use Rattle.set.proofs.Decisions.{decided_silent, silent_report, decided_blocked, ground_in}
use Rattle.status.specs.Status.{is_success}
use Rattle.switches.specs.declared.Switches.{Switches}
use mathlib.Core.Bool.{true}
use mathlib.Core.List.{List}
use mathlib.Core.Path.{◌≡◌, refl, sym, ap, ◌∙◌}
use Rattle.set.proofs.decide.Goals as goal

pub returns-in-Err : goal.returns-in-Err
returns-in-Err c =
    let Asked : Request = asked c.args.located.request in
    let Entries : List Bytes = entries_of c.args.entries.bytes.now in
    let Lent : Switches = c.args.switches in
    let NV : Bytes = c.args.located.stores.nv.now in
    let Vol : Bytes = c.args.located.stores.vol.now in
    decided_silent (Entries) (Lent) (NV) (Vol) (Asked) _ (ap (λ p. record { decision = Refuse c.in-Err.status; report = p }) c.no_report.ensures)
    (sym (decision_refused _ _ _ _ _ _ (sym c.in-Err.ensures.0) c.in-Err.ensures.1)) refl

pub decide_write-decision-requires : goal.decide_write-decision-requires
decide_write-decision-requires c =
    let Asked : Request = asked c.args.located.request in
    let Lent : Switches = c.args.switches in
    let taken : is_success (request_status (Lent).exited (Asked)) ≡ true = ap is_success c.in_default.ensures in
    taken_named _ (Asked) (taken)

pub returns-in-None : goal.returns-in-None
returns-in-None c =
    let Asked : Request = asked c.args.located.request in
    let Entries : List Bytes = entries_of c.args.entries.bytes.now in
    let Lent : Switches = c.args.switches in
    let NV : Bytes = c.args.located.stores.nv.now in
    let Vol : Bytes = c.args.located.stores.vol.now in
    let taken : is_success (request_status (Lent).exited (Asked)) ≡ true = ap is_success c.in_default.ensures in
    let q = sym (ground_in (Entries) (Lent) (NV) (Vol) (Asked) c.report-said.ensures) ∙ c.in-None.is in
    decided_silent (Entries) (Lent) (NV) (Vol) (Asked) _
    (ap (λ p. record { decision = c.decide_write-decision.result; report = p }) (silent_report (Entries) (Lent) (NV) (Vol) (Asked) c.report-said.ensures q))
    (c.decide_write-decision.ensures ∙ sym (decision_written _ _ _ _ _ (taken) q)) (ap blocked_by c.decide_write-decision.ensures ∙ write_unblocked _ (NV) (Vol) _ (Asked))

pub returns-in-Some : goal.returns-in-Some
returns-in-Some c =
    let Asked : Request = asked c.args.located.request in
    let Entries : List Bytes = entries_of c.args.entries.bytes.now in
    let Lent : Switches = c.args.switches in
    let NV : Bytes = c.args.located.stores.nv.now in
    let Vol : Bytes = c.args.located.stores.vol.now in
    let taken : is_success (request_status (Lent).exited (Asked)) ≡ true = ap is_success c.in_default.ensures in
    let q = sym (ground_in (Entries) (Lent) (NV) (Vol) (Asked) c.report-said.ensures) ∙ c.in-Some.is in
    decided_blocked (Entries) (Lent) (NV) (Vol) (Asked) c.in-Some.ground (decision_blocked _ _ _ _ _ c.in-Some.ground (taken) q) c.report-said.ensures q
