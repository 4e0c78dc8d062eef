use mathlib.Core.Path.{sym, ap₂, ◌∙◌}
use Rattle.slices.specs.Bytes.{same}
use Rattle.quarrels.proofs.Tests.{by_length, by_none_lem, by_overlap, by_rank, by_namespace}
use Rattle.quarrels.proofs.quarrel.Goals as goal

pub returns-then-own-other : goal.returns-then-own-other
returns-then-own-other c =
    by_length c.args.e.bytes.now c.args.f.bytes.now c.args.e.formed c.args.f.formed c.name-own.ensures c.name-other.ensures c.if-own-other.true

pub returns-then-own-eq0 : goal.returns-then-own-eq0
returns-then-own-eq0 c =
    by_none_lem c.args.e.bytes.now c.args.f.bytes.now c.args.e.formed c.args.f.formed c.name-own.ensures c.name-other.ensures c.if-own-other.false c.if-own-eq0.true

pub returns-then-not-overlap : goal.returns-then-not-overlap
returns-then-not-overlap c =
    by_overlap c.args.e.bytes.now c.args.f.bytes.now c.args.e.formed c.args.f.formed c.name-own.ensures c.name-other.ensures c.if-own-other.false c.if-own-eq0.false
    (sym c.overlap.ensures ∙ c.if-not-overlap.true)

pub returns-then-wildcards : goal.returns-then-wildcards
returns-then-wildcards c =
    by_rank c.args.e.bytes.now c.args.f.bytes.now c.args.e.formed c.args.f.formed c.name-own.ensures c.name-other.ensures c.if-own-other.false c.if-own-eq0.false
    (λ k. c.if-wildcards.true (c.wildcards.ensures ∙ k ∙ sym c.wildcards-2.ensures))

pub returns : goal.returns
returns c =
    by_namespace c.args.e.bytes.now c.args.f.bytes.now c.args.e.formed c.args.f.formed c.name-own.ensures c.name-other.ensures c.if-own-other.false c.if-own-eq0.false
    (sym c.overlap.ensures ∙ c.if-not-overlap.false)
    (sym c.wildcards.ensures ∙ c.if-wildcards.false ∙ c.wildcards-2.ensures)
    (c.same_namespace.ensures ∙ ap₂ same c.namespace.ensures.is c.namespace-2.ensures.is)
