use Rattle.std.proofs.Common.{sym, ◌∙◌}
use borrow.Author.Tests.{ne_eqb}
use Rattle.store.proofs.Walk.{other_first}
use Rattle.store.specs.Parts.{variable}
use Rattle.store.proofs.stands_for.Goals as goal

pub returns-else-get32-first : goal.returns-else-get32-first
returns-else-get32-first c =
    λ is. let r = c.args.record.now in
    ne_eqb _ _ c.if-get32-first.false ∙ sym (other_first (variable c.args.namespace.now c.args.name.now) r.bytes.now r.fits r.body (λ e. c.if-get32-first.false (c.get32.ensures.is ∙ e ∙ sym is)))
