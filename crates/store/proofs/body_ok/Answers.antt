use Rattle.store.proofs.Tests.{body_unnamed, body_named}
use mathlib.Core.Path.{◌∙◌}
use Rattle.store.proofs.body_ok.Goals as goal

pub returns-then-is_terminated : goal.returns-then-is_terminated
returns-then-is_terminated c =
    body_named c.args.r.now c.requires.0 c.requires.1 c.is_terminated.ensures c.if-is_terminated.true c.few_are.ensures

pub returns-else-is_terminated : goal.returns-else-is_terminated
returns-else-is_terminated c =
    c.if-is_terminated.false ∙ body_unnamed c.args.r.now c.requires.0 c.requires.1 c.is_terminated.ensures c.if-is_terminated.false
