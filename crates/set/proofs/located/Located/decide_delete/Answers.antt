use Rattle.set.proofs.LockRules.{located_within}
use Rattle.set.proofs.WriteSteps.{delete_place}
use Rattle.set.proofs.Shown.{delete_hidden, delete_protected, delete_done}
use mathlib.Core.Bool.{not}
use mathlib.Core.Path.{ap}
use Rattle.set.proofs.located.Located.decide_delete.Goals as goal

pub is_shown-requires : goal.is_shown-requires
is_shown-requires c = located_within c.args.self

pub exit_protects-requires : goal.exit_protects-requires
exit_protects-requires c = located_within c.args.self

pub returns-then-not-is_shown : goal.returns-then-not-is_shown
returns-then-not-is_shown c = delete_place _ _ _ _ _ c.args.self.stands (delete_hidden _ _ c.is_shown.ensures (ap not c.if-not-is_shown.true))

pub returns-then-exit_protects : goal.returns-then-exit_protects
returns-then-exit_protects c =
    delete_place _ _ _ _ _ c.args.self.stands (delete_protected _ _ c.is_shown.ensures (ap not c.if-not-is_shown.false) c.exit_protects.ensures c.if-exit_protects.true)

pub returns : goal.returns
returns c =
    delete_place _ _ _ _ _ c.args.self.stands (delete_done _ _ c.is_shown.ensures (ap not c.if-not-is_shown.false) c.exit_protects.ensures c.if-exit_protects.false)
