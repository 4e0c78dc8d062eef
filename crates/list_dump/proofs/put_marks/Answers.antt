-- `list_dump::put_marks` meets its contract. Assumes nothing.
use Rattle.list_dump.proofs.Texts.{marks_all, marks_number, put_same}
use Rattle.list_dump.proofs.put_marks.Goals as goal

pub returns-then-rank-eq-WHOLE_NAMESPACE_RANK-clause-put : goal.returns-then-rank-eq-WHOLE_NAMESPACE_RANK-clause-put
returns-then-rank-eq-WHOLE_NAMESPACE_RANK-clause-put c =
    put_same _ c.args.line.now.bytes _ _ (marks_all c.args.rank c.if-rank-eq-WHOLE_NAMESPACE_RANK.true) c.push_str.ensures.bytes

pub returns-clause-put : goal.returns-clause-put
returns-clause-put c = put_same _ c.args.line.now.bytes _ _ (marks_number c.args.rank c.if-rank-eq-WHOLE_NAMESPACE_RANK.false) c.put_field.ensures.put
