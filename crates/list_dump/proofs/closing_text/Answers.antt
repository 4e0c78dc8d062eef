-- `list_dump::closing_text` meets its contract. Assumes nothing.
use Rattle.std.proofs.lemmas.Bool.{not-true, not-false}
use Rattle.list_dump.proofs.Texts.{bad_line, good_line}
use Rattle.list_dump.proofs.closing_text.Goals as goal

pub returns-then-not-v : goal.returns-then-not-v
returns-then-not-v c =
    bad_line _ _ _ c.args.v (not-true _ c.if-not-v.true) c.new-line.ensures c.put_field.ensures.put c.push_str.ensures.bytes

pub returns : goal.returns
returns c =
    good_line _ _ _ _ c.args.v (not-false _ c.if-not-v.false) c.new-line.ensures c.put_field-2.ensures.put c.put_field-3.ensures.put c.push_str-2.ensures.bytes
