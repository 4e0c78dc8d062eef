-- `list_dump::entry_text` meets its contract. Assumes nothing.
use Rattle.list_dump.proofs.Texts.{entry_line_lem}
use Rattle.list_dump.proofs.entry_text.Goals as goal

pub returns : goal.returns
returns c =
    entry_line_lem _ _ _ _ _ _ c.args.index c.args.listing c.new-line.ensures c.put_number.ensures.put c.put_field.ensures.put c.put_field-2.ensures.put c.put_marks.ensures.put c.push_str.ensures.bytes
