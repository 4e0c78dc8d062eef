-- `list_dump::put_number` meets its contract. Assumes nothing.
use Rattle.std.proofs.Common.{rules}
use Rattle.list_dump.proofs.Texts.{put_decimal}
use Rattle.list_dump.proofs.put_number.Goals as goal

pub returns-clause-put : goal.returns-clause-put
returns-clause-put c = put_decimal _ c.args.line.now.bytes _ c.args.value (search rules) c.format.ensures.text c.push_str.ensures.bytes
