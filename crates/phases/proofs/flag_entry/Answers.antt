use mathlib.Core.Path.{◌≡◌, refl}
use lib.ListN.{length}
use borrow.Author.Rules.{rules}
use Rattle.phases.proofs.Written.{flag_writes}
use Rattle.phases.proofs.flag_entry.Goals as goal

pub returns : goal.returns
returns c =
    let l : length c.args.namespace ≡ 16 = search rules in
    flag_writes _ c.args.namespace refl l c.put_header.ensures
