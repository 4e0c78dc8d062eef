use native.Mathlib.Omega.{arith}
use Rattle.entry.proofs.EntryLaws.{sized}
use Rattle.policy.proofs.Marked.{key_is}
use Rattle.policy.proofs.key.Goals as goal

pub get32-requires : goal.get32-requires
get32-requires c =
    omega (arith, (sized c.args.e.bytes.now c.args.e.formed).least)

pub returns : goal.returns
returns c = key_is c.args.e.bytes.now c.get32.ensures.is c.name.ensures c.hash-h.ensures
