use native.Mathlib.Omega.{arith}
use mathlib.Core.Path.{sym, ◌∙◌}
use Rattle.limits.specs.Limits.{max_name_bytes}
use Prim.Native.Nat.{◌≤◌}
use lib.ListN.{length}
use Rattle.entry.proofs.EntryLaws.{sized}
use Rattle.quarrels.proofs.Tests.{no_group, a_group, name_most}
use Rattle.quarrels.proofs.group_of.Goals as goal

pub returns-then-not-has_sign : goal.returns-then-not-has_sign
returns-then-not-has_sign c =
    no_group c.args.e.bytes.now c.name-name.ensures (sym c.has_sign.ensures ∙ c.if-not-has_sign.true)

pub get32-requires : goal.get32-requires
get32-requires c = omega (arith, (sized c.args.e.bytes.now c.args.e.formed).least)

pub overflow_mul-key : goal.overflow_mul-key
overflow_mul-key c =
    let most : length c.name-name.result.now ≤ max_name_bytes = name_most c.args.e.bytes.now c.name-name.ensures c.args.e.formed in
    omega (arith, most, c.get32.ensures.bound)

pub overflow_add-key : goal.overflow_add-key
overflow_add-key c =
    let most : length c.name-name.result.now ≤ max_name_bytes = name_most c.args.e.bytes.now c.name-name.ensures c.args.e.formed in
    omega (arith, most, c.get32.ensures.bound)

pub returns : goal.returns
returns c =
    (a_group c.args.e.bytes.now c.name-name.ensures (sym c.has_sign.ensures ∙ c.if-not-has_sign.false) c.get32.ensures.is, omega arith)
