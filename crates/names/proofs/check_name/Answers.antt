use mathlib.Core.Path.{sym, ap, ◌∙◌}
use mathlib.Core.Bool.{Bool, cond}
use Rattle.slices.proofs.TestLaws.{first_fails, first_holds}
use Rattle.names.specs.Name.{units, each, no_zero, plain_unit}
use Rattle.names.proofs.NameLaws.{name_tests}
use mathlib.Core.Bool.{not}
use Rattle.std.proofs.Common.{rules, eqb}
use Rattle.names.proofs.check_name.Goals as goal

pub returns-then-not-name_length : goal.returns-then-not-name_length
returns-then-not-name_length c =
    let a = c.args in
    first_fails _ (name_tests a.s.now a.signs) c.name_length.ensures (ap not c.if-not-name_length.true)

pub returns-then-signs : goal.returns-then-signs
returns-then-signs c =
    let a = c.args in
    let s = a.s.now in
    first_holds _ (name_tests s a.signs) c.name_length.ensures (ap not c.if-not-name_length.false)
    (c.each_unit.ensures (λ u. not (eqb u 0)) (λ u b h. search rules) ∙ sym (ap (λ (b : Bool). cond b (no_zero (units s)) (each plain_unit (units s))) c.if-signs.true))

pub returns : goal.returns
returns c =
    let a = c.args in
    let s = a.s.now in
    first_holds _ (name_tests s a.signs) c.name_length.ensures (ap not c.if-not-name_length.false)
    (c.plain_units.ensures ∙ sym (ap (λ (b : Bool). cond b (no_zero (units s)) (each plain_unit (units s))) c.if-signs.false))
