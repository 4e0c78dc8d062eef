use Rattle.std.proofs.Common.{sym, ◌∙◌, arith}
use Rattle.slices.proofs.BytesLaws.{pairwise_lengths}
use Rattle.names.specs.Name.{units}
use Rattle.names.proofs.NameLaws.{units_length}
use Rattle.patterns.specs.Common.{sign_alike}
use Rattle.patterns.proofs.same_signs.Goals as goal

pub returns-then-unit_count : goal.returns-then-unit_count
returns-then-unit_count c =
    let a = c.args in
    sym (pairwise_lengths sign_alike (units a.p.now) (units a.q.now) (λ e. c.if-unit_count.true (c.unit_count.ensures ∙ e ∙ sym c.unit_count-2.ensures)))

pub each_pair-requires-clause-as_many : goal.each_pair-requires-clause-as_many
each_pair-requires-clause-as_many c =
    omega (arith, c.if-unit_count.false, c.unit_count.ensures, c.unit_count-2.ensures, units_length c.args.p.now, units_length c.args.q.now)
