use Rattle.std.proofs.Common.{rules, ap, ◌∙◌, ◌/◌}
use Rattle.names.specs.Name.{unit_near}
use Rattle.names.proofs.NameLaws.{front_near}
use Rattle.names.proofs.may_match.Goals as goal

pub returns-in-Some-Some : goal.returns-in-Some-Some
returns-in-Some-Some c m =
    c.eight_pairs.ensures unit_near (λ p u b h. search rules)
    ∙ front_near c.args.p.now c.args.v.now (ap (λ n. n / 2) c.requires.0) (search rules) (search rules) m
