use Rattle.std.proofs.Common.{rules, ap, ◌∙◌, not, eqb}
use Rattle.names.specs.Name.{number_sign}
use Rattle.patterns.proofs.SignLaws.{sign_each}
use Rattle.patterns.proofs.eight_signs.Goals as goal

pub returns : goal.returns
returns c = ap not (c.block_passes.ensures (λ u. not (eqb u number_sign)) (λ u b h. search rules)) ∙ sign_each c.args.block.now
