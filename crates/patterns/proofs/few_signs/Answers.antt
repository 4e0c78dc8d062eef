use Rattle.std.proofs.Common.{rules, ap, ◌∙◌, not, eqb, refl}
use Rattle.std.proofs.lemmas.Iterator.Consumers.{YieldsList-from_first}
use Rattle.std.proofs.lemmas.Iterator.Search.{all_from_yields_List}
use Rattle.names.specs.Name.{units, number_sign}
use Rattle.names.proofs.NameLaws.{all_each}
use Rattle.patterns.proofs.SignLaws.{sign_each}
use Rattle.patterns.proofs.few_signs.Goals as goal

pub returns : goal.returns
returns c =
    ap not (all_from_yields_List (λ u. not (eqb u number_sign)) c.all.new.self _ _ c.all.ensures.ran (YieldsList-from_first (λ u. u) (λ s. units s.0.now) _ refl) (λ x b q k. search rules)
    ∙ all_each _ _)
    ∙ sign_each c.args.s.now
