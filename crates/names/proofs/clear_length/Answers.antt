use Rattle.std.proofs.Common.{rules, refl, ◌∙◌, eqb, not, bit_and}
use Rattle.std.proofs.lemmas.Iterator.{YieldsList-from_slice}
use Rattle.std.proofs.lemmas.Iterator.Consumers.{YieldsList-at, count_from_yields_List}
use Rattle.std.proofs.lemmas.Iterator.Search.{YieldsList-from_take_while}
use Rattle.names.specs.Name.{units, each, plain_unit}
use Rattle.names.proofs.NameLaws.{blocks_passed, clear_block}
use Rattle.names.specs.declared.TheConstants.{OTHER_BITS}
use Rattle.names.proofs.clear_length.Goals as goal

pub returns-clause-behind : goal.returns-clause-behind
returns-clause-behind c =
    let blocks = YieldsList-at c.take_while-clear.ensures.source (YieldsList-from_slice _ (c.iter.ensures.rest ∙ c.as_chunks.ensures.front)) in
    blocks_passed plain_unit _ (λ b. clear_block OTHER_BITS refl (units b)) _ c.args.s.now
    (count_from_yields_List _ _ c.count.ensures.ran
    (YieldsList-from_take_while _ (λ b. each (λ u. not (eqb (bit_and u OTHER_BITS) 0)) (units b)) blocks c.take_while-clear.ensures.closure c.take_while-clear.ensures.done (λ x b q k. search rules)))
