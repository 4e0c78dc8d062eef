use Rattle.std.proofs.Common.{rules, ap, ◌∙◌, ◌/◌}
use Rattle.std.proofs.lemmas.Iterator.{YieldsList-from_slice, YieldsList-from_zip}
use Rattle.std.proofs.lemmas.Iterator.Consumers.{YieldsList-at, count_from_yields_List}
use Rattle.std.proofs.lemmas.Iterator.Search.{YieldsList-from_take_while}
use Rattle.slices.specs.Bytes.{pairwise}
use Rattle.names.specs.Name.{units, unit_matches}
use Rattle.names.proofs.NameLaws.{pair_blocks_passed, plain_pairs, plain_pair}
use Rattle.names.proofs.plain_length.Goals as goal

pub returns-clause-behind : goal.returns-clause-behind
returns-clause-behind c =
    let blocks = YieldsList-at c.take_while-plain.ensures.source (YieldsList-from_zip (YieldsList-at c.zip.ensures.first (YieldsList-from_slice _ (c.iter.ensures.rest ∙ c.as_chunks.ensures.front))) (YieldsList-from_slice _ (c.zip.ensures.second.0 ∙ c.as_chunks-2.ensures.front))) in
    pair_blocks_passed unit_matches _ (λ b. plain_pairs (units b.0) (units b.1)) _ _ c.args.p.now c.args.v.now (ap (λ n. n / 2) c.requires) (ap (λ n. n / 16) c.requires)
    (count_from_yields_List _ _ c.count.ensures.ran
    (YieldsList-from_take_while _ (λ b. pairwise plain_pair (units b.0) (units b.1)) blocks c.take_while-plain.ensures.closure c.take_while-plain.ensures.done (λ x b q k. search rules)))
