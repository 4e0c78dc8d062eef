use Rattle.std.proofs.Common.{rules, ap, ap₂, ◌∙◌, ◌+◌, ◌/◌, length, ◌≡◌}
use native.Mathlib.Omega.{arith}
use Rattle.std.proofs.lemmas.Iterator.{YieldsList-from_slice, YieldsList-from_map}
use Rattle.std.proofs.lemmas.Iterator.Consumers.{YieldsList-at, YieldsList-from_filter, sum_by_from_yields_List, fits_by_from_yields_list}
use Rattle.names.specs.Name.{units, wildcards}
use Rattle.names.proofs.NameLaws.{blocks_wildcards, blocks_within, has_signs, signs_of_blocks}
use Rattle.names.proofs.wildcards.Goals as goal

pub sum-in_blocks-requires-clause-fits : goal.sum-in_blocks-requires-clause-fits
sum-in_blocks-requires-clause-fits c =
    let s = c.args.s.now in
    fits_by_from_yields_list (λ b. wildcards (units b)) _ _ _
    (YieldsList-from_map _ (λ b. wildcards (units b)) (YieldsList-at c.map.ensures.source
    (YieldsList-from_filter _ has_signs (YieldsList-at c.filter.ensures.source (YieldsList-from_slice _ (c.iter.ensures.rest ∙ c.as_chunks.ensures.front))) c.filter.ensures.closure (λ x b q k. search rules)))
    c.map.ensures.closure (λ x r q k. search rules))
    (omega (arith, blocks_within (length s / 16) s))

-- what the blocks and what is behind them have
counted : (c : goal.After-signs) → c.sum-in_blocks.result ≡ signs_of_blocks (length c.args.s.now / 16) c.args.s.now
counted c =
    sum_by_from_yields_List (λ b. wildcards (units b)) _ _ _ c.sum-in_blocks.ensures.ran
    (YieldsList-from_map _ (λ b. wildcards (units b)) (YieldsList-at c.map.ensures.source
    (YieldsList-from_filter _ has_signs (YieldsList-at c.filter.ensures.source (YieldsList-from_slice _ (c.iter.ensures.rest ∙ c.as_chunks.ensures.front))) c.filter.ensures.closure (λ x b q k. search rules)))
    c.map.ensures.closure (λ x r q k. search rules))

pub overflow_add-result : goal.overflow_add-result
overflow_add-result c =
    let s = c.args.s.now in
    omega (arith, counted c, c.signs.ensures ∙ ap (λ l. wildcards (units l)) c.as_chunks.ensures.back, blocks_within (length s / 16) s)

pub returns : goal.returns
returns c =
    let s = c.args.s.now in
    ap₂ (λ a b. a + b) (counted c) (c.signs.ensures ∙ ap (λ l. wildcards (units l)) c.as_chunks.ensures.back) ∙ blocks_wildcards (length s / 16) s
