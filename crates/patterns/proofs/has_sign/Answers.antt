use Rattle.std.proofs.Common.{rules, ap, sym, ◌∙◌, ◌≡◌, ◌*◌, ◌/◌, ◌%◌, not, eqb, true, length, take, arith, length-take-le}
use Rattle.std.proofs.lemmas.Iterator.{YieldsList-from_slice}
use Rattle.std.proofs.lemmas.Iterator.Search.{all_from_yields_List}
use Rattle.slices.specs.Bytes.{Bytes}
use Rattle.names.specs.Name.{units, each, number_sign}
use Rattle.names.proofs.NameLaws.{blocks_yes, blocks_no, units_length}
use Rattle.patterns.proofs.SignLaws.{sign_each, sign_whole}
use Rattle.patterns.proofs.has_sign.Goals as goal

pub overflow_mul-whole : goal.overflow_mul-whole
overflow_mul-whole c = omega (arith, c.unit_count.ensures, units_length c.args.s.now)

pub slice_bounds-whole-end : goal.slice_bounds-whole-end
slice_bounds-whole-end c = sym (length-take-le _ c.args.s.now (omega (arith, c.unit_count.ensures, units_length c.args.s.now)))

pub returns-in_default : goal.returns-in_default
returns-in_default c = c.few_signs.ensures ∙ sign_whole c.unit_count.result c.args.s.now c.unit_count.ensures

pub returns-then-not-all : goal.returns-then-not-all
returns-then-not-all c =
    let s : Bytes = take (2 * c.unit_count.result) c.args.s.now in
    let blocks = all_from_yields_List (λ b. each (λ u. not (eqb u number_sign)) (units b)) _ _ _ c.all.ensures.ran (YieldsList-from_slice _ (c.iter.ensures.rest ∙ c.as_chunks.ensures.front)) (λ x b q k. search rules) in
    sym (ap not c.if-not-all.true) ∙ ap not (blocks_no 16 _ _ s blocks c.if-not-all.true) ∙ sign_each s ∙ sign_whole c.unit_count.result c.args.s.now c.unit_count.ensures

pub last_signs-requires : goal.last_signs-requires
last_signs-requires c =
    let s : Bytes = take (2 * c.unit_count.result) c.args.s.now in
    let l : length s ≡ 2 * c.unit_count.result = length-take-le _ c.args.s.now (omega (arith, c.unit_count.ensures, units_length c.args.s.now)) in
    let blocks = all_from_yields_List (λ b. each (λ u. not (eqb u number_sign)) (units b)) _ _ _ c.all.ensures.ran (YieldsList-from_slice _ (c.iter.ensures.rest ∙ c.as_chunks.ensures.front)) (λ x b q k. search rules) in (
      length s / 32 * 32,
      c.as_chunks.ensures.back,
      omega arith,
      omega (arith, l),
      omega arith,
      sym (sign_each s) ∙ ap not (blocks_yes 16 _ _ s blocks c.if-not-all.false) ∙ sign_each _,
      c.in-Some.ensures.cases.0,
      c.in-Some.ensures.cases.1.same,
    )

pub returns : goal.returns
returns c = c.last_signs.ensures ∙ sign_whole c.unit_count.result c.args.s.now c.unit_count.ensures
