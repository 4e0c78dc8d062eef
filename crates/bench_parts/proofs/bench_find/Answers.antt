use mathlib.Core.Path.{◌≡◌, sym, ◌∙◌}
use mathlib.Core.Bool.{true}
use Rattle.stores.specs.Pair.{sound, ends_of}
use Rattle.stores.proofs.PairLaws.{check_sound, check_unsound}
use Rattle.bench_parts.proofs.Tested.{not_ok, not_asked, found_is}
use Rattle.bench_parts.proofs.bench_find.Goals as goal

pub returns-in_default : goal.returns-in_default
returns-in_default c = c.answer.ensures ∙ not_ok _ _ _ (check_unsound _ _ (sym c.check.ensures ∙ c.in_default.is))

pub returns-then-name-eq0 : goal.returns-then-name-eq0
returns-then-name-eq0 c = c.answer-then-name-eq0.ensures ∙ not_asked _ _ _ c.if-name-eq0.true

pub locate-requires : goal.locate-requires
locate-requires c =
    let known : (sound c.args.nv.now c.args.vol.now ≡ true)
    × (c.in-Some.ends ≡ ends_of c.args.nv.now c.args.vol.now) = check_sound _ _ _ (sym c.check.ensures ∙ c.in-Some.is) in
    (known).1

pub returns : goal.returns
returns c =
    let known : (sound c.args.nv.now c.args.vol.now ≡ true)
    × (c.in-Some.ends ≡ ends_of c.args.nv.now c.args.vol.now) = check_sound _ _ _ (sym c.check.ensures ∙ c.in-Some.is) in
    found_is _ _ _ (known).0 c.if-name-eq0.false c.locate.ensures c.answer_place.ensures
