use Rattle.limits.specs.Limits.{namespace_bytes}
use Rattle.slices.specs.Test.{◌and◌}
use Rattle.slices.proofs.TestLaws.{and_no}
use Rattle.names.specs.Name.{Variable, variable, named, is_name}
use Rattle.engine.proofs.Readings.{reading_unsound, reading_unnamed, reading_absent, reading_found, reads}
use borrow.Author.Tests.{eq-eqb}
use lib.ListN.{length}
use mathlib.Core.Bool.{true, false}
use mathlib.Core.Path.{◌≡◌, refl, sym, ap, ◌∙◌}
use borrow.Author.Rules.{rules}
use Rattle.engine.proofs.read.Goals as goal

pub returns-in_default : goal.returns-in_default
returns-in_default c =
    let both = reads _ _ _ _ refl refl (c.refused_reading.ensures ∙ reading_unsound _ _ _ _ c.in_default.ensures) in record { is = both.0; answers = both.1 }

pub returns-then-not-is_name : goal.returns-then-not-is_name
unfolding named
returns-then-not-is_name c =
    let n : is_name c.args.name.now ≡ false = sym c.is_name.ensures ∙ c.if-not-is_name.true in
    let told = c.in-Some.ensures in
    let both = reads _ _ _ _ (ap (λ s. s.now) told.0) (ap (λ s. s.now) told.1)
    (c.refused_reading-then-not-is_name.ensures ∙ reading_unnamed _ _ _ _ c.in-Some.stores.checked (simp (n, and_no))) in record { is = both.0; answers = both.1 }

pub returns-then-not-is_shown : goal.returns-then-not-is_shown
unfolding named ◌and◌
returns-then-not-is_shown c =
    let Asked : Variable = variable c.args.namespace c.args.name.now in
    let good : named (Asked) ≡ true = let l : length c.args.namespace ≡ namespace_bytes = search rules in
    let n : is_name c.args.name.now ≡ true = sym c.is_name.ensures ∙ c.if-not-is_name.false in
    simp (eq-eqb _ _ l, n) in
    let told = c.in-Some.ensures in
    let both = reads _ _ _ _ (ap (λ s. s.now) told.0) (ap (λ s. s.now) told.1)
    (c.refused_reading-then-not-is_shown.ensures ∙ reading_absent _ _ _ _ c.in-Some.stores.checked (good) _ c.locate-place.ensures.is
    c.is_shown.ensures c.if-not-is_shown.true) in record { is = both.0; answers = both.1 }

pub returns : goal.returns
unfolding named ◌and◌
returns c =
    let Asked : Variable = variable c.args.namespace c.args.name.now in
    let good : named (Asked) ≡ true = let l : length c.args.namespace ≡ namespace_bytes = search rules in
    let n : is_name c.args.name.now ≡ true = sym c.is_name.ensures ∙ c.if-not-is_name.false in
    simp (eq-eqb _ _ l, n) in
    let told = c.in-Some.ensures in
    let both = reads _ _ _ _ (ap (λ s. s.now) told.0) (ap (λ s. s.now) told.1)
    (c.reading_at.ensures ∙ reading_found _ _ _ _ c.in-Some.stores.checked (good) _ c.locate-place.ensures.is
    c.is_shown.ensures c.if-not-is_shown.false) in record { is = both.0; answers = both.1 }
