use Rattle.store.proofs.Edits.{end_within, end_free, removed}
use Rattle.std.specs.Prelude.{Some}
use Rattle.store.proofs.PlaceLaws.{place_within, place_absent}
use Rattle.store.proofs.StoreLaws.{without_absent}
use Rattle.store.specs.Store.{place_of}
use Rattle.store.specs.Parts.{variable}
use native.Mathlib.Omega.{arith}
use mathlib.Core.Path.{◌≡◌, sym, ◌∙◌}
use Rattle.store.proofs.remove.Goals as goal

pub resize_record-requires : goal.resize_record-requires
resize_record-requires c =
    let at-is : place_of c.args.nonvolatile c.args.s.now (variable c.args.namespace.now c.args.name.now) ≡ Some c.in-Some.r = sym c.requires.2 ∙ c.in-Some.is in
    let e = c.requires.1 in
    let w = end_within c.args.nonvolatile c.args.s.now e in
    (omega (arith, place_within _ _ _ _ (at-is)), w, omega arith, end_free c.args.nonvolatile c.args.s.now e c.requires.0)

pub returns-in-Some : goal.returns-in-Some
returns-in-Some c =
    let at-is : place_of c.args.nonvolatile c.args.s.now (variable c.args.namespace.now c.args.name.now) ≡ Some c.in-Some.r = sym c.requires.2 ∙ c.in-Some.is in
    removed _ _ _ _ (at-is) c.requires.1 c.resize_record.ensures

pub returns-in_default : goal.returns-in_default
returns-in_default c =
    sym (without_absent c.args.nonvolatile c.args.s.now _ c.requires.0 (place_absent _ _ 0 (sym c.requires.2 ∙ c.in_default.is)))
