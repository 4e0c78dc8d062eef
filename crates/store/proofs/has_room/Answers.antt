use Rattle.store.proofs.Edits.{end_within, room_at, room_none}
use Rattle.std.specs.Prelude.{Some}
use Rattle.store.proofs.PlaceLaws.{place_within}
use Rattle.store.specs.Store.{place_of}
use Rattle.store.specs.Parts.{variable}
use Rattle.store.proofs.EncodeLaws.{length_encode}
use Rattle.store.specs.Record.{record_size, encode_record}
use native.Mathlib.Omega.{arith}
use mathlib.Core.Path.{◌≡◌, sym, ap, ◌∙◌}
use Rattle.store.proofs.has_room.Goals as goal

pub overflow_sub-result : goal.overflow_sub-result
overflow_sub-result c =
    let at-is : place_of c.args.nonvolatile c.args.s.now (variable c.args.namespace.now c.args.name.now) ≡ Some c.in-Some.r = sym c.requires.1 ∙ c.in-Some.is in
    omega (arith, place_within _ _ _ _ (at-is), c.requires.0)

pub overflow_sub-result-in-Some : goal.overflow_sub-result-in-Some
overflow_sub-result-in-Some c = omega (arith, end_within c.args.nonvolatile c.args.s.now c.requires.0)

pub overflow_sub-result-in-None : goal.overflow_sub-result-in-None
overflow_sub-result-in-None c =
    end_within c.args.nonvolatile c.args.s.now c.requires.0

pub returns-in-Some : goal.returns-in-Some
returns-in-Some c =
    let at-is : place_of c.args.nonvolatile c.args.s.now (variable c.args.namespace.now c.args.name.now) ≡ Some c.in-Some.r = sym c.requires.1 ∙ c.in-Some.is in
    λ a p e.
    room_at _ _ _ _ (at-is) (encode_record a (variable c.args.namespace.now c.args.name.now) p) c.requires.0
    (c.record_size-size.ensures ∙ ap (record_size _) (sym e) ∙ sym (length_encode a (variable c.args.namespace.now c.args.name.now) p c.requires.2))

pub returns-in-None : goal.returns-in-None
returns-in-None c =
    λ a p e.
    room_none _ _ _ (sym c.requires.1 ∙ c.in-None.is) (encode_record a (variable c.args.namespace.now c.args.name.now) p) c.requires.0
    (c.record_size-size.ensures ∙ ap (record_size _) (sym e) ∙ sym (length_encode a (variable c.args.namespace.now c.args.name.now) p c.requires.2))
