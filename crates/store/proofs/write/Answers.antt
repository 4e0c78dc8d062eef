use Rattle.store.proofs.Edits.{end_within, end_free, fits_at_place, fits_behind, rewritten, created}
use Rattle.std.specs.Prelude.{Some, None}
use Rattle.store.proofs.PlaceLaws.{place_within}
use Rattle.store.specs.Store.{place_of}
use Rattle.store.specs.Parts.{variable}
use Rattle.store.proofs.EncodeLaws.{length_encode}
use Rattle.store.specs.Record.{record_size, encode_record}
use Rattle.names.proofs.NameLaws.{is_name-length, named_namespace, named_name}
use Rattle.names.specs.Name.{Variable}
use Rattle.slices.specs.Bytes.{Bytes}
use Rattle.limits.specs.Limits.{max_name_bytes}
use lib.ListN.{length}
use native.Mathlib.Omega.{arith}
use Prim.Native.Nat.{◌≤◌, ◌+◌}
use mathlib.Core.Path.{◌≡◌, sym, ◌∙◌}
use Rattle.store.proofs.write.Goals as goal

pub record_size-requires : goal.record_size-requires
record_size-requires c =
    let Var : Variable = variable c.args.namespace.now c.args.name.now in
    let short : length c.args.name.now ≤ max_name_bytes = (is_name-length (Var).name (named_name (Var) c.requires.3.called)).1 in
    (omega (arith, short), omega (arith, c.requires.3.most))

pub resize_record-requires : goal.resize_record-requires
resize_record-requires c =
    let Var : Variable = variable c.args.namespace.now c.args.name.now in
    let Rec : Bytes = encode_record c.args.attributes (Var) c.args.payload.now in
    let size_is : record_size (length c.args.name.now + 2) (length c.args.payload.now) ≡ length (Rec) = sym (length_encode c.args.attributes (Var) c.args.payload.now (named_namespace (Var) c.requires.3.called)) in
    let at-is : place_of c.args.nonvolatile c.args.s.now (Var) ≡ Some c.in-Some.r = sym c.requires.2 ∙ c.in-Some.is in
    let e = c.requires.1 in (
      omega (arith, place_within _ _ _ _ (at-is)),
      end_within c.args.nonvolatile c.args.s.now e,
      fits_at_place _ _ _ _ (at-is) (Rec) e (c.record_size.ensures ∙ size_is) c.requires.4,
      end_free c.args.nonvolatile c.args.s.now e c.requires.0,
    )

pub put_record-requires : goal.put_record-requires
put_record-requires c =
    let Var : Variable = variable c.args.namespace.now c.args.name.now in
    let Rec : Bytes = encode_record c.args.attributes (Var) c.args.payload.now in
    let short : length c.args.name.now ≤ max_name_bytes = (is_name-length (Var).name (named_name (Var) c.requires.3.called)).1 in
    let size_is : record_size (length c.args.name.now + 2) (length c.args.payload.now) ≡ length (Rec) = sym (length_encode c.args.attributes (Var) c.args.payload.now (named_namespace (Var) c.requires.3.called)) in
    let at-is : place_of c.args.nonvolatile c.args.s.now (Var) ≡ Some c.in-Some.r = sym c.requires.2 ∙ c.in-Some.is in
    let z = fits_at_place _ _ _ _ (at-is) (Rec) c.requires.1 (size_is) c.requires.4 in
    (named_namespace (Var) c.requires.3.called, short, c.requires.3.most, omega (arith, c.resize_record.auto.s, z, place_within _ _ _ _ (at-is), c.requires.1))

pub put_record-requires-in-None : goal.put_record-requires-in-None
put_record-requires-in-None c =
    let Var : Variable = variable c.args.namespace.now c.args.name.now in
    let Rec : Bytes = encode_record c.args.attributes (Var) c.args.payload.now in
    let short : length c.args.name.now ≤ max_name_bytes = (is_name-length (Var).name (named_name (Var) c.requires.3.called)).1 in
    let size_is : record_size (length c.args.name.now + 2) (length c.args.payload.now) ≡ length (Rec) = sym (length_encode c.args.attributes (Var) c.args.payload.now (named_namespace (Var) c.requires.3.called)) in
    let none_is : place_of c.args.nonvolatile c.args.s.now (Var) ≡ None = sym c.requires.2 ∙ c.in-None.is in
    (named_namespace (Var) c.requires.3.called, short, c.requires.3.most, fits_behind _ _ _ (none_is) (Rec) c.requires.1 (size_is) c.requires.4)

pub returns-in-Some : goal.returns-in-Some
returns-in-Some c =
    let Var : Variable = variable c.args.namespace.now c.args.name.now in
    let Rec : Bytes = encode_record c.args.attributes (Var) c.args.payload.now in
    let size_is : record_size (length c.args.name.now + 2) (length c.args.payload.now) ≡ length (Rec) = sym (length_encode c.args.attributes (Var) c.args.payload.now (named_namespace (Var) c.requires.3.called)) in
    let at-is : place_of c.args.nonvolatile c.args.s.now (Var) ≡ Some c.in-Some.r = sym c.requires.2 ∙ c.in-Some.is in
    rewritten _ _ _ _ (at-is) (Rec) c.requires.1 (c.record_size.ensures ∙ size_is) c.requires.4 c.resize_record.ensures c.put_record.ensures

pub returns-in-None : goal.returns-in-None
returns-in-None c =
    let Var : Variable = variable c.args.namespace.now c.args.name.now in
    let Rec : Bytes = encode_record c.args.attributes (Var) c.args.payload.now in
    let none_is : place_of c.args.nonvolatile c.args.s.now (Var) ≡ None = sym c.requires.2 ∙ c.in-None.is in
    created _ _ _ (none_is) (Rec) c.requires.0 c.requires.1 c.put_record-in-None.ensures
