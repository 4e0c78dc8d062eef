use Rattle.store.proofs.Edits.{payload_is}
use Rattle.store.specs.Store.{records_of, has_room}
use Rattle.store.specs.Parts.{variable, payload_in, Storable}
use Rattle.store.specs.Record.{is_of, encode_record}
use Rattle.names.specs.Name.{Variable}
use Rattle.slices.proofs.OverwriteLaws.{joined}
use Rattle.slices.specs.Chunks.{find}
use Rattle.slices.specs.Bytes.{Bytes}
use lib.ListN.{length, take, replicate}
use Prim.Native.Nat.{◌+◌}
use mathlib.Core.List.{◌++◌}
use mathlib.Core.Bool.{true}
use mathlib.Core.Path.{◌≡◌, sym, ap, ◌∙◌, subst}
use Rattle.store.proofs.append.Goals as goal

pub write-requires : goal.write-requires
write-requires c =
    let Var : Variable = variable c.args.namespace.now c.args.name.now in
    let both_are : take (length c.payload_found-old.result.now + length c.args.payload.now) c.copy_in-2.new.s
    ≡ payload_in (find (is_of (Var)) (records_of c.args.nonvolatile c.args.s.now)) ++ c.args.payload.now = joined (replicate 1024 0) c.payload_found-old.result.now c.args.payload.now c.copy_in.ensures c.copy_in-2.ensures
    ∙ ap (λ (l : Bytes). l ++ c.args.payload.now) c.payload_found-old.ensures in
    let a = c.args in
    let e = sym (both_are) in (
      c.requires.0,
      c.requires.1,
      c.requires.2,
      subst (λ (l : Bytes). Storable a.nonvolatile a.attributes (Var) l) e c.requires.3,
      subst (λ (l : Bytes). has_room a.nonvolatile a.s.now (Var) (encode_record a.attributes (Var) l) ≡ true) e c.requires.4,
    )

pub returns : goal.returns
returns c =
    let Var : Variable = variable c.args.namespace.now c.args.name.now in
    let both_are : take (length c.payload_found-old.result.now + length c.args.payload.now) c.copy_in-2.new.s
    ≡ payload_in (find (is_of (Var)) (records_of c.args.nonvolatile c.args.s.now)) ++ c.args.payload.now = joined (replicate 1024 0) c.payload_found-old.result.now c.args.payload.now c.copy_in.ensures c.copy_in-2.ensures
    ∙ ap (λ (l : Bytes). l ++ c.args.payload.now) c.payload_found-old.ensures in
    let a = c.args in
    payload_is a.nonvolatile a.s.now a.attributes (Var) (both_are) c.write.ensures
