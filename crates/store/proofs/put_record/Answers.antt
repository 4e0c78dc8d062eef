use Rattle.store.proofs.Resize.{copied, copied_first, filled, written_whole}
use Rattle.store.proofs.EncodeLaws.{length_encode}
use Rattle.store.specs.Parts.{variable}
use Rattle.store.specs.Record.{record_size, record_mark, encode_record}
use Rattle.slices.specs.Bytes.{Bytes, le32_bytes, overwrite}
use Rattle.slices.proofs.OverwriteLaws.{length_overwrite}
use Rattle.slices.proofs.Writes.{part_written}
use Rattle.names.specs.Name.{Variable}
use native.Mathlib.Omega.{arith}
use mathlib.Core.List.{[], ◌∷◌, ◌++◌}
use mathlib.Core.Path.{◌≡◌, refl, sym, ap, ◌∙◌}
use lib.ListN.{length, take, drop, length-append, length-take, length-drop}
use Prim.Native.Nat.{ℕ, ◌+◌, ◌-◌}
use Rattle.store.proofs.put_record.Goals as goal

pub returns : goal.returns
unfolding encode_record le32_bytes
returns c =
    let a = c.args in
    let v : Variable = variable a.namespace.now a.name.now in
    let z : ℕ = c.record_size.result in
    let n : ℕ = length a.name.now + 2 in
    let d : ℕ = length a.payload.now in
    let room : Bytes = take (a.at + z - a.at) (drop a.at a.s.now) in
    let long : length room ≡ z = rw (length-take, length-drop) (omega (arith, c.record_size.ensures, c.requires.3)) in
    let first : Bytes = record_mark ++ le32_bytes a.attributes ++ le32_bytes n ++ le32_bytes d in
    let e₁ : c.copy_from_slice.new.self ++ drop 16 room ≡ overwrite room 0 first = copied_first room first 16 refl (c.copy_from_slice.ensures.after ∙ c.header.ensures) in
    let e₂ = copied room first a.namespace.now 16 32 e₁ refl (omega (arith, c.requires.0)) c.copy_from_slice-2.ensures.after in
    let e₃ = copied room (first ++ a.namespace.now) a.name.now 32 (32 + n - 2) e₂ (simp length-append (omega (arith, c.requires.0))) (omega arith) c.copy_from_slice-3.ensures.after in
    let e₄ = filled room (first ++ a.namespace.now ++ a.name.now) (32 + n - 2) (32 + n) 2 0 e₃ (simp length-append (omega (arith, c.requires.0))) (omega arith) (omega (arith, long, c.record_size.ensures)) (c.fill.ensures.after (λ y e. e)) in
    let e₅ = copied room (first ++ a.namespace.now ++ a.name.now ++ (0 ∷ 0 ∷ [])) a.payload.now (32 + n) (32 + n + d) e₄ (simp length-append (omega (arith, c.requires.0))) refl c.copy_from_slice-4.ensures.after in
    let most : Bytes = first ++ a.namespace.now ++ a.name.now ++ (0 ∷ 0 ∷ []) ++ a.payload.now in
    let rest : ℕ = record_size n d - (34 + length a.name.now + d) in
    let before : length most ≡ 32 + n + d = simp length-append (omega (arith, c.requires.0)) in
    let left = ap length e₅ ∙ length_overwrite room 0 most (omega (arith, before, long, c.record_size.ensures)) ∙ long ∙ c.record_size.ensures in
    let e₆ = filled room most (32 + n + d) _ rest 255 e₅ (sym before) (omega (arith, left)) (omega (arith, long, c.record_size.ensures)) (c.fill-2.ensures.after (λ y e. e)) in
    let size : length (encode_record a.attributes v a.payload.now) ≡ z = length_encode a.attributes v a.payload.now c.requires.0 ∙ sym c.record_size.ensures in
    part_written a.s.now a.at z (encode_record a.attributes v a.payload.now) (e₆ ∙ written_whole room _ (size ∙ sym long)) size
