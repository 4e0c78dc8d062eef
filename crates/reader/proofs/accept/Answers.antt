use Prim.Native.Nat.{ℕ, ◌+◌, ◌<◌}
use mathlib.Core.Path.{◌≡◌, refl, ap}
use native.Mathlib.Omega.{arith}
use lib.ListN.{length, get_or}
use Rattle.limits.specs.Limits.{max_entries}
use Rattle.slices.specs.Bytes.{Bytes, part}
use Rattle.slices.proofs.PartLaws.{length_part}
use Rattle.policy.specs.Filter.{slot_of, fingerprint_of}
use Rattle.reader.specs.Reader.{filter_at, count, good, seen}
use Rattle.reader.proofs.Judged.{full, repeated, admitted, with_it}
use Rattle.reader.proofs.accept.Goals as goal

pub returns-then-count-ge-MAX_ENTRIES : goal.returns-then-count-ge-MAX_ENTRIES
returns-then-count-ge-MAX_ENTRIES c =
    let E : Bytes = part c.args.from c.args.to c.args.r.now in
    record { answer = full c.args.r.now (E) c.get16-count.ensures.is (omega (arith, c.if-count-ge-MAX_ENTRIES.true)); after = refl }

pub returns-then-repeats : goal.returns-then-repeats
returns-then-repeats c =
    let E : Bytes = part c.args.from c.args.to c.args.r.now in
    let R : Bytes = c.args.r.now in
    let Own : Bytes = E in
    let counted : c.get16-count.result ≡ count (R) = c.get16-count.ensures.is in
    let few : c.get16-count.result < max_entries = omega (arith, c.if-count-ge-MAX_ENTRIES.false) in
    let slot_is : filter_at + c.mark_of-mark.result.slot ≡ filter_at + slot_of (Own) = ap (λ (n : ℕ). filter_at + n) c.mark_of-mark.ensures.0 in
    let slot_seen : get_or (R) (filter_at + c.mark_of-mark.result.slot) 0 ≡ seen (R) (Own) = ap (λ (n : ℕ). get_or (R) n 0) (slot_is) in
    let printed : c.mark_of-mark.result.fingerprint ≡ fingerprint_of (Own) = c.mark_of-mark.ensures.1 in
    let own-start : c.args.from ≡ good (R) = c.requires.0 in
    record { answer = repeated (R) (Own) (counted) (few) (slot_seen) (printed) (own-start) c.repeats.ensures c.if-repeats.true; after = refl }

pub returns : goal.returns
returns c =
    let E : Bytes = part c.args.from c.args.to c.args.r.now in
    let R : Bytes = c.args.r.now in
    let Own : Bytes = E in
    let counted : c.get16-count.result ≡ count (R) = c.get16-count.ensures.is in
    let few : c.get16-count.result < max_entries = omega (arith, c.if-count-ge-MAX_ENTRIES.false) in
    let slot_is : filter_at + c.mark_of-mark.result.slot ≡ filter_at + slot_of (Own) = ap (λ (c : ℕ). filter_at + c) c.mark_of-mark.ensures.0 in
    let slot_seen : get_or (R) (filter_at + c.mark_of-mark.result.slot) 0 ≡ seen (R) (Own) = ap (λ (c : ℕ). get_or (R) c 0) (slot_is) in
    let printed : c.mark_of-mark.result.fingerprint ≡ fingerprint_of (Own) = c.mark_of-mark.ensures.1 in
    let own-start : c.args.from ≡ good (R) = c.requires.0 in
    let ends : c.args.to ≡ c.args.from + length (Own) = let k = length_part c.args.from c.args.to c.args.r.now (omega (arith, c.requires.2)) in
    omega (arith, c.requires.1) in
    record { answer = admitted (R) (Own) (counted) (few) (slot_seen) (printed) (own-start) c.repeats.ensures c.if-repeats.false; after = with_it (R) (Own) (counted) (few) (slot_seen) (printed) (own-start) c.repeats.ensures c.note.ensures (slot_is) c.joined.ensures (ends) refl }
