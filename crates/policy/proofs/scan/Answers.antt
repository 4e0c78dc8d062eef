use mathlib.Core.Path.{◌≡◌, refl, sym, ap, ◌∙◌}
use native.Mathlib.Omega.{arith}
use native.Mathlib.Nat.{le_refl}
use lib.ListN.{length, take}
use Rattle.std.specs.Bool.{then_some}
use Rattle.slices.specs.Bytes.{Bytes, all_are}
use Rattle.slices.specs.Chunks.{contains}
use Rattle.slices.proofs.PartLaws.{part_rest}
use Rattle.entry.specs.Entry.{same_target}
use Rattle.policy.specs.Policy.{check_within, entries_of}
use Rattle.policy.specs.Filter.{marks_with}
use Rattle.policy.proofs.Walk.{fits, at_next}
use Rattle.policy.proofs.Marked.{Next, next, none_next, checked_start, too_many_lem, met_before, checked_more, checked_end, noted_none, noted_more, noted_end, invalid_promise}
use Rattle.policy.proofs.scan.Goals as goal

pub loop-e-init : goal.loop-e-init
loop-e-init c = (checked_start c.args.policy.now c.args.marks.now c.requires.1, noted_none c.args.ends.now c.args.policy.now c.requires.2)

pub returns-then-count-eq-MAX_ENTRIES : goal.returns-then-count-eq-MAX_ENTRIES
returns-then-count-eq-MAX_ENTRIES c =
    let P : Bytes = c.args.policy.now in
    let l = c.loop-e in
    let n : Next P l.used c.in-Some.e.bytes.now = next P l.used c.in-Some.e.bytes.now c.in-Some.e.formed c.in-Some.ensures in
    let a = too_many_lem P l.marks l.count l.used _ l.invariant.0 n.here n.some c.if-count-eq-MAX_ENTRIES.true in
    record { answer = a; noted = invalid_promise _ P a }

pub is_repeated-requires : goal.is_repeated-requires
is_repeated-requires c = (c.loop-e.invariant.0.walk.met, c.loop-e.invariant.0.filter)

pub returns-then-is_repeated : goal.returns-then-is_repeated
returns-then-is_repeated c =
    let P : Bytes = c.args.policy.now in
    let l = c.loop-e in
    let n : Next P l.used c.in-Some.e.bytes.now = next P l.used c.in-Some.e.bytes.now c.in-Some.e.formed c.in-Some.ensures in
    let met = c.is_repeated.ensures.answer ∙ ap (λ (b : Bytes). contains (same_target b) (take l.count (entries_of P))) n.own in
    let a = met_before P l.marks l.count l.used _ l.invariant.0 n.here met n.some c.if-is_repeated.true in
    record { answer = a; noted = invalid_promise _ P a }

pub overflow_add-end : goal.overflow_add-end
overflow_add-end c =
    let P : Bytes = c.args.policy.now in
    let l = c.loop-e in
    let n : Next P l.used c.in-Some.e.bytes.now = next P l.used c.in-Some.e.bytes.now c.in-Some.e.formed c.in-Some.ensures in
    omega (arith, fits P l.count l.used l.invariant.0.walk _ n.here n.some)

pub loop-e-preserved : goal.loop-e-preserved
loop-e-preserved c =
    let P : Bytes = c.args.policy.now in
    let l = c.loop-e in
    let n : Next P l.used c.in-Some.e.bytes.now = next P l.used c.in-Some.e.bytes.now c.in-Some.e.formed c.in-Some.ensures in
    let met = c.is_repeated.ensures.answer ∙ ap (λ (b : Bytes). contains (same_target b) (take l.count (entries_of P))) n.own in (
      checked_more P l.marks l.count l.used _ l.invariant.0 n.here met n.some c.if-count-eq-MAX_ENTRIES.false c.if-is_repeated.false (c.is_repeated.ensures.marked ∙ ap (marks_with l.marks) n.own),
      noted_more l.ends P l.count _ l.invariant.1 (omega (arith, l.invariant.0.few, c.if-count-eq-MAX_ENTRIES.false)) (at_next P l.count l.used l.invariant.0.walk _ n.here n.some),
    )

pub returns : goal.returns
returns c =
    let P : Bytes = c.args.policy.now in
    let l = c.loop-e in
    let none = none_next P l.used c.in_default.ensures in
    let answer : check_within (length P) P ≡ then_some c.all_are.result (record { count = l.count; used = l.used }) =
    checked_end P l.marks l.count l.used 0 l.invariant.0 none refl
    (c.all_are.ensures ∙ ap (all_are 0) (part_rest l.used (length P) P (le_refl (length P)))) in
    record { answer = c.then_some.ensures ∙ sym answer; noted = λ v. noted_end P l.marks l.count l.used 0 l.invariant.0 none refl l.invariant.1 }
