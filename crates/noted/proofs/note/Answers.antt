use Rattle.std.proofs.Common.{◌≡◌, subst, ap, ◌∙◌, ◌+◌, ℕ}
use native.Mathlib.Omega.{arith}
use mathlib.Core.Path.{subst⁻¹}
use Rattle.lists.specs.Lists.{All}
use Rattle.lists.proofs.ListsLaws.{all_here, all_rest}
use Rattle.slices.specs.Bytes.{Bytes}
use Rattle.store.specs.Store.{standing}
use Rattle.store.proofs.StoreLaws.{end_of-within}
use Rattle.noted.specs.Noted.{Begins, NoteOf}
use Rattle.noted.proofs.Walks.{records_begin, noted_after}
use Rattle.noted.proofs.note.Goals as goal

pub loop-record-init : goal.loop-record-init
loop-record-init c =
    let e = ap (λ it. standing it.nonvolatile it.at it.store.now) c.into_iter-record-iterator.ensures.into_iter_gives ∙ c.new-record-items.ensures in
    (tt, tt, rw e (records_begin c.args.nonvolatile c.args.s.now), c.requires.2, c.requires.3)

pub overflow_cast-record : goal.overflow_cast-record
overflow_cast-record c =
    let a = c.args in
    let begins : Begins a.nonvolatile a.s.now c.in-Some.record.at = all_here (subst (All (λ (x : ℕ × Bytes). Begins a.nonvolatile a.s.now x.0)) c.in-Some.ensures.steps c.loop-record.invariant.2) in
    omega (arith, begins.before, end_of-within a.nonvolatile a.s.now, c.requires.1)

pub loop-record-preserved : goal.loop-record-preserved
loop-record-preserved c =
    let a = c.args in
    let left = subst (All (λ (x : ℕ × Bytes). Begins a.nonvolatile a.s.now x.0)) c.in-Some.ensures.steps c.loop-record.invariant.2 in
    let note-is : NoteOf a.nonvolatile a.s.now (c.in-Some.record.at + 1) = λ n e. let k : n ≡ c.in-Some.record.at = omega arith in subst⁻¹ (Begins _ _) k (all_here left) in
    let n = noted_after _ _ c.loop-record.table c.key.result (c.in-Some.record.at + 1) c.put.ensures c.key.ensures c.loop-record.invariant.3 c.loop-record.invariant.4 note-is in
    (tt, tt, all_rest left, n.0, n.1)
