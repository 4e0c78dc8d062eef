use Prim.Native.Nat.{◌≤◌, ◌<◌}
use mathlib.Core.Path.{sym, ◌∙◌}
use native.Mathlib.Omega.{arith}
use lib.ListN.{length, get_or}
use Rattle.limits.specs.Limits.{max_entries}
use Rattle.slices.specs.Bytes.{Bytes}
use Rattle.policy.specs.Policy.{entries_of}
use Rattle.quarrels.proofs.Chains.{skipped_later}
use Rattle.quarrels.proofs.Places.{walk_start, walk_step, walk_skip, found_here, found_none}
use Rattle.quarrels.proofs.first_pair.Goals as goal

pub loop-j-init : goal.loop-j-init
loop-j-init c =
    let D : Bytes = c.args.grouped.now.dump.entries.bytes.now in (
      c.pairs.invariant.0,
      walk_start (D) c.args.grouped.now.dump.valid c.args.grouped.now.dump.fit c.args.grouped.now.links.now.first c.pairs.i c.args.grouped.now.others c.place-j.ensures (omega (arith, c.pairs-test.true, c.args.grouped.now.dump.entries.counted)) c.pairs.invariant.1,
    )

pub loop-j-smaller : goal.loop-j-smaller
loop-j-smaller c =
    let D : Bytes = c.args.grouped.now.dump.entries.bytes.now in
    let inner : c.loop-j.j < length (entries_of (D)) = omega (arith, c.loop-j-test.true, c.args.grouped.now.dump.entries.counted) in
    let inner-under : c.loop-j.j < max_entries = omega (arith, inner, c.args.grouped.now.dump.entries.noted.few) in
    let rising : (c.loop-j.j < get_or c.args.grouped.now.links.now.next c.loop-j.j 0) × (get_or c.args.grouped.now.links.now.next c.loop-j.j 0 ≤ max_entries) = c.args.grouped.now.chained.rises c.loop-j.j (inner-under) in
    omega (arith, c.loop-j-test.true, (rising).0, c.place.ensures, skipped_later c.args.grouped.now.chained.rises c.candidate-j.ensures)

pub loop-j-preserved : goal.loop-j-preserved
loop-j-preserved c =
    let D : Bytes = c.args.grouped.now.dump.entries.bytes.now in
    let inner : c.loop-j.j < length (entries_of (D)) = omega (arith, c.loop-j-test.true, c.args.grouped.now.dump.entries.counted) in (
      c.loop-j.invariant.0,
      walk_skip (D) c.args.grouped.now.dump.valid c.args.grouped.now.dump.fit c.args.grouped.now.links.now.next c.args.grouped.now.chained c.pairs.i c.args.grouped.now.notes.now.masks c.args.grouped.now.notes.now.shown c.args.grouped.now.masked c.args.grouped.now.shows c.candidate-j.ensures
          (walk_step (D) c.args.grouped.now.dump.valid c.args.grouped.now.dump.fit c.args.grouped.now.links.now.next c.args.grouped.now.chained c.pairs.i c.loop-j.j (inner) c.loop-j.invariant.1 c.place.ensures
          (sym c.quarrel_at.ensures ∙ c.if-quarrel_at.false)),
    )

pub returns-after-pairs : goal.returns-after-pairs
returns-after-pairs c =
    let D : Bytes = c.args.grouped.now.dump.entries.bytes.now in
    c.pairs.invariant.0 ∙ found_none (D) c.args.grouped.now.dump.valid c.args.grouped.now.dump.fit c.pairs.i (omega (arith, c.pairs-test.false, c.args.grouped.now.dump.entries.counted)) c.pairs.invariant.1

pub returns-then-quarrel_at : goal.returns-then-quarrel_at
returns-then-quarrel_at c =
    let D : Bytes = c.args.grouped.now.dump.entries.bytes.now in
    let inner : c.loop-j.j < length (entries_of (D)) = omega (arith, c.loop-j-test.true, c.args.grouped.now.dump.entries.counted) in
    found_here (D) c.args.grouped.now.dump.valid c.args.grouped.now.dump.fit c.pairs.i c.loop-j.j (inner) c.loop-j.invariant.1 (sym c.quarrel_at.ensures ∙ c.if-quarrel_at.true)
