-- Every entry that is told lies within the reader's bytes, and one line is written for each. Assumes nothing.
use Rattle.std.proofs.Common.{arith, sym}
use Rattle.list_dump.proofs.Sizes.{listed_within}
use Rattle.list_dump.proofs.Runs.{listed_next, listed_all}
use Rattle.list_dump.proofs.list_entries.Goals as goal

pub overflow_add-i : goal.overflow_add-i
overflow_add-i g c =
    let within = listed_within c.args.reader.now c.loop-listing.at c.in-Some.listing (sym c.in-Some.ensures) in
    omega (arith, c.loop-listing.invariant.0, c.loop-listing.invariant.1, within.0, within.1, c.told-reader)

pub overflow_add-at : goal.overflow_add-at
overflow_add-at g c =
    let within = listed_within c.args.reader.now c.loop-listing.at c.in-Some.listing (sym c.in-Some.ensures) in
    omega (arith, within.1, c.told-reader)

pub loop-listing-smaller : goal.loop-listing-smaller
loop-listing-smaller g c =
    let within = listed_within c.args.reader.now c.loop-listing.at c.in-Some.listing (sym c.in-Some.ensures) in
    omega (arith, within.0, within.1)

pub loop-listing-preserved : goal.loop-listing-preserved
loop-listing-preserved g c =
    let within = listed_within c.args.reader.now c.loop-listing.at c.in-Some.listing (sym c.in-Some.ensures) in (
      omega (arith, c.loop-listing.invariant.0, within.0),
      c.loop-listing.invariant.1,
      λ ls h. listed_next c.in-Some.listing _ (c.loop-listing.invariant.2 ls h) (sym c.in-Some.ensures) c.in_ok-write_entry.ensures,
    )

pub returns : goal.returns
returns g c ls h = listed_all (c.loop-listing.invariant.2 ls h) (sym c.in_default.ensures)
