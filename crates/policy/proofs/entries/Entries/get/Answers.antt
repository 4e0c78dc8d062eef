use Rattle.policy.proofs.Walk.{entry_at}
use Rattle.policy.proofs.entries.Entries.get.Goals as goal

pub slice_bounds-result-count : goal.slice_bounds-result-count
slice_bounds-result-count c = let e = c.args.self in (entry_at e.ends.now e.bytes.now c.args.index e.counted e.noted c.requires c.start-start.ensures).behind

pub slice_bounds-result-start : goal.slice_bounds-result-start
slice_bounds-result-start c = let e = c.args.self in (entry_at e.ends.now e.bytes.now c.args.index e.counted e.noted c.requires c.start-start.ensures).behind

pub slice_bounds-result-end : goal.slice_bounds-result-end
slice_bounds-result-end c = let e = c.args.self in (entry_at e.ends.now e.bytes.now c.args.index e.counted e.noted c.requires c.start-start.ensures).inside

pub returns : goal.returns
returns c =
    let e = c.args.self in
    let g = entry_at e.ends.now e.bytes.now c.args.index e.counted e.noted c.requires c.start-start.ensures in g.is

pub invariant_of-result : goal.invariant_of-result
invariant_of-result c =
    let e = c.args.self in record { formed = (entry_at e.ends.now e.bytes.now c.args.index e.counted e.noted c.requires c.start-start.ensures).formed }
