use Rattle.policy.proofs.Walk.{first_start, later_start}
use Rattle.policy.proofs.entries.Entries.start.Goals as goal

pub returns-then-index-eq0 : goal.returns-then-index-eq0
returns-then-index-eq0 c = let e = c.args.self in first_start e.ends.now e.bytes.now c.args.index e.counted e.noted c.if-index-eq0.true

pub returns : goal.returns
returns c = let e = c.args.self in later_start e.ends.now e.bytes.now c.args.index e.counted e.noted c.requires c.if-index-eq0.false
