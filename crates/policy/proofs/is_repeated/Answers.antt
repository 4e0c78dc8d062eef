use mathlib.Core.Path.{◌≡◌}
use lib.ListN.{take, set}
use Rattle.policy.specs.Policy.{entries_of}
use Rattle.policy.specs.Filter.{marks_with}
use Rattle.policy.proofs.Marked.{marks_first, marks_several, free, unmarked}
use Rattle.policy.proofs.is_repeated.Goals as goal

pub returns-then-seen-eq0 : goal.returns-then-seen-eq0
returns-then-seen-eq0 c =
    let m = c.mark_of-mark.ensures in
    let x = c.args in record { answer = free x.e.bytes.now m.0 m.1 x.marks.now (take x.count (entries_of x.policy.now)) c.requires.1 c.if-seen-eq0.true; marked = marks_first x.e.bytes.now m.0 m.1 x.marks.now c.if-seen-eq0.true }

pub returns : goal.returns
returns c =
    let marked : set c.args.marks.now c.mark_of-mark.result.slot 255 ≡ marks_with c.args.marks.now c.args.e.bytes.now = let m = c.mark_of-mark.ensures in
    marks_several c.args.e.bytes.now m.0 m.1 c.args.marks.now c.if-seen-eq0.false in
    let m = c.mark_of-mark.ensures in
    let x = c.args in
    record { answer = unmarked x.e.bytes.now m.0 m.1 x.marks.now (take x.count (entries_of x.policy.now)) c.requires.1 c.if-seen-fingerprint.false; marked = marked }
