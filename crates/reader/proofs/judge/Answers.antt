use Rattle.reader.proofs.Judged.{judged_stopped, judged_going}
use Rattle.reader.proofs.judge.Goals as goal

pub returns-then-is_decided : goal.returns-then-is_decided
returns-then-is_decided c =
    judged_stopped c.args.r.now c.get16-from.ensures.is c.get16-to.ensures.is c.take_good-at.ensures.after c.take_good-at.ensures.end.0 c.take_good-at.ensures.end.2 c.is_decided.ensures c.if-is_decided.true c.stop.ensures

pub returns-else-is_decided : goal.returns-else-is_decided
returns-else-is_decided c =
    judged_going c.args.r.now c.get16-from.ensures.is c.get16-to.ensures.is c.take_good-at.ensures.after c.take_good-at.ensures.end.0 c.take_good-at.ensures.end.2 c.is_decided.ensures c.if-is_decided.false
