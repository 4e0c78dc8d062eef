use Rattle.engine.proofs.Readings.{named_from, within_nv, within_vol}
use Rattle.engine.proofs.payload.Goals as goal

pub slice_bounds-result-count : goal.slice_bounds-result-count
slice_bounds-result-count c = named_from _ _ _ _ c.read-reading.ensures.is c.read-reading.ensures.answers

pub slice_bounds-result-start : goal.slice_bounds-result-start
slice_bounds-result-start c = named_from _ _ _ _ c.read-reading.ensures.is c.read-reading.ensures.answers

pub slice_bounds-result-end : goal.slice_bounds-result-end
slice_bounds-result-end c = within_nv _ _ _ _ c.read-reading.ensures.is c.read-reading.ensures.answers c.if-reading.true

pub slice_bounds-result-count-else-reading : goal.slice_bounds-result-count-else-reading
slice_bounds-result-count-else-reading c = named_from _ _ _ _ c.read-reading.ensures.is c.read-reading.ensures.answers

pub slice_bounds-result-start-else-reading : goal.slice_bounds-result-start-else-reading
slice_bounds-result-start-else-reading c = named_from _ _ _ _ c.read-reading.ensures.is c.read-reading.ensures.answers

pub slice_bounds-result-end-else-reading : goal.slice_bounds-result-end-else-reading
slice_bounds-result-end-else-reading c = within_vol _ _ _ _ c.read-reading.ensures.is c.read-reading.ensures.answers c.if-reading.false
