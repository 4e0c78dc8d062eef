use Rattle.std.proofs.Math.Path.{refl}
use Rattle.slices.specs.Chunks.{chunks, chunks_from, flat, used}
use Rattle.stores.proofs.no_records.Goals as goal

pub invariant_of-result : goal.invariant_of-result
unfolding used chunks chunks_from flat
invariant_of-result c = record { ended = refl }

pub returns : goal.returns
unfolding chunks chunks_from
returns c = refl
