use Rattle.store.proofs.PlaceLaws.{bounds_payload}
use Rattle.store.proofs.payload.Goals as goal

pub returns : goal.returns
returns c = (bounds_payload c.args.s.now c.args.found c.payload_bounds-bounds.ensures c.requires).2
