use Rattle.std.proofs.Common.{sym, ◌∙◌}
use Rattle.std.proofs.Math.Path.{ap, subst⁻¹}
use Rattle.stores.specs.Place.{record_at, Within}
use Rattle.stores.proofs.PlaceLaws.{lookup_place, place_within_stores}
use Rattle.stores.proofs.sound.Stores.locate.Goals as goal

pub returns-clause-looked_up : goal.returns-clause-looked_up
returns-clause-looked_up c = ap (record_at c.args.self.nv.now c.args.self.vol.now) c.locate.ensures ∙ sym (lookup_place _ _ _)

pub returns-clause-within : goal.returns-clause-within
returns-clause-within c = subst⁻¹ (Within c.args.self.nv.now c.args.self.vol.now) c.locate.ensures (place_within_stores _ _ _)
