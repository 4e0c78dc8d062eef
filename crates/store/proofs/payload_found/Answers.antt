use Rattle.store.proofs.PlaceLaws.{find_place, place_held}
use Rattle.store.specs.Parts.{Held, record_in, payload_in}
use mathlib.Core.Path.{sym, ap, ◌∙◌, subst}
use Rattle.store.proofs.payload_found.Goals as goal

pub payload-requires : goal.payload-requires
payload-requires c =
    subst (Held c.args.s.now) (sym c.requires) (place_held _ _ _)

pub returns : goal.returns
returns c =
    c.payload.ensures ∙ ap payload_in (ap (record_in c.args.s.now) c.requires ∙ sym (find_place _ _ _))
