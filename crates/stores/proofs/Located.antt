-- The place by what the search of each store found. Assumes nothing.
use Rattle.std.proofs.Common.{true≢false}
use mathlib.Core.Path.{◌≡◌, refl, sym, ap, ◌∙◌}
use mathlib.Core.Bool.{true, false}
use Rattle.slices.specs.Bytes.{Bytes}
use Rattle.names.specs.Name.{Variable}
use Rattle.store.specs.Store.{place_of}
use Rattle.store.specs.declared.Found.{Found}
use Rattle.std.specs.Prelude.{Option, Some, None, is_some}
use Rattle.stores.specs.Place.{either_place, place_in}

module _ (nv vol : Bytes) (v : Variable) where
  pub place_nv : {o : Option Found} → o ≡ place_of true nv v → is_some o ≡ true → record { nonvolatile = true; found = o } ≡ place_in nv vol v
  unfolding place_in
  place_nv {o} h e = go o e ∙ ap (λ (o : Option Found). either_place o (place_of false vol v)) h
    where
      go : (o : Option Found) → is_some o ≡ true → record { nonvolatile = true; found = o } ≡ either_place o (place_of false vol v)
      go (Some f) e = refl
      go None e = absurd (true≢false (sym e))

  pub place_vol : {o q : Option Found} → o ≡ place_of true nv v → is_some o ≡ false → q ≡ place_of false vol v → record { nonvolatile = false; found = q } ≡ place_in nv vol v
  unfolding place_in
  place_vol {o} {q} h e k = go o e ∙ ap (λ (o : Option Found). either_place o q) h ∙ ap (either_place (place_of true nv v)) k
    where
      go : (o : Option Found) → is_some o ≡ false → record { nonvolatile = false; found = q } ≡ either_place o q
      go (Some f) e = absurd (true≢false e)
      go None e = refl
