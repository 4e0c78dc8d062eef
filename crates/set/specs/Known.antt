-- What a set has found out, and what it means. Assumes nothing: these are definitions.
use Rattle.std.specs.Prelude.{◌≡◌}
use Rattle.std.proofs.Math.Option.{Option}
use Rattle.slices.specs.Bytes.{Bytes}
use Rattle.names.specs.Name.{Variable}
use Rattle.stores.specs.Pair.{lookup, ends_of}
use Rattle.stores.specs.Place.{place_in}
use Rattle.set.specs.declared.Known.{Known}
use Rattle.set.specs.declared.located.Located.{Located}
use Rattle.set.specs.Asked.{asked}

-- where the records of the stores end, and where the variable stands
pub record Knows (k : Known) (nv vol : Bytes) (v : Variable) : Type 0 where
  pub ends : k.ends ≡ ends_of nv vol
  pub place : k.place ≡ place_in nv vol v

-- what the stores hold of the request's variable
abbrev pub stored : Located → Option Bytes
stored l = lookup l.stores.nv.now l.stores.vol.now (asked l.request).variable
