use mathlib.Core.Path.{refl, sym, ◌∙◌}
use native.Mathlib.Omega.{arith}
use Rattle.slices.proofs.TestLaws.{first_fails, first_holds}
use Rattle.entry.specs.Entry.{well_formed}
use Rattle.entry.proofs.EntryLaws.{header_least}
use mathlib.Core.Bool.{not}
use mathlib.Core.Path.{ap}
use Rattle.entry.proofs.well_formed.Goals as goal

pub returns-then-not-header_ok : goal.returns-then-not-header_ok
unfolding well_formed
returns-then-not-header_ok c = first_fails _ refl c.header_ok.ensures (ap not c.if-not-header_ok.true)

pub get16-offset-requires : goal.get16-offset-requires
get16-offset-requires c =
    omega (arith, header_least c.args.e.now (sym c.header_ok.ensures ∙ c.if-not-header_ok.false))

pub returns-then-lock_ok : goal.returns-then-lock_ok
unfolding well_formed
returns-then-lock_ok c =
    first_holds _ refl c.header_ok.ensures (ap not c.if-not-header_ok.false) (first_holds _ refl c.lock_ok.ensures (ap not c.if-lock_ok.true) c.name_ok.ensures)

pub returns-else-lock_ok : goal.returns-else-lock_ok
unfolding well_formed
returns-else-lock_ok c =
    c.if-lock_ok.false ∙ first_holds _ refl c.header_ok.ensures (ap not c.if-not-header_ok.false) (first_fails _ refl c.lock_ok.ensures (ap not c.if-lock_ok.false))
