use Rattle.std.proofs.Common.{rules}
use Rattle.std.proofs.lemmas.Iterator.Consumers.{YieldsList-from_first}
use Rattle.std.proofs.lemmas.Iterator.Search.{find_from_yields_List}
use Rattle.store.specs.Parts.{variable}
use Rattle.store.specs.Record.{is_of}
use Rattle.store.specs.Store.{standing}
use Rattle.store.proofs.Standing.{place_is}
use Rattle.store.proofs.find_within.Goals as goal

pub returns : goal.returns
returns c =
    let a = c.args in
    let v = variable a.namespace.now a.name.now in
    let e = find_from_yields_List (λ x. is_of v x.1) c.find.new.self _ c.find.result c.find.ensures.ran
    (YieldsList-from_first (λ r. (r.at, r.bytes.now)) (λ s. standing s.nonvolatile s.at s.store.now) (standing a.nonvolatile 0 a.s.now) c.new.ensures) (λ x b q k. search (rules, c.le32.ensures)) in
    let p = place_is c.find.result a.nonvolatile a.s.now v e in
    search (rules, p)
