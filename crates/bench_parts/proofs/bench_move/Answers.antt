use Prim.Native.Nat.{◌+◌}
use mathlib.Core.Path.{◌≡◌, sym, ◌∙◌}
use mathlib.Core.Bool.{true}
use lib.Dec.{leb}
use lib.ListN.{length}
use Rattle.bench_parts.proofs.Tested.{move_done, move_from, move_to}
use Rattle.bench_parts.proofs.bench_move.Goals as goal

pub returns-then-not-fits : goal.returns-then-not-fits
returns-then-not-fits c = move_from _ _ _ _ (sym c.fits.ensures ∙ c.if-not-fits.true)

pub returns-then-not-fits-2 : goal.returns-then-not-fits-2
returns-then-not-fits-2 c = move_to _ _ _ _ (sym c.fits-2.ensures ∙ c.if-not-fits-2.true)

pub returns-then-to-from : goal.returns-then-to-from
returns-then-to-from c =
    let stands : leb (c.args.from + c.args.n) (length c.args.s.now) ≡ true = sym c.fits.ensures ∙ c.if-not-fits.false in
    let goes : leb (c.args.to + c.args.n) (length c.args.s.now) ≡ true = sym c.fits-2.ensures ∙ c.if-not-fits-2.false in
    move_done _ _ _ _ (stands) (goes) c.move_down.ensures

pub returns-else-to-from : goal.returns-else-to-from
returns-else-to-from c =
    let stands : leb (c.args.from + c.args.n) (length c.args.s.now) ≡ true = sym c.fits.ensures ∙ c.if-not-fits.false in
    let goes : leb (c.args.to + c.args.n) (length c.args.s.now) ≡ true = sym c.fits-2.ensures ∙ c.if-not-fits-2.false in
    move_done _ _ _ _ (stands) (goes) c.move_up.ensures
