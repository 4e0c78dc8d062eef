use mathlib.Core.Path.{sym, ◌∙◌}
use Rattle.bench_parts.proofs.Tested.{fill_done, fill_kept}
use Rattle.bench_parts.proofs.bench_fill.Goals as goal

pub returns-then-fits : goal.returns-then-fits
returns-then-fits c = fill_done _ _ _ _ (sym c.fits.ensures ∙ c.if-fits.true) c.fill.ensures

pub returns-else-fits : goal.returns-else-fits
returns-else-fits c = fill_kept _ _ _ _ (sym c.fits.ensures ∙ c.if-fits.false)
