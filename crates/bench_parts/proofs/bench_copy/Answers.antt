use mathlib.Core.Path.{sym, ◌∙◌}
use Rattle.bench_parts.proofs.Tested.{copy_done, copy_kept}
use Rattle.bench_parts.proofs.bench_copy.Goals as goal

pub returns-then-fits : goal.returns-then-fits
returns-then-fits c = copy_done _ _ _ (sym c.fits.ensures ∙ c.if-fits.true) c.copy_in.ensures

pub returns-else-fits : goal.returns-else-fits
returns-else-fits c = copy_kept _ _ _ (sym c.fits.ensures ∙ c.if-fits.false)
