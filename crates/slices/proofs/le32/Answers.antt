use mathlib.Core.Path.{sym, ◌∙◌}
use lib.ListN.{drop}
use Rattle.slices.proofs.NumberLaws.{le32_four, le32_rest}
use Rattle.slices.proofs.le32.Goals as goal

pub returns : goal.returns
returns c =
    let a = c.args in
    rw (c.from_le_bytes.ensures, c.byte.ensures, c.byte-2.ensures, c.byte-3.ensures, c.byte-4.ensures, c.rest-s.ensures)
    (sym (le32_four (drop a.at a.s.now) 0) ∙ le32_rest a.s.now a.at)
