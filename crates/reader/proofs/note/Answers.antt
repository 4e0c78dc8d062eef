use mathlib.Core.Path.{ap, ◌∙◌}
use Rattle.slices.specs.Bytes.{Bytes, le16_bytes, overwrite}
use Rattle.reader.specs.Reader.{count_at, put}
use Rattle.reader.proofs.note.Goals as goal

pub returns : goal.returns
unfolding put
returns c = c.put16-2.ensures ∙ ap (λ (s : Bytes). overwrite s count_at (le16_bytes c.args.count)) c.put16.ensures
