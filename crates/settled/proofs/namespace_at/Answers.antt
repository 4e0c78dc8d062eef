use Prim.Native.Nat.{◌+◌}
use mathlib.Core.Path.{◌≡◌, refl, ap, ◌∙◌}
use mathlib.Core.List.{[], ◌++◌, append-nil}
use native.Mathlib.Omega.{arith}
use lib.ListN.{length, drop, replicate}
use Rattle.slices.specs.Bytes.{Bytes, overwrite}
use Rattle.slices.proofs.PartLaws.{length_part}
use Rattle.slices.proofs.OverwriteLaws.{overwrite_seam}
use Rattle.settled.proofs.namespace_at.Goals as goal

-- sixteen bytes over sixteen zeros
filled : (w : Bytes) → length w ≡ 16 → overwrite (replicate 16 0) 0 w ≡ w
filled w e = overwrite_seam [] (replicate 16 0) w 0 refl ∙ ap (λ k. w ++ drop k (replicate 16 0)) e ∙ append-nil w

pub returns : goal.returns
returns c =
    c.copy_in.ensures ∙ filled _ (omega (arith, length_part c.args.at (c.args.at + 16) c.args.e.now c.requires))
