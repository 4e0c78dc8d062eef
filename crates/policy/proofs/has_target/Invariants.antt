use mathlib.Core.Path.{◌≡◌}
use lib.ListN.{length}
use Rattle.slices.specs.Chunks.{contains}
use Rattle.policy.specs.Stated.{stated_of, repeats}
use Rattle.policy.proofs.has_target.Given as goal

abbrev pub invariant-loop-f : goal.invariant-loop-f
invariant-loop-f l = contains (repeats l.e.bytes.now) (stated_of l.entries) ≡ contains (repeats l.e.bytes.now) (stated_of l.rest)

abbrev pub decreases-loop-f : goal.decreases-loop-f
decreases-loop-f l = length l.rest
