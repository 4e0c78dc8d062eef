use Rattle.std.proofs.Common.{◌≡◌, ◌*◌, length, drop}
use Rattle.slices.specs.Bytes.{overwrite}
use Rattle.patterns.specs.Common.{least_name}
use Rattle.patterns.proofs.put_least.Given as goal

abbrev pub invariant-loop-i : goal.invariant-loop-i
invariant-loop-i l =
    (overwrite l.name (2 * l.i) (least_name (drop (2 * l.i) l.p) (drop (2 * l.i) l.q)) ≡ overwrite l.initial.name 0 (least_name l.p l.q)) × (length l.name ≡ length l.initial.name)
