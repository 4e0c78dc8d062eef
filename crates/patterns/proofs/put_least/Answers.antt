use Rattle.std.proofs.Common.{sym, ap, ap₂, ◌∙◌, ◌≡◌, ◌+◌, ◌*◌, arith, length}
use Rattle.slices.specs.Bytes.{le16_bytes}
use Rattle.slices.proofs.OverwriteLaws.{length_overwrite}
use Rattle.patterns.specs.Common.{least_of}
use Rattle.patterns.proofs.CommonLaws.{put_unit, put_end}
use Rattle.patterns.proofs.put_least.Goals as goal

pub loop-i-preserved : goal.loop-i-preserved
unfolding le16_bytes
loop-i-preserved c =
    let n : 2 * (c.loop-i.i + 1) ≡ 2 * c.loop-i.i + 2 = omega arith in
    let least = c.from.ensures ∙ c.least_unit-least.ensures ∙ ap₂ least_of c.unit.ensures c.unit-in-loop-i.ensures in (
      rw (n, c.put16.ensures) (put_unit c.args.p.now c.args.q.now (2 * c.loop-i.i) c.loop-i.name c.from.result (λ k h. omega (arith, c.type_inv.p k))
          (λ k h. omega (arith, c.type_inv.q k)) (omega arith) (omega (arith, c.requires)) (omega (arith, c.requires, c.loop-i.invariant.1)) least (omega arith)
          ∙ c.loop-i.invariant.0),
      ap length c.put16.ensures ∙ length_overwrite c.loop-i.name (2 * c.loop-i.i) _ (omega (arith, c.requires, c.loop-i.invariant.1)) ∙ c.loop-i.invariant.1,
    )

pub returns : goal.returns
returns c =
    sym (put_end c.args.p.now c.args.q.now (2 * c.loop-i.i) c.loop-i.name (omega (arith, c.loop-i-test.false))) ∙ c.loop-i.invariant.0
