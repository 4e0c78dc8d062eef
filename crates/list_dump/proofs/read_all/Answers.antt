-- One turn behind the other, to the end; more turns than a dump has bytes are not needed. Assumes nothing.
use Rattle.std.proofs.Common.{arith, refl, [], ◌++◌}
use Rattle.slices.specs.Bytes.{Bytes}
use Rattle.reader.specs.HasRead.{HasRead}
use Rattle.list_dump.specs.Runs.{Took}
use Rattle.list_dump.proofs.Runs.{took_more, took_start, took_end, took_on, done_past, same_error, on_input}
use Rattle.list_dump.proofs.read_all.Goals as goal

pub loop-init : goal.loop-init
loop-init g c = (refl, λ d h. let i = took_start _ _ h in ([], i.0, i.1))

pub returns-then-not-more-clause-ok : goal.returns-then-not-more-clause-ok
returns-then-not-more-clause-ok g c d h =
    let i = c.loop.invariant.1 d h in
    let j = c.in_ok-more.ensures.ok (d ++ i.0) i.1.reads (omega (arith, c.loop.invariant.0)) (omega (arith, c.loop.invariant.0)) in
    let k = took_end _ _ _ _ _ _ i.1 j.1 j.2 c.if-not-more.true in
    (i.0 ++ j.0, k.0, k.1)

pub loop-preserved : goal.loop-preserved
loop-preserved g c = (
  omega (arith, c.loop.invariant.0, c.read_piece.auto.buffer),
  λ d h.
      let i = c.loop.invariant.1 d h in
      let j = c.in_ok-more.ensures.ok (d ++ i.0) i.1.reads (omega (arith, c.loop.invariant.0)) (omega (arith, c.loop.invariant.0)) in
      let k = took_on _ _ _ _ _ _ c.loop.counter i.1 i.2 j.1 j.2 c.if-not-more.false in
      (i.0 ++ j.0, k.0, k.1),
)

pub returns-clause-ok : goal.returns-clause-ok
returns-clause-ok g c d h =
    let i = c.loop.invariant.1 d h in
    (i.0, i.1, done_past d i.0 _ (omega (arith, c.loop-test.false, i.2)))

pub returns-in_err-more-clause-unread : goal.returns-in_err-more-clause-unread
returns-in_err-more-clause-unread g c =
    let behind : ((d : Bytes) → HasRead c.loop.reader d
    → Took d [] (g.R.Read.remaining c.loop.input) (g.R.Read.remaining c.read_piece.new.input) (g.W.Write.contents c.loop.output) (g.W.Write.contents c.read_piece.new.output) c.read_piece.new.reader)
    → (d : Bytes) → HasRead c.args.reader.now d
    → (p : Bytes) × Took d p (g.R.Read.remaining c.args.input.now) (g.R.Read.remaining c.read_piece.new.input) (g.W.Write.contents c.args.output.now) (g.W.Write.contents c.read_piece.new.output) c.read_piece.new.reader =
    λ a d h. let i = c.loop.invariant.1 d h in (i.0 ++ [], took_more _ _ _ _ _ _ i.1 (a (d ++ i.0) i.1.reads)) in
    same_error _ _ _ c.from_residual.ensures.1 (on_input _ c.in_err-more.ensures.unread behind)
