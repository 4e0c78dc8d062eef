use Rattle.store.proofs.Tests.{length_no_room, length_no_header, length_cut, body_asks, length_found, first_part}
use native.Mathlib.Omega.{arith}
use mathlib.Core.Path.{◌∙◌}
use Rattle.store.proofs.record_length.Goals as goal

pub returns-then-t-lt-RECORD_HEADER : goal.returns-then-t-lt-RECORD_HEADER
returns-then-t-lt-RECORD_HEADER c = length_no_room _ _ c.if-t-lt-RECORD_HEADER.true

pub returns-then-not-header_ok : goal.returns-then-not-header_ok
returns-then-not-header_ok c = length_no_header _ _ c.header_ok.ensures c.if-not-header_ok.true

pub returns-in_err-record : goal.returns-in_err-record
returns-in_err-record c =
    rw c.from_residual.ensures (length_cut _ _ c.get32-n.ensures.is c.get32-d.ensures.is c.record_size-size.ensures (omega (arith, c.in_err-record.ensures.lookup)))

pub body_ok-requires : goal.body_ok-requires
body_ok-requires c =
    let found = c.in_ok-record.ensures.lookup.0 in
    rw (found.2 ∙ first_part _ _) (body_asks c.args.nonvolatile _ c.get32-n.ensures.is c.get32-d.ensures.is c.record_size-size.ensures found.1)

pub returns : goal.returns
returns c =
    let found = c.in_ok-record.ensures.lookup.0 in
    length_found _ _ c.get32-n.ensures.is c.get32-d.ensures.is c.record_size-size.ensures
    c.header_ok.ensures c.if-not-header_ok.false (rw (found.2 ∙ first_part _ _) at c.body_ok.ensures) found.1 c.then_some.ensures
