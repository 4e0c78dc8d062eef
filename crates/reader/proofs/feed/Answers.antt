use mathlib.Core.Path.{ap, ◌∙◌}
use mathlib.Core.Logic.{inl, inr}
use native.Mathlib.Omega.{arith}
use Rattle.reader.specs.Reader.{fed}
use Rattle.reader.proofs.Taken.{one_byte, fed_piece, refused}
use Rattle.reader.proofs.feed.Goals as goal

pub returns-then-has_room : goal.returns-then-has_room
returns-then-has_room c =
    let p = c.args.piece.now in
    let both = fed_piece c.args.reader.now p (λ z. omega (arith, c.if-piece-eq1.true)) (omega (arith, c.if-piece-eq1.true)) (c.take_byte.ensures ∙ ap (fed c.args.reader.now) (one_byte p c.if-piece-eq1.true)) in record { answer = both.0; after = both.1 }

pub returns-then-piece-eq1 : goal.returns-then-piece-eq1
returns-then-piece-eq1 c =
    let both = fed_piece c.args.reader.now c.args.piece.now (λ z. omega (arith, c.if-piece-eq1.true)) (omega (arith, c.if-piece-eq1.true)) c.take_piece.ensures in record { answer = both.0; after = both.1 }

pub returns-then-piece-eq0 : goal.returns-then-piece-eq0
returns-then-piece-eq0 c =
    let both = refused c.args.reader.now c.args.piece.now (inl c.if-piece-eq0.true) in record { answer = both.0; after = both.1 }

pub returns-then-piece-gt-MAX_PIECE : goal.returns-then-piece-gt-MAX_PIECE
returns-then-piece-gt-MAX_PIECE c =
    let both = refused c.args.reader.now c.args.piece.now (inr (omega (arith, c.if-piece-gt-MAX_PIECE.true))) in record { answer = both.0; after = both.1 }

pub returns : goal.returns
returns c =
    let both = fed_piece c.args.reader.now c.args.piece.now c.if-piece-eq0.false c.if-piece-gt-MAX_PIECE.false c.take_piece-2.ensures in record { answer = both.0; after = both.1 }
