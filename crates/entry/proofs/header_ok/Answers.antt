use mathlib.Core.Path.{◌≡◌, sym, ◌∙◌}
use lib.Bits.{bit_and}
use lib.Dec.{eqb}
use borrow.Author.Tests.{eq-eqb, ne_eqb, le-leb, lt-leb}
use Rattle.slices.specs.Test.{◌and◌}
use Rattle.slices.specs.Bytes.{Bytes}
use Rattle.entry.specs.Entry.{attributes_must_have, attributes_cant_have, header_ok}
use Rattle.entry.proofs.header_ok.Goals as goal

pub returns-then-e-lt-ENTRY_HEADER : goal.returns-then-e-lt-ENTRY_HEADER
unfolding ◌and◌ header_ok
returns-then-e-lt-ENTRY_HEADER c = simp (lt-leb _ _ c.if-e-lt-ENTRY_HEADER.true)

pub returns-then-le32-ne-ENTRY_VERSION : goal.returns-then-le32-ne-ENTRY_VERSION
unfolding ◌and◌ header_ok
returns-then-le32-ne-ENTRY_VERSION c = simp (le-leb _ _ c.if-e-lt-ENTRY_HEADER.false, ← c.le32.ensures, ne_eqb _ _ c.if-le32-ne-ENTRY_VERSION.true)

pub returns-then-le16-e : goal.returns-then-le16-e
unfolding ◌and◌ header_ok
returns-then-le16-e c = simp (le-leb _ _ c.if-e-lt-ENTRY_HEADER.false, ← c.le32.ensures, eq-eqb _ _ c.if-le32-ne-ENTRY_VERSION.false, ← c.le16.ensures, ne_eqb _ _ c.if-le16-e.true)

pub returns-then-le32 : goal.returns-then-le32
unfolding ◌and◌ header_ok
returns-then-le32 c = simp (le-leb _ _ c.if-e-lt-ENTRY_HEADER.false, ← c.le32.ensures, eq-eqb _ _ c.if-le32-ne-ENTRY_VERSION.false, ← c.le16.ensures, eq-eqb _ _ c.if-le16-e.false, ← c.le32-2.ensures, ← c.le32-3.ensures, lt-leb _ _ c.if-le32.true)

pub returns-then-le32-ne0 : goal.returns-then-le32-ne0
unfolding ◌and◌ header_ok
returns-then-le32-ne0 c =
    let E : Bytes = c.args.e.now in
    let bits_left : header_ok (E) ≡ eqb (bit_and (attributes_must_have (E)) (attributes_cant_have (E))) 0 = simp (le-leb _ _ c.if-e-lt-ENTRY_HEADER.false, ← c.le32.ensures, eq-eqb _ _ c.if-le32-ne-ENTRY_VERSION.false, ← c.le16.ensures, eq-eqb _ _ c.if-le16-e.false, ← c.le32-2.ensures, ← c.le32-3.ensures, le-leb _ _ c.if-le32.false) in
    sym (bits_left ∙ simp (← c.le32-4.ensures, ← c.le32-5.ensures, ne_eqb _ _ c.if-le32-ne0.true))

pub returns : goal.returns
unfolding ◌and◌ header_ok
returns c =
    let E : Bytes = c.args.e.now in
    let bits_left : header_ok (E) ≡ eqb (bit_and (attributes_must_have (E)) (attributes_cant_have (E))) 0 = simp (le-leb _ _ c.if-e-lt-ENTRY_HEADER.false, ← c.le32.ensures, eq-eqb _ _ c.if-le32-ne-ENTRY_VERSION.false, ← c.le16.ensures, eq-eqb _ _ c.if-le16-e.false, ← c.le32-2.ensures, ← c.le32-3.ensures, le-leb _ _ c.if-le32.false) in
    sym (bits_left ∙ simp (← c.le32-4.ensures, ← c.le32-5.ensures, eq-eqb _ _ c.if-le32-ne0.false))
