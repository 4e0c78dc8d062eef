use Prim.Native.Nat.{◌-◌}
use mathlib.Core.Path.{◌≡◌, ap}
use native.Mathlib.Omega.{arith}
use lib.ListN.{length-drop, drop}
use Rattle.store.specs.Record.{name_size, data_size, record_size}
use Rattle.store.specs.Parts.{is_found}
use Rattle.store.proofs.Walk.{Here, rest_at, length_here}
use Rattle.noted.specs.Noted.{Begins}
use Rattle.noted.proofs.Walks.{here_at, here_sized, size_of, alone_end, tried_here}
use Rattle.noted.proofs.try_note.Goals as goal

pub slice_bounds-r-count : goal.slice_bounds-r-count
slice_bounds-r-count c =
    let begins-at : Begins c.args.nonvolatile c.args.s.now (c.args.note - 1) = c.requires (c.args.note - 1) (omega (arith, c.if-note-eq0.false)) in
    (begins-at).within

pub slice_bounds-r-start : goal.slice_bounds-r-start
slice_bounds-r-start c =
    let begins-at : Begins c.args.nonvolatile c.args.s.now (c.args.note - 1) = c.requires (c.args.note - 1) (omega (arith, c.if-note-eq0.false)) in
    (begins-at).within

pub get32-requires : goal.get32-requires
get32-requires c =
    let begins-at : Begins c.args.nonvolatile c.args.s.now (c.args.note - 1) = c.requires (c.args.note - 1) (omega (arith, c.if-note-eq0.false)) in
    rw (rest_at, length-drop) (omega (arith, (here_at _ _ _ (begins-at)).long))

pub get32-requires-2 : goal.get32-requires-2
get32-requires-2 c =
    let begins-at : Begins c.args.nonvolatile c.args.s.now (c.args.note - 1) = c.requires (c.args.note - 1) (omega (arith, c.if-note-eq0.false)) in
    rw (rest_at, length-drop) (omega (arith, (here_at _ _ _ (begins-at)).long))

pub slice_bounds-find_within-end : goal.slice_bounds-find_within-end
slice_bounds-find_within-end c =
    let begins-at : Begins c.args.nonvolatile c.args.s.now (c.args.note - 1) = c.requires (c.args.note - 1) (omega (arith, c.if-note-eq0.false)) in
    let size_is : c.record_size-size.result
    ≡ record_size (name_size (drop (c.args.note - 1) c.args.s.now)) (data_size (drop (c.args.note - 1) c.args.s.now)) = let g = c.args in
    size_of (g.note - 1) g.s.now c.record_size-size.ensures c.get32.ensures.is c.get32-2.ensures.is in
    let this : Here c.args.nonvolatile (c.args.note - 1) c.record_size-size.result c.args.s.now = here_sized _ _ _ _ (begins-at) (size_is) in
    length_here _ _ _ _ (this)

pub find_within-requires : goal.find_within-requires
find_within-requires c =
    let begins-at : Begins c.args.nonvolatile c.args.s.now (c.args.note - 1) = c.requires (c.args.note - 1) (omega (arith, c.if-note-eq0.false)) in
    let size_is : c.record_size-size.result
    ≡ record_size (name_size (drop (c.args.note - 1) c.args.s.now)) (data_size (drop (c.args.note - 1) c.args.s.now)) = let g = c.args in
    size_of (g.note - 1) g.s.now c.record_size-size.ensures c.get32.ensures.is c.get32-2.ensures.is in
    let this : Here c.args.nonvolatile (c.args.note - 1) c.record_size-size.result c.args.s.now = here_sized _ _ _ _ (begins-at) (size_is) in
    let h = this in rw rest_at (alone_end _ _ _ h.is h.some)

pub returns : goal.returns
returns c =
    let begins-at : Begins c.args.nonvolatile c.args.s.now (c.args.note - 1) = c.requires (c.args.note - 1) (omega (arith, c.if-note-eq0.false)) in
    let size_is : c.record_size-size.result
    ≡ record_size (name_size (drop (c.args.note - 1) c.args.s.now)) (data_size (drop (c.args.note - 1) c.args.s.now)) = let g = c.args in
    size_of (g.note - 1) g.s.now c.record_size-size.ensures c.get32.ensures.is c.get32-2.ensures.is in
    tried_here _ _ _ _ _ (begins-at) (size_is) c.find_within.ensures (ap is_found c.in_ok-find_within.was)
