use Prim.Native.Nat.{◌+◌, ◌<◌}
use mathlib.Core.Path.{ap, ◌∙◌}
use native.Mathlib.Omega.{arith}
use lib.ListN.{length}
use Rattle.limits.specs.Limits.{record_header}
use Rattle.store.specs.Record.{name_size, data_size}
use Rattle.stores.specs.Filter.{slot_of}
use Rattle.bench_parts.proofs.Tested.{slot_short, slot_nameless, slot_cut, slot_is}
use borrow.Author.Rules.{rules}
use Rattle.bench_parts.proofs.bench_slot.Goals as goal

pub returns-then-s-lt-RECORD_HEADER : goal.returns-then-s-lt-RECORD_HEADER
returns-then-s-lt-RECORD_HEADER c = slot_short _ c.if-s-lt-RECORD_HEADER.true

pub returns-then-n-lt4 : goal.returns-then-n-lt4
returns-then-n-lt4 c = let s = c.args.s.now in let h : name_size s < 4 = omega arith in slot_nameless s h

pub returns-then-s-n : goal.returns-then-s-n
returns-then-s-n c = let s = c.args.s.now in let h : length s < record_header + name_size s + data_size s = omega arith in slot_cut s h

pub returns : goal.returns
returns c = c.slot.ensures.value ∙ ap slot_of c.hash.ensures ∙ slot_is _ (search rules)
