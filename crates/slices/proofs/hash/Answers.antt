use mathlib.Core.Path.{◌≡◌, sym, ◌∙◌}
use Prim.Native.Nat.{◌/◌}
use native.Mathlib.Omega.{arith}
use lib.ListN.{length}
use Rattle.std.proofs.Common.{rules, tests}
use Rattle.std.proofs.lemmas.Iterator.{YieldsList-from_slice}
use Rattle.std.proofs.lemmas.Iterator.Consumers.{fold_from_yields_List}
use Rattle.std.specs.Int.{w32, from_le_bytes}
use Rattle.std.specs.Simd.{first_chunks}
use Rattle.slices.specs.Hash.{mixed}
use Rattle.slices.proofs.Hashed.{hash_fours, hash_by_fours}
use Rattle.slices.proofs.hash.Goals as goal

pub returns : goal.returns
returns c =
    let s = c.args.s.now in
    let e : c.fold-h.result ≡ hash_fours c.args.h0 (length s / 4) s =
    fold_from_yields_List _ (λ h four. mixed h (from_le_bytes w32 four)) c.args.h0 _ c.fold-h.ensures.ran (YieldsList-from_slice (first_chunks 4 (length s / 4) s) cc) (λ h x b q k. search (rules, tests)) in
    c.few_mixed.ensures ∙ rw (e, c.as_chunks.ensures.back) (sym (hash_by_fours c.args.h0 (length s / 4) s (omega arith)))
