-- What `quarrels::quarrels` answers and leaves in the buffer, one law for each way out. Assumes nothing.
use Prim.Native.Nat.{ℕ, ◌%◌, ◌≤◌, ◌<◌}
use mathlib.Core.Path.{◌≡◌, sym, ap, ap₂, ◌∙◌}
use mathlib.Core.List.{List}
use Rattle.std.specs.Prelude.{Some, None, Ok, Err}
use mathlib.Core.Bool.{true, false}
use native.Mathlib.Omega.{arith}
use lib.ListN.{length}
use Rattle.limits.specs.Limits.{max_name_bytes}
use Rattle.slices.specs.Bytes.{Bytes, overwrite}
use Rattle.patterns.specs.Common.{least_name}
use Rattle.patterns.proofs.CommonLaws.{least_length}
use Rattle.entry.specs.Entry.{name_of}
use Rattle.entry.proofs.EntryLaws.{name_of-even, name_of-most}
use Rattle.policy.specs.Policy.{entries_of}
use Rattle.policy.specs.Dump.{dump_valid}
use Rattle.policy.proofs.DumpLaws.{dump_entries}
use Rattle.quarrels.specs.Pairs.{pair}
use Rattle.quarrels.specs.Quarrel.{pair_of, least_at, no_dump_error, first_quarrel, answer_for, quarrels_of, buffer_for, buffer_after}
use Rattle.quarrels.proofs.QuarrelLaws.{at, FirstQuarrel, pair_found, formed_at}
use Rattle.quarrels.proofs.Tests.{lengths_agree}

module _ (d : Bytes) where
  pub no_dump_lem : (b : Bytes) → dump_valid d ≡ false → (Err no_dump_error ≡ quarrels_of d) × (b ≡ buffer_after d b)
  unfolding quarrels_of buffer_after
  no_dump_lem b v = (rw v, rw v)

  module _ (v : dump_valid d ≡ true) where
    abbrev es : List Bytes
    es = entries_of d

    pub no_quarrel_lem : (b : Bytes) → pair_of es ≡ None → (Ok None ≡ quarrels_of d) × (b ≡ buffer_after d b)
    unfolding quarrels_of buffer_after
    no_quarrel_lem b p = (rw v (sym (ap (answer_for es) p)), rw v (sym (ap (λ q. buffer_for es q b) p)))

    module _ (i j : ℕ) (p : pair_of es ≡ Some (pair i j)) where
      first : FirstQuarrel es i j (least_at es i j)
      first = pair_found es (dump_entries d v) i j p

      pub places : (i < length es) × (j < length es)
      places = let o = first.order in let w = first.within in (omega arith, w)

      -- the names of the two entries
      module _ {m n : Bytes} (a : m ≡ name_of (at es i)) (b : n ≡ name_of (at es j)) where
        as_long : length m ≡ length n
        as_long =
            ap length a
            ∙ lengths_agree (at es i) (at es j) (formed_at es (dump_entries d v) i places.0) (formed_at es (dump_entries d v) j places.1)
            (record { ranks = first.ranks; taken = first.taken; first = first.earlier; second = first.later })
            ∙ sym (ap length b)

        pub names_fit : (length m ≡ length n) × (length m ≤ max_name_bytes)
        names_fit = (as_long, omega (arith, ap length a, name_of-most (at es i) (formed_at es (dump_entries d v) i places.0)))

        pub found : {c : Bytes} (buffer : Bytes) → c ≡ overwrite buffer 0 (least_name m n) → (Ok (Some (first_quarrel i j (length m))) ≡ quarrels_of d) × (c ≡ buffer_after d buffer)
        unfolding quarrels_of buffer_after
        found buffer e =
            let k : least_name m n ≡ least_at es i j = ap₂ least_name a b in
            let even : length m % 2 ≡ 0 = rw a (name_of-even (at es i) (formed_at es (dump_entries d v) i places.0)) in
            let l : length m ≡ length (least_at es i j) = sym (least_length m n as_long even) ∙ ap length k in
            (rw v (ap (λ n. Ok (Some (first_quarrel i j n))) l ∙ sym (ap (answer_for es) p)), rw v (e ∙ ap (overwrite buffer 0) k ∙ sym (ap (λ q. buffer_for es q buffer) p)))
