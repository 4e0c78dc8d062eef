-- The records that are left of a store, and the search along them. Assumes nothing.
use Prim.Native.Nat.{ℕ, ◌+◌, ◌≤◌, ◌<◌}
use mathlib.Core.Path.{◌≡◌, refl, ap, ◌∙◌}
use mathlib.Core.List.{List, [], ◌∷◌}
use mathlib.Core.Bool.{Bool, true, false, cond}
use native.Mathlib.Omega.{arith}
use lib.ListN.{length, take, drop, length-drop}
use lib.Seq.{length-take-le, drop-drop}
use Rattle.std.specs.Prelude.{Option, Some, None, option_map}
use Rattle.std.specs.List.{find}
use Rattle.slices.specs.Bytes.{Bytes, part}
use Rattle.slices.proofs.ChunksLaws.{chunks_stop, chunks_step}
use Rattle.names.specs.Name.{Variable}
use Rattle.store.specs.Record.{name_size, data_size, record_size, record_length, is_of}
use Rattle.store.specs.Store.{records_of, end_of, placed, standing, place_from, place_of}
use Rattle.store.specs.declared.Found.{Found}
use Rattle.store.specs.declared.records.Record.{Record}
use Rattle.store.proofs.RecordLaws.{record_length-within}
use Rattle.store.proofs.Walk.{Here, here, ended, resized, rest_at}

module _ (b : Bool) (at : ℕ) (s : Bytes) (h : at ≤ length s) (q : end_of b s ≡ at + end_of b (drop at s)) where
  -- none is left at the end
  pub standing_end : end_of b s ≤ at → standing b at s ≡ []
  unfolding placed
  standing_end k = rw (chunks_stop (record_length b) (drop at s) (ended b at s q k))

  -- before it the next one begins, as the code reads its sizes
  module _ (k : at < end_of b s) where
    pub header_left : 36 ≤ length (part at (length s) s)
    header_left = rw (rest_at, length-drop) (omega (arith, (here b at s h q k).long))

    module _ {n d z : ℕ} (p : n ≡ name_size (part at (length s) s)) (e : d ≡ data_size (part at (length s) s)) (f : z ≡ record_size n d) where
      pub next_here : Here b at z s
      next_here = resized b at s (f ∙ rw (p, e, rest_at at s)) (here b at s h q k)

      pub standing_next : standing b at s ≡ (at, take z (part at (length s) s)) ∷ standing b (at + z) s
      unfolding placed
      standing_next =
          let w = next_here in
          rw (
            rest_at at s,
            chunks_step (record_length b) (record_length-within b) z (drop at s) w.is w.some,
            length-take-le z (drop at s) (rw length-drop (omega (arith, w.next))),
            drop-drop,
          )

-- where what a search along the records gives stands
abbrev at_record : ℕ × Bytes → Found
at_record x = record { at = x.0; len = length x.1 }

place_search : (p : Bytes → Bool) (at : ℕ) (rs : List Bytes) → option_map at_record (find (λ x. p x.1) (placed at rs)) ≡ place_from p at rs
unfolding placed place_from
place_search p at [] = refl
place_search p at (r ∷ rs) = go (p r) refl (place_search p (at + length r) rs)
  where
    go : (t : Bool) → p r ≡ t → option_map at_record (find (λ x. p x.1) (placed (at + length r) rs)) ≡ place_from p (at + length r) rs
        → option_map at_record (cond (p r) (Some (at, r)) (find (λ x. p x.1) (placed (at + length r) rs)))
        ≡ cond (p r) (Some (record { at = at; len = length r })) (place_from p (at + length r) rs)
    go true e h = rw e
    go false e h = rw e h

-- the record of a variable, as a search along the records finds it
pub place_is : (r : Option Record) (b : Bool) (s : Bytes) (v : Variable) → option_map (λ x. (x.at, x.bytes.now)) r ≡ find (λ x. is_of v x.1) (standing b 0 s)
    → option_map {U = Found} (λ x. record { at = x.at; len = length x.bytes.now }) r ≡ place_of b s v
place_is r b s v e = each r ∙ ap (option_map at_record) e ∙ place_search (is_of v) 0 (records_of b s)
  where
    each : (r : Option Record) → option_map {U = Found} (λ x. record { at = x.at; len = length x.bytes.now }) r ≡ option_map at_record (option_map (λ x. (x.at, x.bytes.now)) r)
    each (Some x) = refl
    each None = refl
