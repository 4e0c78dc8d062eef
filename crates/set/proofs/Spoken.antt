-- The chosen entry in the policy record: its bytes, its index and its rank. Assumes nothing.
use Prim.Native.Nat.{ℕ, ◌+◌, ◌^◌, ◌≤◌, ◌<◌}
use mathlib.Core.Path.{◌≡◌, sym, ap, ◌∙◌}
use mathlib.Core.Bool.{true}
use mathlib.Core.Option.{some}
use native.Mathlib.Omega.{arith}
use lib.ListN.{length}
use lib.Dec.{lit<}
use Rattle.limits.specs.Limits.{max_entries, whole_namespace_rank}
use Rattle.slices.specs.Bytes.{Bytes, le16, part}
use Rattle.names.specs.Name.{Variable}
use Rattle.entry.specs.Entry.{well_formed, rank}
use Rattle.entry.proofs.EntryLaws.{sized, rank_most}
use Rattle.policy.specs.Policy.{entries_of}
use Rattle.policy.specs.Choice.{chosen, place_of, choice_of}
use Rattle.policy.proofs.ChoiceLaws.{Speaks, choice_some, place_within, chosen_formed, chosen_within, chosen_size, chosen_entry_lem}
use Rattle.policy.proofs.PlaceLaws.{choice_place}
use Rattle.std.specs.Prelude.{Some}
use Rattle.policy.specs.declared.Chosen.{Chosen}

module _ (p : Bytes) (v : Variable) (x : Chosen) (k : choice_of (entries_of p) v ≡ Some x) where
  s : Speaks (entries_of p) v x.index x.at x.rank
  s = choice_some (entries_of p) v x k

  formed : well_formed s.entry ≡ true
  formed = chosen_formed p v x.index x.at x.rank s.entry s.place

  pub header_within : x.at + 44 ≤ length p
  header_within = let w = chosen_within p v x.index x.at x.rank s.entry s.place in let l = (sized s.entry formed).least in omega arith

  -- its index and its rank are words of 32 bits
  pub index_below : length (entries_of p) ≤ max_entries → x.index < 2 ^ 32
  index_below l =
      let w = place_within (entries_of p) v x.index x.at x.rank s.entry s.place in
      let m : max_entries < 2 ^ 32 = lit< tt in omega arith

  pub rank_below : x.rank < 2 ^ 32
  rank_below =
      let w = rank_most s.entry formed in
      let k = s.place.ranks in
      let m : whole_namespace_rank < 2 ^ 32 = lit< tt in omega arith

  -- n is what stands in the Size field
  module _ (n : ℕ) (e : n ≡ le16 p (x.at + 4)) where
    pub end_within : x.at + n ≤ length p
    end_within = let w = chosen_within p v x.index x.at x.rank s.entry s.place in let z = chosen_size p v x.index x.at x.rank s.entry s.place in omega arith

    entry_is : part x.at (x.at + n) p ≡ s.entry
    entry_is = ap (λ m. part x.at (x.at + m) p) e ∙ chosen_entry_lem p v x.index x.at x.rank s.entry s.place

    pub entry_formed : well_formed (part x.at (x.at + n) p) ≡ true
    entry_formed = ap well_formed entry_is ∙ formed

    pub entry_chosen : chosen (entries_of p) v ≡ some (part x.at (x.at + n) p)
    entry_chosen = s.is ∙ ap some (sym entry_is)

    pub entry_rank : x.rank ≡ rank (part x.at (x.at + n) p)
    entry_rank = sym s.place.ranks ∙ ap rank (sym entry_is)

    pub entry_place : place_of (entries_of p) (part x.at (x.at + n) p) ≡ x.index
    entry_place = choice_place (entries_of p) v (part x.at (x.at + n) p) x entry_chosen k
