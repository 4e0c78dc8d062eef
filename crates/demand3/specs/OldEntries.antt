-- The entries of policy records of editions before E7 (RULES.md, 12.8), and what this edition makes of them.
-- Assumes nothing: these are definitions.
use Rattle.std.specs.Prelude.{ℕ, List, [], ◌∷◌, cond}
use Rattle.limits.specs.Limits.{max_entries, policy_bytes}
use Rattle.limits.specs.FirstEdition.{first_max_entries, first_policy_bytes}
use Rattle.slices.specs.Bytes.{Bytes}
use Rattle.entry.specs.FirstEdition.{first_well_formed, sign_in_trigger}
use Rattle.status.specs.declared.Status.TheVariants.{Success, InvalidParameter}
use Rattle.rules.specs.Engine.{Answer, only_status}
use Rattle.rules.specs.Grounds.{EntriesWithin}

-- the limits of an edition before E7: entries, and bytes of a policy record
pub data Earlier : ℕ → ℕ → Type 0 where
  -- the first edition, E3, E4
  first : Earlier first_max_entries first_policy_bytes
  -- E5, E6: as today
  larger : Earlier max_entries policy_bytes

-- es are the entries of such a record
abbrev pub OldEntries : ℕ → ℕ → Bytes → List Bytes → Type 0
OldEntries most bytes old es = EntriesWithin first_well_formed most bytes old es

-- what the registration of one of them answers: 2 if its trigger's name has a '#', else 0
abbrev pub answer_to : Bytes → Answer
answer_to e = only_status (cond (sign_in_trigger e) InvalidParameter Success)

-- those of them without a '#' there, in order
abbrev pub without_signs : List Bytes → List Bytes
without_signs [] = []
without_signs (e ∷ es) = cond (sign_in_trigger e) (without_signs es) (e ∷ without_signs es)
