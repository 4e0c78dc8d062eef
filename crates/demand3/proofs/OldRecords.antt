-- AN OLD RECORD WITH '#' IN THE NAME OF A TRIGGER (RULES.md, 12.8) is corrupted, from what OldDumps.antt says of such records. Assumes nothing.
use Rattle.std.specs.Prelude.{◌≡◌, refl, List, [], ◌∷◌, Bool, true, false}
use Rattle.std.proofs.Common.{sym, ◌∙◌}
use Rattle.std.proofs.lemmas.Bool.{false≢true}
use Rattle.std.proofs.Math.Option.{none}
use Rattle.limits.specs.Limits.{max_entries, policy_bytes}
use Rattle.lists.specs.Lists.{All, nil, more}
use Rattle.slices.specs.Bytes.{Bytes}
use Rattle.slices.specs.Chunks.{contains}
use Rattle.entry.specs.FirstEdition.{sign_in_trigger}
use Rattle.policy.specs.Policy.{policy_valid}
use Rattle.status.specs.declared.Status.TheVariants.{VolumeCorrupted}
use Rattle.rules.specs.Engine.{State, Call, uses, step}
use Rattle.rules.proofs.EngineLaws.{invalid_corrupted}
use Rattle.demand3.specs.OldEntries.{OldEntries}
use Rattle.demand3.proofs.OldDumps.{old_records}

none_among : (es : List Bytes) → All (λ e. sign_in_trigger e ≡ false) es → contains sign_in_trigger es ≡ false
unfolding contains
none_among [] nil = refl
none_among (e ∷ es) (more h a) = rw h (none_among es a)

-- AND WITH '#' IN THE NAME OF ONE OF ITS TRIGGERS IT IS 10 in every call that is lent it and is no start
pub old_record_corrupted : (s : State) (es : List Bytes) → OldEntries max_entries policy_bytes s.policy es → contains sign_in_trigger es ≡ true
    → (c : Call) → (uses c).lent.policy ≡ true → (uses c).hands_back ≡ none → (step s c).0.status ≡ VolumeCorrupted
old_record_corrupted s es held h c l n = invalid_corrupted s c l n (go (policy_valid s.policy) refl)
  where
    go : (b : Bool) → policy_valid s.policy ≡ b → b ≡ false
    go true v = absurd (false≢true (sym (none_among es ((old_records s.policy es held).0 v)) ∙ h))
    go false v = refl
