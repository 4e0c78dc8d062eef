-- The two limits of the first edition that a later one raised (E5): what a policy record could hold then. Only claims about its dumps use them.
-- Assumes nothing: these are definitions.
use Rattle.std.specs.Prelude.{ℕ}

-- the most entries of an engine
abbrev pub first_max_entries : ℕ
first_max_entries = 64

-- the most that their Sizes sum to, which is the length of the policy record
abbrev pub first_policy_bytes : ℕ
first_policy_bytes = 8192
