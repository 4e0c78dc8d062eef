-- The group of an entry, a number that entries which quarrel have in common, so that a walk over pairs need look at no others.
-- Assumes nothing: these are definitions.
use Rattle.std.specs.Prelude.{ℕ, ◌+◌, ◌*◌, ◌/◌, ◌%◌, ◌≤◌, ◌<◌, ◌≡◌, List, [], true, cond, length, get_or, take, set, eqb}
use Rattle.std.specs.Int.Bits.{bit_and, bit_xor}
use Rattle.limits.specs.Limits.{max_entries}
use Rattle.slices.specs.Bytes.{Bytes, le32}
use Rattle.names.specs.Name.{units, wildcards}
use Rattle.patterns.specs.Common.{same_signs}
use Rattle.entry.specs.Entry.{namespace_of, name_of}

-- how many groups there are; no entry without '#' is in one of them
abbrev pub groups : ℕ
groups = 256

-- by the first bytes of the namespace and the length of the name
abbrev pub group_by : ℕ → ℕ → ℕ
group_by start size = (start + 4099 * size) % 4294967296 * 2654435761 / 16777216 % groups

unfoldable pub group_of : Bytes → ℕ
group_of e =
    cond (eqb (wildcards (units (name_of e))) 0) groups
    (group_by (le32 (namespace_of e) 0) (length (name_of e)))

abbrev pub group_at : List Bytes → ℕ → ℕ
group_at es i = group_of (get_or es i [])

-- two places of one group
pub record InGroup (es : List Bytes) (i j : ℕ) : Type 0 where
  pub order : i < j
  pub within : j < length es
  pub grouped : group_at es i < groups
  pub one : group_at es j ≡ group_at es i

-- every place of a chain is followed by one behind it, up to the end of all chains
abbrev pub Rises : List ℕ → Type 0
Rises next = (k : ℕ) → k < max_entries → (k < get_or next k 0) × (get_or next k 0 ≤ max_entries)

-- ---- chains: from each place to the next one of its group, given the group of each of n places
module _ (group : ℕ → ℕ) (n : ℕ) where
  -- the next place behind i of its group is t; none if t is n or more
  pub record Next (i t : ℕ) : Type 0 where
    pub alone : (k : ℕ) → i < k → k < n → k < t → group k ≡ group i → ⊥
    pub alike : t < n → (i < t) × (group t ≡ group i)

  -- of the places from i on: where the next one of its group is; places before i, and those in no group, are at the end of a chain
  pub record Chains (next : List ℕ) (i : ℕ) : Type 0 where
    pub room : length next ≡ max_entries
    pub linked : (k : ℕ) → i ≤ k → k < n → group k < groups → Next k (get_or next k 0)
    pub single : (k : ℕ) → i ≤ k → k < n → groups ≤ group k → n ≤ get_or next k 0
    pub before : (k : ℕ) → k < i → n ≤ get_or next k 0
    pub rises : Rises next

-- of the entries from place i on: the first one behind each, of its group, that has '#' at other places; places before i, and those in no group, are at
-- the end of a chain
pub record Others (es : List Bytes) (first : List ℕ) (i : ℕ) : Type 0 where
  pub room : length first ≡ max_entries
  pub alike : (k y : ℕ) → i ≤ k → k < y → y < length es → y < get_or first k 0 → group_at es k < groups → group_at es y ≡ group_at es k
      → same_signs (name_of (get_or es k [])) (name_of (get_or es y [])) ≡ true
  pub there : (k : ℕ) → i ≤ k → k < length es → group_at es k < groups → get_or first k 0 < length es → (k < get_or first k 0) × (group_at es (get_or first k 0) ≡ group_at es k)
  pub single : (k : ℕ) → i ≤ k → k < length es → groups ≤ group_at es k → length es ≤ get_or first k 0
  pub before : (k : ℕ) → k < i → length es ≤ get_or first k 0

-- ---- numbers noted for each entry from place i on that is in a group: one of its name's first four units, and behind those of all entries one of its last four.
-- Between the two stands a zero, at the end of all chains.
abbrev pub front : Bytes → Bytes
front p = take 8 p

-- how many there are, and where those of the last units begin
abbrev pub notes : ℕ
notes = 2 * max_entries + 1

abbrev pub tails_at : ℕ
tails_at = max_entries + 1

-- a list with these numbers of a name noted for place k
abbrev pub noted_for : (Bytes → ℕ) → List ℕ → ℕ → Bytes → List ℕ
noted_for of l k name = set (set l k (of (front name))) (tails_at + k) (of name)

pub record Noted (of : Bytes → ℕ) (es : List Bytes) (l : List ℕ) (i : ℕ) : Type 0 where
  pub room : length l ≡ notes
  pub fronts : (k : ℕ) → i ≤ k → k < length es → group_at es k < groups → get_or l k 0 ≡ of (front (name_of (get_or es k [])))
  pub end : get_or l max_entries 0 ≡ 0
  pub tails : (k : ℕ) → i ≤ k → k < length es → group_at es k < groups → get_or l (tails_at + k) 0 ≡ of (name_of (get_or es k []))

-- ---- a walk along a chain past places that differ from one entry: `mask` and `own` were noted of it
-- the bits in which the entry differs from the one at place j, among those that count of both
abbrev pub differing : List ℕ → List ℕ → ℕ → ℕ → ℕ → ℕ
differing masks shown own mask j = bit_and (bit_and (bit_xor (get_or shown j 0) own) (get_or masks j 0)) mask

-- from a place on it comes to these
pub data Skipped (next masks shown : List ℕ) (own mask from : ℕ) : ℕ → Type 0 where
  stay : Skipped next masks shown own mask from from
  on : {j : ℕ} → Skipped next masks shown own mask from j → j < max_entries → (differing masks shown own mask j ≡ 0 → ⊥) → Skipped next masks shown own mask from (get_or next j 0)
