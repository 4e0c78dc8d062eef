-- Notes of where the records of a store begin, and what a search by them finds. Assumes nothing: these are definitions.
use Rattle.std.specs.Prelude.{ℕ, suc, ◌+◌, ◌≤◌, ◌<◌, ◌≡◌, List, Bool, true, length, get_or, take, drop, Option}
use Rattle.std.proofs.Math.Option.{some}
use Rattle.lists.specs.Lists.{Among}
use Rattle.slices.specs.Bytes.{Bytes}
use Rattle.names.specs.Name.{Variable}
use Rattle.store.specs.Record.{name_size, data_size, record_size, is_of}
use Rattle.store.specs.Store.{records_of, end_of}
use Rattle.store.specs.Parts.{is_found, record_in, Held}
use Rattle.store.specs.declared.Found.{Found}

abbrev pub keys : ℕ
keys = 1024

-- of each key two
abbrev pub notes : ℕ
notes = 2048

-- a record of the store begins at a
pub record Begins (non_volatile : Bool) (s : Bytes) (a : ℕ) : Type 0 where
  pub within : a ≤ length s
  pub rest : end_of non_volatile s ≡ a + end_of non_volatile (drop a s)
  pub before : a < end_of non_volatile s
  pub stands : Among (take (record_size (name_size (drop a s)) (data_size (drop a s))) (drop a s)) (records_of non_volatile s)

-- a note is 0 for none, or one more than where a record begins
abbrev pub NoteOf : Bool → Bytes → ℕ → Type 0
NoteOf non_volatile s n = (a : ℕ) → n ≡ suc a → Begins non_volatile s a

abbrev pub Noted : Bool → Bytes → List ℕ → Type 0
Noted non_volatile s t = (k : ℕ) → NoteOf non_volatile s (get_or t k 0)

-- what is found is a record of the store and of the variable
pub record Leads (non_volatile : Bool) (s : Bytes) (v : Variable) (o : Option Found) : Type 0 where
  pub found : Bytes
  pub is : record_in s o ≡ some found
  pub own : is_of v found ≡ true
  pub stands : Among found (records_of non_volatile s)
  pub held : Held s o

-- or nothing is found
abbrev pub Tried : Bool → Bytes → Variable → Option Found → Type 0
Tried non_volatile s v o = is_found o ≡ true → Leads non_volatile s v o
