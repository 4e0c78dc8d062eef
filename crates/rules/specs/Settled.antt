-- Settled variables (RULES.md, 10.14): whether a variable is settled asks whether its lock holds, and that asks whether another variable is settled.
-- Assumes nothing: these are definitions.
use Rattle.std.specs.Prelude.{ℕ, zero, suc, ◌≡◌, refl, Bool, true, false}
use Rattle.std.proofs.Math.Option.{Option, none, some}
use Rattle.slices.specs.Test.{◌and◌}
use Rattle.slices.specs.Bytes.{Bytes}
use Rattle.names.specs.Name.{Variable}
use Rattle.entry.specs.Entry.{lock_of, trigger_of}
use Rattle.entry.specs.declared.LockRule.{LockRule}
use Rattle.entry.specs.declared.LockRule.TheVariants.{NoLock, LockNow, LockOnCreate, LockOnVarState}
use Rattle.rules.specs.Set.{Lookup, locks}

-- a variable's chosen entry, if one is chosen
abbrev pub Choice : Type 0
Choice = Variable → Option Bytes

-- what a lock rests on: of type 3 that its trigger's variable is settled, of the others nothing
abbrev pub rests_on : LockRule → Bool → Bool
rests_on NoLock triggerSettled = true
rests_on LockNow triggerSettled = true
rests_on LockOnCreate triggerSettled = true
rests_on (LockOnVarState t) triggerSettled = triggerSettled

-- the lock of the entry e holds: it locks its variable (RULES.md, 5), and what it rests on is so; `settled` tells which variables are settled
unfoldable pub lock_holds_by : (Variable → Bool) → Lookup → Bytes → Variable → Bool
lock_holds_by settled found e v = locks e found v and rests_on (lock_of e) (settled (trigger_of e))

-- a variable is settled if it has a chosen entry whose lock holds; `holds` tells which locks do
abbrev pub settled_by : (Bytes → Bool) → Option Bytes → Bool
settled_by holds none = false
settled_by holds (some e) = holds e

-- THE LOCK HOLDS, with n links left: without one, no trigger's variable is settled
unfoldable pub lock_holds_in : ℕ → Choice → Lookup → Bytes → Variable → Bool
lock_holds_in zero choice found e v = lock_holds_by (λ u. false) found e v
lock_holds_in (suc n) choice found e v = lock_holds_by (λ u. settled_by (λ f. lock_holds_in n choice found f u) (choice u)) found e v

-- SETTLED, with n links left
unfoldable pub settled_in : ℕ → Choice → Lookup → Variable → Bool
settled_in n choice found v = settled_by (λ e. lock_holds_in n choice found e v) (choice v)

-- The two are mutual: each asks the other, and a link falls. A recursion of definitions has to go to a part in each call, so that one of them is written with
-- the other in it; these are the equations by which to read them.
pub settled_asks : (n : ℕ) (choice : Choice) (found : Lookup) (v : Variable) → settled_in n choice found v ≡ settled_by (λ e. lock_holds_in n choice found e v) (choice v)
unfolding settled_in
settled_asks n choice found v = refl

pub lock_asks : (n : ℕ) (choice : Choice) (found : Lookup) (e : Bytes) (v : Variable) → lock_holds_in (suc n) choice found e v ≡ lock_holds_by (settled_in n choice found) found e v
unfolding lock_holds_in settled_in
lock_asks n choice found e v = refl

pub lock_asks_none : (choice : Choice) (found : Lookup) (e : Bytes) (v : Variable) → lock_holds_in 0 choice found e v ≡ lock_holds_by (λ u. false) found e v
unfolding lock_holds_in
lock_asks_none choice found e v = refl
