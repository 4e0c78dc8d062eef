-- The statuses of register and dump, by what the code found. Assumes nothing.
use Prim.Native.Nat.{suc, ◌+◌, ◌≤◌, ◌<◌}
use mathlib.Core.Path.{◌≡◌, refl, ap, ◌∙◌}
use mathlib.Core.List.{List}
use mathlib.Core.Bool.{Bool, true, false, cond}
use native.Mathlib.Omega.{arith}
use lib.ListN.{length}
use borrow.Author.Tests.{le-leb, lt-leb}
use Rattle.limits.specs.Limits.{max_entries, policy_bytes}
use Rattle.slices.specs.Test.{◌and◌}
use Rattle.slices.proofs.TestLaws.{and_no}
use Rattle.slices.specs.Bytes.{Bytes}
use Rattle.slices.specs.Chunks.{flat, contains}
use Rattle.entry.specs.Entry.{well_formed, entry_of, parse, same_target}
use Rattle.entry.specs.declared.Entry.{Entry}
use Rattle.std.specs.Prelude.{Option, Some, None}
use Rattle.policy.specs.Policy.{policy_valid}
use Rattle.status.specs.declared.Status.{Status}
use Rattle.status.specs.declared.Status.TheVariants.{Success, InvalidParameter, Unsupported, BufferTooSmall, WriteProtected, OutOfResources, VolumeCorrupted, AlreadyStarted}
use Rattle.switches.specs.declared.Switches.{Switches}
use Rattle.switches.specs.Switches.{unless_exited}
use Rattle.rules.specs.Engine.{register_status, dump_status}

-- what reading an entry tells
pub parse_formed : (e : Bytes) (x : Entry) → parse e ≡ Some x → well_formed e ≡ true
unfolding parse
parse_formed e x h = go (well_formed e) refl h
  where
    go : (b : Bool) → well_formed e ≡ b → cond b (Some (entry_of e)) None ≡ Some x → well_formed e ≡ true
    go true k l = k
    go false k l = let z : ◌≡◌ {A = Option Entry} None (Some x) = l in absurd (let y : ◌≡◌ {A = Option Entry} None (Some x) = z in cc)

pub parse_malformed : (e : Bytes) → parse e ≡ None → well_formed e ≡ false
unfolding parse
parse_malformed e h = go (well_formed e) refl h
  where
    go : (b : Bool) → well_formed e ≡ b → cond b (Some (entry_of e)) None ≡ None → well_formed e ≡ false
    go true k l = absurd (let y : ◌≡◌ {A = Option Entry} (Some (entry_of e)) None = l in cc)
    go false k l = k

-- a call that is lent the record, by the check
pub lent_invalid : (p : Bytes) (n : Status) → policy_valid p ≡ false → cond (policy_valid p) n VolumeCorrupted ≡ VolumeCorrupted
lent_invalid p n h = ap (λ b. cond b n VolumeCorrupted) h

pub lent_valid : (p : Bytes) (n m : Status) → policy_valid p ≡ true → n ≡ m → cond (policy_valid p) n VolumeCorrupted ≡ m
lent_valid p n m h k = ap (λ b. cond b n VolumeCorrupted) h ∙ k

-- a call that is not to be had after exit, by the switch
pub lent_exited : (w : Switches) (n : Status) → w.exited ≡ true → unless_exited w n ≡ Unsupported
lent_exited w n h = ap (λ b. cond b Unsupported n) h

pub lent_before : (w : Switches) (n m : Status) → w.exited ≡ false → n ≡ m → unless_exited w n ≡ m
lent_before w n m h k = ap (λ b. cond b Unsupported n) h ∙ k

-- the statuses of register, in their order
module _ (locked : Bool) (es : List Bytes) (e : Bytes) where
  pub register_locked_lem : locked ≡ true → register_status locked es e ≡ WriteProtected
  unfolding register_status
  register_locked_lem h = simp h

  module _ (h : locked ≡ false) where
    pub register_malformed_lem : well_formed e ≡ false → register_status locked es e ≡ InvalidParameter
    unfolding register_status
    register_malformed_lem k = simp (h, k)

    module _ (k : well_formed e ≡ true) where
      pub register_repeated_lem : contains (same_target e) es ≡ true → register_status locked es e ≡ AlreadyStarted
      unfolding register_status
      register_repeated_lem l = simp (h, k, l)

      module _ (l : contains (same_target e) es ≡ false) where
        pub register_many : max_entries ≤ length es → register_status locked es e ≡ OutOfResources
        unfolding register_status ◌and◌
        register_many m = simp (h, k, l, lt-leb (suc (length es)) max_entries (omega arith))

        pub register_long : policy_bytes < length (flat es) + length e → register_status locked es e ≡ OutOfResources
        unfolding register_status
        register_long m = simp (h, k, l, lt-leb (length (flat es) + length e) policy_bytes m, and_no)

        pub register_done_lem : length es < max_entries → length (flat es) + length e ≤ policy_bytes → register_status locked es e ≡ Success
        unfolding register_status ◌and◌
        register_done_lem m n = simp (h, k, l, le-leb (suc (length es)) max_entries (omega arith), le-leb (length (flat es) + length e) policy_bytes n)

pub dump_short_lem : (es : List Bytes) (b : Bytes) → length b < length (flat es) → dump_status es b ≡ BufferTooSmall
unfolding dump_status
dump_short_lem es b h = simp (lt-leb (length (flat es)) (length b) h)

pub dump_done_lem : (es : List Bytes) (b : Bytes) → length (flat es) ≤ length b → dump_status es b ≡ Success
unfolding dump_status
dump_done_lem es b h = simp (le-leb (length (flat es)) (length b) h)
