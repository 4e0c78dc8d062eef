use Rattle.engine.proofs.Registered.{register_invalid, register_exited_lem, register_refused, register_granted}
use Rattle.engine.proofs.Checked.{parse_formed, parse_malformed, register_locked_lem, register_malformed_lem, register_repeated_lem, register_many, register_long, register_done_lem}
use Rattle.status.specs.declared.Status.TheVariants.{WriteProtected, InvalidParameter, AlreadyStarted, OutOfResources}
use Rattle.policy.proofs.PolicyLaws.{Checked, sizes_sum-flat, sizes_sum-within, policy_valid-length, check_valid, check_invalid}
use Rattle.policy.specs.Policy.{entries_of}
use Rattle.entry.proofs.EntryLaws.{sized}
use Rattle.slices.specs.Chunks.{flat, contains}
use Rattle.limits.specs.Limits.{max_entries, policy_bytes}
use Rattle.slices.specs.Bytes.{Bytes}
use Rattle.entry.specs.Entry.{well_formed, same_target}
use lib.ListN.{length}
use native.Mathlib.Omega.{arith}
use Prim.Native.Nat.{◌+◌, ◌≤◌, ◌<◌}
use mathlib.Core.Path.{◌≡◌, refl, sym, ◌∙◌}
use mathlib.Core.Bool.{true, false}
use Rattle.engine.proofs.register.Goals as goal

pub returns-in_default : goal.returns-in_default
returns-in_default c = register_invalid _ _ _ (check_invalid _ (sym c.check.ensures ∙ c.in_default.is))

pub returns-then-switches : goal.returns-then-switches
returns-then-switches c =
    let Policy : Bytes = c.args.policy.now in
    let valid : Checked (Policy) c.in-Some.extent.count c.in-Some.extent.used = check_valid _ _ (sym c.check.ensures ∙ c.in-Some.is) in
    register_exited_lem _ _ _ (valid).valid c.if-switches.true

pub returns-then-switches-2 : goal.returns-then-switches-2
returns-then-switches-2 c =
    let Policy : Bytes = c.args.policy.now in
    let valid : Checked (Policy) c.in-Some.extent.count c.in-Some.extent.used = check_valid _ _ (sym c.check.ensures ∙ c.in-Some.is) in
    register_refused _ _ _ (valid).valid c.if-switches.false WriteProtected refl (register_locked_lem _ _ _ c.if-switches-2.true)

pub returns-in_default-parse : goal.returns-in_default-parse
returns-in_default-parse c =
    let Policy : Bytes = c.args.policy.now in
    let valid : Checked (Policy) c.in-Some.extent.count c.in-Some.extent.used = check_valid _ _ (sym c.check.ensures ∙ c.in-Some.is) in
    register_refused _ _ _ (valid).valid c.if-switches.false InvalidParameter refl
    (register_malformed_lem _ _ _ c.if-switches-2.false (parse_malformed _ (sym c.parse.ensures ∙ c.in_default-parse.is)))

pub invariant_of-entry : goal.invariant_of-entry
invariant_of-entry c = record { formed = parse_formed _ _ (sym c.parse.ensures ∙ c.in-Some-parse.is) }

pub contains-requires : goal.contains-requires
contains-requires c =
    let Policy : Bytes = c.args.policy.now in
    let Entry : Bytes = c.args.entry.now in
    let valid : Checked (Policy) c.in-Some.extent.count c.in-Some.extent.used = check_valid _ _ (sym c.check.ensures ∙ c.in-Some.is) in
    let formed : well_formed (Entry) ≡ true = parse_formed _ _ (sym c.parse.ensures ∙ c.in-Some-parse.is) in
    (valid).counted

pub returns-then-contains : goal.returns-then-contains
returns-then-contains c =
    let Policy : Bytes = c.args.policy.now in
    let Entry : Bytes = c.args.entry.now in
    let valid : Checked (Policy) c.in-Some.extent.count c.in-Some.extent.used = check_valid _ _ (sym c.check.ensures ∙ c.in-Some.is) in
    let formed : well_formed (Entry) ≡ true = parse_formed _ _ (sym c.parse.ensures ∙ c.in-Some-parse.is) in
    register_refused _ _ _ (valid).valid c.if-switches.false AlreadyStarted refl
    (register_repeated_lem _ _ _ c.if-switches-2.false (formed) (sym c.contains.ensures ∙ c.if-contains.true))

pub returns-then-extent-ge-MAX_ENTRIES : goal.returns-then-extent-ge-MAX_ENTRIES
returns-then-extent-ge-MAX_ENTRIES c =
    let Policy : Bytes = c.args.policy.now in
    let Entry : Bytes = c.args.entry.now in
    let valid : Checked (Policy) c.in-Some.extent.count c.in-Some.extent.used = check_valid _ _ (sym c.check.ensures ∙ c.in-Some.is) in
    let formed : well_formed (Entry) ≡ true = parse_formed _ _ (sym c.parse.ensures ∙ c.in-Some-parse.is) in
    let new : contains (same_target (Entry)) (entries_of (Policy)) ≡ false = sym c.contains.ensures ∙ c.if-contains.false in
    let k = valid in
    let m : max_entries ≤ length (entries_of (Policy)) = omega (arith, k.counted, c.if-extent-ge-MAX_ENTRIES.true) in
    register_refused _ _ _ k.valid c.if-switches.false OutOfResources refl (register_many _ _ _ c.if-switches-2.false (formed) (new) m)

pub overflow_add-extent : goal.overflow_add-extent
overflow_add-extent c =
    let Policy : Bytes = c.args.policy.now in
    let Entry : Bytes = c.args.entry.now in
    let valid : Checked (Policy) c.in-Some.extent.count c.in-Some.extent.used = check_valid _ _ (sym c.check.ensures ∙ c.in-Some.is) in
    let formed : well_formed (Entry) ≡ true = parse_formed _ _ (sym c.parse.ensures ∙ c.in-Some-parse.is) in
    let k = valid in
    omega (arith, k.summed, sizes_sum-within (Policy), policy_valid-length (Policy) k.valid, (sized (Entry) (formed)).most)

pub returns-then-extent-entry-gt-POLICY_BYTES : goal.returns-then-extent-entry-gt-POLICY_BYTES
returns-then-extent-entry-gt-POLICY_BYTES c =
    let Policy : Bytes = c.args.policy.now in
    let Entry : Bytes = c.args.entry.now in
    let valid : Checked (Policy) c.in-Some.extent.count c.in-Some.extent.used = check_valid _ _ (sym c.check.ensures ∙ c.in-Some.is) in
    let formed : well_formed (Entry) ≡ true = parse_formed _ _ (sym c.parse.ensures ∙ c.in-Some-parse.is) in
    let new : contains (same_target (Entry)) (entries_of (Policy)) ≡ false = sym c.contains.ensures ∙ c.if-contains.false in
    let k = valid in
    let m : policy_bytes < length (flat (entries_of (Policy))) + length (Entry) = omega (arith, k.summed, sizes_sum-flat (Policy), c.if-extent-entry-gt-POLICY_BYTES.true) in
    register_refused _ _ _ k.valid c.if-switches.false OutOfResources refl (register_long _ _ _ c.if-switches-2.false (formed) (new) m)

pub append-requires : goal.append-requires
append-requires c =
    let Policy : Bytes = c.args.policy.now in
    let valid : Checked (Policy) c.in-Some.extent.count c.in-Some.extent.used = check_valid _ _ (sym c.check.ensures ∙ c.in-Some.is) in
    let k = valid in
    (k.valid, k.summed, omega (arith, c.if-extent-entry-gt-POLICY_BYTES.false))

pub returns : goal.returns
returns c =
    let Policy : Bytes = c.args.policy.now in
    let Entry : Bytes = c.args.entry.now in
    let valid : Checked (Policy) c.in-Some.extent.count c.in-Some.extent.used = check_valid _ _ (sym c.check.ensures ∙ c.in-Some.is) in
    let formed : well_formed (Entry) ≡ true = parse_formed _ _ (sym c.parse.ensures ∙ c.in-Some-parse.is) in
    let new : contains (same_target (Entry)) (entries_of (Policy)) ≡ false = sym c.contains.ensures ∙ c.if-contains.false in
    let k = valid in
    let m : length (entries_of (Policy)) < max_entries = omega (arith, k.counted, c.if-extent-ge-MAX_ENTRIES.false) in
    let l : length (flat (entries_of (Policy))) + length (Entry) ≤ policy_bytes = omega (arith, k.summed, sizes_sum-flat (Policy), c.if-extent-entry-gt-POLICY_BYTES.false) in
    register_granted _ _ _ k.valid c.if-switches.false (register_done_lem _ _ _ c.if-switches-2.false (formed) (new) m l) c.append.ensures
