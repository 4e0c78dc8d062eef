use Rattle.engine.proofs.Registered.{dump_invalid, dump_exited_lem, dump_needs, dump_granted_lem}
use Rattle.engine.proofs.Checked.{dump_short_lem, dump_done_lem}
use Rattle.policy.proofs.PolicyLaws.{Checked, sizes_sum-flat, check_valid, check_invalid}
use Rattle.policy.specs.Policy.{entries_of}
use Rattle.slices.specs.Chunks.{flat}
use Rattle.slices.specs.Bytes.{Bytes}
use lib.ListN.{length}
use native.Mathlib.Omega.{arith}
use Prim.Native.Nat.{◌≤◌, ◌<◌}
use mathlib.Core.Path.{sym, ◌∙◌}
use Rattle.engine.proofs.dump.Goals as goal

pub returns-in_default : goal.returns-in_default
returns-in_default c = dump_invalid _ _ _ (check_invalid _ (sym c.check.ensures ∙ c.in_default.is))

pub returns-then-switches : goal.returns-then-switches
returns-then-switches c =
    let Policy : Bytes = c.args.policy.now in
    let valid : Checked (Policy) c.in-Some.extent.count c.in-Some.extent.used = check_valid _ _ (sym c.check.ensures ∙ c.in-Some.is) in
    dump_exited_lem _ _ _ (valid).valid c.if-switches.true

pub returns-then-buffer-extent : goal.returns-then-buffer-extent
returns-then-buffer-extent c =
    let Policy : Bytes = c.args.policy.now in
    let Buffer : Bytes = c.args.buffer.now in
    let valid : Checked (Policy) c.in-Some.extent.count c.in-Some.extent.used = check_valid _ _ (sym c.check.ensures ∙ c.in-Some.is) in
    let k = valid in
    let m : length (Buffer) < length (flat (entries_of (Policy))) = omega (arith, k.summed, sizes_sum-flat (Policy), c.if-buffer-extent.true) in
    dump_needs _ _ _ k.valid c.if-switches.false k.summed (dump_short_lem _ _ m)

pub dump_into-requires : goal.dump_into-requires
dump_into-requires c =
    let Policy : Bytes = c.args.policy.now in
    let valid : Checked (Policy) c.in-Some.extent.count c.in-Some.extent.used = check_valid _ _ (sym c.check.ensures ∙ c.in-Some.is) in
    let k = valid in (k.summed, omega (arith, c.if-buffer-extent.false))

pub returns : goal.returns
returns c =
    let Policy : Bytes = c.args.policy.now in
    let Buffer : Bytes = c.args.buffer.now in
    let valid : Checked (Policy) c.in-Some.extent.count c.in-Some.extent.used = check_valid _ _ (sym c.check.ensures ∙ c.in-Some.is) in
    let k = valid in
    let m : length (flat (entries_of (Policy))) ≤ length (Buffer) = omega (arith, k.summed, sizes_sum-flat (Policy), c.if-buffer-extent.false) in
    dump_granted_lem _ _ _ k.valid c.if-switches.false k.summed (dump_done_lem _ _ m) c.dump_into.ensures
