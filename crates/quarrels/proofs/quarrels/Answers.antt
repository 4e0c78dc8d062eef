use mathlib.Core.Path.{◌≡◌, sym, ap, ◌∙◌}
use native.Mathlib.Omega.{arith}
use Rattle.entry.specs.Entry.{name_of}
use Rattle.policy.specs.Policy.{entries_of}
use Rattle.policy.proofs.DumpLaws.{DumpChecked, dump_check_valid, dump_check_invalid}
use Rattle.std.specs.Prelude.{Some}
use Rattle.quarrels.specs.Pairs.{pair}
use Rattle.quarrels.specs.Quarrel.{pair_of}
use Rattle.quarrels.proofs.QuarrelLaws.{at}
use Rattle.quarrels.proofs.Answers.{no_dump_lem, no_quarrel_lem, places, names_fit, found}
use Rattle.quarrels.proofs.quarrels.Goals as goal

pub returns-in_default : goal.returns-in_default
returns-in_default c =
    let both = no_dump_lem c.args.dump.now c.args.name.now (dump_check_invalid c.args.dump.now (sym c.check_dump.ensures.answer ∙ c.in_default.is)) in record { answer = both.0; buffer = both.1 }

pub invariant_of-entries : goal.invariant_of-entries
invariant_of-entries c =
    let checked : DumpChecked c.args.dump.now c.in-Some.extent.count = dump_check_valid _ _ (sym c.check_dump.ensures.answer ∙ c.in-Some.is) in
    record { counted = (checked).counted; noted = c.check_dump.ensures.noted (checked).valid }

pub invariant_of-pair_of : goal.invariant_of-pair_of
invariant_of-pair_of c =
    let checked : DumpChecked c.args.dump.now c.in-Some.extent.count = dump_check_valid _ _ (sym c.check_dump.ensures.answer ∙ c.in-Some.is) in
    record { valid = (checked).valid; fit = λ k. omega (arith, c.type_inv.dump k) }

pub returns-in_default-pair_of : goal.returns-in_default-pair_of
returns-in_default-pair_of c =
    let checked : DumpChecked c.args.dump.now c.in-Some.extent.count = dump_check_valid _ _ (sym c.check_dump.ensures.answer ∙ c.in-Some.is) in
    let both = no_quarrel_lem c.args.dump.now (checked).valid c.args.name.now (sym c.pair_of.ensures ∙ c.in_default-pair_of.is) in record { answer = both.0; buffer = both.1 }

pub get-requires : goal.get-requires
get-requires c =
    let checked : DumpChecked c.args.dump.now c.in-Some.extent.count = dump_check_valid _ _ (sym c.check_dump.ensures.answer ∙ c.in-Some.is) in
    let pair_is : pair_of (entries_of c.args.dump.now) ≡ Some (pair c.in-Some-pair_of.pair.earlier c.in-Some-pair_of.pair.later) = sym c.pair_of.ensures ∙ c.in-Some-pair_of.is in
    rw (checked).counted (places c.args.dump.now (checked).valid _ _ (pair_is)).0

pub get-requires-2 : goal.get-requires-2
get-requires-2 c =
    let checked : DumpChecked c.args.dump.now c.in-Some.extent.count = dump_check_valid _ _ (sym c.check_dump.ensures.answer ∙ c.in-Some.is) in
    let pair_is : pair_of (entries_of c.args.dump.now) ≡ Some (pair c.in-Some-pair_of.pair.earlier c.in-Some-pair_of.pair.later) = sym c.pair_of.ensures ∙ c.in-Some-pair_of.is in
    rw (checked).counted (places c.args.dump.now (checked).valid _ _ (pair_is)).1

pub put_least-requires : goal.put_least-requires
put_least-requires c =
    let checked : DumpChecked c.args.dump.now c.in-Some.extent.count = dump_check_valid _ _ (sym c.check_dump.ensures.answer ∙ c.in-Some.is) in
    let pair_is : pair_of (entries_of c.args.dump.now) ≡ Some (pair c.in-Some-pair_of.pair.earlier c.in-Some-pair_of.pair.later) = sym c.pair_of.ensures ∙ c.in-Some-pair_of.is in
    let earlier-name : c.name-own.result.now ≡ name_of (at (entries_of c.args.dump.now) c.in-Some-pair_of.pair.earlier) = c.name-own.ensures ∙ ap name_of c.get.ensures in
    let later-name : c.name-other.result.now ≡ name_of (at (entries_of c.args.dump.now) c.in-Some-pair_of.pair.later) = c.name-other.ensures ∙ ap name_of c.get-2.ensures in
    let f = names_fit c.args.dump.now (checked).valid _ _ (pair_is) (earlier-name) (later-name) in
    (f.0, omega (arith, f.1, c.put_least-arg-1.given.0.1))

pub returns : goal.returns
returns c =
    let checked : DumpChecked c.args.dump.now c.in-Some.extent.count = dump_check_valid _ _ (sym c.check_dump.ensures.answer ∙ c.in-Some.is) in
    let pair_is : pair_of (entries_of c.args.dump.now) ≡ Some (pair c.in-Some-pair_of.pair.earlier c.in-Some-pair_of.pair.later) = sym c.pair_of.ensures ∙ c.in-Some-pair_of.is in
    let earlier-name : c.name-own.result.now ≡ name_of (at (entries_of c.args.dump.now) c.in-Some-pair_of.pair.earlier) = c.name-own.ensures ∙ ap name_of c.get.ensures in
    let later-name : c.name-other.result.now ≡ name_of (at (entries_of c.args.dump.now) c.in-Some-pair_of.pair.later) = c.name-other.ensures ∙ ap name_of c.get-2.ensures in
    let both = found c.args.dump.now (checked).valid _ _ (pair_is) (earlier-name) (later-name) c.args.name.now c.put_least.ensures in record { answer = both.0; buffer = both.1 }
