use Prim.Native.Nat.{◌+◌, ◌-◌, ◌≤◌, ◌<◌}
use mathlib.Core.Path.{◌≡◌, refl, ap, ◌∙◌}
use mathlib.Core.List.{List}
use mathlib.Core.Bool.{true}
use native.Mathlib.Omega.{arith}
use lib.ListN.{length}
use lib.Dec.{ltb}
use Rattle.limits.specs.Limits.{max_entries}
use Rattle.slices.specs.Test.{◌and◌}
use Rattle.slices.specs.Bytes.{Bytes}
use Rattle.patterns.specs.Common.{same_signs}
use Rattle.entry.specs.Entry.{name_of}
use Rattle.policy.specs.Policy.{entries_of}
use Rattle.quarrels.proofs.QuarrelLaws.{at}
use Rattle.quarrels.specs.Group.{group_of, group_at}
use Rattle.quarrels.proofs.Linked.{Linked, linked_none, linked_next, linked_skip, linked_back, alike_yes, alike_under}
use Rattle.quarrels.proofs.link.Goals as goal

pub loop-i-init : goal.loop-i-init
loop-i-init c =
    linked_none (entries_of c.args.entries.bytes.now) c.args.entries.noted.few c.args.links.now.next c.args.links.now.first c.args.noted.now.masks c.args.noted.now.shown c.no_heads-heads.ensures c.args.entries.counted c.requires.0 c.requires.1 c.requires.2 c.requires.3

pub bounds-links-other : goal.bounds-links-other
bounds-links-other c =
    let Es : List Bytes = entries_of c.args.entries.bytes.now in
    let few : length (Es) ≤ max_entries = c.args.entries.noted.few in
    let alike-there : (ltb c.place-other.result (length (Es))
    and same_signs c.name-name.result.now (name_of (at (Es) c.place-other.result))) ≡ true = alike_yes _ _ c.args.entries.counted c.alike.ensures c.if-alike.true in
    let other-under : c.place-other.result < max_entries = let u = alike_under (length (Es)) c.place-other.result _ (alike-there) in
    omega (arith, u, few) in
    other-under

pub loop-i-preserved-then-alike : goal.loop-i-preserved-then-alike
loop-i-preserved-then-alike c =
    let Es : List Bytes = entries_of c.args.entries.bytes.now in
    let few : length (Es) ≤ max_entries = c.args.entries.noted.few in
    let begun : Linked (Es) c.loop-i.heads c.loop-i.links.next c.loop-i.links.first c.loop-i.noted.masks c.loop-i.noted.shown (c.loop-i.i - 1 + 1) = linked_back c.loop-i.i c.loop-i-test.true c.loop-i.invariant in
    let group-is : c.in-Some.group ≡ group_at (Es) (c.loop-i.i - 1) = c.in-Some.ensures.0 ∙ ap group_of c.get-e.ensures in
    let name_is : c.name-name.result.now ≡ name_of (at (Es) (c.loop-i.i - 1)) = c.name-name.ensures ∙ ap name_of c.get-e.ensures in
    let alike-there : (ltb c.place-other.result (length (Es))
    and same_signs c.name-name.result.now (name_of (at (Es) c.place-other.result))) ≡ true = alike_yes _ _ c.args.entries.counted c.alike.ensures c.if-alike.true in
    let l = c.loop-i in
    linked_skip (Es) (few) l.heads l.links.next l.links.first l.noted.masks l.noted.shown (l.i - 1) (begun) (group-is) c.in-Some.ensures.1 (name_is) c.note.ensures.masked c.note.ensures.shown
    c.place-other.ensures (alike-there) refl

pub loop-i-preserved-else-alike : goal.loop-i-preserved-else-alike
loop-i-preserved-else-alike c =
    let Es : List Bytes = entries_of c.args.entries.bytes.now in
    let few : length (Es) ≤ max_entries = c.args.entries.noted.few in
    let begun : Linked (Es) c.loop-i.heads c.loop-i.links.next c.loop-i.links.first c.loop-i.noted.masks c.loop-i.noted.shown (c.loop-i.i - 1 + 1) = linked_back c.loop-i.i c.loop-i-test.true c.loop-i.invariant in
    let group-is : c.in-Some.group ≡ group_at (Es) (c.loop-i.i - 1) = c.in-Some.ensures.0 ∙ ap group_of c.get-e.ensures in
    let name_is : c.name-name.result.now ≡ name_of (at (Es) (c.loop-i.i - 1)) = c.name-name.ensures ∙ ap name_of c.get-e.ensures in
    let l = c.loop-i in
    linked_next (Es) (few) l.heads l.links.next l.links.first l.noted.masks l.noted.shown (l.i - 1) (begun) (group-is) c.in-Some.ensures.1 (name_is) c.note.ensures.masked c.note.ensures.shown
