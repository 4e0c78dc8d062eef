use mathlib.Core.Path.{sym, ◌∙◌}
use Rattle.patterns.specs.Literals.{literal_mask_of, literals_of}
use Rattle.policy.specs.Policy.{entries_of}
use Rattle.quarrels.specs.Group.{group_at}
use Rattle.quarrels.proofs.Chains.{no_chains}
use Rattle.quarrels.proofs.Linked.{no_others, no_notes}
use Rattle.quarrels.proofs.Places.{none_signed}
use Rattle.quarrels.proofs.pair_of.Goals as goal

pub returns-then-not-has_sign : goal.returns-then-not-has_sign
returns-then-not-has_sign c =
    none_signed c.args.dump.entries.bytes.now c.args.dump.valid c.args.dump.fit (sym c.has_sign.ensures ∙ c.if-not-has_sign.true)

pub link-requires : goal.link-requires
link-requires c =
    let es = entries_of c.args.dump.entries.bytes.now in (
      no_chains (group_at es) _ c.no_links-links.ensures.0 c.args.dump.entries.noted.few,
      no_others es c.args.dump.entries.noted.few c.no_links-links.ensures.1,
      no_notes es c.args.dump.entries.noted.few literal_mask_of c.no_notes-notes.ensures.0,
      no_notes es c.args.dump.entries.noted.few literals_of c.no_notes-notes.ensures.1,
    )
