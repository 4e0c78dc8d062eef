use mathlib.Core.Path.{sym, ap, ◌∙◌}
use mathlib.Core.List.{[]}
use mathlib.Core.Bool.{false≢true}
use denote.Enum.Bare.{sameb, same_true}
use borrow.Author.Rules.{rules}
use Rattle.status.specs.contracts.Status.{the_type}
use Rattle.status.specs.declared.Status.TheVariants.{VolumeCorrupted}
use Rattle.phases.proofs.Written.{corrupted_name, refused_name}
use Rattle.phases.proofs.bad_name.Goals as goal

pub returns-then-eq : goal.returns-then-eq
returns-then-eq c =
    corrupted_name _ _ _ _ c.dump-answer.result (c.dump-answer.ensures [] []) (same_true the_type (search rules) _ _ (sym c.if-eq.ensures))

pub returns : goal.returns
returns c =
    refused_name _ _ _ _ c.dump-answer.result (c.dump-answer.ensures [] [])
    (λ h. false≢true (c.if-eq.ensures ∙ ap (λ s. sameb the_type s VolumeCorrupted) h))
