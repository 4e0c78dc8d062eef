use Rattle.std.proofs.Common.{ap, ◌∙◌, ◌+◌, ◌-◌, ◌≤◌, length, arith, length-drop}
use Rattle.patterns.specs.Signs.{has_sign}
use Rattle.patterns.proofs.SignLaws.{last_decides, both_decide}
use Rattle.patterns.proofs.last_signs.Goals as goal

pub returns-in-Some : goal.returns-in-Some
returns-in-Some c =
    let s = c.args.s.now in
    let i = c.requires.0 in
    let r = c.requires in
    let m : i + 16 ≤ length s = omega (arith, c.in-Some.ensures.cases.enough, ap length r.1, length-drop i s) in
    rw (c.eight_signs.ensures, c.eight_signs-in-Some.ensures, c.in-Some.ensures.cases.same, r.1, r.7)
    (both_decide s i (length s - 16) r.5 m (omega (arith, r.4)) (omega (arith, r.3, r.6)) r.2)

pub returns-in-None : goal.returns-in-None
returns-in-None c =
    let s = c.args.s.now in
    let i = c.requires.0 in
    let r = c.requires in
    c.eight_signs-in-None.ensures ∙ ap has_sign r.7
    ∙ last_decides s i (length s - 16) r.5 (omega (arith, c.in-None.ensures.cases, ap length r.1, length-drop i s)) (omega (arith, r.3, r.6)) r.2
