use mathlib.Core.Path.{◌≡◌, refl, sym, ap, ◌∙◌}
use mathlib.Core.Bool.{Bool, false, ◌||◌}
use native.Mathlib.Omega.{arith}
use Prim.Native.Nat.{◌≤◌}
use native.Mathlib.Nat.{le_refl}
use lib.ListN.{length, take, drop, length-drop}
use Rattle.limits.specs.Limits.{entry_header}
use Rattle.slices.specs.Bytes.{Bytes}
use Rattle.slices.specs.Chunks.{contains}
use Rattle.slices.proofs.PartLaws.{part_rest}
use Rattle.slices.proofs.ChunksLaws.{chunks_stop, chunks_step}
use Rattle.policy.specs.Stated.{stated_length, stated_of, repeats}
use Rattle.policy.proofs.StatedLaws.{stated_within}
use Rattle.policy.proofs.has_target.Goals as goal

-- the entry f begins the bytes
met : (g : Bytes → Bool) (p f : Bytes) → f ≡ take (stated_length p) p → length f ≡ stated_length p → entry_header ≤ length f
    → contains g (stated_of p) ≡ (g f || contains g (stated_of (drop (length f) p)))
unfolding contains
met g p f a l h = rw (l, a) (ap (contains g) (chunks_step stated_length stated_within (stated_length p) p refl (omega (arith, l, h))))

-- none begins them
none_left : (g : Bytes → Bool) (p : Bytes) → stated_length p ≡ 0 → contains g (stated_of p) ≡ false
unfolding contains
none_left g p e = ap (contains g) (chunks_stop stated_length p e)

pub returns-then-repeats : goal.returns-then-repeats
returns-then-repeats c =
    let f = c.in-Some.ensures in
    sym (c.loop-f.invariant ∙ met _ c.loop-f.rest.now c.in-Some.f.now f.0 f.1 f.2 ∙ rw (← c.repeats.ensures, c.if-repeats.true))

pub loop-f-smaller : goal.loop-f-smaller
loop-f-smaller c =
    let f = c.in-Some.ensures in
    let p : Bytes = c.loop-f.rest.now in
    let n = length c.in-Some.f.now in
    omega (arith, ap length (part_rest n (length p) p (le_refl (length p))), length-drop n p, f.1, f.2, stated_within p)

pub loop-f-preserved : goal.loop-f-preserved
loop-f-preserved c =
    let f = c.in-Some.ensures in
    c.loop-f.invariant ∙ met _ c.loop-f.rest.now c.in-Some.f.now f.0 f.1 f.2
    ∙ rw (← c.repeats.ensures, c.if-repeats.false) (ap (λ (p : Bytes). contains (repeats c.args.e.bytes.now) (stated_of p)) (sym (part_rest (length c.in-Some.f.now) (length c.loop-f.rest.now) c.loop-f.rest.now (le_refl (length c.loop-f.rest.now)))))

pub returns : goal.returns
returns c = sym (c.loop-f.invariant ∙ none_left _ c.loop-f.rest.now c.in_default.ensures)
