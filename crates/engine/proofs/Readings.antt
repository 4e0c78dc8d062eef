-- What a read tells and answers, by what the code found. Assumes nothing.
use Prim.Native.Nat.{ℕ, ◌+◌, ◌≤◌}
use mathlib.Core.Path.{◌≡◌, refl, sym, ap, ap₂, ◌∙◌, subst}
use mathlib.Core.List.{[]}
use mathlib.Core.Bool.{Bool, true, false, cond, true≢false}
use mathlib.Core.Option.{Option, none, some}
use native.Mathlib.Omega.{arith}
use lib.ListN.{length}
use Rattle.slices.specs.Bytes.{Bytes, part}
use Rattle.names.specs.Name.{Variable, named}
use Rattle.store.specs.Record.{has_nv}
use Rattle.store.specs.Parts.{attributes_in, payload_in}
use Rattle.stores.specs.Pair.{sound, lookup}
use Rattle.stores.specs.declared.Place.{Place}
use Rattle.stores.specs.Place.{place_in, record_at}
use Rattle.stores.proofs.PlaceLaws.{lookup_place, place_within_stores, place_nv, payload_bounds}
use Rattle.status.specs.declared.Status.{Status}
use Rattle.status.specs.declared.Status.TheVariants.{Success, InvalidParameter, VolumeCorrupted, NotFound}
use Rattle.switches.specs.declared.Switches.{Switches}
use Rattle.rules.specs.Set.{exists, shown}
use Rattle.rules.specs.Engine.{State, answer_of, state_of, read_status, status, answer, step}
use Rattle.rules.specs.Engine.Call.{read}
use Rattle.engine.specs.declared.Reading.{Reading}
use Rattle.engine.specs.Answers.{refused_reading, reading_at, reading_of, read_answer, ReadStep, payload_place}
use Rattle.engine.proofs.Steps.{step_is}

module _ (x : Bool) (nv vol : Bytes) (v : Variable) where
  -- ---- what the code finds
  pub reading_unsound : sound nv vol ≡ false → refused_reading VolumeCorrupted ≡ reading_of x nv vol v
  unfolding reading_of
  reading_unsound h = simp h

  module _ (h : sound nv vol ≡ true) where
    pub reading_unnamed : named v ≡ false → refused_reading InvalidParameter ≡ reading_of x nv vol v
    unfolding reading_of
    reading_unnamed k = simp (h, k)

    -- s tells whether the record at the variable's place p is shown
    module _ {s : Bool} (k : named v ≡ true) (p : Place) (e : p ≡ place_in nv vol v) (f : s ≡ exists (shown x (record_at nv vol p))) where
      shows : exists (shown x (lookup nv vol v)) ≡ s
      shows = ap (λ o. exists (shown x o)) (lookup_place nv vol v ∙ ap (record_at nv vol) (sym e)) ∙ sym f

      pub reading_absent : s ≡ false → refused_reading NotFound ≡ reading_of x nv vol v
      unfolding reading_of
      reading_absent l = simp (h, k, shows, l)

      pub reading_found : s ≡ true → reading_at nv vol p ≡ reading_of x nv vol v
      unfolding reading_of
      reading_found l = simp (h, k, shows, l, e)

  -- ---- what the rules answer
  abbrev is_shown : Bool
  is_shown = exists (shown x (lookup nv vol v))

  -- what is shown is a record
  stands : is_shown ≡ true → (r : Bytes) × (lookup nv vol v ≡ some r)
  unfolding exists shown
  stands h = go (lookup nv vol v) refl h
    where
      go : (o : Option Bytes) → lookup nv vol v ≡ o → exists (shown x o) ≡ true → (r : Bytes) × (lookup nv vol v ≡ some r)
      go none e k = absurd (true≢false (sym k))
      go (some r) e k = (r, e)

module _ (w : Switches) (nv vol : Bytes) (v : Variable) where
  module _ (policy : Bytes) where
    abbrev before : State
    before = state_of nv vol policy w

    read_status_lem : status before (read v)
        ≡ cond (sound nv vol) (cond (named v) (cond (is_shown w.exited nv vol v) Success NotFound) InvalidParameter) VolumeCorrupted
    unfolding read_status
    read_status_lem = refl

    refused : (n : Status) → step before (read v) ≡ (read_answer (refused_reading n) before, before) → ReadStep before v (refused_reading n)
    refused n h = record { answers = h; store = refl; ordered = omega arith; within = omega arith }

    found : step before (read v) ≡ (answer before (read v) Success, before) → is_shown w.exited nv vol v ≡ true → ReadStep before v (reading_at nv vol (place_in nv vol v))
    found h k =
        let b = payload_bounds nv vol (place_in nv vol v) refl (place_within_stores nv vol v) in
        let r = stands w.exited nv vol v k in
        record {
          answers = h ∙ ap₂ (λ (n : ℕ) (d : Bytes). (answer_of Success n d none, before))
              (ap attributes_in (lookup_place nv vol v)) (ap payload_in (lookup_place nv vol v) ∙ sym b.2);
          store = place_nv nv vol v r.0 r.1 ∙ ap (λ o. has_nv (attributes_in o)) (sym r.1 ∙ lookup_place nv vol v);
          ordered = b.0;
          within = b.1;
        }

    by_tests : (s n f : Bool) → is_shown w.exited nv vol v ≡ f → status before (read v) ≡ cond s (cond n (cond f Success NotFound) InvalidParameter) VolumeCorrupted
        → ReadStep before v (cond s (cond n (cond f (reading_at nv vol (place_in nv vol v)) (refused_reading NotFound)) (refused_reading InvalidParameter)) (refused_reading VolumeCorrupted))
    by_tests true true true e h = found (step_is before (read v) Success h) e
    by_tests true true false e h = refused NotFound (step_is before (read v) NotFound h)
    by_tests true false f e h = refused InvalidParameter (step_is before (read v) InvalidParameter h)
    by_tests false n f e h = refused VolumeCorrupted (step_is before (read v) VolumeCorrupted h)

    pub read_step : ReadStep before v (reading_of w.exited nv vol v)
    unfolding reading_of
    read_step = by_tests (sound nv vol) (named v) (is_shown w.exited nv vol v) refl read_status_lem

  -- both promises of a read, once its reading is known of what the stores a and b hold that were checked
  pub reads : {r : Reading} {a b : Bytes} → a ≡ nv → b ≡ vol → r ≡ reading_of w.exited a b v
      → (r ≡ reading_of w.exited nv vol v) × ((policy : Bytes) → ReadStep (state_of nv vol policy w) v r)
  reads p q k =
      let e = k ∙ ap₂ (λ s t. reading_of w.exited s t v) p q in
      (e, λ policy. subst (ReadStep (state_of nv vol policy w) v) (sym e) (read_step policy))

-- ---- the part that a reading names

module _ (w : Switches) (nv vol : Bytes) (v : Variable) {r : Reading} (e : r ≡ reading_of w.exited nv vol v) (h : (policy : Bytes) → ReadStep (state_of nv vol policy w) v r) where
  -- what holds of it does not depend on the part that the call is not lent
  any : ReadStep (state_of nv vol [] w) v r
  any = h []

  pub named_from : r.from ≤ r.to
  named_from = any.ordered

  pub within_nv : r.nonvolatile ≡ true → r.to ≤ length nv
  within_nv n = subst (λ b. r.to ≤ length (cond b nv vol)) n any.within

  pub within_vol : r.nonvolatile ≡ false → r.to ≤ length vol
  within_vol n = subst (λ b. r.to ≤ length (cond b nv vol)) n any.within

  pub part_nv : r.nonvolatile ≡ true → (policy : Bytes) → part r.from r.to nv ≡ (step (state_of nv vol policy w) (read v)).0.bytes
  part_nv n policy = sym (ap (λ b. part r.from r.to (cond b nv vol)) n) ∙ sym (ap (λ x. x.0.bytes) (h policy).answers)

  pub part_vol : r.nonvolatile ≡ false → (policy : Bytes) → part r.from r.to vol ≡ (step (state_of nv vol policy w) (read v)).0.bytes
  part_vol n policy = sym (ap (λ b. part r.from r.to (cond b nv vol)) n) ∙ sym (ap (λ x. x.0.bytes) (h policy).answers)

  -- where it begins, from the first byte of the block of each store
  pub place_in_nv : (p q : ℕ × ℕ) → r.nonvolatile ≡ true → (p.0, r.from + p.1) ≡ payload_place p q (reading_of w.exited nv vol v)
  place_in_nv p q n =
      let k : r.from + p.1 ≡ p.1 + r.from = omega arith in
      ap (λ (i : ℕ). (p.0, i)) k ∙ sym (ap (λ b. cond b (p.0, p.1 + r.from) (q.0, q.1 + r.from)) n) ∙ ap (payload_place p q) e

  pub place_in_vol : (p q : ℕ × ℕ) → r.nonvolatile ≡ false → (q.0, r.from + q.1) ≡ payload_place p q (reading_of w.exited nv vol v)
  place_in_vol p q n =
      let k : r.from + q.1 ≡ q.1 + r.from = omega arith in
      ap (λ (i : ℕ). (q.0, i)) k ∙ sym (ap (λ b. cond b (p.0, p.1 + r.from) (q.0, q.1 + r.from)) n) ∙ ap (payload_place p q) e
