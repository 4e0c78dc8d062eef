-- The chains of places of one group, built from the last place to the first: one law for a place in a group and one for a place in none.
-- Assumes nothing.
use Prim.Native.Nat.{ℕ, ◌+◌, ◌≤◌, ◌<◌}
use mathlib.Core.Path.{◌≡◌, refl, sym, ap, ◌∙◌}
use mathlib.Core.List.{List}
use mathlib.Core.Bool.{Bool, true, false}
use mathlib.Core.Logic.{inl, inr}
use native.Mathlib.Omega.{arith}
use lib.ListN.{length, get_or, set, replicate, length-set, length-replicate, get_or-replicate}
use lib.Seq.{get_or-set_same, get_or-set_other}
use lib.Dec.{eqb}
use borrow.Author.Tests.{eqb-true, eqb-false}
use Rattle.limits.specs.Limits.{max_entries}
use Rattle.lists.proofs.ListsLaws.{Less, less}
use Rattle.quarrels.specs.Group.{groups, Rises, Next, Chains, Skipped, stay, on}

-- a walk along a chain never goes back
pub skipped_later : {next masks shown : List ℕ} {own mask from r : ℕ} → Rises next → Skipped next masks shown own mask from r → from ≤ r
skipped_later h stay = omega arith
skipped_later h (on {j} p u d) = omega (arith, skipped_later h p, (h j u).0)

module _ (group : ℕ → ℕ) (n : ℕ) where
  -- of the places from i on: where each group begins
  pub record Heads (heads : List ℕ) (i : ℕ) : Type 0 where
    pub room : length heads ≡ groups
    pub alone : (g k : ℕ) → g < groups → i ≤ k → k < n → k < get_or heads g 0 → group k ≡ g → ⊥
    pub alike : (g : ℕ) → g < groups → get_or heads g 0 < n → (i ≤ get_or heads g 0) × (group (get_or heads g 0) ≡ g)
    pub most : (g : ℕ) → g < groups → get_or heads g 0 ≤ max_entries

module _ (group : ℕ → ℕ) (n : ℕ) where
  -- before the last place: no head, and no link
  pub no_heads : (v : ℕ) → n ≤ v → v ≤ max_entries → Heads group n (replicate groups v) n
  no_heads v h u =
      record {
        room = length-replicate groups v;
        alone = λ g k l m o p q. absurd (omega arith);
        alike = λ g l m. absurd (let e = get_or-replicate groups g v 0 l in omega arith);
        most = λ g l. let e = get_or-replicate groups g v 0 l in omega arith;
      }

  pub no_chains : {next : List ℕ} → next ≡ replicate max_entries max_entries → n ≤ max_entries → Chains group n next n
  no_chains e most =
      rw e
      (record {
        room = length-replicate max_entries max_entries;
        linked = λ k l m o. absurd (omega arith);
        single = λ k l m o. absurd (omega arith);
        before = λ k l. let q = get_or-replicate max_entries k max_entries 0 (omega arith) in omega arith;
        rises = λ k l. let q = get_or-replicate max_entries k max_entries 0 l in (omega arith, omega arith);
      })

  -- a place in a group stands before the head of its group, and is the head
  module _ (heads next : List ℕ) (i : ℕ) (hs : Heads group n heads (i + 1)) (cs : Chains group n next (i + 1)) (within : i < n) (most : n ≤ max_entries) where
    module _ (here : group i < groups) where
      abbrev g : ℕ
      g = group i

      abbrev t : ℕ
      t = get_or heads g 0

      pub own_next : Next group n i t
      own_next = record { alone = λ k l m o e. hs.alone g k here (omega arith) m o e; alike = λ m. let a = hs.alike g here m in (omega (arith, a.0), a.1) }

      other_next : (k : ℕ) → i ≤ k → k < n → group k < groups → (b : Bool) → eqb k i ≡ b → Next group n k (get_or (set next i t) k 0)
      other_next k l m o true e =
          let z = eqb-true k i e in
          rw (z, get_or-set_same next i t 0 (omega (arith, cs.room))) own_next
      other_next k l m o false e =
          let z = eqb-false k i e in
          rw (get_or-set_other next i k t 0 z) (cs.linked k (omega arith) m o)

      pub chains_grouped : Chains group n (set next i t) i
      chains_grouped =
          record {
            room = length-set next i t ∙ cs.room;
            linked = λ k l m o. other_next k l m o (eqb k i) refl;
            single = λ k l m o. single k l m o (eqb k i) refl;
            before = λ k l. rw (get_or-set_other next i k t 0 (λ z. omega arith)) (cs.before k (omega arith));
            rises = λ k l. rises k l (eqb k i) refl;
          }
        where
          behind : Less t n → i < t
          behind (inl a) = (own_next.alike a.0).0
          behind (inr a) = omega (arith, a.0)

          rises : (k : ℕ) → k < max_entries → (b : Bool) → eqb k i ≡ b → (k < get_or (set next i t) k 0) × (get_or (set next i t) k 0 ≤ max_entries)
          rises k l true e =
              let z = eqb-true k i e in
              let y : get_or (set next i t) k 0 ≡ t = rw z (get_or-set_same next i t 0 (omega (arith, cs.room))) in
              (omega (arith, behind (less t n)), omega (arith, hs.most g here))
          rises k l false e =
              let z = eqb-false k i e in
              rw (get_or-set_other next i k t 0 z) (cs.rises k l)

          single : (k : ℕ) → i ≤ k → k < n → groups ≤ group k → (b : Bool) → eqb k i ≡ b → n ≤ get_or (set next i t) k 0
          single k l m o true e = let z = ap group (eqb-true k i e) in absurd (omega arith)
          single k l m o false e =
              let z = eqb-false k i e in
              rw (get_or-set_other next i k t 0 z) (cs.single k (omega arith) m o)

      pub heads_grouped : Heads group n (set heads g i) i
      heads_grouped =
          record {
            room = length-set heads g i ∙ hs.room;
            alone = λ j k l m o p e. alone j k l m o e (eqb j g) refl p;
            alike = λ j l m. alike j l (eqb j g) refl m;
            most = λ j l. most' j l (eqb j g) refl;
          }
        where
          most' : (j : ℕ) → j < groups → (b : Bool) → eqb j g ≡ b → get_or (set heads g i) j 0 ≤ max_entries
          most' j l true q =
              let z = eqb-true j g q in
              let y : get_or (set heads g i) j 0 ≡ i = rw z (get_or-set_same heads g i 0 (omega (arith, hs.room))) in
              omega arith
          most' j l false q =
              let z = eqb-false j g q in
              let y : get_or (set heads g i) j 0 ≡ get_or heads j 0 = get_or-set_other heads g j i 0 z in
              omega (arith, hs.most j l)

          alone : (j k : ℕ) → j < groups → i ≤ k → k < n → group k ≡ j → (b : Bool) → eqb j g ≡ b → k < get_or (set heads g i) j 0 → ⊥
          alone j k l m o e true q p =
              let z = eqb-true j g q in
              let y : get_or (set heads g i) j 0 ≡ i = rw z (get_or-set_same heads g i 0 (omega (arith, hs.room))) in
              omega arith
          alone j k l m o e false q p =
              let z = eqb-false j g q in
              let y : get_or (set heads g i) j 0 ≡ get_or heads j 0 = get_or-set_other heads g j i 0 z in
              hs.alone j k l (behind (eqb k i) refl) o (omega arith) e
            where
              behind : (b : Bool) → eqb k i ≡ b → i + 1 ≤ k
              behind true q' = absurd (eqb-false j g q (sym e ∙ ap group (eqb-true k i q')))
              behind false q' = let d = eqb-false k i q' in omega arith

          alike : (j : ℕ) → j < groups → (b : Bool) → eqb j g ≡ b → get_or (set heads g i) j 0 < n → (i ≤ get_or (set heads g i) j 0) × (group (get_or (set heads g i) j 0) ≡ j)
          alike j l true q m =
              let z = eqb-true j g q in
              let y : get_or (set heads g i) j 0 ≡ i = rw z (get_or-set_same heads g i 0 (omega (arith, hs.room))) in
              (omega arith, ap group y ∙ sym z)
          alike j l false q m =
              let z = eqb-false j g q in
              let y : get_or (set heads g i) j 0 ≡ get_or heads j 0 = get_or-set_other heads g j i 0 z in
              let a = hs.alike j l (omega arith) in
              (omega (arith, a.0), ap group y ∙ a.1)

    -- a place in no group changes nothing
    module _ (here : groups ≤ group i) where
      pub chains_single : Chains group n next i
      chains_single =
          record {
            room = cs.room;
            linked = λ k l m o. linked k l m o (eqb k i) refl;
            single = λ k l m o. single k l m o (eqb k i) refl;
            before = λ k l. cs.before k (omega arith);
            rises = cs.rises;
          }
        where
          linked : (k : ℕ) → i ≤ k → k < n → group k < groups → (b : Bool) → eqb k i ≡ b → Next group n k (get_or next k 0)
          linked k l m o true e = let z = ap group (eqb-true k i e) in absurd (omega arith)
          linked k l m o false e = let z = eqb-false k i e in cs.linked k (omega arith) m o

          single : (k : ℕ) → i ≤ k → k < n → groups ≤ group k → (b : Bool) → eqb k i ≡ b → n ≤ get_or next k 0
          single k l m o true e = let z = eqb-true k i e in cs.before k (omega arith)
          single k l m o false e = let z = eqb-false k i e in cs.single k (omega arith) m o

      pub heads_single : Heads group n heads i
      heads_single =
          record {
            room = hs.room;
            alone = λ j k l m o p e. alone j k l m o p e (eqb k i) refl;
            alike = λ j l m. let a = hs.alike j l m in (omega (arith, a.0), a.1);
            most = hs.most;
          }
        where
          alone : (j k : ℕ) → j < groups → i ≤ k → k < n → k < get_or heads j 0 → group k ≡ j → (b : Bool) → eqb k i ≡ b → ⊥
          alone j k l m o p e true q = let z = ap group (eqb-true k i q) in omega arith
          alone j k l m o p e false q = let z = eqb-false k i q in hs.alone j k l (omega arith) o p e
