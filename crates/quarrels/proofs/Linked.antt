-- What `quarrels::link` has built where it has come to the entry at index i from behind, with a law for each way on. Assumes nothing.
use Prim.Native.Nat.{ℕ, ◌+◌, ◌-◌, ◌≤◌, ◌<◌}
use mathlib.Core.Path.{◌≡◌, refl, sym, ap, ap₂, subst, ◌∙◌}
use mathlib.Core.List.{List, []}
use mathlib.Core.Bool.{Bool, true, false}
use native.Mathlib.Omega.{arith}
use lib.ListN.{length, get_or, set, replicate, length-set, length-replicate, get_or-replicate}
use lib.Seq.{get_or-set_same, get_or-set_other, set-set}
use lib.Dec.{eqb, ltb}
use borrow.Author.Tests.{eqb-true, eqb-false, ltb-true}
use mathlib.Core.Logic.{inl, inr}
use Rattle.limits.specs.Limits.{max_entries}
use Rattle.lists.proofs.ListsLaws.{Less, less}
use Rattle.slices.specs.Test.{◌and◌}
use Rattle.slices.proofs.TestLaws.{and_left, and_right}
use Rattle.slices.specs.Bytes.{Bytes}
use Rattle.patterns.specs.Common.{same_signs}
use Rattle.patterns.proofs.CommonLaws.{same_signs_trans}
use Rattle.patterns.specs.Literals.{literal_mask_of, literals_of}
use Rattle.entry.specs.Entry.{name_of}
use Rattle.quarrels.specs.Group.{groups, group_at, front, notes, tails_at, noted_for, Next, Chains, Others, Noted}
use Rattle.quarrels.proofs.Chains.{Heads, no_heads, own_next, chains_grouped, heads_grouped, chains_single, heads_single}

-- numbers noted for an entry in a group, and none for one in no group
module _ (of : Bytes → ℕ) (es : List Bytes) (l : List ℕ) (i : ℕ) (h : Noted of es l (i + 1)) (within : i < max_entries) (few : length es ≤ max_entries) where
  noted_grouped : Noted of es (noted_for of l i (name_of (get_or es i []))) i
  noted_grouped =
      record {
        room = length-set (set l i a) (tails_at + i) b ∙ length-set l i a ∙ h.room;
        fronts = λ k x y z. fronts k x y z (eqb k i) refl;
        end = get_or-set_other (set l i a) (tails_at + i) max_entries b 0 (λ w. omega arith) ∙ get_or-set_other l i max_entries a 0 (λ w. omega arith) ∙ h.end;
        tails = λ k x y z. tails k x y z (eqb k i) refl;
      }
    where
      a : ℕ
      a = of (front (name_of (get_or es i [])))

      b : ℕ
      b = of (name_of (get_or es i []))

      fronts : (k : ℕ) → i ≤ k → k < length es → group_at es k < groups → (t : Bool) → eqb k i ≡ t
          → get_or (noted_for of l i (name_of (get_or es i []))) k 0 ≡ of (front (name_of (get_or es k [])))
      fronts k x y z true e =
          let q = eqb-true k i e in
          get_or-set_other (set l i a) (tails_at + i) k b 0 (λ w. omega arith)
          ∙ rw q (get_or-set_same l i a 0 (omega (arith, h.room)))
      fronts k x y z false e =
          let q = eqb-false k i e in
          get_or-set_other (set l i a) (tails_at + i) k b 0 (λ w. omega arith) ∙ get_or-set_other l i k a 0 q ∙ h.fronts k (omega arith) y z

      tails : (k : ℕ) → i ≤ k → k < length es → group_at es k < groups → (t : Bool) → eqb k i ≡ t
          → get_or (noted_for of l i (name_of (get_or es i []))) (tails_at + k) 0 ≡ of (name_of (get_or es k []))
      tails k x y z true e =
          let q = eqb-true k i e in
          rw q (get_or-set_same (set l i a) (tails_at + i) b 0 (omega (arith, length-set l i a, h.room)))
      tails k x y z false e =
          let q = eqb-false k i e in
          get_or-set_other (set l i a) (tails_at + i) (tails_at + k) b 0 (λ w. q (omega arith)) ∙ get_or-set_other l i (tails_at + k) a 0 (λ w. omega arith) ∙ h.tails k (omega arith) y z

  noted_single : groups ≤ group_at es i → Noted of es l i
  noted_single g = record { room = h.room; fronts = λ k x y z. h.fronts k (behind k x z (eqb k i) refl) y z; end = h.end; tails = λ k x y z. h.tails k (behind k x z (eqb k i) refl) y z }
    where
      behind : (k : ℕ) → i ≤ k → group_at es k < groups → (b : Bool) → eqb k i ≡ b → i + 1 ≤ k
      behind k x z true e = let q = ap (group_at es) (eqb-true k i e) in absurd (omega arith)
      behind k x z false e = let q = eqb-false k i e in omega arith

-- ---- the first of its group with '#' at other places
module _ (es : List Bytes) (first : List ℕ) (i : ℕ) (h : Others es first (i + 1)) (within : i < length es) (few : length es ≤ max_entries) where
  -- of an entry in a group, v: what is said of it
  module _ (here : group_at es i < groups) (v : ℕ)
      (alike : (y : ℕ) → i < y → y < length es → y < v → group_at es y ≡ group_at es i → same_signs (name_of (get_or es i [])) (name_of (get_or es y [])) ≡ true)
      (there : v < length es → (i < v) × (group_at es v ≡ group_at es i)) where
    others_set : Others es (set first i v) i
    others_set =
        record {
          room = length-set first i v ∙ h.room;
          alike = λ k y l o w u g e. all k y l o w g e (eqb k i) refl u;
          there = λ k l o g w. at k l o g (eqb k i) refl w;
          single = λ k l o g. single k l o g (eqb k i) refl;
          before = λ k l. rw (get_or-set_other first i k v 0 (λ z. omega arith)) (h.before k (omega arith));
        }
      where
        value : get_or (set first i v) i 0 ≡ v
        value = get_or-set_same first i v 0 (omega (arith, h.room))

        all : (k y : ℕ) → i ≤ k → k < y → y < length es → group_at es k < groups → group_at es y ≡ group_at es k → (b : Bool) → eqb k i ≡ b → y < get_or (set first i v) k 0
            → same_signs (name_of (get_or es k [])) (name_of (get_or es y [])) ≡ true
        all k y l o w g e true q u =
            let z = eqb-true k i q in
            let u' : y < v = omega (arith, value, ap (λ (m : ℕ). get_or (set first i v) m 0) z) in
            rw z (alike y (omega arith) w u' (e ∙ ap (group_at es) z))
        all k y l o w g e false q u =
            let z = eqb-false k i q in
            let x = get_or-set_other first i k v 0 z in
            h.alike k y (omega arith) o w (omega arith) g e

        at : (k : ℕ) → i ≤ k → k < length es → group_at es k < groups → (b : Bool) → eqb k i ≡ b → get_or (set first i v) k 0 < length es
            → (k < get_or (set first i v) k 0) × (group_at es (get_or (set first i v) k 0) ≡ group_at es k)
        at k l o g true q w =
            let z = eqb-true k i q in
            let x : get_or (set first i v) k 0 ≡ v = ap (λ (m : ℕ). get_or (set first i v) m 0) z ∙ value in
            let a = there (omega arith) in
            (omega (arith, a.0), ap (group_at es) x ∙ a.1 ∙ sym (ap (group_at es) z))
        at k l o g false q w =
            let z = eqb-false k i q in
            let x = get_or-set_other first i k v 0 z in
            let a = h.there k (omega arith) o g (omega arith) in
            (omega (arith, a.0), ap (group_at es) x ∙ a.1)

        single : (k : ℕ) → i ≤ k → k < length es → groups ≤ group_at es k → (b : Bool) → eqb k i ≡ b → length es ≤ get_or (set first i v) k 0
        single k l o g true q = let z = ap (group_at es) (eqb-true k i q) in absurd (omega arith)
        single k l o g false q =
            let z = eqb-false k i q in
            rw (get_or-set_other first i k v 0 z) (h.single k (omega arith) o g)

  -- t is the next one of the group
  module _ (here : group_at es i < groups) (t : ℕ) (n : Next (group_at es) (length es) i t) where
    pub others_next : Others es (set first i t) i
    others_next = others_set here t (λ y o w u e. absurd (n.alone y o w u e)) n.alike

    -- it has '#' at the same places: so have those up to the first that has not
    pub others_skip : {v : ℕ} → t < length es → same_signs (name_of (get_or es i [])) (name_of (get_or es t [])) ≡ true → v ≡ get_or (set first i t) t 0 → Others es (set (set first i t) i v) i
    others_skip {v} w s e =
        let a = n.alike w in
        let x : v ≡ get_or first t 0 = e ∙ get_or-set_other first i t t 0 (λ z. omega (arith, a.0)) in
        rw (set-set first i t v) (others_set here v (λ y o l u g. up y o l (omega (arith, x)) g (less y t) (less t y)) (λ l. let b = h.there t (omega (arith, a.0)) w (omega (arith, a.1)) (omega (arith, x)) in (omega (arith, a.0, b.0, x), ap (group_at es) x ∙ b.1 ∙ a.1)))
      where
        up : (y : ℕ) → i < y → y < length es → y < get_or first t 0 → group_at es y ≡ group_at es i → Less y t → Less t y → same_signs (name_of (get_or es i [])) (name_of (get_or es y [])) ≡ true
        up y o l u g (inl p) _ = absurd (n.alone y o l p.0 g)
        up y o l u g (inr p) (inr q) = let z : y ≡ t = omega (arith, p.0, q.0) in rw z s
        up y o l u g (inr p) (inl q) =
            let a = n.alike w in
            same_signs_trans (name_of (get_or es i [])) (name_of (get_or es t [])) (name_of (get_or es y [])) s
            (h.alike t y (omega (arith, a.0)) q.0 l u (omega (arith, a.1)) (g ∙ sym a.1))

  pub others_single : groups ≤ group_at es i → Others es first i
  others_single g =
      record {
        room = h.room;
        alike = λ k y l o w u x e. h.alike k y (behind k l x (eqb k i) refl) o w u x e;
        there = λ k l o x w. h.there k (behind k l x (eqb k i) refl) o x w;
        single = λ k l o x. at k l o x (eqb k i) refl;
        before = λ k l. h.before k (omega arith);
      }
    where
      behind : (k : ℕ) → i ≤ k → group_at es k < groups → (b : Bool) → eqb k i ≡ b → i + 1 ≤ k
      behind k l z true e = let q = ap (group_at es) (eqb-true k i e) in absurd (omega arith)
      behind k l z false e = let q = eqb-false k i e in omega arith

      at : (k : ℕ) → i ≤ k → k < length es → groups ≤ group_at es k → (b : Bool) → eqb k i ≡ b → length es ≤ get_or first k 0
      at k l o x true e = let z = eqb-true k i e in h.before k (omega arith)
      at k l o x false e = let z = eqb-false k i e in h.single k (omega arith) o x

-- ---- all of it
pub record Linked (es : List Bytes) (heads next first masks shown : List ℕ) (i : ℕ) : Type 0 where
  pub upto : i ≤ length es
  pub headed : Heads (group_at es) (length es) heads i
  pub chained : Chains (group_at es) (length es) next i
  pub others : Others es first i
  pub masked : Noted literal_mask_of es masks i
  pub shows : Noted literals_of es shown i

-- the entry before a place
pub linked_back : {es : List Bytes} {heads next first masks shown : List ℕ} (k : ℕ) → 0 < k → Linked es heads next first masks shown k
    → Linked es heads next first masks shown (k - 1 + 1)
linked_back {es} {heads} {next} {first} {masks} {shown} k h w = let e : k ≡ k - 1 + 1 = omega arith in subst (Linked es heads next first masks shown) e w

-- every entry was met
pub linked_all : {es : List Bytes} {heads next first masks shown : List ℕ} (k : ℕ) → k ≤ 0 → Linked es heads next first masks shown k
    → Chains (group_at es) (length es) next 0 × (Others es first 0 × (Noted literal_mask_of es masks 0 × Noted literals_of es shown 0))
linked_all {es} {heads} {next} {first} {masks} {shown} k h w =
    let e : k ≡ 0 = omega arith in
    let z = subst (Linked es heads next first masks shown) e w in
    (z.chained, (z.others, (z.masked, z.shows)))

module _ (es : List Bytes) (few : length es ≤ max_entries) where
  -- no entry was met
  pub no_others : {first : List ℕ} → first ≡ replicate max_entries max_entries → Others es first (length es)
  no_others e =
      rw e
      (record {
        room = length-replicate max_entries max_entries;
        alike = λ k y l o w u g q. absurd (omega arith);
        there = λ k l o g w. absurd (omega arith);
        single = λ k l o g. absurd (omega arith);
        before = λ k l. let q = get_or-replicate max_entries k max_entries 0 (omega arith) in omega arith;
      })

  pub no_notes : {l : List ℕ} (of : Bytes → ℕ) → l ≡ replicate notes 0 → Noted of es l (length es)
  no_notes of e =
      rw e
      (record {
        room = length-replicate {A = ℕ} notes 0;
        fronts = λ k x y z. absurd (omega arith);
        end = get_or-replicate notes max_entries 0 0 (omega arith);
        tails = λ k x y z. absurd (omega arith);
      })

  pub linked_none : {heads : List ℕ} {count : ℕ} (next first masks shown : List ℕ) → heads ≡ replicate groups max_entries → count ≡ length es
      → Chains (group_at es) (length es) next (length es) → Others es first (length es)
      → Noted literal_mask_of es masks (length es) → Noted literals_of es shown (length es)
      → Linked es heads next first masks shown count
  linked_none next first masks shown e n c o m s =
      rw (e, n)
      (record {
        upto = omega arith;
        headed = no_heads (group_at es) (length es) max_entries few (omega arith);
        chained = c;
        others = o;
        masked = m;
        shows = s;
      })

  module _ (heads next first masks shown : List ℕ) (i : ℕ) (w : Linked es heads next first masks shown (i + 1)) where
    -- with the entry at i, of the group g: t is the next one of the group
    module _ (here : group_at es i < groups) where
      abbrev t : ℕ
      t = get_or heads (group_at es i) 0

      abbrev name : Bytes
      name = name_of (get_or es i [])

      is_next : Next (group_at es) (length es) i t
      is_next = own_next (group_at es) (length es) heads next i w.headed w.chained (omega (arith, w.upto)) few here

      with_others : (f : List ℕ) → Others es f i → Linked es (set heads (group_at es i) i) (set next i t) f (noted_for literal_mask_of masks i name) (noted_for literals_of shown i name) i
      with_others f o =
          record {
            upto = omega (arith, w.upto);
            headed = heads_grouped (group_at es) (length es) heads next i w.headed w.chained (omega (arith, w.upto)) few here;
            chained = chains_grouped (group_at es) (length es) heads next i w.headed w.chained (omega (arith, w.upto)) few here;
            others = o;
            masked = noted_grouped literal_mask_of es masks i w.masked (omega (arith, w.upto)) few;
            shows = noted_grouped literals_of es shown i w.shows (omega (arith, w.upto)) few;
          }

    pub linked_next : {g : ℕ} {m : Bytes} {masks' shown' : List ℕ} → g ≡ group_at es i → g < groups → m ≡ name_of (get_or es i [])
        → masks' ≡ noted_for literal_mask_of masks i m → shown' ≡ noted_for literals_of shown i m
        → Linked es (set heads g i) (set next i (get_or heads g 0)) (set first i (get_or heads g 0)) masks' shown' i
    linked_next e h n a b =
        let here : group_at es i < groups = omega arith in
        rw (e, a, b, n) (with_others here _ (others_next es first i w.others (omega (arith, w.upto)) few here _ (is_next here)))

    pub linked_skip : {g v o : ℕ} {m : Bytes} {masks' shown' : List ℕ} → g ≡ group_at es i → g < groups → m ≡ name_of (get_or es i [])
        → masks' ≡ noted_for literal_mask_of masks i m → shown' ≡ noted_for literals_of shown i m
        → o ≡ get_or heads g 0 → (ltb o (length es) and same_signs m (name_of (get_or es o []))) ≡ true → v ≡ get_or (set first i (get_or heads g 0)) o 0
        → Linked es (set heads g i) (set next i (get_or heads g 0)) (set (set first i (get_or heads g 0)) i v) masks' shown' i
    linked_skip {g} {v} {o} {m} e h n a b p q r =
        let here : group_at es i < groups = omega arith in
        let o' : o ≡ get_or heads (group_at es i) 0 = p ∙ ap (λ (k : ℕ). get_or heads k 0) e in
        let u : get_or heads (group_at es i) 0 < length es = subst (λ (k : ℕ). k < length es) o' (ltb-true o (length es) (and_left _ _ q)) in
        let s : same_signs (name_of (get_or es i [])) (name_of (get_or es (get_or heads (group_at es i) 0) [])) ≡ true =
        ap₂ (λ (x : Bytes) (k : ℕ). same_signs x (name_of (get_or es k []))) (sym n) (sym o') ∙ and_right _ _ q in
        let r' : v ≡ get_or (set first i (get_or heads (group_at es i) 0)) (get_or heads (group_at es i) 0) 0 =
        r ∙ ap₂ (λ (x y : ℕ). get_or (set first i x) y 0) (ap (λ (k : ℕ). get_or heads k 0) e) o' in
        rw (e, a, b, n) (with_others here _ (others_skip es first i w.others (omega (arith, w.upto)) few here _ (is_next here) u s r'))

    pub linked_single : {g : ℕ} → g ≡ group_at es i → groups ≤ g → Linked es heads next first masks shown i
    linked_single e h =
        let h' : groups ≤ group_at es i = omega arith in
        record {
          upto = omega (arith, w.upto);
          headed = heads_single (group_at es) (length es) heads next i w.headed w.chained (omega (arith, w.upto)) few h';
          chained = chains_single (group_at es) (length es) heads next i w.headed w.chained (omega (arith, w.upto)) few h';
          others = others_single es first i w.others (omega (arith, w.upto)) few h';
          masked = noted_single literal_mask_of es masks i w.masked (omega (arith, w.upto)) few h';
          shows = noted_single literals_of es shown i w.shows (omega (arith, w.upto)) few h';
        }

-- the answer of `quarrels::alike`, where it is yes
pub alike_yes : {r : Bool} {count n : ℕ} (o : ℕ) (t : Bool) → count ≡ n → r ≡ (ltb o count and t) → r ≡ true → (ltb o n and t) ≡ true
alike_yes o t e h k = ap (λ (m : ℕ). ltb o m and t) (sym e) ∙ sym h ∙ k

pub alike_under : (n o : ℕ) (t : Bool) → (ltb o n and t) ≡ true → o < n
alike_under n o t h = ltb-true o n (and_left _ _ h)
