-- Lists of entries: what a permutation keeps, and what the choice is
use Rattle.std.specs.Prelude.{◌≡◌, Bool, true, false, not, ◌||◌, ◌⊎◌, ltb, T}
use Rattle.std.proofs.Math.Path.{refl, sym, ap, subst⁻¹}
use Rattle.std.proofs.Common.{◌∙◌, ap₂, subst, true≢false, inl, inr, arith, ltb→lt, nltb→le}
use mathlib.Core.List.{List, [], ◌∷◌, ◌++◌, append_assoc, append-nil}
use mathlib.Core.List.{Permᴰ}
use Rattle.std.proofs.Math.Option.{Option, none, some}
use Prim.Native.Nat.{ℕ, suc, ◌+◌, ◌≤◌, ◌<◌}
use Rattle.std.proofs.Math.ListN.{length, length-append}
use Rattle.std.proofs.Math.Seq.{drop-append_seam}
use Rattle.lists.specs.Lists.{All, nil, more, Among, Pairs, any, flat, over, lower, better, best, chosen, RanksDiffer}

or_left_comm : (x y z : Bool) → (x || (y || z)) ≡ (y || (x || z))
or_left_comm true true z = refl
or_left_comm true false z = refl
or_left_comm false true z = refl
or_left_comm false false z = refl

module _ {A : Type 0} {P : A → Type 0} where
  -- each
  pub all_here : {a : A} {l : List A} → All P (a ∷ l) → P a
  all_here (more h k) = h

  pub all_rest : {a : A} {l : List A} → All P (a ∷ l) → All P l
  all_rest (more h k) = k

  pub all_map : {Q : A → Type 0} → ((a : A) → P a → Q a) → (l : List A) → All P l → All Q l
  all_map f [] nil = nil
  all_map f (a ∷ l) (more h k) = more (f a h) (all_map f l k)

  pub all_append : (l m : List A) → All P l → All P m → All P (l ++ m)
  all_append [] m nil k = k
  all_append (a ∷ l) m (more h i) k = more h (all_append l m i k)

  pub all_left : (l m : List A) → All P (l ++ m) → All P l
  all_left [] m h = nil
  all_left (a ∷ l) m (more h k) = more h (all_left l m k)

  pub all_right : (l m : List A) → All P (l ++ m) → All P m
  all_right [] m h = h
  all_right (a ∷ l) m (more h k) = all_right l m k

  -- and of each that stands in the list
  pub all_among : (l : List A) → All P l → (a : A) → Among a l → P a
  all_among (x ∷ l) (more h w) a (inl e) = subst⁻¹ P e h
  all_among (x ∷ l) (more h w) a (inr k) = all_among l w a k
  all_among [] _ a x3 = elim x3 [ ]

  pub among_all : (l : List A) → ((a : A) → Among a l → P a) → All P l
  among_all [] h = nil
  among_all (x ∷ l) h = more (h x (inl refl)) (among_all l (λ a k. h a (inr k)))

  -- A PERMUTATION keeps what holds of each
  pub all_perm : {l m : List A} → Permᴰ l m → All P l → All P m
  all_perm Permᴰ.nil h = nil
  all_perm (Permᴰ.cons e d) (more h k) = more (subst P e h) (all_perm d k)
  all_perm (Permᴰ.swap e₁ e₂) (more h (more i k)) = more (subst P e₂ i) (more (subst P e₁ h) k)
  all_perm (Permᴰ.trans d₁ d₂) h = all_perm d₂ (all_perm d₁ h)

module _ {A : Type 0} where
  pub among_left : (l m : List A) (a : A) → Among a l → Among a (l ++ m)
  among_left (x ∷ l) m a (inl e) = inl e
  among_left (x ∷ l) m a (inr k) = inr (among_left l m a k)
  among_left [] m a x' = elim x' [ ]

  pub among_right : (l m : List A) (a : A) → Among a m → Among a (l ++ m)
  among_right [] m a k = k
  among_right (x ∷ l) m a k = inr (among_right l m a k)

  pub among_middle : (l : List A) (a : A) (m : List A) → Among a (l ++ (a ∷ m))
  among_middle l a m = among_right l (a ∷ m) a (inl refl)

  -- each two: those in front of a place against it
  pub pairs_middle : (R : A → A → Type 0) (l : List A) (a : A) (m : List A) → Pairs R (l ++ (a ∷ m)) → All (λ x. R x a) l
  pairs_middle R [] a m h = nil
  pairs_middle R (x ∷ l) a m h = more (all_here (all_right l (a ∷ m) h.0)) (pairs_middle R l a m h.1)

  -- A PERMUTATION keeps what holds of each two, where it is symmetric; the test of any; the length
  pub pairs_perm : (R : A → A → Type 0) → ((a b : A) → R a b → R b a) → {l m : List A}
      → Permᴰ l m → Pairs R l → Pairs R m
  pairs_perm R s Permᴰ.nil h = tt
  pairs_perm R s (Permᴰ.cons {l₂ = m} e d) h = (subst (λ x. All (R x) m) e (all_perm d h.0), pairs_perm R s d h.1)
  pairs_perm R s (Permᴰ.swap {a} {b} {a'} {b'} {l} e₁ e₂) h = (
    more (subst (λ x. R x b') e₂ (subst (R b) e₁ (s a b (all_here h.0)))) (subst (λ x. All (R x) l) e₂ h.1.0),
    (subst (λ x. All (R x) l) e₁ (all_rest h.0), h.1.1),
  )
  pairs_perm R s (Permᴰ.trans d₁ d₂) h = pairs_perm R s d₂ (pairs_perm R s d₁ h)

  pub any_perm : (p : A → Bool) {l m : List A} → Permᴰ l m → any p l ≡ any p m
  any_perm p Permᴰ.nil = refl
  any_perm p (Permᴰ.cons e d) = ap₂ ◌||◌ (ap p e) (any_perm p d)
  any_perm p (Permᴰ.swap {a} {b} {a'} {b'} {l} e₁ e₂) =
      ap₂ (λ x y. x || (y || any p l)) (ap p e₁) (ap p e₂) ∙ or_left_comm (p b') (p a') (any p l)
  any_perm p (Permᴰ.trans d₁ d₂) = any_perm p d₁ ∙ any_perm p d₂

  pub length_perm : {l m : List A} → Permᴰ l m → length l ≡ length m
  length_perm Permᴰ.nil = refl
  length_perm (Permᴰ.cons e d) = ap suc (length_perm d)
  length_perm (Permᴰ.swap e₁ e₂) = refl
  length_perm (Permᴰ.trans d₁ d₂) = length_perm d₁ ∙ length_perm d₂

  -- END TO END
  pub flat_append : (l m : List (List A)) → flat (l ++ m) ≡ flat l ++ flat m
  unfolding flat
  flat_append [] m = refl
  flat_append (e ∷ l) m = ap (◌++◌ e) (flat_append l m) ∙ sym (append_assoc e (flat l) (flat m))

  -- one list alone
  pub flat_one : (l : List A) → flat (l ∷ []) ≡ l
  unfolding flat
  flat_one l = append-nil l

  pub flat_perm : {l m : List (List A)} → Permᴰ l m → length (flat l) ≡ length (flat m)
  unfolding flat
  flat_perm Permᴰ.nil = refl
  flat_perm (Permᴰ.cons e d) = simp length-append (ap₂ ◌+◌ (ap length e) (flat_perm d))
  flat_perm (Permᴰ.swap e₁ e₂) = simp length-append (omega (arith, ap length e₁, ap length e₂))
  flat_perm (Permᴰ.trans d₁ d₂) = flat_perm d₁ ∙ flat_perm d₂

  -- of two writings of one length over a buffer the last counts
  pub over_over : (es o : List (List A)) (b : List A) → length (flat es) ≡ length (flat o) → over o (over es b) ≡ over o b
  over_over es o b h = ap (◌++◌ (flat o)) (rw (← h) (drop-append_seam (flat es) _))

-- a test with what it says
abbrev pub Less : ℕ → ℕ → Type 0
Less m n = ((m < n) × (ltb m n ≡ true)) ⊎ ((n ≤ m) × (ltb m n ≡ false))

pub less : (m n : ℕ) → Less m n
less m n = go (ltb m n) refl
  where
    go : (b : Bool) → ltb m n ≡ b → Less m n
    go true e = inl (ltb→lt m n (subst⁻¹ T e tt), e)
    go false e = inr (nltb→le m n (subst⁻¹ (λ b. T (not b)) e tt), e)

module _ {A : Type 0} (rank : A → ℕ) (targets : A → Bool) where
  pub best_append : (b : Option A) (l m : List A)
      → best rank targets b (l ++ m) ≡ best rank targets (best rank targets b l) m
  best_append b [] m = refl
  best_append b (x ∷ l) m = best_append (better rank targets b x (targets x)) l m

  -- ANOTHER ORDER chooses the same, if no two of equal rank target
  swap_none : (x y : A) → (rank x ≡ rank y → ⊥) → Less (rank x) (rank y) → Less (rank y) (rank x)
      → lower rank targets x y (ltb (rank y) (rank x)) ≡ lower rank targets y x (ltb (rank x) (rank y))
  swap_none x y k (inl p) (inl q) = absurd (omega (arith, p.0, q.0))
  swap_none x y k (inl p) (inr q) = rw (p.1, q.1)
  swap_none x y k (inr p) (inl q) = rw (p.1, q.1)
  swap_none x y k (inr p) (inr q) = absurd (k (omega (arith, p.0, q.0)))

  swap_some : (b x y : A) → (rank x ≡ rank y → ⊥)
      → Less (rank x) (rank b) → Less (rank y) (rank b) → Less (rank x) (rank y) → Less (rank y) (rank x)
      → better rank targets (lower rank targets b x (ltb (rank x) (rank b))) y true
      ≡ better rank targets (lower rank targets b y (ltb (rank y) (rank b))) x true
  swap_some b x y k (inl p) (inl q) r s = rw (p.1, q.1) (swap_none x y k r s)
  swap_some b x y k (inl p) (inr q) r (inl s) = absurd (omega (arith, p.0, q.0, s.0))
  swap_some b x y k (inl p) (inr q) r (inr s) = simp (p.1, q.1, s.1)
  swap_some b x y k (inr p) (inl q) (inl r) s = absurd (omega (arith, p.0, q.0, r.0))
  swap_some b x y k (inr p) (inl q) (inr r) s = simp (p.1, q.1, r.1)
  swap_some b x y k (inr p) (inr q) r s = simp (p.1, q.1)

  better_swap : (b : Option A) (x y : A) → RanksDiffer rank targets x y
      → better rank targets (better rank targets b x (targets x)) y (targets y)
      ≡ better rank targets (better rank targets b y (targets y)) x (targets x)
  better_swap b x y h = go (targets x) (targets y) h b
    where
      go : (p q : Bool) → (p ≡ true → q ≡ true → rank x ≡ rank y → ⊥) → (b : Option A)
          → better rank targets (better rank targets b x p) y q ≡ better rank targets (better rank targets b y q) x p
      go false false k b = refl
      go false true k b = refl
      go true false k b = refl
      go true true k none = swap_none x y (k refl refl) (less _ _) (less _ _)
      go true true k (some b) = swap_some b x y (k refl refl) (less _ _) (less _ _) (less _ _) (less _ _)

  ranks_differ_sym : (a b : A) → RanksDiffer rank targets a b → RanksDiffer rank targets b a
  ranks_differ_sym a b h p q e = h q p (sym e)

  pub best_perm : (b : Option A) {l m : List A} → Permᴰ l m → Pairs (RanksDiffer rank targets) l
      → best rank targets b l ≡ best rank targets b m
  best_perm b Permᴰ.nil h = refl
  best_perm b (Permᴰ.cons {a = a} {b = y} {l₂ = m} e d) h =
      best_perm (better rank targets b a (targets a)) d h.1 ∙ ap (λ x. best rank targets (better rank targets b x (targets x)) m) e
  best_perm b (Permᴰ.swap {a = x} {b = y} {l = l} e₁ e₂) h =
      ap (λ z. best rank targets z l) (better_swap b x y (all_here h.0))
      ∙ ap₂ (λ u v. best rank targets (better rank targets (better rank targets b u (targets u)) v (targets v)) l) e₂ e₁
  best_perm b (Permᴰ.trans d₁ d₂) h =
      best_perm b d₁ h ∙ best_perm b d₂ (pairs_perm (RanksDiffer rank targets) ranks_differ_sym d₁ h)

  -- THE FOUR LAWS OF THE CHOICE (RULES.md, 4.3): the chosen entry is in the list and targets; nothing that targets
  -- ranks lower; nothing earlier that targets ranks equal; there is none exactly if none targets. They say which it is.
  pub record Chosen (l : List A) (a : A) : Type 0 where
    pub before : List A
    pub after : List A
    pub place : l ≡ before ++ (a ∷ after)
    pub target : targets a ≡ true
    pub lowest : All (λ x. targets x ≡ true → rank a ≤ rank x) l
    pub first : All (λ x. targets x ≡ true → rank a < rank x) before

  -- what holds of a choice so far
  abbrev Holds : List A → Option A → Type 0
  Holds l none = All (λ x. targets x ≡ false) l
  Holds l (some a) = Chosen l a

  holds_skip : (l : List A) (b : Option A) (x : A) → targets x ≡ false → Holds l b → Holds (l ++ (x ∷ [])) b
  holds_skip l none x e h = all_append l (x ∷ []) h (more e nil)
  holds_skip l (some a) x e h = record {
    before = h.before;
    after = h.after ++ (x ∷ []);
    place = ap (λ z. z ++ (x ∷ [])) h.place ∙ append_assoc h.before (a ∷ h.after) (x ∷ []);
    target = h.target;
    lowest = all_append l (x ∷ []) h.lowest (more (λ k. absurd (true≢false (sym k ∙ e))) nil);
    first = h.first;
  }

  holds_new : (l : List A) (x : A) → targets x ≡ true → All (λ y. targets y ≡ true → rank x < rank y) l
      → Chosen (l ++ (x ∷ [])) x
  holds_new l x e h = record {
    before = l;
    after = [];
    place = refl;
    target = e;
    lowest = all_append l (x ∷ []) (all_map (λ y k t. let z = k t in omega arith) l h) (more (λ k. omega arith) nil);
    first = h;
  }

  holds_lower : (l : List A) (a x : A) → targets x ≡ true → Chosen l a → Less (rank x) (rank a)
      → Holds (l ++ (x ∷ [])) (lower rank targets a x (ltb (rank x) (rank a)))
  holds_lower l a x e h (inl p) =
      rw p.1 (holds_new l x e (all_map (λ y k t. let z = k t in let q = p.0 in omega arith) l h.lowest))
  holds_lower l a x e h (inr p) = rw p.1 (record {
    before = h.before;
    after = h.after ++ (x ∷ []);
    place = ap (λ z. z ++ (x ∷ [])) h.place ∙ append_assoc h.before (a ∷ h.after) (x ∷ []);
    target = h.target;
    lowest = all_append l (x ∷ []) h.lowest (more (λ k. p.0) nil);
    first = h.first;
  })

  holds_next : (l : List A) (b : Option A) (x : A) → Holds l b
      → Holds (l ++ (x ∷ [])) (better rank targets b x (targets x))
  holds_next l b x h = go (targets x) refl b h
    where
      go : (t : Bool) → targets x ≡ t → (b : Option A) → Holds l b → Holds (l ++ (x ∷ [])) (better rank targets b x t)
      go false e b h = holds_skip l b x e h
      go true e none h = holds_new l x e (all_map (λ y k t. absurd (true≢false (sym t ∙ k))) l h)
      go true e (some a) h = holds_lower l a x e h (less (rank x) (rank a))

  holds_best : (l m : List A) (b : Option A) → Holds l b → Holds (l ++ m) (best rank targets b m)
  holds_best l [] b h = rw (append-nil l) h
  holds_best l (x ∷ m) b h =
      subst (λ z. Holds z (best rank targets (better rank targets b x (targets x)) m)) (append_assoc l (x ∷ []) m)
      (holds_best (l ++ (x ∷ [])) m (better rank targets b x (targets x)) (holds_next l b x h))

  pub chosen_some : (l : List A) (a : A) → chosen rank targets l ≡ some a → Chosen l a
  chosen_some l a h = subst (Holds l) h (holds_best [] l none nil)

  pub chosen_none : (l : List A) → chosen rank targets l ≡ none → All (λ x. targets x ≡ false) l
  chosen_none l h = subst (Holds l) h (holds_best [] l none nil)

  pub none_chosen : (l : List A) → All (λ x. targets x ≡ false) l → chosen rank targets l ≡ none
  none_chosen [] nil = refl
  none_chosen (x ∷ l) (more h k) = rw h (none_chosen l k)

  -- an entry of which the laws hold is the chosen one
  same_place : (l m l' m' : List A) (a b : A) → l ++ (a ∷ l') ≡ m ++ (b ∷ m') → targets a ≡ true → targets b ≡ true
      → rank a ≤ rank b → rank b ≤ rank a → All (λ x. targets x ≡ true → rank a < rank x) l
      → All (λ x. targets x ≡ true → rank b < rank x) m → a ≡ b
  same_place [] [] l' m' a b e p q r s f g = cc
  same_place [] (y ∷ m) l' m' a b e p q r s f g =
      let t : a ≡ y = cc in
      let z : rank b < rank a = subst⁻¹ (λ x. rank b < rank x) t (all_here g (subst (λ x. targets x ≡ true) t p)) in
      absurd (omega arith)
  same_place (x ∷ l) [] l' m' a b e p q r s f g =
      let t : b ≡ x = cc in
      let z : rank a < rank b = subst⁻¹ (λ x. rank a < rank x) t (all_here f (subst (λ x. targets x ≡ true) t q)) in
      absurd (omega arith)
  same_place (x ∷ l) (y ∷ m) l' m' a b e p q r s f g =
      let t : l ++ (a ∷ l') ≡ m ++ (b ∷ m') = cc in same_place l m l' m' a b t p q r s (all_rest f) (all_rest g)

  -- what holds of each holds at the place
  at_place : {P : A → Type 0} (l : List A) (a : A) → Chosen l a → All P l → P a
  at_place {P} l a h p = all_here (all_right h.before (a ∷ h.after) (subst (All P) h.place p))

  pub some_chosen : (l : List A) (a : A) → Chosen l a → chosen rank targets l ≡ some a
  some_chosen l a h = go (chosen rank targets l) (holds_best [] l none nil)
    where
      go : (b : Option A) → Holds l b → b ≡ some a
      go none k = absurd (true≢false (sym h.target ∙ at_place l a h k))
      go (some b) k =
          let r : rank a ≤ rank b = at_place l b k h.lowest k.target in
          let s : rank b ≤ rank a = at_place l a h k.lowest h.target in
          ap some (sym (same_place h.before k.before h.after k.after a b (sym h.place ∙ k.place)
          h.target k.target r s h.first k.first))
