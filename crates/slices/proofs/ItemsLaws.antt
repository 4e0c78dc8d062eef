-- Laws of lists of items: what is in them, taken out, replaced or put behind. Assumes nothing.
use Rattle.std.specs.Prelude.{ℕ, ◌≤◌, Bool, not, ◌||◌, length}
use Rattle.std.proofs.Math.Path.{◌≡◌, refl}
use Rattle.std.proofs.Common.{sym, ap, ◌∙◌, true≢false, arith, length-append}
use mathlib.Core.List.{List, [], ◌∷◌, ◌++◌}
use Rattle.std.proofs.Math.Bool.{true, false, cond, or-true}
use Rattle.std.proofs.lemmas.Bool.{false≢true}
use Rattle.std.proofs.Math.Option.{Option, none, some}
use Rattle.slices.specs.Test.{◌and◌}
use Rattle.slices.proofs.TestLaws.{and_left, and_right, and_intro, and_no, and_off, forced_off}
use Rattle.slices.specs.Bytes.{Bytes}
use Rattle.slices.specs.Chunks.{flat, contains, distinct, find, remove, replace, replace_or_append}
pub use Rattle.lists.proofs.ListsLaws.{all_here, all_map, all_append, all_right}
use Rattle.slices.proofs.ChunksLaws.{All, nil, more}

-- ---- of two tests joined by or
pub or_left_off : (a b : Bool) → (a || b) ≡ false → a ≡ false
or_left_off true b e = e
or_left_off false b e = refl

pub or_right_off : (a b : Bool) → (a || b) ≡ false → b ≡ false
or_right_off true b e = absurd (true≢false e)
or_right_off false b e = e

pub or_off : (a b : Bool) → a ≡ false → b ≡ false → (a || b) ≡ false
or_off true b e f = e
or_off false b e f = f

-- ---- each item has the property still
module _ {P : Bytes → Type 0} where
  module _ (p : Bytes → Bool) where
    pub all_remove : (cs : List Bytes) → All P cs → All P (remove p cs)
    unfolding remove
    all_remove [] nil = nil
    all_remove (c ∷ cs) (more h a) = go (p c) (all_remove cs a)
      where
        go : (b : Bool) → All P (remove p cs) → All P (cond b cs (c ∷ remove p cs))
        go true i = a
        go false i = more h i

    pub all_replace : (q : Bytes) (cs : List Bytes) → P q → All P cs → All P (replace p q cs)
    unfolding replace
    all_replace q [] k nil = nil
    all_replace q (c ∷ cs) k (more h a) = go (p c) (all_replace q cs k a)
      where
        go : (b : Bool) → All P (replace p q cs) → All P (cond b (q ∷ cs) (c ∷ replace p q cs))
        go true i = more k a
        go false i = more h i

    pub all-replace_or_append : (q : Bytes) (cs : List Bytes) → P q → All P cs → All P (replace_or_append p q cs)
    unfolding replace_or_append
    all-replace_or_append q cs k a = go (contains p cs)
      where
        go : (b : Bool) → All P (cond b (replace p q cs) (cs ++ (q ∷ [])))
        go true = all_replace q cs k a
        go false = all_append cs (q ∷ []) a (more k nil)

    -- the item that is found
    pub all_find : (cs : List Bytes) (c : Bytes) → find p cs ≡ some c → All P cs → P c
    unfolding find
    all_find [] c e nil = let z : ◌≡◌ {A = ℕ} 0 1 = cc in absurd (omega arith)
    all_find (d ∷ cs) c e (more h a) = go (p d) e (λ i. all_find cs c i a)
      where
        go : (b : Bool) → cond b (some d) (find p cs) ≡ some c → (find p cs ≡ some c → P c) → P c
        go true f ih = let i : d ≡ c = cc in subst_here i h
          where
            subst_here : d ≡ c → P d → P c
            subst_here i x = rw i at x
        go false f ih = ih f

-- ---- whether an item is there
module _ (f : Bytes → Bool) where
  pub contains_append : (cs ds : List Bytes) → contains f (cs ++ ds) ≡ (contains f cs || contains f ds)
  unfolding contains
  contains_append [] ds = refl
  contains_append (c ∷ cs) ds = go (f c) (contains_append cs ds)
    where
      go : (b : Bool) → contains f (cs ++ ds) ≡ (contains f cs || contains f ds) → (b || contains f (cs ++ ds)) ≡ ((b || contains f cs) || contains f ds)
      go true i = refl
      go false i = i

  pub contains_one : (q : Bytes) → contains f (q ∷ []) ≡ f q
  unfolding contains
  contains_one q = go (f q)
    where
      go : (b : Bool) → (b || false) ≡ b
      go true = refl
      go false = refl

  pub contains_middle : (cs : List Bytes) (c : Bytes) (ds : List Bytes) → f c ≡ true → contains f (cs ++ (c ∷ ds)) ≡ true
  unfolding contains
  contains_middle [] c ds e = rw e
  contains_middle (d ∷ cs) c ds e = rw (contains_middle cs c ds e) (or-true (f d))

  pub contains_remove : (p : Bytes → Bool) (cs : List Bytes) → contains f cs ≡ false → contains f (remove p cs) ≡ false
  unfolding contains remove
  contains_remove p [] e = refl
  contains_remove p (c ∷ cs) e = go (p c) (contains_remove p cs k)
    where
      k : contains f cs ≡ false
      k = or_right_off (f c) (contains f cs) e

      go : (b : Bool) → contains f (remove p cs) ≡ false → contains f (cond b cs (c ∷ remove p cs)) ≡ false
      go true i = k
      go false i = or_off (f c) (contains f (remove p cs)) (or_left_off (f c) (contains f cs) e) i

  -- an item replaced by one that the test takes just so
  pub contains_replace : (p : Bytes → Bool) (q : Bytes) (cs : List Bytes) → ((c : Bytes) → p c ≡ true → f q ≡ f c) → contains f (replace p q cs) ≡ contains f cs
  unfolding contains replace
  contains_replace p q [] h = refl
  contains_replace p q (c ∷ cs) h = go (p c) refl (contains_replace p q cs h)
    where
      go : (b : Bool) → p c ≡ b → contains f (replace p q cs) ≡ contains f cs → contains f (cond b (q ∷ cs) (c ∷ replace p q cs)) ≡ (f c || contains f cs)
      go true e i = rw (h c e)
      go false e i = rw i

  -- an item that the test does not take, put in
  contains_replace_off : (p : Bytes → Bool) (q : Bytes) (cs : List Bytes) → contains f cs ≡ false → f q ≡ false → contains f (replace p q cs) ≡ false
  unfolding contains replace
  contains_replace_off p q [] e h = refl
  contains_replace_off p q (c ∷ cs) e h = go (p c) (contains_replace_off p q cs k h)
    where
      k : contains f cs ≡ false
      k = or_right_off (f c) (contains f cs) e

      go : (b : Bool) → contains f (replace p q cs) ≡ false → contains f (cond b (q ∷ cs) (c ∷ replace p q cs)) ≡ false
      go true i = or_off (f q) (contains f cs) h k
      go false i = or_off (f c) (contains f (replace p q cs)) (or_left_off (f c) (contains f cs) e) i

  pub contains-replace_or_append-off : (p : Bytes → Bool) (q : Bytes) (cs : List Bytes) → contains f cs ≡ false → f q ≡ false → contains f (replace_or_append p q cs) ≡ false
  unfolding replace_or_append
  contains-replace_or_append-off p q cs e h = go (contains p cs)
    where
      go : (b : Bool) → contains f (cond b (replace p q cs) (cs ++ (q ∷ []))) ≡ false
      go true = contains_replace_off p q cs e h
      go false = contains_append cs (q ∷ []) ∙ or_off (contains f cs) (contains f (q ∷ [])) e (contains_one q ∙ h)

  -- none of the items is taken
  pub contains_none : (cs : List Bytes) → contains f cs ≡ false → All (λ (c : Bytes). f c ≡ false) cs
  unfolding contains
  contains_none [] e = nil
  contains_none (c ∷ cs) e = more (or_left_off (f c) (contains f cs) e) (contains_none cs (or_right_off (f c) (contains f cs) e))

  pub contains_ext : (h : Bytes → Bool) (cs : List Bytes) → ((c : Bytes) → f c ≡ h c) → contains f cs ≡ contains h cs
  unfolding contains
  contains_ext h [] e = refl
  contains_ext h (c ∷ cs) e = rw (e c, contains_ext h cs e)

  -- found exactly if it is there
  pub find_none : (cs : List Bytes) → contains f cs ≡ false → find f cs ≡ none
  unfolding contains find
  find_none [] e = refl
  find_none (c ∷ cs) e = rw (or_left_off (f c) (contains f cs) e) (find_none cs (or_right_off (f c) (contains f cs) e))

  pub find_takes : (cs : List Bytes) (c : Bytes) → find f cs ≡ some c → f c ≡ true
  unfolding find
  find_takes [] c e = let z : ◌≡◌ {A = ℕ} 0 1 = cc in absurd (omega arith)
  find_takes (d ∷ cs) c e = go (f d) refl e (find_takes cs c)
    where
      go : (b : Bool) → f d ≡ b → cond b (some d) (find f cs) ≡ some c → (find f cs ≡ some c → f c ≡ true) → f c ≡ true
      go true t k ih = let i : d ≡ c = cc in rw i at t
      go false t k ih = ih k

  pub contains_find : (cs : List Bytes) (c : Bytes) → find f cs ≡ some c → contains f cs ≡ true
  unfolding contains find
  contains_find [] c e = let z : ◌≡◌ {A = ℕ} 0 1 = cc in absurd (omega arith)
  contains_find (d ∷ cs) c e = go (f d) e (contains_find cs c)
    where
      go : (b : Bool) → cond b (some d) (find f cs) ≡ some c → (find f cs ≡ some c → contains f cs ≡ true) → (b || contains f cs) ≡ true
      go true k ih = refl
      go false k ih = ih k

  pub none_contains : (cs : List Bytes) → find f cs ≡ none → contains f cs ≡ false
  unfolding contains find
  none_contains [] e = refl
  none_contains (d ∷ cs) e = go (f d) e (none_contains cs)
    where
      go : (b : Bool) → cond b (some d) (find f cs) ≡ none → (find f cs ≡ none → contains f cs ≡ false) → (b || contains f cs) ≡ false
      go true k ih = let z : ◌≡◌ {A = ℕ} 0 1 = cc in absurd (omega arith)
      go false k ih = ih k

  pub find_append : (cs ds : List Bytes) → contains f cs ≡ false → find f (cs ++ ds) ≡ find f ds
  unfolding contains find
  find_append [] ds e = refl
  find_append (c ∷ cs) ds e = rw (or_left_off (f c) (contains f cs) e) (find_append cs ds (or_right_off (f c) (contains f cs) e))

  -- what is found once an item was replaced, or put behind
  pub find_replace : (q : Bytes) (cs : List Bytes) → f q ≡ true → contains f cs ≡ true → find f (replace f q cs) ≡ some q
  unfolding contains find replace
  find_replace q [] t e = absurd (false≢true e)
  find_replace q (c ∷ cs) t e = go (f c) refl e (find_replace q cs t)
    where
      go : (b : Bool) → f c ≡ b → (b || contains f cs) ≡ true → (contains f cs ≡ true → find f (replace f q cs) ≡ some q) → find f (cond b (q ∷ cs) (c ∷ replace f q cs)) ≡ some q
      go true h k ih = rw t
      go false h k ih = rw h (ih k)

  pub find-replace_or_append : (q : Bytes) (cs : List Bytes) → f q ≡ true → find f (replace_or_append f q cs) ≡ some q
  unfolding replace_or_append find
  find-replace_or_append q cs t = go (contains f cs) refl
    where
      go : (b : Bool) → contains f cs ≡ b → find f (cond b (replace f q cs) (cs ++ (q ∷ []))) ≡ some q
      go true e = find_replace q cs t e
      go false e = find_append cs (q ∷ []) e ∙ rw t

-- what is found in a list behind another
abbrev pub or_else : Option Bytes → Option Bytes → Option Bytes
or_else none other = other
or_else (some c) other = some c

pub find_either : (f : Bytes → Bool) (cs ds : List Bytes) → find f (cs ++ ds) ≡ or_else (find f cs) (find f ds)
unfolding find
find_either f [] ds = refl
find_either f (c ∷ cs) ds = go (f c) (find_either f cs ds)
  where
    go : (b : Bool) → find f (cs ++ ds) ≡ or_else (find f cs) (find f ds) → cond b (some c) (find f (cs ++ ds)) ≡ or_else (cond b (some c) (find f cs)) (find f ds)
    go true i = refl
    go false i = i

-- ---- an item that another test takes
module _ (p o : Bytes → Bool) (other : (c : Bytes) → p c ≡ true → o c ≡ false) where
  pub find_remove_other : (cs : List Bytes) → find o (remove p cs) ≡ find o cs
  unfolding find remove
  find_remove_other [] = refl
  find_remove_other (c ∷ cs) = go (p c) refl (find_remove_other cs)
    where
      go : (b : Bool) → p c ≡ b → find o (remove p cs) ≡ find o cs → find o (cond b cs (c ∷ remove p cs)) ≡ cond (o c) (some c) (find o cs)
      go true e i = rw (other c e)
      go false e i = rw i

  pub find_replace_other : (q : Bytes) (cs : List Bytes) → o q ≡ false → find o (replace p q cs) ≡ find o cs
  unfolding find replace
  find_replace_other q [] h = refl
  find_replace_other q (c ∷ cs) h = go (p c) refl (find_replace_other q cs h)
    where
      go : (b : Bool) → p c ≡ b → find o (replace p q cs) ≡ find o cs → find o (cond b (q ∷ cs) (c ∷ replace p q cs)) ≡ cond (o c) (some c) (find o cs)
      go true e i = rw (other c e, h)
      go false e i = rw i

  find_append_other : (q : Bytes) (cs : List Bytes) → o q ≡ false → find o (cs ++ (q ∷ [])) ≡ find o cs
  unfolding find
  find_append_other q [] h = rw h
  find_append_other q (c ∷ cs) h = rw (find_append_other q cs h)

  pub find-replace_or_append-other : (q : Bytes) (cs : List Bytes) → o q ≡ false → find o (replace_or_append p q cs) ≡ find o cs
  unfolding replace_or_append
  find-replace_or_append-other q cs h = go (contains p cs)
    where
      go : (b : Bool) → find o (cond b (replace p q cs) (cs ++ (q ∷ []))) ≡ find o cs
      go true = find_replace_other q cs h
      go false = find_append_other q cs h

-- the items without one that is not there
pub remove_none : (p : Bytes → Bool) (cs : List Bytes) → contains p cs ≡ false → remove p cs ≡ cs
unfolding contains remove
remove_none p [] e = refl
remove_none p (c ∷ cs) e = rw (or_left_off (p c) (contains p cs) e) (ap (λ (ds : List Bytes). c ∷ ds) (remove_none p cs (or_right_off (p c) (contains p cs) e)))

pub length_remove : (p : Bytes → Bool) (cs : List Bytes) → length (flat (remove p cs)) ≤ length (flat cs)
unfolding remove flat
length_remove p [] = omega arith
length_remove p (c ∷ cs) = go (p c) (length_remove p cs)
  where
    go : (b : Bool) → length (flat (remove p cs)) ≤ length (flat cs) → length (flat (cond b cs (c ∷ remove p cs))) ≤ length (flat (c ∷ cs))
    go true i = simp length-append (omega arith)
    go false i = simp length-append (omega arith)

-- ---- no item is like a later one
module _ (like : Bytes → Bytes → Bool) where
  pub record Apart (c : Bytes) (cs : List Bytes) : Type 0 where
    pub here : contains (like c) cs ≡ false
    pub rest : distinct like cs ≡ true

  pub distinct_apart : (c : Bytes) (cs : List Bytes) → distinct like (c ∷ cs) ≡ true → Apart c cs
  unfolding distinct
  distinct_apart c cs e = record {
    here = forced_off (contains (like c) cs) (λ t. rw t at (and_left (not (contains (like c) cs)) (distinct like cs) e));
    rest = and_right (not (contains (like c) cs)) (distinct like cs) e;
  }

  pub distinct_cons : (c : Bytes) (cs : List Bytes) → contains (like c) cs ≡ false → distinct like cs ≡ true → distinct like (c ∷ cs) ≡ true
  unfolding distinct
  distinct_cons c cs h e = and_intro (not (contains (like c) cs)) (distinct like cs) (rw h) e

  pub distinct_remove : (p : Bytes → Bool) (cs : List Bytes) → distinct like cs ≡ true → distinct like (remove p cs) ≡ true
  unfolding remove
  distinct_remove p [] e = e
  distinct_remove p (c ∷ cs) e = go (p c) (distinct_remove p cs (distinct_apart c cs e).rest)
    where
      go : (b : Bool) → distinct like (remove p cs) ≡ true → distinct like (cond b cs (c ∷ remove p cs)) ≡ true
      go true i = (distinct_apart c cs e).rest
      go false i = distinct_cons c (remove p cs) (contains_remove (like c) p cs (distinct_apart c cs e).here) i

  -- of distinct items only one is like any that the test takes: taken out, it is there no more
  pub contains_removed : (p : Bytes → Bool) → ((c : Bytes) → p c ≡ true → (d : Bytes) → p d ≡ like c d) → (cs : List Bytes) → distinct like cs ≡ true
      → contains p (remove p cs) ≡ false
  unfolding contains remove
  contains_removed p same [] e = refl
  contains_removed p same (c ∷ cs) e = go (p c) refl (contains_removed p same cs w.rest)
    where
      w : Apart c cs
      w = distinct_apart c cs e

      go : (b : Bool) → p c ≡ b → contains p (remove p cs) ≡ false → contains p (cond b cs (c ∷ remove p cs)) ≡ false
      go true t i = contains_ext p (like c) cs (same c t) ∙ w.here
      go false t i = or_off (p c) (contains p (remove p cs)) t i

  pub distinct_left : (cs ds : List Bytes) → distinct like (cs ++ ds) ≡ true → distinct like cs ≡ true
  unfolding distinct
  distinct_left [] ds e = refl
  distinct_left (c ∷ cs) ds e =
      let w = distinct_apart c (cs ++ ds) e in
      distinct_cons c cs (or_left_off (contains (like c) cs) (contains (like c) ds) (sym (contains_append (like c) cs ds) ∙ w.here)) (distinct_left cs ds w.rest)

  pub distinct_right : (cs ds : List Bytes) → distinct like (cs ++ ds) ≡ true → distinct like ds ≡ true
  distinct_right [] ds e = e
  distinct_right (c ∷ cs) ds e = distinct_right cs ds (distinct_apart c (cs ++ ds) e).rest

  -- no item of one list is like one of another behind it
  pub distinct_across : (cs ds : List Bytes) → distinct like (cs ++ ds) ≡ true → All (λ (c : Bytes). contains (like c) ds ≡ false) cs
  distinct_across [] ds e = nil
  distinct_across (c ∷ cs) ds e =
      let w = distinct_apart c (cs ++ ds) e in
      more (or_right_off (contains (like c) cs) (contains (like c) ds) (sym (contains_append (like c) cs ds) ∙ w.here)) (distinct_across cs ds w.rest)

  pub distinct_join : (cs ds : List Bytes) → distinct like cs ≡ true → distinct like ds ≡ true → All (λ (c : Bytes). contains (like c) ds ≡ false) cs → distinct like (cs ++ ds) ≡ true
  distinct_join [] ds e f nil = f
  distinct_join (c ∷ cs) ds e f (more h a) =
      let w = distinct_apart c cs e in
      distinct_cons c (cs ++ ds) (contains_append (like c) cs ds ∙ or_off (contains (like c) cs) (contains (like c) ds) w.here h) (distinct_join cs ds w.rest f a)

  -- an item taken out of either
  pub distinct_remove_left : (p : Bytes → Bool) (cs ds : List Bytes) → distinct like (cs ++ ds) ≡ true → distinct like (remove p cs ++ ds) ≡ true
  distinct_remove_left p cs ds e =
      distinct_join (remove p cs) ds (distinct_remove p cs (distinct_left cs ds e)) (distinct_right cs ds e) (all_remove p cs (distinct_across cs ds e))

  pub distinct_remove_right : (p : Bytes → Bool) (cs ds : List Bytes) → distinct like (cs ++ ds) ≡ true → distinct like (cs ++ remove p ds) ≡ true
  distinct_remove_right p cs ds e =
      distinct_join cs (remove p ds) (distinct_left cs ds e) (distinct_remove p ds (distinct_right cs ds e))
      (all_map (λ c h. contains_remove (like c) p ds h) cs (distinct_across cs ds e))

  -- a test that is like one item is like all that are like it
  module _ (like-sym : (a b : Bytes) → like a b ≡ like b a) (like-same : (a b : Bytes) → like a b ≡ true → (c : Bytes) → like a c ≡ like b c) where
    -- an item put in place of one that it is like
    pub distinct_replace : (q : Bytes) (cs : List Bytes) → distinct like cs ≡ true → distinct like (replace (like q) q cs) ≡ true
    unfolding replace
    distinct_replace q [] e = e
    distinct_replace q (c ∷ cs) e = go (like q c) refl (distinct_replace q cs w.rest)
      where
        w : Apart c cs
        w = distinct_apart c cs e

        go : (b : Bool) → like q c ≡ b → distinct like (replace (like q) q cs) ≡ true → distinct like (cond b (q ∷ cs) (c ∷ replace (like q) q cs)) ≡ true
        go true t i = distinct_cons q cs (contains_ext (like q) (like c) cs (like-same q c t) ∙ w.here) w.rest
        go false t i =
            distinct_cons c (replace (like q) q cs) (contains_replace (like c) (like q) q cs (λ x k. like-sym c q ∙ like-same q x k c ∙ like-sym x c) ∙ w.here) i

    -- one that is like none before it put behind them
    pub distinct_append : (q : Bytes) (cs : List Bytes) → contains (like q) cs ≡ false → distinct like cs ≡ true → distinct like (cs ++ (q ∷ [])) ≡ true
    unfolding contains
    distinct_append q [] h e = distinct_cons q [] refl e
    distinct_append q (c ∷ cs) h e =
        let w = distinct_apart c cs e in
        let j : like c q ≡ false = like-sym c q ∙ or_left_off (like q c) (contains (like q) cs) h in
        distinct_cons c (cs ++ (q ∷ [])) (contains_append (like c) cs (q ∷ []) ∙ or_off (contains (like c) cs) (contains (like c) (q ∷ [])) w.here (contains_one (like c) q ∙ j))
        (distinct_append q cs (or_right_off (like q c) (contains (like q) cs) h) w.rest)

    pub distinct-replace_or_append : (q : Bytes) (cs : List Bytes) → distinct like cs ≡ true → distinct like (replace_or_append (like q) q cs) ≡ true
    unfolding replace_or_append
    distinct-replace_or_append q cs e = go (contains (like q) cs) refl
      where
        go : (b : Bool) → contains (like q) cs ≡ b → distinct like (cond b (replace (like q) q cs) (cs ++ (q ∷ []))) ≡ true
        go true h = distinct_replace q cs e
        go false h = distinct_append q cs h e

    -- an item put into one of two lists, where the other has none like it
    pub distinct-replace_or_append-left : (q : Bytes) (cs ds : List Bytes) → contains (like q) ds ≡ false → distinct like (cs ++ ds) ≡ true
        → distinct like (replace_or_append (like q) q cs ++ ds) ≡ true
    distinct-replace_or_append-left q cs ds h e =
        distinct_join (replace_or_append (like q) q cs) ds (distinct-replace_or_append q cs (distinct_left cs ds e)) (distinct_right cs ds e)
        (all-replace_or_append (like q) q cs h (distinct_across cs ds e))

    pub distinct-replace_or_append-right : (q : Bytes) (cs ds : List Bytes) → contains (like q) cs ≡ false → distinct like (cs ++ ds) ≡ true
        → distinct like (cs ++ replace_or_append (like q) q ds) ≡ true
    distinct-replace_or_append-right q cs ds h e =
        distinct_join cs (replace_or_append (like q) q ds) (distinct_left cs ds e) (distinct-replace_or_append q ds (distinct_right cs ds e))
        (off cs (contains_none (like q) cs h) (distinct_across cs ds e))
      where
        off : (xs : List Bytes) → All (λ (c : Bytes). like q c ≡ false) xs → All (λ (c : Bytes). contains (like c) ds ≡ false) xs
            → All (λ (c : Bytes). contains (like c) (replace_or_append (like q) q ds) ≡ false) xs
        off [] nil nil = nil
        off (x ∷ xs) (more k ks) (more a as') = more (contains-replace_or_append-off (like x) (like q) q ds a (like-sym x q ∙ k)) (off xs ks as')

    -- where one of two lists has one like it, the other has none
    pub contains_across : (q : Bytes) (cs ds : List Bytes) → distinct like (cs ++ ds) ≡ true → contains (like q) cs ≡ true → contains (like q) ds ≡ false
    unfolding contains
    contains_across q [] ds e h = absurd (false≢true h)
    contains_across q (c ∷ cs) ds e h = go (like q c) refl h (contains_across q cs ds (distinct_apart c (cs ++ ds) e).rest)
      where
        go : (b : Bool) → like q c ≡ b → (b || contains (like q) cs) ≡ true → (contains (like q) cs ≡ true → contains (like q) ds ≡ false) → contains (like q) ds ≡ false
        go true t k i = contains_ext (like q) (like c) ds (like-same q c t) ∙ all_here (distinct_across (c ∷ cs) ds e)
        go false t k i = i k

-- an item like one before it
pub distinct_repeated : (like : Bytes → Bytes → Bool) → ((a b : Bytes) → like a b ≡ like b a) → (cs : List Bytes) (c : Bytes) (ds : List Bytes)
    → contains (like c) cs ≡ true → distinct like (cs ++ (c ∷ ds)) ≡ false
unfolding contains distinct
distinct_repeated like like-sym [] c ds e = absurd (false≢true e)
distinct_repeated like like-sym (d ∷ cs) c ds e = go (like c d) refl (distinct_repeated like like-sym cs c ds)
  where
    go : (b : Bool) → like c d ≡ b → (contains (like c) cs ≡ true → distinct like (cs ++ (c ∷ ds)) ≡ false)
        → (not (contains (like d) (cs ++ (c ∷ ds))) and distinct like (cs ++ (c ∷ ds))) ≡ false
    go true q i = rw (contains_middle (like d) cs c ds (like-sym d c ∙ q)) (and_off (distinct like (cs ++ (c ∷ ds))))
    go false q i = rw (i (rw q at e)) (and_no (not (contains (like d) (cs ++ (c ∷ ds)))))
