-- What a walk notes, and what a note leads to. Assumes nothing.
use Prim.Native.Nat.{ℕ, zero, suc, ◌+◌, ◌≤◌, ◌<◌}
use mathlib.Core.Path.{◌≡◌, refl, sym, ap, ap₂, subst, subst⁻¹, ◌∙◌}
use mathlib.Core.List.{List, [], ◌∷◌, append-nil}
use mathlib.Core.Bool.{Bool, true, false, ◌||◌, cond, false≢true}
use mathlib.Core.Option.{some}
use mathlib.Core.Logic.{inl, inr}
use native.Mathlib.Omega.{arith}
use lib.Dec.{eqb, ltb}
use lib.ListN.{length, get_or, set, take, drop, replicate, length-set, length-replicate, length-drop}
use lib.Seq.{get_or-set_same, get_or-set_other, drop-drop, drop-length, take-length, length-take-le}
use borrow.Author.Tests.{eqb-true, eqb-false, ltb-true, ltb-false}
use Rattle.lists.specs.Lists.{Among, All, nil, more}
use Rattle.lists.proofs.ListsLaws.{among_left, among_right}
use Rattle.slices.specs.Bytes.{Bytes, part}
use Rattle.slices.specs.Chunks.{contains}
use Rattle.slices.proofs.PartLaws.{part_of}
use Rattle.slices.proofs.ChunksLaws.{chunks_step, chunks_stop, used_step, used_stop}
use Rattle.names.specs.Name.{Variable}
use Rattle.store.specs.Record.{name_size, data_size, record_size, record_length, is_of}
use Rattle.store.proofs.RecordLaws.{record_length-within, record_length-local}
use Rattle.store.specs.Store.{records_of, end_of, placed, place_of}
use Rattle.store.specs.Parts.{is_found, record_in, Held, HeaderFits}
use Rattle.store.proofs.PlaceLaws.{contains_place}
use Rattle.store.proofs.DistinctLaws.{found_only}
use Rattle.store.specs.declared.Found.{Found}
use Rattle.std.specs.Prelude.{Option, Some, None}
use Rattle.store.proofs.Walk.{Here, here, ended, rest_at}
use Rattle.stores.specs.Pair.{all_records, sound, lookup}
use Rattle.stores.proofs.PairLaws.{sound_distinct}
use Rattle.stores.specs.declared.Place.{Place}
use Rattle.stores.specs.Place.{place_in, record_at, Within}
use Rattle.stores.proofs.PlaceLaws.{lookup_place, place_within_stores}
use Rattle.noted.specs.Noted.{keys, notes, Begins, NoteOf, Noted, Tried}

-- ---- notes

zeros : (n k : ℕ) → get_or {A = ℕ} (replicate n 0) k 0 ≡ 0
zeros zero k = refl
zeros (suc n) zero = refl
zeros (suc n) (suc k) = zeros n k

pub put_length : (t : List ℕ) (k n m : ℕ) → length t ≡ notes → length (set (set t (keys + k) n) k m) ≡ notes
put_length t k n m q = rw (length-set, length-set) q

module _ (b : Bool) (s : Bytes) where
  none_noted : Noted b s (replicate notes 0)
  none_noted k a e = absurd (let z = sym (zeros notes k) ∙ e in omega arith)

  pub fresh : {t : List ℕ} → t ≡ replicate notes 0 → (length t ≡ notes) × Noted b s t
  fresh e = subst⁻¹ (λ t. (length t ≡ notes) × Noted b s t) e (length-replicate {A = ℕ} notes 0, none_noted)

  set_noted : (t : List ℕ) (i n : ℕ) → i < length t → Noted b s t → NoteOf b s n → Noted b s (set t i n)
  set_noted t i n l w m k = go (eqb k i) refl
    where
      go : (x : Bool) → eqb k i ≡ x → NoteOf b s (get_or (set t i n) k 0)
      go true e a h = m a (sym (ap (λ j. get_or (set t i n) j 0) (eqb-true k i e) ∙ get_or-set_same t i n 0 l) ∙ h)
      go false e a h = w k a (sym (get_or-set_other t i k n 0 (eqb-false k i e)) ∙ h)

  pub put_noted : (t : List ℕ) (k n : ℕ) → k < keys → length t ≡ notes → Noted b s t → NoteOf b s n
      → Noted b s (set (set t (keys + k) n) k (cond (eqb (get_or t k 0) 0) n (get_or t k 0)))
  put_noted t k n l q w m =
      set_noted (set t (keys + k) n) k _ (rw length-set (omega arith)) (set_noted t (keys + k) n (omega arith) w m) (either (eqb (get_or t k 0) 0))
    where
      either : (x : Bool) → NoteOf b s (cond x n (get_or t k 0))
      either true = m
      either false = w k

  -- both of what was put
  pub noted_after : (t : List ℕ) (k n : ℕ) {t' : List ℕ} → t' ≡ set (set t (keys + k) n) k (cond (eqb (get_or t k 0) 0) n (get_or t k 0)) → k < keys → length t ≡ notes → Noted b s t → NoteOf b s n
      → (length t' ≡ notes) × Noted b s t'
  noted_after t k n e l q w m =
      subst⁻¹ (λ x. (length x ≡ notes) × Noted b s x) e (put_length t k n _ q, put_noted t k n l q w m)

  -- ---- a walk

  -- at a record that stands in the store
  module _ (at m : ℕ) (h : Here b at m s) where
    steps : records_of b (drop at s) ≡ take m (drop at s) ∷ records_of b (drop (at + m) s)
    steps = chunks_step (record_length b) (record_length-within b) m (drop at s) h.is h.some ∙ rw drop-drop

    module _ (sub : (x : Bytes) → Among x (records_of b (drop at s)) → Among x (records_of b s)) where
      pub begins_here : at ≤ length s → end_of b s ≡ at + end_of b (drop at s) → at < end_of b s → Begins b s at
      begins_here w q k =
          record { within = w; rest = q; before = k; stands = sub _ (subst⁻¹ (Among _) steps (inl (ap (λ z. take z (drop at s)) h.whole))) }

      pub stands_next : (x : Bytes) → Among x (records_of b (drop (at + m) s)) → Among x (records_of b s)
      stands_next x k = sub x (subst⁻¹ (Among x) steps (inr k))

  -- where each record of a list stands, a record of the store begins
  abbrev Each : ℕ → List Bytes → Type 0
  Each at rs = All (λ (x : ℕ × Bytes). Begins b s x.0) (placed at rs)

  abbrev Subset : List Bytes → Type 0
  Subset rs = (x : Bytes) → Among x rs → Among x (records_of b s)

  each_begins : (rs : List Bytes) (at : ℕ) → records_of b (drop at s) ≡ rs → at ≤ length s → end_of b s ≡ at + end_of b (drop at s) → Subset (records_of b (drop at s)) → Each at rs
  unfolding placed
  each_begins [] at e w q sub = nil
  each_begins (r ∷ rs) at e w q sub = go (ltb at (end_of b s)) refl (each_begins rs)
    where
      go : (t : Bool) → ltb at (end_of b s) ≡ t
          → ((n : ℕ) → records_of b (drop n s) ≡ rs → n ≤ length s → end_of b s ≡ n + end_of b (drop n s) → Subset (records_of b (drop n s)) → Each n rs)
          → All (λ (x : ℕ × Bytes). Begins b s x.0) ((at, r) ∷ placed (at + length r) rs)
      go true k others =
          let m : ℕ = record_size (name_size (drop at s)) (data_size (drop at s)) in
          let before : at < end_of b s = ltb-true at (end_of b s) k in
          let h : Here b at m s = here b at s w q before in
          let both : ◌≡◌ {A = List Bytes} (r ∷ rs) (take m (drop at s) ∷ records_of b (drop (at + m) s)) = sym e ∙ steps at m h in
          let first : r ≡ take m (drop at s) = cc in
          let behind : records_of b (drop (at + m) s) ≡ rs = cc in
          let size : length r ≡ m = ap length first ∙ length-take-le m (drop at s) (rw length-drop (omega (arith, h.next))) in
          more (begins_here at m h sub w q before) (rw size (others (at + m) behind h.next h.step (stands_next at m h sub)))
      go false k others =
          let none : ◌≡◌ {A = List Bytes} [] (r ∷ rs) = sym (chunks_stop (record_length b) (drop at s) (ended b at s q (ltb-false at (end_of b s) k))) ∙ e in
          let z : ◌≡◌ {A = ℕ} 0 1 = cc in
          absurd (omega arith)

  pub records_begin : Each 0 (records_of b s)
  records_begin = each_begins (records_of b s) 0 refl (omega arith) (omega arith) (λ x k. k)

  -- ---- the record that a note leads to

  abbrev size_at : ℕ → ℕ
  size_at a = record_size (name_size (drop a s)) (data_size (drop a s))

  pub here_at : (a : ℕ) → Begins b s a → Here b a (size_at a) s
  here_at a w = here b a s w.within w.rest w.before

  pub here_sized : (a m : ℕ) → Begins b s a → m ≡ size_at a → Here b a m s
  here_sized a m w q = rw q (here_at a w)

-- as the code reads its size
pub size_of : {z n d : ℕ} (a : ℕ) (s : Bytes) → z ≡ record_size n d → n ≡ name_size (part a (length s) s) → d ≡ data_size (part a (length s) s)
    → z ≡ record_size (name_size (drop a s)) (data_size (drop a s))
size_of a s e f g = e ∙ ap₂ record_size (f ∙ ap name_size (rest_at a s)) (g ∙ ap data_size (rest_at a s))

-- ---- a record by itself, as a store

module _ (b : Bool) (l : Bytes) (m : ℕ) (e : record_length b l ≡ m) (h : 0 < m) where
  abbrev alone : Bytes
  alone = take m l

  whole : length alone ≡ m
  whole = length-take-le m l (rw e at (record_length-within b l))

  first_is : record_length b alone ≡ m
  first_is = ap (record_length b) (sym (append-nil alone)) ∙ record_length-local b l [] m e h

  nothing_behind : drop m alone ≡ []
  nothing_behind = ap (λ k. drop k alone) (sym whole) ∙ drop-length alone

  no_record : record_length b [] ≡ 0
  no_record = let z = record_length-within b [] in omega arith

  pub alone_end : m ≡ end_of b alone
  alone_end =
      sym (used_step (record_length b) (record_length-within b) m alone first_is h
      ∙ ap (λ x. m + end_of b x) nothing_behind ∙ ap (λ k. m + k) (used_stop (record_length b) [] no_record) ∙ omega arith)

  alone_records : records_of b alone ≡ alone ∷ []
  alone_records =
      chunks_step (record_length b) (record_length-within b) m alone first_is h
      ∙ rw (take_take_self, nothing_behind, chunks_stop (record_length b) [] no_record)
    where
      take_take_self : take m alone ≡ alone
      take_take_self = ap (λ k. take k alone) (sym whole) ∙ take-length alone

  pub alone_found : (v : Variable) → is_found (place_of b alone v) ≡ true → is_of v alone ≡ true
  unfolding contains
  alone_found v f = or_off_right (is_of v alone) (subst (λ rs. contains (is_of v) rs ≡ true) alone_records (contains_place b alone v ∙ f))
    where
      or_off_right : (x : Bool) → (x || false) ≡ true → x ≡ true
      or_off_right true k = refl
      or_off_right false k = absurd (false≢true k)

-- ---- what is tried, and what is found

module _ (b : Bool) (s : Bytes) (v : Variable) where
  pub tried_none : Tried b s v None
  tried_none e = absurd (false≢true e)

  -- r is what the search of the record alone found
  pub tried_here : {r : Option Found} (a m : ℕ) → Begins b s a → m ≡ record_size (name_size (drop a s)) (data_size (drop a s))
      → r ≡ place_of b (take m (part a (length s) s)) v → is_found r ≡ true → Tried b s v (Some (record { at = a; len = m }))
  tried_here a m w q k f e =
      let h = here_sized b s a m w q in
      let p = part_of a m s in
      record {
        found = take m (drop a s);
        is = ap some p;
        own = alone_found b (drop a s) m h.is h.some v (ap (λ x. is_found (place_of b (take m x) v)) (sym (rest_at a s)) ∙ ap is_found (sym k) ∙ f);
        stands = subst⁻¹ (λ z. Among (take z (drop a s)) (records_of b s)) q w.stands;
        held = (h.next, subst⁻¹ HeaderFits p h.fits);
      }

-- ---- in whichever store

module _ (nv vol : Bytes) (v : Variable) (k : sound nv vol ≡ true) where
  -- a record of the variable in either store is what is looked up
  looked_up : (r : Bytes) → Among r (all_records nv vol) → is_of v r ≡ true → lookup nv vol v ≡ some r
  unfolding lookup
  looked_up r a o = found_only (all_records nv vol) (sound_distinct nv vol k) v r a o

  pub located_nv : {f : Option Found} → Tried true nv v f → {x : Bool} → x ≡ is_found f → x ≡ true → (record_in nv f ≡ lookup nv vol v) × Held nv f
  located_nv t e h =
      let w = t (sym e ∙ h) in
      (w.is ∙ sym (looked_up w.found (among_left (records_of true nv) (records_of false vol) w.found w.stands) w.own), w.held)

  pub located_vol : {f : Option Found} → Tried false vol v f → {x : Bool} → x ≡ is_found f → x ≡ true → (record_in vol f ≡ lookup nv vol v) × Held vol f
  located_vol t e h =
      let w = t (sym e ∙ h) in
      (w.is ∙ sym (looked_up w.found (among_right (records_of true nv) (records_of false vol) w.found w.stands) w.own), w.held)

pub located_else : {p : Place} (nv vol : Bytes) (v : Variable) → p ≡ place_in nv vol v → (record_at nv vol p ≡ lookup nv vol v) × Within nv vol p
located_else nv vol v e = subst⁻¹ (λ p. (record_at nv vol p ≡ lookup nv vol v) × Within nv vol p) e (sym (lookup_place nv vol v), place_within_stores nv vol v)
