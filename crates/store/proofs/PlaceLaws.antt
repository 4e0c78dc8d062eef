-- Laws of the place of a record. Assumes nothing.
use Rattle.std.specs.Prelude.{ℕ, ◌+◌, ◌≤◌, Bool, ◌||◌, Option, Some, None, take}
use Rattle.std.proofs.Math.Path.{◌≡◌, refl, sym, ap}
use Rattle.std.proofs.Common.{◌∙◌, subst, arith, zero-add, take-append-drop, drop-drop}
use mathlib.Core.List.{List, [], ◌∷◌, ◌++◌, append_assoc}
use Rattle.std.proofs.Math.Bool.{true, false}
use Rattle.std.proofs.Math.Option.{none, some}
use Rattle.std.proofs.Math.ListN.{length, drop, length-append}
use Rattle.std.proofs.Math.Seq.{take-append_seam, drop-append_seam, take-length}
use Rattle.slices.specs.Bytes.{Bytes, part}
use Rattle.slices.proofs.PartLaws.{part_of, part_take, length_part}
use Rattle.slices.specs.Chunks.{flat, contains, find, remove, replace}
use Rattle.slices.proofs.ChunksLaws.{All, flat_append, flat_chunks}
use Rattle.slices.proofs.ItemsLaws.{all_right, all_here, find_none, or_left_off, or_right_off}
use Rattle.names.specs.Name.{Variable}
use Rattle.store.specs.Record.{name_size, data_size, payload_of, record_ok, record_length, is_of}
use Rattle.store.proofs.RecordLaws.{record_length-within, begins, begins_fits, ok_length, ok_some}
use Rattle.store.specs.Parts.{HeaderFits, is_found, record_in, payload_in, bounds_in, Held}
use Rattle.store.specs.Store.{records_of, end_of, place_from, place_of}
use Rattle.store.proofs.StoreLaws.{records_ok, length_records, end_of-within}
use Rattle.store.specs.declared.Found.{Found}
use Rattle.store.specs.declared.Bounds.{Bounds}

-- where the first that the test takes stands: those before it, itself, and those behind
pub record Split (p : Bytes → Bool) (rs : List Bytes) (from at len : ℕ) : Type 0 where
  pub before : List Bytes
  pub here : Bytes
  pub behind : List Bytes
  pub is : rs ≡ before ++ (here ∷ behind)
  pub start : at ≡ from + length (flat before)
  pub size : len ≡ length here
  pub takes : p here ≡ true
  pub held : contains p rs ≡ true
  pub found : find p rs ≡ some here
  pub out : remove p rs ≡ before ++ behind
  pub into : (q : Bytes) → replace p q rs ≡ before ++ (q ∷ behind)

module _ (p : Bytes → Bool) where
  pub place_split : (rs : List Bytes) (from : ℕ) (f : Found) → place_from p from rs ≡ Some f → Split p rs from f.at f.len
  unfolding place_from contains find remove replace flat
  place_split [] from f e = let z : ◌≡◌ {A = ℕ} 0 1 = cc in absurd (omega arith)
  place_split (r ∷ rs) from f e = go (p r) refl (place_split rs (from + length r) f)
    where
      go : (b : Bool) → p r ≡ b → (place_from p (from + length r) rs ≡ Some f → Split p rs (from + length r) f.at f.len) → Split p (r ∷ rs) from f.at f.len
      go true q ih =
          let g : Some (record { at = from; len = length r }) ≡ Some f = rw q at e in
          let i : from ≡ f.at = cc in
          let j : length r ≡ f.len = cc in
          record {
            before = [];
            here = r;
            behind = rs;
            is = refl;
            start = omega arith;
            size = sym j;
            takes = q;
            held = rw q;
            found = rw q;
            out = rw q;
            into = λ x. rw q;
          }
      go false q ih =
          let i = ih (rw q at e) in
          record {
            before = r ∷ i.before;
            here = i.here;
            behind = i.behind;
            is = ap (λ (l : List Bytes). r ∷ l) i.is;
            start = rw length-append (omega (arith, i.start));
            size = i.size;
            takes = i.takes;
            held = rw q i.held;
            found = rw q i.found;
            out = rw q (ap (λ (l : List Bytes). r ∷ l) i.out);
            into = λ x. rw q (ap (λ (l : List Bytes). r ∷ l) (i.into x));
          }

  -- there is none
  pub place_absent : (rs : List Bytes) (from : ℕ) → place_from p from rs ≡ None → contains p rs ≡ false
  unfolding place_from contains
  place_absent [] from e = refl
  place_absent (r ∷ rs) from e = go (p r) refl (place_absent rs (from + length r))
    where
      go : (b : Bool) → p r ≡ b → (place_from p (from + length r) rs ≡ None → contains p rs ≡ false) → (p r || contains p rs) ≡ false
      go true q ih =
          let f : ◌≡◌ {A = Option Found} (Some (record { at = from; len = length r })) None = rw q at e in
          let z : ◌≡◌ {A = ℕ} 0 1 = cc in absurd (omega arith)
      go false q ih = rw q (ih (rw q at e))

  pub absent_place : (rs : List Bytes) (from : ℕ) → contains p rs ≡ false → place_from p from rs ≡ None
  unfolding contains place_from
  absent_place [] from h = refl
  absent_place (r ∷ rs) from h = rw (or_left_off (p r) (contains p rs) h) (absent_place rs (from + length r) (or_right_off (p r) (contains p rs) h))

module _ (non_volatile : Bool) (s : Bytes) (v : Variable) where
  pub find_absent : place_of non_volatile s v ≡ None → find (is_of v) (records_of non_volatile s) ≡ none
  find_absent e = find_none (is_of v) (records_of non_volatile s) (place_absent (is_of v) (records_of non_volatile s) 0 e)

  module _ (f : Found) (e : place_of non_volatile s v ≡ Some f) where
    pub split_at : Split (is_of v) (records_of non_volatile s) 0 f.at f.len
    split_at = place_split (is_of v) (records_of non_volatile s) 0 f e

    -- the store's bytes, taken apart at the record
    pub parts_at : s ≡ flat split_at.before ++ (split_at.here ++ (flat split_at.behind ++ drop (end_of non_volatile s) s))
    unfolding flat
    parts_at =
        let w = split_at in
        let b : flat (records_of non_volatile s) ≡ flat w.before ++ (w.here ++ flat w.behind) = ap flat w.is ∙ flat_append w.before (w.here ∷ w.behind) in
        sym (take-append-drop (end_of non_volatile s) s)
        ∙ ap (λ (l : Bytes). l ++ drop (end_of non_volatile s) s) (sym (flat_chunks (record_length non_volatile) (record_length-within non_volatile) s) ∙ b)
        ∙ simp append_assoc

    pub end_at : end_of non_volatile s ≡ f.at + f.len + length (flat split_at.behind)
    unfolding flat
    end_at =
        let w = split_at in
        let h = w.start in
        let k = w.size in
        sym (length_records non_volatile s) ∙ rw (w.is, flat_append, length-append, length-append) (omega arith)

    pub place_within : f.at + f.len ≤ end_of non_volatile s
    place_within = omega (arith, end_at)

    -- the record is the part of the store at its place
    pub part_at : part f.at (f.at + f.len) s ≡ split_at.here
    part_at =
        let w = split_at in
        part_of f.at f.len s ∙ seam (flat w.before) w.here (flat w.behind ++ drop (end_of non_volatile s) s) parts_at (w.start ∙ zero-add (length (flat w.before))) w.size
      where
        seam : {l : Bytes} {a n : ℕ} (x h y : Bytes) → l ≡ x ++ (h ++ y) → a ≡ length x → n ≡ length h → take n (drop a l) ≡ h
        seam x h y e f g = rw (e, f, g, drop-append_seam, take-append_seam)

    pub find_at : find (is_of v) (records_of non_volatile s) ≡ some (part f.at (f.at + f.len) s)
    find_at = split_at.found ∙ ap some (sym part_at)

    pub ok_at : record_ok non_volatile (part f.at (f.at + f.len) s) ≡ true
    ok_at =
        let w = split_at in
        ap (record_ok non_volatile) part_at
        ∙ all_here (all_right w.before (w.here ∷ w.behind) (subst (All (λ (r : Bytes). record_ok non_volatile r ≡ true)) w.is (records_ok non_volatile s)))

    pub fits_at : HeaderFits (part f.at (f.at + f.len) s)
    fits_at =
        let r : Bytes = part f.at (f.at + f.len) s in
        rw take-length at (begins_fits non_volatile (length r) r (begins non_volatile (length r) r (ok_length non_volatile r ok_at) (ok_some non_volatile r ok_at)))

  -- what was found: whether the store holds the variable, and its record, which lies within
  pub contains_place : contains (is_of v) (records_of non_volatile s) ≡ is_found (place_of non_volatile s v)
  contains_place = go (place_of non_volatile s v) refl
    where
      go : (o : Option Found) → place_of non_volatile s v ≡ o → contains (is_of v) (records_of non_volatile s) ≡ is_found o
      go (Some f) e = (split_at f e).held
      go None e = place_absent (is_of v) (records_of non_volatile s) 0 e

  pub find_place : find (is_of v) (records_of non_volatile s) ≡ record_in s (place_of non_volatile s v)
  find_place = go (place_of non_volatile s v) refl
    where
      go : (o : Option Found) → place_of non_volatile s v ≡ o → find (is_of v) (records_of non_volatile s) ≡ record_in s o
      go (Some f) e = find_at f e
      go None e = find_absent e

  pub place_held : Held s (place_of non_volatile s v)
  place_held = go (place_of non_volatile s v) refl
    where
      go : (o : Option Found) → place_of non_volatile s v ≡ o → Held s o
      go (Some f) e = (omega (arith, place_within f e, end_of-within non_volatile s), fits_at f e)
      go None e = tt

-- ---- where the payload of what was found stands
-- a part of a part
part_part : (at len from n : ℕ) (s : Bytes) → from + n ≤ len → part from (from + n) (part at (at + len) s) ≡ part (at + from) (at + from + n) s
part_part at len from n s h =
    ap (part from (from + n)) (part_of at len s) ∙ part_take from (from + n) len (drop at s) h ∙ part_of from n (drop at s)
    ∙ ap (take n) (drop-drop from at s) ∙ sym (part_of (at + from) n s)

fields_within : (s : Bytes) (f : Found) → Held s (Some f) → 32 + name_size (part f.at (f.at + f.len) s) + data_size (part f.at (f.at + f.len) s) ≤ f.len
fields_within s f w = omega (arith, w.1.fits, length_part f.at (f.at + f.len) s w.0)

ordered : (s : Bytes) (o : Option Found) → Held s o → ((bounds_in s o).from ≤ (bounds_in s o).to) × ((bounds_in s o).to ≤ length s)
ordered s (Some f) w = (omega arith, omega (arith, w.0, fields_within s f w))
ordered s None w = (omega arith, omega arith)

taken : (s : Bytes) (o : Option Found) → Held s o → part (bounds_in s o).from (bounds_in s o).to s ≡ payload_in (record_in s o)
unfolding payload_of
taken s (Some f) w =
    let n : ℕ = name_size (part f.at (f.at + f.len) s) in
    let d : ℕ = data_size (part f.at (f.at + f.len) s) in
    let k : f.at + 32 + n ≡ f.at + (32 + n) = omega arith in
    ap (λ (x : ℕ). part x (x + d) s) k ∙ sym (part_part f.at f.len (32 + n) d s (fields_within s f w))
taken s None w = refl

pub bounds_payload : {b : Bounds} (s : Bytes) (o : Option Found) → b ≡ bounds_in s o → Held s o
    → (b.from ≤ b.to) × (b.to ≤ length s) × (part b.from b.to s ≡ payload_in (record_in s o))
bounds_payload s o e w = rw e ((ordered s o w).0, (ordered s o w).1, taken s o w)
