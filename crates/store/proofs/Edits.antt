-- The edits in place, as edits of the list of records. Assumes nothing.
use mathlib.Core.Path.{◌≡◌, refl, sym, ap, ◌∙◌}
use mathlib.Core.Bool.{Bool, true, false}
use mathlib.Core.List.{[], ◌∷◌, ◌++◌, append_assoc}
use Prim.Native.Nat.{ℕ, ◌+◌, ◌-◌, ◌≤◌, ◌<◌}
use native.Mathlib.Omega.{arith}
use native.Mathlib.Nat.{zero-add, add-sub_cancel_left}
use lib.ListN.{length, take, drop, replicate, length-append}
use lib.Seq.{length-take-le, take-append_seam, take-append-add, drop-append_seam, drop-append-add}
use lib.Dec.{leb}
use borrow.Author.Tests.{le-leb, lt-leb, leb-true, leb-false}
use Rattle.slices.specs.Bytes.{Bytes, all_are, overwrite, padded}
use Rattle.slices.proofs.PartLaws.{drop_replicate}
use Rattle.slices.proofs.OverwriteLaws.{overwrite_seam}
use Rattle.slices.specs.Chunks.{flat, packed, contains, replace_or_append}
use Rattle.slices.proofs.ChunksLaws.{flat_append, flat_one}
use Rattle.names.specs.Name.{Variable}
use Rattle.store.specs.Record.{is_of, encode_record}
use Rattle.store.specs.Parts.{resized}
use Rattle.store.specs.Store.{records_of, end_of, store_ok, place_of, records_with, without_variable, has_room, with_record}
use Rattle.store.proofs.StoreLaws.{store_ok-free, length_records, end_of-within, pack_records, with_fits}
use Rattle.store.proofs.PlaceLaws.{Split, place_absent, split_at, parts_at, end_at}
use Rattle.store.specs.declared.Found.{Found}
use Rattle.std.specs.Prelude.{Some, None}

leb_same : (a b c d : ℕ) → (a ≤ b → c ≤ d) → (c ≤ d → a ≤ b) → leb a b ≡ leb c d
leb_same a b c d f g = go (leb a b) refl
  where
    go : (t : Bool) → leb a b ≡ t → leb a b ≡ leb c d
    go true e = e ∙ sym (le-leb c d (f (leb-true a b e)))
    go false e = e ∙ sym (lt-leb c d (other (leb-false a b e)))
      where
        other : b < a → d < c
        other h = go' (leb c d) refl
          where
            go' : (t : Bool) → leb c d ≡ t → d < c
            go' true e' = absurd (let k = g (leb-true c d e') in omega arith)
            go' false e' = leb-false c d e'

-- room in place of x, in a list that is taken apart
resized_parts : {s : Bytes} {i n u : ℕ} (a x b z : Bytes) (new : ℕ) → s ≡ a ++ (x ++ (b ++ z)) → i ≡ length a → n ≡ length x → u ≡ length a + length x + length b
    → resized s i n new u ≡ padded (length s) 255 (a ++ (take new (x ++ (b ++ z)) ++ b))
unfolding resized
resized_parts a x b z new e f g h =
    rw (e, f, g, h, take-append-add, drop-append-add, drop-append_seam, add-sub_cancel_left, take-append_seam, append_assoc)

-- a write over the second part of three
overwrite_padded : (n : ℕ) (a x b q : Bytes) (i : ℕ) → i ≡ length a → length x ≡ length q → overwrite (padded n 255 (a ++ (x ++ b))) i q ≡ padded n 255 (a ++ (q ++ b))
unfolding padded
overwrite_padded n a x b q i e f =
    let z : Bytes = replicate (n - length (a ++ (x ++ b))) 255 in
    let k : length (a ++ (x ++ b)) ≡ length (a ++ (q ++ b)) = simp (length-append, f) in
    ap (λ (l : Bytes). overwrite l i q) (append_assoc a (x ++ b) z ∙ ap (λ (l : Bytes). a ++ l) (append_assoc x b z))
    ∙ overwrite_seam a (x ++ (b ++ z)) q i (sym e)
    ∙ rw (← f, drop-append_seam x (b ++ z), k) (simp append_assoc)

module _ (non_volatile : Bool) (s : Bytes) (v : Variable) where
  -- ---- where the record was found
  module _ (f : Found) (is : place_of non_volatile s v ≡ Some f) where
    abbrev pub w : Split (is_of v) (records_of non_volatile s) 0 f.at f.len
    w = split_at non_volatile s v f is

    start : f.at ≡ length (flat w.before)
    start = w.start ∙ zero-add (length (flat w.before))

    -- all from there on
    abbrev rest : Bytes
    rest = w.here ++ (flat w.behind ++ drop (end_of non_volatile s) s)

    -- room in its place
    resized_record : (new : ℕ) → resized s f.at f.len new (end_of non_volatile s) ≡ padded (length s) 255 (flat w.before ++ (take new rest ++ flat w.behind))
    resized_record new =
        resized_parts (flat w.before) w.here (flat w.behind) (drop (end_of non_volatile s) s) new (parts_at non_volatile s v f is) start w.size
        (end_at non_volatile s v f is ∙ ap (λ (n : ℕ). n + length (flat w.behind)) (sums f.at f.len start w.size))
      where
        sums : {b h : ℕ} (a l : ℕ) → a ≡ b → l ≡ h → a + l ≡ b + h
        sums a l p q = omega arith

    pub removed : {t : Bytes} {end : ℕ} → end ≡ end_of non_volatile s → t ≡ resized s f.at f.len 0 end → t ≡ without_variable non_volatile s v
    unfolding without_variable packed
    removed {t} {end} h g =
        let e : t ≡ resized s f.at f.len 0 (end_of non_volatile s) = rw h at g in
        e ∙ resized_record 0 ∙ rw (w.out, flat_append)

    pub with_at : (q : Bytes) → records_with non_volatile s v q ≡ w.before ++ (q ∷ w.behind)
    unfolding replace_or_append
    with_at q = rw w.held (w.into q)

    -- how long the records are then
    length_rewritten : (q : Bytes) → length (flat (records_with non_volatile s v q)) + f.len ≡ end_of non_volatile s + length q
    unfolding flat
    length_rewritten q =
        let k = end_at non_volatile s v f is in
        let h = start in
        rw (with_at q, flat_append, length-append, length-append) (omega arith)

    -- whether they fit
    pub room_at : {n end : ℕ} (q : Bytes) → end ≡ end_of non_volatile s → n ≡ length q → leb n (length s - (end - f.len)) ≡ has_room non_volatile s v q
    unfolding has_room
    room_at {n} {end} q h k =
        let l = length_rewritten q in
        let e = end_at non_volatile s v f is in
        let i = end_of-within non_volatile s in
        leb_same n (length s - (end - f.len)) (length (flat (records_with non_volatile s v q))) (length s) (λ x. omega arith) (λ x. omega arith)

    pub fits_at_place : {n end : ℕ} (q : Bytes) → end ≡ end_of non_volatile s → n ≡ length q → has_room non_volatile s v q ≡ true → end + n ≤ length s + f.len
    fits_at_place q h k r = omega (arith, length_rewritten q, with_fits non_volatile s v q r)

    -- the room for it, whatever stands there
    length_room : (q : Bytes) → has_room non_volatile s v q ≡ true → length (take (length q) rest) ≡ length q
    length_room q r =
        let k : length s ≡ length (flat w.before) + length rest = ap length (parts_at non_volatile s v f is) ∙ length-append (flat w.before) rest in
        length-take-le (length q) rest (omega (arith, start, end_at non_volatile s v f is, fits_at_place q refl refl r))

    pub rewritten : {t₁ t₂ : Bytes} {n end : ℕ} (q : Bytes) → end ≡ end_of non_volatile s → n ≡ length q → has_room non_volatile s v q ≡ true → t₁ ≡ resized s f.at f.len n end → t₂ ≡ overwrite t₁ f.at q
        → t₂ ≡ with_record non_volatile s v q
    unfolding with_record packed flat
    rewritten {t₁} {t₂} {n} {end} q h k r g e =
        let j : t₁ ≡ padded (length s) 255 (flat w.before ++ (take (length q) rest ++ flat w.behind)) = g ∙ rw (h, k) (resized_record (length q)) in
        e ∙ ap (λ (l : Bytes). overwrite l f.at q) j
        ∙ overwrite_padded (length s) (flat w.before) (take (length q) rest) (flat w.behind) q f.at start (length_room q r)
        ∙ rw (with_at q, flat_append)

  -- ---- where there is none
  module _ (f : place_of non_volatile s v ≡ None) where
    none : contains (is_of v) (records_of non_volatile s) ≡ false
    none = place_absent (is_of v) (records_of non_volatile s) 0 f

    pub with_none : (q : Bytes) → records_with non_volatile s v q ≡ records_of non_volatile s ++ (q ∷ [])
    unfolding replace_or_append
    with_none q = rw none

    pub created : {t : Bytes} {end : ℕ} (q : Bytes) → store_ok non_volatile s ≡ true → end ≡ end_of non_volatile s → t ≡ overwrite s end q → t ≡ with_record non_volatile s v q
    unfolding with_record packed padded
    created {t} {end} q e h g =
        let b : Bytes = flat (records_of non_volatile s) in
        let i : length b ≡ end = length_records non_volatile s ∙ sym h in
        let k : length (b ++ q) ≡ length b + length q = length-append b q in
        let m : length s - length b - length q ≡ length s - length (b ++ q) = omega arith in
        g ∙ ap (λ (l : Bytes). overwrite l end q) (sym (pack_records non_volatile s e))
        ∙ overwrite_seam b (replicate (length s - length b) 255) q end i
        ∙ rw (with_none q, flat_append, flat_one, drop_replicate, m) (sym (append_assoc b q (replicate (length s - length (b ++ q)) 255)))

    length_created : (q : Bytes) → length (flat (records_with non_volatile s v q)) ≡ end_of non_volatile s + length q
    length_created q = let k = length_records non_volatile s in rw (with_none q, flat_append, flat_one, length-append) (omega arith)

    pub room_none : {n end : ℕ} (q : Bytes) → end ≡ end_of non_volatile s → n ≡ length q → leb n (length s - end) ≡ has_room non_volatile s v q
    unfolding has_room
    room_none {n} {end} q h k =
        let l = length_created q in
        let i = end_of-within non_volatile s in
        leb_same n (length s - end) (length (flat (records_with non_volatile s v q))) (length s) (λ x. omega arith) (λ x. omega arith)

    pub fits_behind : {n end : ℕ} (q : Bytes) → end ≡ end_of non_volatile s → n ≡ length q → has_room non_volatile s v q ≡ true → end + n ≤ length s
    fits_behind q h k r = omega (arith, length_created q, with_fits non_volatile s v q r)

-- the same record, of the same payload
pub payload_is : {t p q : Bytes} (non_volatile : Bool) (s : Bytes) (a : ℕ) (v : Variable) → p ≡ q → t ≡ with_record non_volatile s v (encode_record a v p)
    → t ≡ with_record non_volatile s v (encode_record a v q)
payload_is non_volatile s a v e h = h ∙ ap (λ (l : Bytes). with_record non_volatile s v (encode_record a v l)) e

-- what the edits ask of the place and of the end
module _ (non_volatile : Bool) (s : Bytes) {end : ℕ} (h : end ≡ end_of non_volatile s) where
  pub end_within : end ≤ length s
  end_within = rw h (end_of-within non_volatile s)

  pub end_free : store_ok non_volatile s ≡ true → all_are 255 (drop end s) ≡ true
  end_free e = rw h (store_ok-free non_volatile s e)
