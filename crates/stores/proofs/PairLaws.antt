-- Laws of the two stores: a set or a deletion keeps them sound and changes no variable but its own; and what is found where.
-- Assumes nothing.
use Rattle.std.specs.Prelude.{ℕ, ◌+◌, ◌≤◌, ◌≡◌, refl, List, Bool, cond, replicate, Some, None}
use Rattle.std.proofs.Common.{sym, ◌∙◌, append-nil, arith}
use Rattle.std.proofs.Math.Path.{ap}
use Rattle.std.proofs.Math.Bool.{true, false}
use Rattle.std.proofs.Math.Option.{none, some}
use Rattle.std.proofs.Math.Option as maybe
use Rattle.limits.specs.Limits.{max_store}
use Rattle.slices.proofs.TestLaws.{and_left, and_right, and_intro}
use Rattle.slices.specs.Bytes.{Bytes, part}
use Rattle.slices.specs.Chunks.{contains, distinct, find, remove}
use Rattle.slices.proofs.ItemsLaws.{all_find, contains_across, contains_find, contains_removed, distinct_left, distinct_right, distinct_remove_left, distinct_remove_right, distinct-replace_or_append-left, distinct-replace_or_append-right, find_either, find_none, find_takes, find_remove_other, find-replace_or_append, find-replace_or_append-other, none_contains, or_else}
use Rattle.names.specs.Name.{Variable}
use Rattle.store.specs.Record.{has_nv, attributes_of, record_ok, is_of, same_variable}
use Rattle.store.proofs.AttributeLaws.{record_nv}
use Rattle.store.proofs.VariableLaws.{is_of-variable, is_of-like, is_of-other, same_variable-sym, same_variable-like}
use Rattle.store.specs.Store.{records_of, store_ok, place_of, without_variable, has_room, with_record}
use Rattle.store.proofs.StoreLaws.{records_ok, records_without, store_ok-without, records_with_lem, store_ok-with, records_erased, store_ok-erased}
use Rattle.store.proofs.PlaceLaws.{find_at}
use Rattle.store.specs.declared.Found.{Found}
use Rattle.stores.specs.Pair.{all_records, sound, sound_alone, lookup, ends_of, pair_check}
use Rattle.stores.specs.declared.Ends.{Ends}

module _ (nv vol : Bytes) where
  -- ---- what soundness says
  pub sound_nv : sound nv vol ≡ true → store_ok true nv ≡ true
  unfolding sound
  sound_nv e = and_left _ _ e

  pub sound_vol : sound nv vol ≡ true → store_ok false vol ≡ true
  unfolding sound
  sound_vol e = and_left _ _ (and_right _ _ e)

  pub sound_distinct : sound nv vol ≡ true → distinct same_variable (all_records nv vol) ≡ true
  unfolding sound
  sound_distinct e = and_right _ _ (and_right _ _ e)

  pub sound_of : store_ok true nv ≡ true → store_ok false vol ≡ true → distinct same_variable (all_records nv vol) ≡ true → sound nv vol ≡ true
  unfolding sound
  sound_of a b d = and_intro _ _ a (and_intro _ _ b d)

  pub sound_alone_lem : sound nv vol ≡ true → sound_alone nv ≡ true
  unfolding sound_alone
  sound_alone_lem e = and_intro _ _ (sound_nv e) (distinct_left same_variable (records_of true nv) (records_of false vol) (sound_distinct e))

-- power-on: the volatile store is filled with 0xFF
pub sound_erased : (nv : Bytes) (n : ℕ) → sound_alone nv ≡ true → n ≤ max_store → sound nv (replicate n 255) ≡ true
unfolding sound_alone
sound_erased nv n e h =
    sound_of nv (replicate n 255) (and_left _ _ e) (store_ok-erased false n h) (rw (records_erased false n, append-nil) (and_right _ _ e))

-- ---- the test of a variable is that of its records
module _ (v : Variable) (q : Bytes) (of : is_of v q ≡ true) where
  like : is_of v ≡ same_variable q
  like = ap is_of (is_of-variable v q of)

  like_none : (rs : List Bytes) → contains (is_of v) rs ≡ false → contains (same_variable q) rs ≡ false
  like_none rs h = sym (ap (λ (p : Bytes → Bool). contains p rs) like) ∙ h

  -- a set of the variable, where the other store does not hold it
  module _ (nv vol : Bytes) (e : sound nv vol ≡ true) where
    pub sound_with_nv : record_ok true q ≡ true → contains (is_of v) (records_of false vol) ≡ false → has_room true nv v q ≡ true → sound (with_record true nv v q) vol ≡ true
    sound_with_nv k o r =
        sound_of (with_record true nv v q) vol (store_ok-with true nv v q (sound_nv nv vol e) k r) (sound_vol nv vol e)
        (rw (records_with_lem true nv v q k, like)
        (distinct-replace_or_append-left same_variable same_variable-sym same_variable-like q (records_of true nv) (records_of false vol) (like_none (records_of false vol) o) (sound_distinct nv vol e)))

    pub sound_with_vol : record_ok false q ≡ true → contains (is_of v) (records_of true nv) ≡ false → has_room false vol v q ≡ true → sound nv (with_record false vol v q) ≡ true
    sound_with_vol k o r =
        sound_of nv (with_record false vol v q) (sound_nv nv vol e) (store_ok-with false vol v q (sound_vol nv vol e) k r)
        (rw (records_with_lem false vol v q k, like)
        (distinct-replace_or_append-right same_variable same_variable-sym same_variable-like q (records_of true nv) (records_of false vol) (like_none (records_of true nv) o) (sound_distinct nv vol e)))

-- ---- a deletion, out of either store
module _ (nv vol : Bytes) (v : Variable) (e : sound nv vol ≡ true) where
  pub sound_without_nv : sound (without_variable true nv v) vol ≡ true
  sound_without_nv =
      sound_of (without_variable true nv v) vol (store_ok-without true nv v (sound_nv nv vol e)) (sound_vol nv vol e)
      (rw (records_without true nv v) (distinct_remove_left same_variable (is_of v) (records_of true nv) (records_of false vol) (sound_distinct nv vol e)))

  pub sound_without_vol : sound nv (without_variable false vol v) ≡ true
  sound_without_vol =
      sound_of nv (without_variable false vol v) (sound_nv nv vol e) (store_ok-without false vol v (sound_vol nv vol e))
      (rw (records_without false vol v) (distinct_remove_right same_variable (is_of v) (records_of true nv) (records_of false vol) (sound_distinct nv vol e)))

pub sound_without : (nv vol : Bytes) (v : Variable) → sound nv vol ≡ true → sound (without_variable true nv v) (without_variable false vol v) ≡ true
sound_without nv vol v e = sound_without_vol (without_variable true nv v) vol v (sound_without_nv nv vol v e)

-- ---- what is found
module _ (nv vol : Bytes) (v : Variable) where
  pub lookup_either : lookup nv vol v ≡ or_else (find (is_of v) (records_of true nv)) (find (is_of v) (records_of false vol))
  unfolding lookup
  lookup_either = find_either (is_of v) (records_of true nv) (records_of false vol)

  pub lookup_nv : (f : Found) → place_of true nv v ≡ Some f → lookup nv vol v ≡ some (part f.at (f.at + f.len) nv)
  lookup_nv f e = lookup_either ∙ rw (find_at true nv v f e)

  -- what is found once the volatile store is erased was found before
  pub lookup_erased : (n : ℕ) (r : Bytes) → lookup nv (replicate n 255) v ≡ some r → lookup nv vol v ≡ some r
  unfolding lookup
  lookup_erased n r e =
      lookup_either ∙ ap (λ o. or_else o (find (is_of v) (records_of false vol))) (rw (records_erased false n, append-nil) at e)

  -- the record that is found: it is of the variable, and its NV bit tells its store
  module _ (r : Bytes) (e : lookup nv vol v ≡ some r) where
    pub record Looked : Type 0 where
      pub of : is_of v r ≡ true
      pub ok : record_ok (has_nv (attributes_of r)) r ≡ true
      pub in_nv : contains (is_of v) (records_of true nv) ≡ has_nv (attributes_of r)

    pub looked : Looked
    looked = go (find (is_of v) (records_of true nv)) refl (sym lookup_either ∙ e)
      where
        go : (o : maybe.Option Bytes) → find (is_of v) (records_of true nv) ≡ o → or_else (find (is_of v) (records_of true nv)) (find (is_of v) (records_of false vol)) ≡ some r → Looked
        go (some x) h k =
            let j : find (is_of v) (records_of true nv) ≡ some r = h ∙ rw h at k in
            let m = all_find (is_of v) (records_of true nv) r j (records_ok true nv) in
            let b = record_nv true r m in
            record { of = find_takes (is_of v) (records_of true nv) r j; ok = rw b m; in_nv = contains_find (is_of v) (records_of true nv) r j ∙ sym b }
        go none h k =
            let j : find (is_of v) (records_of false vol) ≡ some r = rw h at k in
            let m = all_find (is_of v) (records_of false vol) r j (records_ok false vol) in
            let b = record_nv false r m in
            record { of = find_takes (is_of v) (records_of false vol) r j; ok = rw b m; in_nv = none_contains (is_of v) (records_of true nv) h ∙ sym b }

    -- of a sound pair the other store does not hold it
    pub looked_nv : sound nv vol ≡ true → has_nv (attributes_of r) ≡ true → contains (is_of v) (records_of false vol) ≡ false
    looked_nv s h =
        let l = looked in
        let k : is_of v ≡ same_variable r = like v r l.of in
        rw k (contains_across same_variable same_variable-sym same_variable-like r (records_of true nv) (records_of false vol) (sound_distinct nv vol s) (rw k at (l.in_nv ∙ h)))

    pub looked_vol : has_nv (attributes_of r) ≡ false → contains (is_of v) (records_of true nv) ≡ false
    looked_vol h = looked.in_nv ∙ h

  -- nothing is found: neither store holds it
  pub none_nv : lookup nv vol v ≡ none → contains (is_of v) (records_of true nv) ≡ false
  none_nv e = none_contains (is_of v) (records_of true nv) (go (find (is_of v) (records_of true nv)) refl (sym lookup_either ∙ e))
    where
      go : (o : maybe.Option Bytes) → find (is_of v) (records_of true nv) ≡ o → or_else (find (is_of v) (records_of true nv)) (find (is_of v) (records_of false vol)) ≡ none → find (is_of v) (records_of true nv) ≡ none
      go (some x) h k = let j : some x ≡ none = rw h at k in absurd (let z : ◌≡◌ {A = ℕ} 0 1 = cc in omega arith)
      go none h k = h

  pub none_vol : lookup nv vol v ≡ none → contains (is_of v) (records_of false vol) ≡ false
  none_vol e =
      let k : find (is_of v) (records_of true nv) ≡ none = find_none (is_of v) (records_of true nv) (none_nv e) in
      none_contains (is_of v) (records_of false vol) (rw k at (sym lookup_either ∙ e))

-- ---- what is found after a set
module _ (nv vol : Bytes) (v : Variable) (q : Bytes) (of : is_of v q ≡ true) where
  pub lookup_with_nv : record_ok true q ≡ true → lookup (with_record true nv v q) vol v ≡ some q
  lookup_with_nv k = lookup_either (with_record true nv v q) vol v ∙ rw (records_with_lem true nv v q k, find-replace_or_append (is_of v) q (records_of true nv) of)

  pub lookup_with_vol : record_ok false q ≡ true → contains (is_of v) (records_of true nv) ≡ false → lookup nv (with_record false vol v q) v ≡ some q
  lookup_with_vol k o =
      lookup_either nv (with_record false vol v q) v
      ∙ rw (find_none (is_of v) (records_of true nv) o, records_with_lem false vol v q k, find-replace_or_append (is_of v) q (records_of false vol) of)

  -- another variable is as it was
  module _ (w : Variable) (other : v ≡ w → ⊥) where
    pub lookup_with_nv_other : record_ok true q ≡ true → lookup (with_record true nv v q) vol w ≡ lookup nv vol w
    lookup_with_nv_other k =
        lookup_either (with_record true nv v q) vol w
        ∙ rw (records_with_lem true nv v q k, find-replace_or_append-other (is_of v) (is_of w) (is_of-other v w other) q (records_of true nv) (is_of-other v w other q of)) (sym (lookup_either nv vol w))

    pub lookup_with_vol_other : record_ok false q ≡ true → lookup nv (with_record false vol v q) w ≡ lookup nv vol w
    lookup_with_vol_other k =
        lookup_either nv (with_record false vol v q) w
        ∙ rw (records_with_lem false vol v q k, find-replace_or_append-other (is_of v) (is_of w) (is_of-other v w other) q (records_of false vol) (is_of-other v w other q of)) (sym (lookup_either nv vol w))

-- ---- what is found after a deletion
removed_none : (v : Variable) (rs : List Bytes) → distinct same_variable rs ≡ true → contains (is_of v) (remove (is_of v) rs) ≡ false
removed_none v rs e = contains_removed same_variable (is_of v) (λ r t. is_of-like v r t) rs e

module _ (nv vol : Bytes) (v : Variable) where
  pub lookup_without : sound nv vol ≡ true → lookup (without_variable true nv v) (without_variable false vol v) v ≡ none
  lookup_without e =
      let d = sound_distinct nv vol e in
      lookup_either (without_variable true nv v) (without_variable false vol v) v
      ∙ rw (
        records_without true nv v,
        records_without false vol v,
        find_none (is_of v) (remove (is_of v) (records_of true nv)) (removed_none v (records_of true nv) (distinct_left same_variable (records_of true nv) (records_of false vol) d)),
        find_none (is_of v) (remove (is_of v) (records_of false vol)) (removed_none v (records_of false vol) (distinct_right same_variable (records_of true nv) (records_of false vol) d)),
      )

  pub lookup_without_other : (w : Variable) → (v ≡ w → ⊥) → lookup (without_variable true nv v) (without_variable false vol v) w ≡ lookup nv vol w
  lookup_without_other w other =
      lookup_either (without_variable true nv v) (without_variable false vol v) w
      ∙ rw (
        records_without true nv v,
        records_without false vol v,
        find_remove_other (is_of v) (is_of w) (is_of-other v w other) (records_of true nv),
        find_remove_other (is_of v) (is_of w) (is_of-other v w other) (records_of false vol),
      )
      (sym (lookup_either nv vol w))

-- ---- what the check's answer tells

pub check_sound : (nv vol : Bytes) (e : Ends) → pair_check nv vol ≡ Some e → (sound nv vol ≡ true) × (e ≡ ends_of nv vol)
unfolding pair_check
check_sound nv vol e h = go (sound nv vol) refl h
  where
    go : (t : Bool) → sound nv vol ≡ t → cond t (Some (ends_of nv vol)) None ≡ Some e → (sound nv vol ≡ true) × (e ≡ ends_of nv vol)
    go true k l = (k, cc)
    go false k l = let z : ◌≡◌ {A = ℕ} 0 1 = cc in absurd (omega arith)

pub check_unsound : (nv vol : Bytes) → pair_check nv vol ≡ None → sound nv vol ≡ false
unfolding pair_check
check_unsound nv vol h = go (sound nv vol) refl h
  where
    go : (t : Bool) → sound nv vol ≡ t → cond t (Some (ends_of nv vol)) None ≡ None → sound nv vol ≡ false
    go true k l = let z : ◌≡◌ {A = ℕ} 0 1 = cc in absurd (omega arith)
    go false k l = k
