-- What a state holds, by the tests of the rules and by the propositions of Grounds.antt: soundness, the entries, a variable's record,
-- and a store's records with one written. Assumes nothing.
use Rattle.std.specs.Prelude.{ℕ, ◌+◌, ◌≡◌, Bool, not, ◌||◌, cond, ◌⊎◌, length}
use Rattle.std.proofs.Math.Path.{refl, sym, subst⁻¹}
use Rattle.std.proofs.Common.{ap, ap₂, subst, ◌∙◌, true≢false, inl, inr, length-append}
use mathlib.Core.List.{List, [], ◌∷◌, ◌++◌}
use Rattle.std.proofs.Math.Bool.{true, false}
use Rattle.std.proofs.lemmas.Bool.{false≢true}
use Rattle.std.proofs.Math.Option.{Option, none, some}
use Rattle.lists.specs.Lists.{All, nil, more, Among, Pairs}
use Rattle.lists.proofs.ListsLaws.{all_map, all_among, among_middle}
use Rattle.slices.specs.Test.{◌and◌}
use Rattle.slices.proofs.TestLaws.{and_left, and_right, and_intro, forced_off}
use Rattle.slices.specs.Bytes.{Bytes, padded}
use Rattle.slices.specs.Chunks.{flat, packed, contains, distinct, find, remove, replace, replace_or_append}
use Rattle.slices.proofs.ItemsLaws.{contains_middle, contains_none, distinct_across, distinct_apart, distinct_cons, distinct_left, distinct_right, find_takes, or_left_off, or_off, or_right_off, remove_none}
use Rattle.names.specs.Name.{Variable}
use Rattle.entry.specs.Entry.{namespace_of, name_of, same_target}
use Rattle.entry.proofs.EntryLaws.{sized, same_target-same, same_target-of}
use Rattle.policy.specs.Policy.{entries_of, policy_valid}
use Rattle.policy.proofs.PolicyLaws as policy
use Rattle.store.specs.Record.{has_rt, attributes_of, is_of, same_variable, variable_of}
use Rattle.store.proofs.VariableLaws.{is_of-self, is_of-variable, is_of-like}
use Rattle.store.specs.Store.{records_of, store_ok}
use Rattle.store.proofs.DistinctLaws.{among_contains, found_only}
use Rattle.store.proofs.StoreLaws as store
use Rattle.stores.specs.Pair.{all_records, sound, sound_alone, lookup}
use Rattle.stores.proofs.PairLaws.{sound_nv, sound_vol, sound_distinct, sound_of}
use Rattle.rules.specs.Set.{exists, shown, exit_protects}
use Rattle.rules.specs.Engine.{State, entries_length}
use Rattle.rules.specs.Grounds.{Not, NV, EntriesWithin, HasEntries, sum_of_sizes, StoreRecords, Apart, PairRecords, SoundStores, SoundAlone, RecordOf, Absent, Exited, Hidden, Put}
use Rattle.rules.specs.Effects.{Taken}
use Rattle.rules.proofs.ConditionLaws.{Tells, tells_not, tells_off, off_tells, tells_nv, tells_rt}

-- ---- members of a list, and tests

abbrev IsSome : Option Bytes → Type 0
IsSome none = ⊥
IsSome (some r) = Unit

pub none_some : (r : Bytes) → Not (none ≡ some r)
none_some r e = subst⁻¹ IsSome e tt

find_among : (p : Bytes → Bool) (l : List Bytes) (a : Bytes) → find p l ≡ some a → Among a l
unfolding find
find_among p [] a e = absurd (none_some a e)
find_among p (x ∷ l) a e = go (p x) e (find_among p l a)
  where
    go : (b : Bool) → cond b (some x) (find p l) ≡ some a → (find p l ≡ some a → Among a l) → Among a (x ∷ l)
    go true h f = inl (let z : x ≡ a = cc in sym z)
    go false h f = inr (f h)

-- no item is like a later one, by the test and by the pairs
module _ (like : Bytes → Bytes → Bool) (Like : Bytes → Bytes → Type 0) (tells : (a b : Bytes) → Tells (like a b) (Like a b)) where
  pub distinct_pairs : (l : List Bytes) → distinct like l ≡ true → Pairs (λ a b. Not (Like a b)) l
  distinct_pairs [] e = tt
  distinct_pairs (x ∷ l) e =
      let w = distinct_apart like x l e in
      (all_map (λ c h. tells_off _ (tells x c) h) l (contains_none (like x) l w.here), distinct_pairs l w.rest)

  pub none_like : (x : Bytes) (l : List Bytes) → All (λ c. Not (Like x c)) l → contains (like x) l ≡ false
  unfolding contains
  none_like x [] nil = refl
  none_like x (c ∷ l) (more h k) = or_off (like x c) (contains (like x) l) (off_tells _ (tells x c) h) (none_like x l k)

  pub pairs_distinct : (l : List Bytes) → Pairs (λ a b. Not (Like a b)) l → distinct like l ≡ true
  unfolding distinct
  pairs_distinct [] h = refl
  pairs_distinct (x ∷ l) h = distinct_cons like x l (none_like x l h.0) (pairs_distinct l h.1)

-- ---- records and entries end to end, then filler

tells_variable : (a b : Bytes) → Tells (same_variable a b) (variable_of a ≡ variable_of b)
tells_variable a b = ((λ e. is_of-variable (variable_of a) b e), λ e. subst⁻¹ (λ v. is_of v b ≡ true) e (is_of-self b))

pub tells_target : (e f : Bytes) → Tells (same_target e f) ((namespace_of e ≡ namespace_of f) × (name_of e ≡ name_of f))
tells_target e f = (
  (λ h. let w = same_target-same e f h in (w.namespace, w.name)),
  λ w. same_target-of e f (record { namespace = w.0; name = w.1 }),
)

pub apart_distinct : (l : List Bytes) → Apart l → distinct same_variable l ≡ true
apart_distinct = pairs_distinct same_variable (λ a b. variable_of a ≡ variable_of b) tells_variable

distinct_apart_all : (l : List Bytes) → distinct same_variable l ≡ true → Apart l
distinct_apart_all = distinct_pairs same_variable (λ a b. variable_of a ≡ variable_of b) tells_variable

records_packs : (b : Bool) (s : Bytes) (rs : List Bytes) → StoreRecords b s rs → store.Packs b s rs
unfolding packed padded
records_packs b s rs k = record { small = k.small; records = k.formed; fits = k.room; is = sym k.is }

packs_records : (b : Bool) (s : Bytes) (rs : List Bytes) → store.Packs b s rs → StoreRecords b s rs
unfolding packed padded
packs_records b s rs k = record { formed = k.records; small = k.small; room = k.fits; is = sym k.is }

pub entries_packs : {ok : Bytes → Bool} {most bytes : ℕ} (p : Bytes) (es : List Bytes) → EntriesWithin ok most bytes p es → policy.PacksUnder ok most bytes es p
unfolding packed padded
entries_packs p es k =
    record {
      entries = record { formed = k.formed; few = k.few; room = k.room; apart = pairs_distinct same_target _ tells_target es k.apart };
      packs = sym k.is;
    }

pub packs_entries : {ok : Bytes → Bool} {most bytes : ℕ} (p : Bytes) (es : List Bytes) → policy.PacksUnder ok most bytes es p → EntriesWithin ok most bytes p es
unfolding packed padded
packs_entries p es k =
    record {
      formed = k.entries.formed;
      few = k.entries.few;
      apart = distinct_pairs same_target _ tells_target es k.entries.apart;
      room = k.entries.room;
      is = sym k.packs;
    }

-- ---- soundness and the entries

store_read_lem : (b : Bool) (s : Bytes) (rs : List Bytes) → StoreRecords b s rs → rs ≡ records_of b s
store_read_lem b s rs k = store.packs_unique b s rs (records_packs b s rs k)

store_sound : (b : Bool) (s : Bytes) (rs : List Bytes) → StoreRecords b s rs → store_ok b s ≡ true
store_sound b s rs k = store.packs-store_ok b s rs (records_packs b s rs k)

sound_read : (b : Bool) (s : Bytes) → store_ok b s ≡ true → StoreRecords b s (records_of b s)
sound_read b s e = packs_records b s (records_of b s) (store.store_ok-packs b s e)

-- the records and the entries are those that the rules read
module _ {nv vol : Bytes} {rs qs : List Bytes} (k : PairRecords nv vol rs qs) where
  pub first_records : rs ≡ records_of true nv
  first_records = store_read_lem true nv rs k.first

  pub second_records : qs ≡ records_of false vol
  second_records = store_read_lem false vol qs k.second

  pub all_records_lem : rs ++ qs ≡ all_records nv vol
  all_records_lem = ap₂ ◌++◌ first_records second_records

  pub distinct_records : distinct same_variable (rs ++ qs) ≡ true
  distinct_records = apart_distinct (rs ++ qs) k.apart

  pub distinct_first : distinct same_variable rs ≡ true
  distinct_first = distinct_left same_variable rs qs distinct_records

  pub distinct_second : distinct same_variable qs ≡ true
  distinct_second = distinct_right same_variable rs qs distinct_records

  records_sound : sound nv vol ≡ true
  records_sound =
      sound_of nv vol (store_sound true nv rs k.first) (store_sound false vol qs k.second)
      (subst (λ l. distinct same_variable l ≡ true) all_records_lem distinct_records)

pub sound_records : (nv vol : Bytes) → sound nv vol ≡ true → PairRecords nv vol (records_of true nv) (records_of false vol)
sound_records nv vol e =
    record {
      first = sound_read true nv (sound_nv nv vol e);
      second = sound_read false vol (sound_vol nv vol e);
      apart = distinct_apart_all (all_records nv vol) (sound_distinct nv vol e);
    }

pub tells_sound : (nv vol : Bytes) → Tells (sound nv vol) (SoundStores nv vol)
tells_sound nv vol = (
  (λ e. record { in_nv = records_of true nv; in_vol = records_of false vol; records = sound_records nv vol e }),
  λ s. records_sound s.records,
)

pub tells_alone : (nv : Bytes) → Tells (sound_alone nv) (SoundAlone nv)
unfolding sound_alone
tells_alone nv = (
  (λ e. record {
    in_nv = records_of true nv;
    records = sound_read true nv (and_left _ _ e);
    apart = distinct_apart_all (records_of true nv) (and_right (store_ok true nv) _ e);
  }),
  λ s.
      and_intro _ _ (store_sound true nv s.in_nv s.records)
      (subst (λ l. distinct same_variable l ≡ true) (store_read_lem true nv s.in_nv s.records) (apart_distinct s.in_nv s.apart)),
)

-- the sum of Sizes is the length of the entries end to end
sizes_sum_lem : (es : List Bytes) → All policy.WellFormed es → length (flat es) ≡ sum_of_sizes es
unfolding flat
sizes_sum_lem [] nil = refl
sizes_sum_lem (e ∷ es) (more h a) = length-append e (flat es) ∙ ap₂ ◌+◌ (sym (sized e h).stated) (sizes_sum_lem es a)

pub sum_of_sizes_lem : (s : State) → entries_length s ≡ sum_of_sizes (entries_of s.policy)
sum_of_sizes_lem s = sizes_sum_lem (entries_of s.policy) (policy.entries_of-formed s.policy)

pub valid_entries : (s : State) → policy_valid s.policy ≡ true → HasEntries s (entries_of s.policy)
valid_entries s e = packs_entries s.policy (entries_of s.policy) (policy.policy_entries s.policy e)

pub entries_read : (s : State) (es : List Bytes) → HasEntries s es → es ≡ entries_of s.policy
entries_read s es w = sym (policy.packs_only es s.policy (entries_packs s.policy es w))

pub tells_entries : (s : State) → Tells (policy_valid s.policy) ((es : List Bytes) × HasEntries s es)
tells_entries s = ((λ e. (entries_of s.policy, valid_entries s e)), λ w. policy.packs_policy w.0 s.policy (entries_packs s.policy w.0 w.1))

-- ---- a variable's record

own_of : (v : Variable) (r : Bytes) → variable_of r ≡ v → is_of v r ≡ true
own_of v r e = subst (λ w. is_of w r ≡ true) e (is_of-self r)

module _ (s : State) (v : Variable) where
  pub found_lookup : (r : Bytes) → RecordOf s v r → lookup s.nv s.vol v ≡ some r
  unfolding lookup
  found_lookup r f =
      found_only (all_records s.nv s.vol) (subst (λ l. distinct same_variable l ≡ true) (all_records_lem f.records) (distinct_records f.records)) v r
      (subst (Among r) (all_records_lem f.records) f.stands) (own_of v r f.own)

  pub lookup_found : (r : Bytes) → SoundStores s.nv s.vol → lookup s.nv s.vol v ≡ some r → RecordOf s v r
  unfolding lookup
  lookup_found r k e = record {
    in_nv = k.in_nv;
    in_vol = k.in_vol;
    records = k.records;
    stands = subst⁻¹ (Among r) (all_records_lem k.records) (find_among (is_of v) (all_records s.nv s.vol) r e);
    own = sym (is_of-variable v r (find_takes (is_of v) (all_records s.nv s.vol) r e));
  }

  pub lookup_absent : lookup s.nv s.vol v ≡ none → Absent s v
  lookup_absent e r f = none_some r (sym e ∙ found_lookup r f)

  pub tells_exists : SoundStores s.nv s.vol → Tells (exists (lookup s.nv s.vol v)) ((r : Bytes) × RecordOf s v r)
  unfolding exists
  tells_exists k = (go (lookup s.nv s.vol v) refl, λ w. rw (found_lookup w.0 w.1))
    where
      go : (o : Option Bytes) → lookup s.nv s.vol v ≡ o → exists o ≡ true → (r : Bytes) × RecordOf s v r
      go none e h = absurd (false≢true h)
      go (some r) e h = (r, lookup_found r k e)

-- a variable has one record
pub one_record : (s : State) (v : Variable) (q x : Bytes) → RecordOf s v q → RecordOf s v x → q ≡ x
one_record s v q x f g = let e : some q ≡ some x = sym (found_lookup s v q f) ∙ found_lookup s v x g in cc

-- what a read tells and a deletion takes: the variable is absent, or its record hidden
pub tells_unseen : (s : State) (v : Variable) → SoundStores s.nv s.vol
    → Tells (not (exists (shown s.switches.exited (lookup s.nv s.vol v)))) (Absent s v ⊎ ((q : Bytes) × Hidden s v q))
unfolding exists shown
tells_unseen s v k = (go (lookup s.nv s.vol v) refl, back)
  where
    hides : (q : Bytes) (b : Bool) → lookup s.nv s.vol v ≡ some q → (s.switches.exited and not (has_rt (attributes_of q))) ≡ b
        → not (exists (cond b none (some q))) ≡ true → Absent s v ⊎ ((q : Bytes) × Hidden s v q)
    hides q true e t h =
        inr (q, record { exited = and_left _ _ t; stands = lookup_found s v q k e; without = (tells_not _ (tells_rt (attributes_of q))).0 (and_right s.switches.exited _ t) })
    hides q false e t h = absurd (false≢true h)

    go : (o : Option Bytes) → lookup s.nv s.vol v ≡ o → not (exists (shown s.switches.exited o)) ≡ true → Absent s v ⊎ ((q : Bytes) × Hidden s v q)
    go none e h = inl (lookup_absent s v e)
    go (some q) e h = hides q (s.switches.exited and not (has_rt (attributes_of q))) e refl h

    absent_none : Absent s v → (o : Option Bytes) → lookup s.nv s.vol v ≡ o → not (exists (shown s.switches.exited o)) ≡ true
    absent_none h none e = refl
    absent_none h (some q) e = absurd (h q (lookup_found s v q k e))

    back : Absent s v ⊎ ((q : Bytes) × Hidden s v q) → not (exists (shown s.switches.exited (lookup s.nv s.vol v))) ≡ true
    back (inl h) = absent_none h (lookup s.nv s.vol v) refl
    back (inr h) =
        rw (
          found_lookup s v h.0 h.1.stands,
          and_intro _ _ h.1.exited ((tells_not _ (tells_rt (attributes_of h.0))).1 h.1.without),
        )

-- and the record of a volatile variable after exit
pub tells_protected : (s : State) (v : Variable) → SoundStores s.nv s.vol
    → Tells (exit_protects s.switches.exited (lookup s.nv s.vol v)) ((q : Bytes) × Exited s × RecordOf s v q × Not (NV (attributes_of q)))
unfolding exit_protects
tells_protected s v k = (go (lookup s.nv s.vol v) refl, back)
  where
    go : (o : Option Bytes) → lookup s.nv s.vol v ≡ o → exit_protects s.switches.exited o ≡ true → (q : Bytes) × Exited s × RecordOf s v q × Not (NV (attributes_of q))
    go none e h = absurd (false≢true h)
    go (some q) e h =
        (q, and_left _ _ h, lookup_found s v q k e, (tells_not _ (tells_nv (attributes_of q))).0 (and_right s.switches.exited _ h))

    back : (q : Bytes) × Exited s × RecordOf s v q × Not (NV (attributes_of q)) → exit_protects s.switches.exited (lookup s.nv s.vol v) ≡ true
    back w = rw (found_lookup s v w.0 w.2) (and_intro _ _ w.1 ((tells_not _ (tells_nv (attributes_of w.0))).1 w.3))

-- ---- a store's records with one written or taken out

-- where a test first holds
record Middle (p : Bytes → Bool) (q : Bytes) (l : List Bytes) : Type 0 where
  before : List Bytes
  here : Bytes
  behind : List Bytes
  is : l ≡ before ++ (here ∷ behind)
  takes : p here ≡ true
  written : replace p q l ≡ before ++ (q ∷ behind)
  without : remove p l ≡ before ++ behind

middle : (p : Bytes → Bool) (q : Bytes) (l : List Bytes) → contains p l ≡ true → Middle p q l
unfolding contains replace remove
middle p q [] e = absurd (false≢true e)
middle p q (x ∷ l) e = go (p x) refl e (middle p q l)
  where
    go : (b : Bool) → p x ≡ b → (b || contains p l) ≡ true → (contains p l ≡ true → Middle p q l) → Middle p q (x ∷ l)
    go true h k f = record { before = []; here = x; behind = l; is = refl; takes = h; written = rw h; without = rw h }
    go false h k f =
        let m = f k in
        record {
          before = x ∷ m.before;
          here = m.here;
          behind = m.behind;
          is = ap (◌∷◌ x) m.is;
          takes = m.takes;
          written = rw h (ap (◌∷◌ x) m.written);
          without = rw h (ap (◌∷◌ x) m.without);
        }

pub contains_among : (p : Bytes → Bool) (l : List Bytes) → contains p l ≡ true → (a : Bytes) × Among a l × (p a ≡ true)
contains_among p l e =
    let m = middle p [] l e in
    (m.here, subst⁻¹ (Among m.here) m.is (among_middle m.before m.here m.behind), m.takes)

-- at a place before which it does not hold
module _ (p : Bytes → Bool) (x : Bytes) (ys : List Bytes) (t : p x ≡ true) where
  replace_middle : (q : Bytes) (xs : List Bytes) → contains p xs ≡ false → replace p q (xs ++ (x ∷ ys)) ≡ xs ++ (q ∷ ys)
  unfolding contains replace
  replace_middle q [] n = rw t
  replace_middle q (z ∷ xs) n = rw (or_left_off (p z) (contains p xs) n) (ap (◌∷◌ z) (replace_middle q xs (or_right_off (p z) (contains p xs) n)))

  remove_middle : (xs : List Bytes) → contains p xs ≡ false → remove p (xs ++ (x ∷ ys)) ≡ xs ++ ys
  unfolding contains remove
  remove_middle [] n = rw t
  remove_middle (z ∷ xs) n = rw (or_left_off (p z) (contains p xs) n) (ap (◌∷◌ z) (remove_middle xs (or_right_off (p z) (contains p xs) n)))

-- no record of the variable
pub nowhere : (v : Variable) (rs : List Bytes) → ((x : Bytes) → Among x rs → Not (variable_of x ≡ v)) → contains (is_of v) rs ≡ false
nowhere v rs n = forced_off (contains (is_of v) rs) (λ c.
    let w = contains_among (is_of v) rs c in absurd (n w.0 w.1 (sym (is_of-variable v w.0 w.2))))

none_there : (v : Variable) (rs : List Bytes) → contains (is_of v) rs ≡ false → (x : Bytes) → Among x rs → Not (variable_of x ≡ v)
none_there v rs e x k o = true≢false (sym (own_of v x o) ∙ all_among rs (contains_none (is_of v) rs e) x k)

-- of distinct records none before a variable's is one of the variable
only_one : (v : Variable) (xs : List Bytes) (x : Bytes) (ys : List Bytes) → distinct same_variable (xs ++ (x ∷ ys)) ≡ true → is_of v x ≡ true → contains (is_of v) xs ≡ false
only_one v xs x ys d t = forced_off (contains (is_of v) xs) (λ c.
    let w = contains_among (is_of v) xs c in
    let off = all_among xs (distinct_across same_variable xs (x ∷ ys) d) w.0 w.1 in
    absurd (true≢false (sym (among_contains (same_variable w.0) (x ∷ ys) x (inl refl) (sym (is_of-like v w.0 w.2 x) ∙ t)) ∙ off)))

module _ (v : Variable) (rs : List Bytes) where
  -- what the rules write, and take out
  pub with_put : (q : Bytes) → Put v q rs (replace_or_append (is_of v) q rs)
  unfolding replace_or_append
  with_put q = go (contains (is_of v) rs) refl
    where
      go : (b : Bool) → contains (is_of v) rs ≡ b → Put v q rs (cond b (replace (is_of v) q rs) (rs ++ (q ∷ [])))
      go true e = let m = middle (is_of v) q rs e in Put.in_place m.before m.here m.behind m.is (sym (is_of-variable v m.here m.takes)) m.written
      go false e = Put.behind (none_there v rs e) refl

  pub without_taken : Taken v rs (remove (is_of v) rs)
  without_taken = go (contains (is_of v) rs) refl
    where
      go : (b : Bool) → contains (is_of v) rs ≡ b → Taken v rs (remove (is_of v) rs)
      go true e = let m = middle (is_of v) [] rs e in Taken.out m.before m.here m.behind m.is (sym (is_of-variable v m.here m.takes)) m.without
      go false e = Taken.absent (none_there v rs e) (remove_none (is_of v) rs e)

  -- is all that may be written, and taken out
  module _ (d : distinct same_variable rs ≡ true) where
    before_none : (xs : List Bytes) (x : Bytes) (ys : List Bytes) → rs ≡ xs ++ (x ∷ ys) → variable_of x ≡ v → contains (is_of v) xs ≡ false
    before_none xs x ys e o = only_one v xs x ys (subst (λ l. distinct same_variable l ≡ true) e d) (own_of v x o)

    pub put_with : (q : Bytes) (ps : List Bytes) → Put v q rs ps → ps ≡ replace_or_append (is_of v) q rs
    unfolding replace_or_append
    put_with q ps (Put.in_place xs x ys e o f) =
        let t = own_of v x o in
        let c : contains (is_of v) rs ≡ true = subst⁻¹ (λ l. contains (is_of v) l ≡ true) e (contains_middle (is_of v) xs x ys t) in
        rw c (f ∙ sym (ap (replace (is_of v) q) e ∙ replace_middle (is_of v) x ys t q xs (before_none xs x ys e o)))
    put_with q ps (Put.behind n f) = rw (nowhere v rs n) f

    pub taken_without : (ps : List Bytes) → Taken v rs ps → ps ≡ remove (is_of v) rs
    taken_without ps (Taken.out xs x ys e o f) =
        f ∙ sym (ap (remove (is_of v)) e ∙ remove_middle (is_of v) x ys (own_of v x o) xs (before_none xs x ys e o))
    taken_without ps (Taken.absent n f) = f ∙ sym (remove_none (is_of v) rs (nowhere v rs n))
