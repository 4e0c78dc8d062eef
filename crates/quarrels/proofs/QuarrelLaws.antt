-- What the checker's answer says (RULES.md, 10.11): `quarrel_exactly`, `none_exactly`, `found_first`. Assumes nothing.
use Rattle.std.specs.Prelude.{ℕ, zero, suc, ◌<◌, ◌≡◌, List, [], ◌∷◌, Bool, ◌||◌, ◌⊎◌, ◌↔◌, get_or, Option, Some, None, Ok, Err}
use Rattle.std.proofs.Math.Path.{refl, ap}
use Rattle.std.proofs.Common.{sym, ◌∙◌, inl, inr, arith, eq-eqb, eqb-true}
use Rattle.std.proofs.Math.Bool.{true, false}
use Rattle.std.proofs.lemmas.Bool.{false≢true}
use Rattle.std.proofs.Math.ListN.{length}
use Rattle.limits.specs.Limits.{namespace_bytes, max_entries}
use Rattle.lists.specs.Lists.{All, nil, more, Pairs, RanksDiffer}
use Rattle.slices.proofs.TestLaws.{and_left, and_right, and_intro, forced_off}
use Rattle.slices.specs.Bytes.{Bytes, overwrite}
use Rattle.slices.proofs.BytesLaws.{pairwise_length, same_of}
use Rattle.slices.specs.Chunks.{distinct}
use Rattle.slices.proofs.ItemsLaws.{contains_none, distinct_apart}
use Rattle.names.specs.Name.{Variable, variable, units, is_name, named, unit_matches, matches}
use Rattle.names.proofs.NameLaws.{named_namespace, units_length}
use Rattle.patterns.specs.Common.{Smaller}
use Rattle.patterns.proofs.CommonLaws.{overlap_complete, overlap_matches, none_smaller, least_name_lem}
use Rattle.entry.specs.Entry.{well_formed, namespace_of, name_is_empty, name_of, targets, rank, same_target}
use Rattle.entry.proofs.EntryLaws.{name_of-empty, name_of-name, name_of-none, name_of-even, target_namespace, target_name, rank_of_name, rank_of_namespace, same_target-of}
use Rattle.policy.specs.Policy.{entries_of}
use Rattle.policy.proofs.PolicyLaws.{Entries}
use Rattle.policy.specs.Dump.{dump_valid}
use Rattle.policy.proofs.DumpLaws.{dump_entries}
use Rattle.quarrels.specs.declared.Pair.{Pair}
use Rattle.quarrels.specs.Pairs.{pair}
use Rattle.quarrels.proofs.PairsLaws as pairs
use Rattle.quarrels.specs.Quarrel.{least_common, least_variable, quarrel, quarrel_at, pair_of, least_at, Verdict, no_dump_error, first_quarrel, answer_for, quarrels_of, buffer_for, buffer_after}

-- THE MEANING (RULES.md, 10.11): equal ranks, and some variable, of all that a set can name, is targeted by both
pub record Quarrelling (e f : Bytes) : Type 0 where
  pub ranks : rank e ≡ rank f
  pub of : Variable
  pub taken : named of ≡ true
  pub first : targets e of ≡ true
  pub second : targets f of ≡ true

-- ---- two entries that both target a variable
pub name_targets : (e : Bytes) (v : Variable) → namespace_of e ≡ v.namespace → matches (units (name_of e)) (units v.name) ≡ true → targets e v ≡ true
unfolding targets
name_targets e v n m = and_intro _ _ (same_of (namespace_of e) v.namespace n) (either (name_is_empty e) m)
  where
    either : (b : Bool) {c : Bool} → c ≡ true → (b || c) ≡ true
    either true k = refl
    either false k = k

pub name_of_lem : (e : Bytes) → well_formed e ≡ true → name_is_empty e ≡ false → is_name (name_of e) ≡ true
name_of_lem e w z = go (name_of-name e w)
  where
    go : (name_of e ≡ []) ⊎ (is_name (name_of e) ≡ true) → is_name (name_of e) ≡ true
    go (inl k) = absurd (false≢true (sym z ∙ name_of-none e w ∙ eq-eqb _ 0 (ap length k)))
    go (inr k) = k

-- what the test asks: both target the least variable
pub record TargetLeast (e f : Bytes) : Type 0 where
  pub ranks : rank e ≡ rank f
  pub taken : named (least_variable e f) ≡ true
  pub first : targets e (least_variable e f) ≡ true
  pub second : targets f (least_variable e f) ≡ true

pub target_least : (e f : Bytes) → quarrel e f ≡ true → TargetLeast e f
unfolding quarrel
target_least e f h =
    let n = and_right _ _ h in
    record { ranks = eqb-true (rank e) (rank f) (and_left _ _ h); taken = and_left _ _ n; first = and_left _ _ (and_right _ _ n); second = and_right _ _ (and_right _ _ n) }

quarrelling : (e f : Bytes) → quarrel e f ≡ true → Quarrelling e f
quarrelling e f h =
    let k = target_least e f h in
    record { ranks = k.ranks; of = least_variable e f; taken = k.taken; first = k.first; second = k.second }

module _ (e f : Bytes) (we : well_formed e ≡ true) (wf : well_formed f ≡ true) (apart : same_target e f ≡ false) where
  -- if both target a variable at one rank
  module _ (q : Quarrelling e f) where
    one_namespace : namespace_of e ≡ namespace_of f
    one_namespace = target_namespace e q.of q.first ∙ sym (target_namespace f q.of q.second)

    -- both have a name: two whole namespaces would be a repeat
    both_named : (name_is_empty e ≡ false) × (name_is_empty f ≡ false)
    both_named = go (name_is_empty e) (name_is_empty f) refl refl
      where
        go : (a b : Bool) → name_is_empty e ≡ a → name_is_empty f ≡ b → (name_is_empty e ≡ false) × (name_is_empty f ≡ false)
        go false false a b = (a, b)
        go true false a b = absurd (omega (arith, q.ranks, rank_of_namespace e a, rank_of_name f q.of q.taken q.second b))
        go false true a b = absurd (omega (arith, q.ranks, rank_of_namespace f b, rank_of_name e q.of q.taken q.first a))
        go true true a b = absurd (false≢true (sym apart ∙ same_target-of e f (record { namespace = one_namespace; name = name_of-empty e a ∙ sym (name_of-empty f b) })))

    first_matches : matches (units (name_of e)) (units q.of.name) ≡ true
    first_matches = target_name e q.of both_named.0 q.first

    second_matches : matches (units (name_of f)) (units q.of.name) ≡ true
    second_matches = target_name f q.of both_named.1 q.second

    as_long : length (name_of e) ≡ length (name_of f)
    as_long =
        let a = pairwise_length unit_matches _ _ first_matches in
        let b = pairwise_length unit_matches _ _ second_matches in
        omega (arith, a, b, units_length (name_of e), units_length (name_of f), name_of-even e we, name_of-even f wf)

    least_named : named (least_variable e f) ≡ true
    unfolding named
    least_named =
        let n : length (namespace_of e) ≡ namespace_bytes = ap length (target_namespace e q.of q.first) ∙ named_namespace q.of q.taken in
        and_intro _ _ (eq-eqb _ _ n) (least_name_lem (name_of e) (name_of f) (name_of_lem e we both_named.0) (name_of_lem f wf both_named.1) as_long)

    pub told : quarrel e f ≡ true
    unfolding quarrel
    told =
        let m = overlap_matches (name_of e) (name_of f) (overlap_complete (name_of e) (name_of f) (units q.of.name) first_matches second_matches) in
        and_intro _ _ (eq-eqb _ _ q.ranks)
        (and_intro _ _ least_named (and_intro _ _ (name_targets e (least_variable e f) refl m.0) (name_targets f (least_variable e f) (sym one_namespace) m.1)))

  -- no name that both target is smaller than the least
  pub least_smallest : rank e ≡ rank f → (v : Variable) → named v ≡ true → targets e v ≡ true → targets f v ≡ true
      → Smaller (units v.name) (units (least_common e f)) → ⊥
  least_smallest r v n a b =
      let q : Quarrelling e f = record { ranks = r; of = v; taken = n; first = a; second = b } in
      none_smaller (name_of e) (name_of f) (units v.name) (first_matches q) (second_matches q)

  -- THE TEST TELLS THE MEANING, of entries that are not repeats
  pub quarrel_exactly : quarrel e f ≡ true ↔ Quarrelling e f
  quarrel_exactly = (quarrelling e f, told)

-- ---- entries of a list, by their places
abbrev pub at : List Bytes → ℕ → Bytes
at es i = get_or es i []

pub all_at : {P : Bytes → Type 0} (es : List Bytes) → All P es → (k : ℕ) → k < length es → P (at es k)
all_at [] a k h = absurd (omega arith)
all_at (e ∷ es) (more p a) zero h = p
all_at (e ∷ es) (more p a) (suc k) h = all_at es a k (omega arith)

at_all : {P : Bytes → Type 0} (es : List Bytes) → ((k : ℕ) → k < length es → P (at es k)) → All P es
at_all [] h = nil
at_all (e ∷ es) h = more (h 0 (omega arith)) (at_all es (λ k l. h (suc k) (omega arith)))

module _ (R : Bytes → Bytes → Type 0) where
  pairs_at : (es : List Bytes) → Pairs R es → (i j : ℕ) → i < j → j < length es → R (at es i) (at es j)
  pairs_at [] a i j o w = absurd (omega arith)
  pairs_at (e ∷ es) a zero zero o w = absurd (omega arith)
  pairs_at (e ∷ es) a zero (suc j) o w = all_at es a.0 j (omega arith)
  pairs_at (e ∷ es) a (suc i) zero o w = absurd (omega arith)
  pairs_at (e ∷ es) a (suc i) (suc j) o w = pairs_at es a.1 i j (omega arith) (omega arith)

  at_pairs : (es : List Bytes) → ((i j : ℕ) → i < j → j < length es → R (at es i) (at es j)) → Pairs R es
  at_pairs [] h = tt
  at_pairs (e ∷ es) h = (at_all es (λ k l. h 0 (suc k) (omega arith) (omega arith)), at_pairs es (λ i j o w. h (suc i) (suc j) (omega arith) (omega arith)))

distinct_at : (es : List Bytes) → distinct same_target es ≡ true → Pairs (λ e f. same_target e f ≡ false) es
distinct_at [] h = tt
distinct_at (e ∷ es) h = let k = distinct_apart same_target e es h in (contains_none (same_target e) es k.here, distinct_at es k.rest)

-- ---- THE ANSWER
-- the first pair of a list that quarrels, and the least name that both target
pub record FirstQuarrel (es : List Bytes) (i j : ℕ) (name : Bytes) : Type 0 where
  pub order : i < j
  pub within : j < length es
  -- of equal rank, and both target the variable of that name in the earlier one's namespace
  pub ranks : rank (at es i) ≡ rank (at es j)
  pub taken : named (variable (namespace_of (at es i)) name) ≡ true
  pub earlier : targets (at es i) (variable (namespace_of (at es i)) name) ≡ true
  pub later : targets (at es j) (variable (namespace_of (at es i)) name) ≡ true
  -- no name that both target is smaller
  pub least : (v : Variable) → named v ≡ true → targets (at es i) v ≡ true → targets (at es j) v ≡ true → Smaller (units v.name) (units name) → ⊥
  -- no pair before this one quarrels
  pub first : (x y : ℕ) → x < y → y < length es → pairs.Before x y i j → Quarrelling (at es x) (at es y) → ⊥

module _ (es : List Bytes) (a : Entries es) where
  pub formed_at : (k : ℕ) → k < length es → well_formed (at es k) ≡ true
  formed_at = all_at es a.formed

  pub apart_at : (i j : ℕ) → i < j → j < length es → same_target (at es i) (at es j) ≡ false
  apart_at = pairs_at (λ e f. same_target e f ≡ false) es (distinct_at es a.apart)

  at_exactly : (i j : ℕ) → i < j → j < length es → quarrel_at es i j ≡ true ↔ Quarrelling (at es i) (at es j)
  at_exactly i j o w = quarrel_exactly (at es i) (at es j) (formed_at i (omega arith)) (formed_at j w) (apart_at i j o w)

  -- no pair is found exactly if no two entries of equal rank target one variable
  pub none_found : pair_of es ≡ None ↔ ((v : Variable) → named v ≡ true → Pairs (RanksDiffer rank (λ e. targets e v)) es)
  none_found = (
    (λ h v n. at_pairs (RanksDiffer rank (λ e. targets e v)) es (λ i j o w p q r.
        false≢true (sym ((pairs.no_pair_exactly (quarrel_at es) (length es)).0 h i j o w) ∙ (at_exactly i j o w).1 (record { ranks = r; of = v; taken = n; first = p; second = q })))),
    (λ u. (pairs.no_pair_exactly (quarrel_at es) (length es)).1 (λ i j o w.
        forced_off (quarrel_at es i j) (λ t. let q = (at_exactly i j o w).0 t in absurd (pairs_at (RanksDiffer rank (λ e. targets e q.of)) es (u q.of q.taken) i j o w q.first q.second q.ranks)))),
  )

  pub pair_found : (i j : ℕ) → pair_of es ≡ Some (pair i j) → FirstQuarrel es i j (least_at es i j)
  pair_found i j h =
      let k = pairs.finds_first (quarrel_at es) (length es) i j h in
      let q = target_least (at es i) (at es j) k.2 in
      record {
        order = k.0;
        within = k.1;
        ranks = q.ranks;
        taken = q.taken;
        earlier = q.first;
        later = q.second;
        least = least_smallest (at es i) (at es j) (formed_at i (omega (arith, k.0, k.1))) (formed_at j k.1) (apart_at i j k.0 k.1) q.ranks;
        first = λ x y o w b g. false≢true (sym (k.3 x y o w b) ∙ (at_exactly x y o w).1 g);
      }

-- the answer by numbers
abbrev kind : Verdict → ℕ
kind (Err _) = 0
kind (Ok None) = 1
kind (Ok (Some q)) = 2

abbrev earlier_of : Verdict → ℕ
earlier_of (Err _) = 0
earlier_of (Ok None) = 0
earlier_of (Ok (Some q)) = q.pair.earlier

abbrev later_of : Verdict → ℕ
later_of (Err _) = 0
later_of (Ok None) = 0
later_of (Ok (Some q)) = q.pair.later

abbrev length_of : Verdict → ℕ
length_of (Err _) = 0
length_of (Ok None) = 0
length_of (Ok (Some q)) = q.length

-- of a dump: which of the three answers it is
module _ (d : Bytes) where
  abbrev es : List Bytes
  es = entries_of d

  -- the cases of the answer, with what they rest on
  data Case : Type 0 where
    no_dump : dump_valid d ≡ false → quarrels_of d ≡ Err no_dump_error → ((b : Bytes) → buffer_after d b ≡ b) → Case
    no_quarrel : dump_valid d ≡ true → pair_of es ≡ None → quarrels_of d ≡ Ok None → ((b : Bytes) → buffer_after d b ≡ b) → Case
    found : dump_valid d ≡ true → (i j : ℕ) → pair_of es ≡ Some (pair i j) → quarrels_of d ≡ Ok (Some (first_quarrel i j (length (least_at es i j))))
        → ((b : Bytes) → buffer_after d b ≡ overwrite b 0 (least_at es i j)) → Case

  case : Case
  unfolding quarrels_of buffer_after
  case = go (dump_valid d) (pair_of es) refl refl
    where
      go : (v : Bool) (p : Option Pair) → dump_valid d ≡ v → pair_of es ≡ p → Case
      go false p v e = no_dump v (rw v) (λ b. rw v)
      go true None v e = no_quarrel v e (rw v (ap (answer_for es) e)) (λ b. rw v (ap (λ q. buffer_for es q b) e))
      go true (Some p) v e = found v p.earlier p.later e (rw v (ap (answer_for es) e)) (λ b. rw v (ap (λ q. buffer_for es q b) e))

  -- ---- WHEN IT IS WHICH ANSWER
  other : {x y : Verdict} → quarrels_of d ≡ x → quarrels_of d ≡ y → kind x ≡ kind y
  other e f = ap kind (sym e ∙ f)

  -- 2 exactly if the bytes are no dump
  pub no_dump_exactly : quarrels_of d ≡ Err no_dump_error ↔ (dump_valid d ≡ false)
  no_dump_exactly = (go case, λ v. back v case)
    where
      go : Case → quarrels_of d ≡ Err no_dump_error → dump_valid d ≡ false
      go (no_dump v e b) h = v
      go (no_quarrel v p e b) h = absurd (omega (arith, other h e))
      go (found v i j p e b) h = absurd (omega (arith, other h e))

      back : dump_valid d ≡ false → Case → quarrels_of d ≡ Err no_dump_error
      back n (no_dump v e b) = e
      back n (no_quarrel v p e b) = absurd (false≢true (sym n ∙ v))
      back n (found v i j p e b) = absurd (false≢true (sym n ∙ v))

  -- none exactly if no two entries of equal rank target one variable, of all that a set can name
  pub none_exactly : quarrels_of d ≡ Ok None ↔ ((dump_valid d ≡ true) × ((v : Variable) → named v ≡ true → Pairs (RanksDiffer rank (λ e. targets e v)) (entries_of d)))
  none_exactly = (go case, λ u. back u case)
    where
      go : Case → quarrels_of d ≡ Ok None → (dump_valid d ≡ true) × ((v : Variable) → named v ≡ true → Pairs (RanksDiffer rank (λ e. targets e v)) es)
      go (no_dump v e b) h = absurd (omega (arith, other h e))
      go (no_quarrel v p e b) h = (v, (none_found es (dump_entries d v)).0 p)
      go (found v i j p e b) h = absurd (omega (arith, other h e))

      back : (dump_valid d ≡ true) × ((v : Variable) → named v ≡ true → Pairs (RanksDiffer rank (λ e. targets e v)) es) → Case → quarrels_of d ≡ Ok None
      back u (no_dump v e b) = absurd (false≢true (sym v ∙ u.0))
      back u (no_quarrel v p e b) = e
      back u (found v i j p e b) =
          absurd (let f = pair_found es (dump_entries d v) i j p in
          pairs_at (RanksDiffer rank (λ x. targets x _)) es (u.1 _ f.taken) i j f.order f.within f.earlier f.later f.ranks)

  -- a pair that is found is the first, with the least name
  pub found_first : (i j n : ℕ) → quarrels_of d ≡ Ok (Some (first_quarrel i j n)) → FirstQuarrel (entries_of d) i j (least_at (entries_of d) i j)
      × (n ≡ length (least_at (entries_of d) i j)) × ((b : Bytes) → buffer_after d b ≡ overwrite b 0 (least_at (entries_of d) i j))
  found_first i j n h = go case
    where
      go : Case → FirstQuarrel es i j (least_at es i j) × (n ≡ length (least_at es i j)) × ((b : Bytes) → buffer_after d b ≡ overwrite b 0 (least_at es i j))
      go (no_dump v e b) = absurd (omega (arith, other h e))
      go (no_quarrel v p e b) = absurd (omega (arith, other h e))
      go (found v x y p e b) =
          let k = sym e ∙ h in
          let c : x ≡ i = ap earlier_of k in
          let g : y ≡ j = ap later_of k in
          let t : FirstQuarrel es x y (least_at es x y) × (n ≡ length (least_at es x y)) × ((b : Bytes) → buffer_after d b ≡ overwrite b 0 (least_at es x y)) =
          (pair_found es (dump_entries d v) x y p, sym (ap length_of k), b) in
          rw (c, g) at t

  -- its places are among those of a dump
  pub found_places : (i j n : ℕ) → quarrels_of d ≡ Ok (Some (first_quarrel i j n)) → (i < max_entries) × (j < max_entries)
  found_places i j n h = go case
    where
      f : FirstQuarrel es i j (least_at es i j)
      f = (found_first i j n h).0

      go : Case → (i < max_entries) × (j < max_entries)
      go (no_dump v e b) = absurd (omega (arith, other h e))
      go (no_quarrel v p e b) = absurd (omega (arith, other h e))
      go (found v x y p e b) = let k = (dump_entries d v).few in let o = f.order in let w = f.within in (omega arith, omega arith)

  -- the buffer stays as it was but for a pair that is found
  pub buffer_kept : (b : Bytes) → ((i j n : ℕ) → quarrels_of d ≡ Ok (Some (first_quarrel i j n)) → ⊥) → buffer_after d b ≡ b
  buffer_kept b h = go case
    where
      go : Case → buffer_after d b ≡ b
      go (no_dump v e k) = k b
      go (no_quarrel v p e k) = k b
      go (found v i j p e k) = absurd (h i j _ e)
