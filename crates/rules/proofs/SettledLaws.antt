-- Settled variables, by the two functions and by chains: both agree (`settled_exactly`); chains of a variable have one length (`one_length`), a longer one than the
-- limit is a no (`longer_no`), and so is a loop (`loop_no`); a settled variable is a locked one, of type 3 by a settled trigger (`settled_by_lock`). What the answer depends on
-- (`settled_same`, `settled_moves`). Assumes nothing.
use Rattle.std.specs.Prelude.{ℕ, zero, suc, ◌≤◌, ◌<◌, ◌≡◌, refl, List, [], ◌∷◌, Bool, true, false, ◌↔◌}
use Rattle.std.proofs.Common.{zero-le, suc-le-suc, le_of_suc-le-suc, not-suc-le-zero, arith, sym, ap, subst, ◌∙◌}
use Rattle.std.proofs.Math.Path.{subst⁻¹}
use Rattle.std.proofs.lemmas.Bool.{false≢true}
use Rattle.std.proofs.Math.Option.{Option, none, some}
use Rattle.limits.specs.Limits.{max_links}
use Rattle.lists.specs.Lists.{Among}
use Rattle.lists.proofs.ListsLaws.{all_among, among_middle}
use Rattle.slices.specs.Test.{◌and◌}
use Rattle.slices.proofs.TestLaws.{and_left, and_right, and_intro}
use Rattle.slices.specs.Bytes.{Bytes, same}
use Rattle.names.specs.Name.{Variable, named}
use Rattle.entry.specs.Entry.{lock_policy_type, well_formed, lock_of, trigger_of, trigger_value}
use Rattle.entry.specs.declared.LockRule.{LockRule}
use Rattle.entry.specs.declared.LockRule.TheVariants.{NoLock, LockNow, LockOnCreate, LockOnVarState}
use Rattle.policy.specs.Policy.{entries_of, policy_valid}
use Rattle.policy.specs.Choice.{chosen}
use Rattle.store.specs.Record.{payload_of}
use Rattle.stores.specs.Pair.{lookup}
use Rattle.rules.specs.Set.{Lookup, exists, holds_value, rule_locks, locks}
use Rattle.rules.specs.Settled.{Choice, rests_on, lock_holds_by, settled_by, lock_holds_in, settled_in, settled_asks, lock_asks, lock_asks_none}
use Rattle.rules.specs.Engine.{State, is_settled}
use Rattle.rules.specs.Grounds.{Not, HasEntries, SoundStores, RecordOf, Locks, ChosenFor, Settled, links_of, SettledWithin}
use Rattle.rules.proofs.ConditionLaws.{Tells, tells_same, chosen_is, is_chosen, off_tells}
use Rattle.rules.proofs.FoundLaws.{found_lookup, valid_entries, entries_read, tells_entries}
use Rattle.rules.proofs.SetGroundsLaws.{tells_locks}

-- ---- the two functions

-- whatever the number of links left, a lock goes by some answer about its trigger
abbrev pub settled_below : ℕ → Choice → Lookup → Variable → Bool
settled_below zero choice found u = false
settled_below (suc n) choice found u = settled_in n choice found u

pub lock_is : (n : ℕ) (choice : Choice) (found : Lookup) (e : Bytes) (v : Variable) → lock_holds_in n choice found e v ≡ lock_holds_by (settled_below n choice found) found e v
lock_is zero choice found e v = lock_asks_none choice found e v
lock_is (suc n) choice found e v = lock_asks n choice found e v

-- the chosen entry of a settled variable, and that its lock holds
pub settled_lock : (n : ℕ) (choice : Choice) (found : Lookup) (v : Variable) → settled_in n choice found v ≡ true
    → (e : Bytes) × (choice v ≡ some e) × (lock_holds_by (settled_below n choice found) found e v ≡ true)
settled_lock n choice found v h = go (choice v) refl (sym (settled_asks n choice found v) ∙ h)
  where
    go : (o : Option Bytes) → choice v ≡ o → settled_by (λ e. lock_holds_in n choice found e v) o ≡ true
        → (e : Bytes) × (choice v ≡ some e) × (lock_holds_by (settled_below n choice found) found e v ≡ true)
    go none c k = absurd (false≢true k)
    go (some e) c k = (e, c, sym (lock_is n choice found e v) ∙ k)

pub lock_settled : (n : ℕ) (choice : Choice) (found : Lookup) (v : Variable) (e : Bytes) → choice v ≡ some e
    → lock_holds_by (settled_below n choice found) found e v ≡ true → settled_in n choice found v ≡ true
lock_settled n choice found v e c h = settled_asks n choice found v ∙ rw c (lock_is n choice found e v ∙ h)

-- A SETTLED VARIABLE IS LOCKED by its chosen entry
pub settled_locks : (n : ℕ) (choice : Choice) (found : Lookup) (v : Variable) → settled_in n choice found v ≡ true → (e : Bytes) × (choice v ≡ some e) × (locks e found v ≡ true)
unfolding lock_holds_by
settled_locks n choice found v h = let k = settled_lock n choice found v h in (k.0, k.1, and_left _ _ k.2)

-- ---- the choice in propositions
module _ (s : State) where
  abbrev choice_in : Choice
  choice_in = chosen (entries_of s.policy)

  abbrev found_in : Lookup
  found_in = lookup s.nv s.vol

  pub for_chosen : {v : Variable} {e : Bytes} → ChosenFor s v e → choice_in v ≡ some e
  for_chosen {v} {e} w = subst (λ x. chosen x v ≡ some e) (entries_read s w.entries w.listed) (is_chosen w.entries v e w.choice)

  pub chosen_for : policy_valid s.policy ≡ true → {v : Variable} {e : Bytes} → choice_in v ≡ some e → ChosenFor s v e
  chosen_for p {v} {e} c = record { entries = entries_of s.policy; listed = valid_entries s p; choice = chosen_is (entries_of s.policy) v e c }

  one_chosen : {v : Variable} {e f : Bytes} → ChosenFor s v e → ChosenFor s v f → e ≡ f
  one_chosen {v} {e} {f} a b = let k : some e ≡ some f = sym (for_chosen a) ∙ for_chosen b in cc

  pub chosen_formed : {v : Variable} {e : Bytes} → ChosenFor s v e → well_formed e ≡ true
  chosen_formed {v} {e} w =
      all_among w.entries w.listed.formed e (subst⁻¹ (Among e) w.choice.place (among_middle w.choice.before e w.choice.after))

  -- ---- a chain, from the functions

  -- of type 3 a lock rests on its trigger
  rests_3 : (e : Bytes) (b : Bool) → lock_policy_type e ≡ 3 → rests_on (lock_of e) b ≡ b
  unfolding lock_of
  rests_3 e b h = rw h

  -- what a lock that holds shows
  lock_shows : SoundStores s.nv s.vol → (A : Type 0) (x : Variable → Bool) {v : Variable} (e : Bytes) → ChosenFor s v e → lock_holds_by x found_in e v ≡ true
      → (lock_policy_type e ≡ 1 → A) → ((r : Bytes) → lock_policy_type e ≡ 2 → RecordOf s v r → A)
      → ((r : Bytes) → lock_policy_type e ≡ 3 → RecordOf s (trigger_of e) r → payload_of r ≡ trigger_value e ∷ [] → x (trigger_of e) ≡ true → A) → A
  unfolding lock_holds_by
  lock_shows k A x {v} e c h one two three = go ((tells_locks s k e (chosen_formed c) v).0 (and_left _ _ h))
    where
      go : Locks s e v → A
      go (Locks.now t) = one t
      go (Locks.on_create r t f) = two r t f
      go (Locks.on_var_state r t f p) = three r t f p (sym (rests_3 e (x (trigger_of e)) t) ∙ and_right (locks e found_in v) _ h)

  module _ (k : SoundStores s.nv s.vol) (p : policy_valid s.policy ≡ true) where
    chain_by : (n : ℕ) → ((u : Variable) → settled_below n choice_in found_in u ≡ true → (c : Settled s u) × (suc (links_of c) ≤ n)) → (v : Variable) → settled_in n choice_in found_in v ≡ true → SettledWithin n s v
    chain_by n below v h =
        let w = settled_lock n choice_in found_in v h in
        let c = chosen_for p w.1 in
        lock_shows k (SettledWithin n s v) (settled_below n choice_in found_in) w.0 c w.2
        (λ t. (Settled.now w.0 c t, zero-le))
        (λ r t f. (Settled.created w.0 r c t f, zero-le))
        (λ r t f q x. let z = below (trigger_of w.0) x in (Settled.link w.0 r c t f q z.0, z.1))

    has_chain : (n : ℕ) (v : Variable) → settled_in n choice_in found_in v ≡ true → SettledWithin n s v
    has_chain zero v h = chain_by 0 (λ u x. absurd (false≢true x)) v h
    has_chain (suc n) v h = chain_by (suc n) (λ u x. let z = has_chain n u x in (z.0, suc-le-suc z.1)) v h

  -- ---- the functions, from a chain

  holds_now : (x : Variable → Bool) (e : Bytes) (v : Variable) → lock_policy_type e ≡ 1 → lock_holds_by x found_in e v ≡ true
  unfolding lock_holds_by locks lock_of ◌and◌
  holds_now x e v h = rw h

  holds_created : (x : Variable → Bool) (e r : Bytes) (v : Variable) → lock_policy_type e ≡ 2 → RecordOf s v r → lock_holds_by x found_in e v ≡ true
  unfolding lock_holds_by locks lock_of exists ◌and◌
  holds_created x e r v h f = rw (h, found_lookup s v r f)

  holds_link : (x : Variable → Bool) (e r : Bytes) (v : Variable) → lock_policy_type e ≡ 3 → RecordOf s (trigger_of e) r → payload_of r ≡ trigger_value e ∷ []
      → x (trigger_of e) ≡ true → lock_holds_by x found_in e v ≡ true
  unfolding lock_holds_by locks lock_of holds_value ◌and◌
  holds_link x e r v h f p y = rw (h, found_lookup s (trigger_of e) r f, (tells_same (payload_of r) (trigger_value e ∷ [])).1 p, y)

  pub is_chain : {v : Variable} (c : Settled s v) (n : ℕ) → links_of c ≤ n → settled_in n choice_in found_in v ≡ true
  is_chain {v} (Settled.now e k h) n l = lock_settled n choice_in found_in v e (for_chosen k) (holds_now (settled_below n choice_in found_in) e v h)
  is_chain {v} (Settled.created e r k h f) n l = lock_settled n choice_in found_in v e (for_chosen k) (holds_created (settled_below n choice_in found_in) e r v h f)
  is_chain {v} (Settled.link e r k h f p c) zero l = absurd (not-suc-le-zero l)
  is_chain {v} (Settled.link e r k h f p c) (suc n) l =
      lock_settled (suc n) choice_in found_in v e (for_chosen k) (holds_link (settled_below (suc n) choice_in found_in) e r v h f p (is_chain c n (le_of_suc-le-suc l)))

  -- YES EXACTLY BY THIS MEANING: over sound stores and a valid record, a variable is settled exactly if there is a chain of at most 16 links
  pub settled_exactly : SoundStores s.nv s.vol → (es : List Bytes) → HasEntries s es → (v : Variable) → Tells (is_settled s v) (SettledWithin max_links s v)
  settled_exactly k es w v = (has_chain k ((tells_entries s).1 (es, w)) max_links v, λ c. is_chain c.0 max_links c.1)

  -- ---- by the locks of section 5

  not_both : {A : Type 0} (e f : Bytes) (m n : ℕ) → e ≡ f → lock_policy_type e ≡ m → lock_policy_type f ≡ n → Not (m ≡ n) → A
  not_both e f m n k a b d = absurd (d (sym a ∙ ap lock_policy_type k ∙ b))

  -- v is locked by its chosen entry and, of type 3, its trigger is settled with one link fewer than n
  pub record LockedBy (n : ℕ) (v : Variable) : Type 0 where
    pub entry : Bytes
    pub chosen : ChosenFor s v entry
    pub locks : Locks s entry v
    pub trigger : lock_policy_type entry ≡ 3 → (m : ℕ) × (n ≡ suc m) × SettledWithin m s (trigger_of entry)

  locked_by : (n : ℕ) {v : Variable} (c : Settled s v) → links_of c ≤ n → LockedBy n v
  locked_by n (Settled.now e k h) l = record { entry = e; chosen = k; locks = Locks.now h; trigger = λ t. not_both e e 1 3 refl h t (λ z. omega arith) }
  locked_by n (Settled.created e r k h f) l = record { entry = e; chosen = k; locks = Locks.on_create r h f; trigger = λ t. not_both e e 2 3 refl h t (λ z. omega arith) }
  locked_by zero (Settled.link e r k h f p c) l = absurd (not-suc-le-zero l)
  locked_by (suc n) (Settled.link e r k h f p c) l =
      record { entry = e; chosen = k; locks = Locks.on_var_state r h f p; trigger = λ t. (n, refl, (c, le_of_suc-le-suc l)) }

  by_lock_lem : (n : ℕ) {v : Variable} → LockedBy n v → SettledWithin n s v
  by_lock_lem n {v} w = go w.locks
    where
      go : Locks s w.entry v → SettledWithin n s v
      go (Locks.now h) = (Settled.now w.entry w.chosen h, zero-le)
      go (Locks.on_create r h f) = (Settled.created w.entry r w.chosen h f, zero-le)
      go (Locks.on_var_state r h f p) =
          let t = w.trigger h in
          (Settled.link w.entry r w.chosen h f p t.2.0, subst⁻¹ (λ x. suc (links_of t.2.0) ≤ x) t.1 (suc-le-suc t.2.1))

  -- SETTLED IS LOCKED AND, OF TYPE 3, BY A TRIGGER THAT IS SETTLED: nothing more is asked, and nothing less
  pub settled_by_lock : (n : ℕ) (v : Variable) → SettledWithin n s v ↔ LockedBy n v
  settled_by_lock n v = ((λ c. locked_by n c.0 c.1), by_lock_lem n)

  -- ---- long chains and loops

  -- ALL CHAINS OF A VARIABLE HAVE THE SAME NUMBER OF LINKS
  pub one_length : {v w : Variable} → v ≡ w → (c : Settled s v) (d : Settled s w) → links_of c ≡ links_of d
  one_length q (Settled.now e k h) (Settled.now f l i) = refl
  one_length q (Settled.now e k h) (Settled.created f r l i g) = refl
  one_length q (Settled.now e k h) (Settled.link f r l i g p d) = not_both e f 1 3 (one_chosen (subst (λ x. ChosenFor s x e) q k) l) h i (λ z. omega arith)
  one_length q (Settled.created e r k h g) (Settled.now f l i) = refl
  one_length q (Settled.created e r k h g) (Settled.created f x l i j) = refl
  one_length q (Settled.created e r k h g) (Settled.link f x l i j p d) = not_both e f 2 3 (one_chosen (subst (λ y. ChosenFor s y e) q k) l) h i (λ z. omega arith)
  one_length q (Settled.link e r k h g p c) (Settled.now f l i) = not_both e f 3 1 (one_chosen (subst (λ y. ChosenFor s y e) q k) l) h i (λ z. omega arith)
  one_length q (Settled.link e r k h g p c) (Settled.created f x l i j) = not_both e f 3 2 (one_chosen (subst (λ y. ChosenFor s y e) q k) l) h i (λ z. omega arith)
  one_length q (Settled.link e r k h g p c) (Settled.link f x l i j o d) =
      ap suc (one_length (ap trigger_of (one_chosen (subst (λ y. ChosenFor s y e) q k) l)) c d)

  -- A CHAIN OF MORE THAN 16 LINKS IS A NO
  pub longer_no : SoundStores s.nv s.vol → (es : List Bytes) → HasEntries s es → {v : Variable} (c : Settled s v) → max_links < links_of c → is_settled s v ≡ false
  longer_no k es w {v} c l = off_tells _ (settled_exactly k es w v) (λ d. let m = one_length refl c d.0 in let n = d.1 in omega arith)

  -- 16 LINKS ARE A YES, AND 17 A NO
  pub sixteen_yes : {v : Variable} (c : Settled s v) → links_of c ≡ 16 → is_settled s v ≡ true
  sixteen_yes c l = is_chain c max_links (omega arith)

  pub seventeen_no : SoundStores s.nv s.vol → (es : List Bytes) → HasEntries s es → {v : Variable} (c : Settled s v) → links_of c ≡ 17 → is_settled s v ≡ false
  seventeen_no k es w c l = longer_no k es w c (omega arith)

  -- from v a link, or links one behind the other, lead to w; what the triggers hold is not asked
  pub data Leads : Variable → Variable → Type 0 where
    one : {v : Variable} (e : Bytes) → ChosenFor s v e → lock_policy_type e ≡ 3 → Leads v (trigger_of e)
    more : {v w : Variable} (e : Bytes) → ChosenFor s v e → lock_policy_type e ≡ 3 → Leads (trigger_of e) w → Leads v w

  -- a link from v, behind which one comes round to w again
  Round : Variable → Variable → Type 0
  Round w v = (e : Bytes) × ChosenFor s v e × (lock_policy_type e ≡ 3) × Leads (trigger_of e) w

  goes_round : {v w : Variable} → Leads w w → Leads v w → Round w v
  unfolding Round
  goes_round r (one e k h) = (e, k, h, r)
  goes_round r (more e k h l) = (e, k, h, l)

  round_no : (w : Variable) → Leads w w → {v : Variable} → Leads v w → Not (Settled s v)
  unfolding Round
  round_no w r l (Settled.now e k h) = let x = goes_round r l in not_both e x.0 1 3 (one_chosen k x.1) h x.2 (λ z. omega arith)
  round_no w r l (Settled.created e q k h f) = let x = goes_round r l in not_both e x.0 2 3 (one_chosen k x.1) h x.2 (λ z. omega arith)
  round_no w r l (Settled.link e q k h f p c) =
      let x = goes_round r l in
      round_no w r (subst⁻¹ (λ y. Leads (trigger_of y) w) (one_chosen k x.1) x.3) c

  -- A LOOP IS A NO: so no variable from which links lead back to itself is settled, and none that leads to such a one
  pub loop_no : SoundStores s.nv s.vol → (es : List Bytes) → HasEntries s es → (v w : Variable) → Leads w w → Leads v w → is_settled s v ≡ false
  loop_no k es e v w r l = off_tells _ (settled_exactly k es e v) (λ c. round_no w r l c.0)

-- ---- what the answer depends on

-- of other variables a lock asks its trigger alone, and only if that exists
lock_same : (x y : Variable → Bool) (found : Lookup) (e : Bytes) (v : Variable) → ((r : Bytes) → found (trigger_of e) ≡ some r → x (trigger_of e) ≡ y (trigger_of e))
    → lock_holds_by x found e v ≡ lock_holds_by y found e v
unfolding lock_holds_by locks holds_value ◌and◌
lock_same x y found e v k = by_rule (lock_of e)
  where
    by_trigger : (o : Option Bytes) → found (trigger_of e) ≡ o
        → (holds_value o (trigger_value e) and x (trigger_of e)) ≡ (holds_value o (trigger_value e) and y (trigger_of e))
    by_trigger none f = refl
    by_trigger (some r) f = ap (λ b. same (payload_of r) (trigger_value e ∷ []) and b) (k r f)

    by_rule : (l : LockRule) → (rule_locks l e found v and rests_on l (x (trigger_of e))) ≡ (rule_locks l e found v and rests_on l (y (trigger_of e)))
    by_rule NoLock = refl
    by_rule LockNow = refl
    by_rule LockOnCreate = refl
    by_rule (LockOnVarState t) = by_trigger (found (trigger_of e)) refl

module _ (c d : Choice) (found : Lookup) (agree : (v : Variable) → named v ≡ true → c v ≡ d v) (stored : (v : Variable) (r : Bytes) → found v ≡ some r → named v ≡ true) where
  same_by : (n : ℕ) → ((u : Variable) → named u ≡ true → settled_below n c found u ≡ settled_below n d found u) → (v : Variable) → named v ≡ true → settled_in n c found v ≡ settled_in n d found v
  same_by n below v m = settled_asks n c found v ∙ rw (agree v m) (by_choice (d v)) ∙ sym (settled_asks n d found v)
    where
      by_choice : (o : Option Bytes) → settled_by (λ e. lock_holds_in n c found e v) o ≡ settled_by (λ e. lock_holds_in n d found e v) o
      by_choice none = refl
      by_choice (some e) =
          lock_is n c found e v
          ∙ lock_same (settled_below n c found) (settled_below n d found) found e v (λ r f. below (trigger_of e) (stored (trigger_of e) r f))
          ∙ sym (lock_is n d found e v)

  -- THE ANSWER DEPENDS ON THE CHOICE FOR VARIABLES THAT CAN BE NAMED ALONE, where only such exist
  pub settled_same : (n : ℕ) (v : Variable) → named v ≡ true → settled_in n c found v ≡ settled_in n d found v
  settled_same zero v m = same_by 0 (λ u k. refl) v m
  settled_same (suc n) v m = same_by (suc n) (λ u k. settled_same n u k) v m

-- a lock that holds goes on to hold where its variable is as it was, and its trigger too if that is settled
lock_moves : (x y : Variable → Bool) (f g : Lookup) (e : Bytes) (v : Variable) → g v ≡ f v
    → (x (trigger_of e) ≡ true → (g (trigger_of e) ≡ f (trigger_of e)) × (y (trigger_of e) ≡ true)) → lock_holds_by x f e v ≡ true → lock_holds_by y g e v ≡ true
unfolding lock_holds_by locks
lock_moves x y f g e v own k h = by_rule (lock_of e) h
  where
    by_rule : (l : LockRule) → (rule_locks l e f v and rests_on l (x (trigger_of e))) ≡ true → (rule_locks l e g v and rests_on l (y (trigger_of e))) ≡ true
    by_rule NoLock h = absurd (false≢true (and_left false true h))
    by_rule LockNow h = and_intro true true refl refl
    by_rule LockOnCreate h = and_intro (exists (g v)) true (ap exists own ∙ and_left (exists (f v)) true h) refl
    by_rule (LockOnVarState t) h =
        let w = k (and_right (holds_value (f (trigger_of e)) (trigger_value e)) (x (trigger_of e)) h) in
        and_intro (holds_value (g (trigger_of e)) (trigger_value e)) (y (trigger_of e))
        (ap (λ o. holds_value o (trigger_value e)) w.0 ∙ and_left (holds_value (f (trigger_of e)) (trigger_value e)) (x (trigger_of e)) h) w.1

module _ (choice : Choice) (f g : Lookup) (kept : (m : ℕ) (u : Variable) → settled_in m choice f u ≡ true → g u ≡ f u) where
  moves_by : (n : ℕ) → ((u : Variable) → settled_below n choice f u ≡ true → (g u ≡ f u) × (settled_below n choice g u ≡ true))
      → (v : Variable) → settled_in n choice f v ≡ true → settled_in n choice g v ≡ true
  moves_by n below v h =
      let k = settled_lock n choice f v h in
      lock_settled n choice g v k.0 k.1 (lock_moves (settled_below n choice f) (settled_below n choice g) f g k.0 v (kept n v h) (below (trigger_of k.0)) k.2)

  -- A SETTLED VARIABLE STAYS SETTLED where every settled variable has the record that it had
  pub settled_moves : (n : ℕ) (v : Variable) → settled_in n choice f v ≡ true → settled_in n choice g v ≡ true
  settled_moves zero v h = moves_by 0 (λ u k. absurd (false≢true k)) v h
  settled_moves (suc n) v h = moves_by (suc n) (λ u k. (kept n u k, settled_moves n u k)) v h
