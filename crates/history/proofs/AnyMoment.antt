-- Where rebuilds may stand, and how often (RULES.md, 12.3), from the same laws of a machine. Demand 3 is of
-- proper lists; here is that a list stays proper with one more dump or rebuild, and what that says of a history alone.
use Rattle.std.specs.Prelude.{◌≡◌, refl, Bool, false}
use Rattle.std.proofs.Common.{sym, ◌∙◌, ap, subst, true≢false, inl, inr}
use Rattle.std.proofs.Math.Path.{subst⁻¹}
use mathlib.Core.List.Permᴰ
use mathlib.Core.List.{List, [], ◌∷◌, ◌++◌, map, append_assoc, append-nil, Permᴰ}
use Rattle.std.proofs.Math.Option.{none, some}
use Rattle.history.specs.History.{Outcome, Kind, Machine, Buffer, Entry, Entries, Items, Order, Past}
use Rattle.history.specs.History.Outcome.{granted, refused, cut}
use Rattle.history.specs.History.Kind.{starts, registers, dumps, keeps}
use Rattle.history.specs.History.ItemOf.{call, own_dump, rebuild}
use Rattle.history.specs.History.{outcome_of, answers, end, rebuilding, registered, end_with}
use Rattle.history.specs.History.{event, outdates, Complete, Permitted, cut_after, ProperHistory, Proper, entries_after}
use Rattle.history.specs.StandingOrder.{restarts, NoneRestarts, registered_by, registered_since}
use Rattle.history.specs.AnyMoment.{cut_at_end, past_after, NoneOutdates, NeverCut, rebuild_after, OneRebuild}
use Rattle.history.proofs.HistoryLaws.{Laws, complete_push, holds_after, keeps_entries, rebuild_same}

module _ (M : Machine) where
  open M use {State, Call, step, kind, entries, state_in, dump, CanDump}

  -- A PROPER LIST in two parts
  pub proper_left : (xs ys : Items M) (t : Bool) (past : Past M) (s : State) → Proper M t past s (xs ++ ys)
      → Proper M t past s xs
  proper_left [] ys t past s p = tt
  proper_left (call c ∷ xs) ys t past s p = (p.0, proper_left xs ys _ _ _ p.1)
  proper_left (own_dump b ∷ xs) ys t past s p = (p.0, proper_left xs ys _ _ _ p.1)
  proper_left (rebuild ds x ∷ xs) ys t past s p = (p.0, p.1, p.2, proper_left xs ys _ _ _ p.3)

  proper_right : (xs ys : Items M) (t : Bool) (past : Past M) (s : State) → Proper M t past s (xs ++ ys)
      → Proper M (cut_at_end M t s xs) (past_after M past s xs) (end_with M s xs) ys
  proper_right [] ys t past s p = p
  proper_right (call c ∷ xs) ys t past s p = proper_right xs ys _ _ _ p.1
  proper_right (own_dump b ∷ xs) ys t past s p = proper_right xs ys _ _ _ p.1
  proper_right (rebuild ds x ∷ xs) ys t past s p = proper_right xs ys _ _ _ p.3

  proper_append : (xs ys : Items M) (t : Bool) (past : Past M) (s : State) → Proper M t past s xs
      → Proper M (cut_at_end M t s xs) (past_after M past s xs) (end_with M s xs) ys → Proper M t past s (xs ++ ys)
  proper_append [] ys t past s p q = q
  proper_append (call c ∷ xs) ys t past s p q = (p.0, proper_append xs ys _ _ _ p.1 q)
  proper_append (own_dump b ∷ xs) ys t past s p q = (p.0, proper_append xs ys _ _ _ p.1 q)
  proper_append (rebuild ds x ∷ xs) ys t past s p q = (p.0, p.1, p.2, proper_append xs ys _ _ _ p.3 q)

  pub past_append : (xs ys : Items M) (past : Past M) (s : State)
      → past_after M past s (xs ++ ys) ≡ past_after M (past_after M past s xs) (end_with M s xs) ys
  past_append [] ys past s = refl
  past_append (call c ∷ xs) ys past s = past_append xs ys _ _
  past_append (own_dump b ∷ xs) ys past s = past_append xs ys _ _
  past_append (rebuild ds x ∷ xs) ys past s = past_append xs ys _ _

  end_with_append : (xs ys : Items M) (s : State) → end_with M s (xs ++ ys) ≡ end_with M (end_with M s xs) ys
  end_with_append [] ys s = refl
  end_with_append (call c ∷ xs) ys s = end_with_append xs ys _
  end_with_append (own_dump b ∷ xs) ys s = end_with_append xs ys _
  end_with_append (rebuild ds x ∷ xs) ys s = end_with_append xs ys _

  cut_append : (xs ys : Items M) (t : Bool) (s : State) → cut_at_end M t s (xs ++ ys) ≡ cut_at_end M (cut_at_end M t s xs) (end_with M s xs) ys
  cut_append [] ys t s = refl
  cut_append (call c ∷ xs) ys t s = cut_append xs ys _ _
  cut_append (own_dump b ∷ xs) ys t s = cut_append xs ys _ _
  cut_append (rebuild ds x ∷ xs) ys t s = cut_append xs ys _ _

  -- stays proper where more dumps are complete
  proper_more : (is : Items M) (t : Bool) (past past' : Past M) (s : State)
      → ((ds : Entries M) → Complete M ds past → Complete M ds past') → Proper M t past s is → Proper M t past' s is
  proper_more [] t past past' s h p = tt
  proper_more (call c ∷ is) t past past' s h p =
      (p.0, proper_more is _ _ _ _ (complete_push M (event M s c) past past' h) p.1)
  proper_more (own_dump b ∷ is) t past past' s h p =
      (p.0, proper_more is _ _ _ _ (complete_push M (event M s (dump b)) past past' h) p.1)
  proper_more (rebuild ds x ∷ is) t past past' s h p = (p.0, h ds p.1, p.2, proper_more is _ past past' _ h p.3)

  -- the calls of a history that may be made stand behind a proper list
  history_proper : (cs : List Call) (t : Bool) (past : Past M) (s : State) → ProperHistory M t s cs
      → Proper M t past s (map call cs)
  history_proper [] t past s h = tt
  history_proper (c ∷ cs) t past s h = (h.0, history_proper cs _ _ _ h.1)

  pub append_history : (is : Items M) (cs : List Call) (s : State) → Proper M false [] s is
      → ProperHistory M (cut_at_end M false s is) (end_with M s is) cs → Proper M false [] s (is ++ map call cs)
  append_history is cs s p h = proper_append is (map call cs) false [] s p (history_proper cs _ _ _ h)

  -- where no call is ever cut these are any calls
  module _ (never : NeverCut M) where
    never_after : (s : State) (c : Call) → cut_after M false (outcome_of M s c) ≡ false
    never_after s c = go (outcome_of M s c) refl
      where
        go : (r : Outcome) → outcome_of M s c ≡ r → cut_after M false r ≡ false
        go granted e = refl
        go refused e = refl
        go cut e = absurd (never s c e)

    pub never_cut : (is : Items M) (s : State) → cut_at_end M false s is ≡ false
    never_cut [] s = refl
    never_cut (call c ∷ is) s = rw (never_after s c) (never_cut is (step s c).1)
    never_cut (own_dump b ∷ is) s = never_cut is (step s (dump b)).1
    never_cut (rebuild ds x ∷ is) s = never_cut is (end M s (rebuilding M s (registered M ds x)))

    pub any_history : (cs : List Call) (s : State) → ProperHistory M false s cs
    any_history [] s = tt
    any_history (c ∷ cs) s = (tt, rw (never_after s c) (any_history cs (step s c).1))

    pub append_calls : (is : Items M) (cs : List Call) (s : State) → Proper M false [] s is
        → Proper M false [] s (is ++ map call cs)
    append_calls is cs s p =
        let z = end_with M s is in
        append_history is cs s p (subst⁻¹ (λ t. ProperHistory M t z cs) (never_cut is s) (any_history cs z))

  -- A HISTORY ALONE in two parts
  end_append : (cs ds : List Call) (s : State) → end M s (cs ++ ds) ≡ end M (end M s cs) ds
  end_append [] ds s = refl
  end_append (c ∷ cs) ds s = end_append cs ds (step s c).1

  answers_append : (cs ds : List Call) (s : State) → answers M s (cs ++ ds) ≡ answers M s cs ++ answers M (end M s cs) ds
  answers_append [] ds s = refl
  answers_append (c ∷ cs) ds s = ap (◌∷◌ (step s c).0) (answers_append cs ds (step s c).1)

  end_calls : (cs : List Call) (s : State) → end_with M s (map call cs) ≡ end M s cs
  end_calls [] s = refl
  end_calls (c ∷ cs) s = end_calls cs (step s c).1

  module _ (Invariant : Bool → State → Type 0) (L : Laws M Invariant) where
    past_own_dump : (b : Buffer M) (past : Past M) (s : State) (ds : Entries M) → Complete M ds past
        → Complete M ds (event M s (dump b) ∷ past)
    past_own_dump b past s ds d = inr (ap (λ κ. outdates M κ (outcome_of M s (dump b))) (L.dump_kind b), d)

    -- A COMPLETE DUMP STAYS COMPLETE across own dumps, rebuilds, and every call that does not outdate it
    pub stays_complete : (is : Items M) (ds : Entries M) (past : Past M) (s : State) → NoneOutdates M s is
        → Complete M ds past → Complete M ds (past_after M past s is)
    stays_complete [] ds past s n d = d
    stays_complete (call c ∷ is) ds past s n d =
        stays_complete is ds (event M s c ∷ past) (step s c).1 n.1 (inr (n.0, d))
    stays_complete (own_dump b ∷ is) ds past s n d =
        stays_complete is ds (event M s (dump b) ∷ past) (step s (dump b)).1 n (past_own_dump b past s ds d)
    stays_complete (rebuild es x ∷ is) ds past s n d =
        stays_complete is ds past (end M s (rebuilding M s (registered M es x))) n d

    -- a dump where it can be taken is complete, and holds the entries of the policy record
    own_dump_complete : (b : Buffer M) (past : Past M) (s : State) → Invariant false s → CanDump s b
        → Complete M (entries s) (event M s (dump b) ∷ past)
    own_dump_complete b past s i room =
        let g = L.dump_granted b i room in
        inl (record {
          is_dump = L.dump_kind b;
          is_granted = g;
          are_formed = L.are_formed i;
          are_dumped = L.dump_holds (dump b) i tt (L.dump_kind b) g;
        })

    -- what a proper list reaches: a state of the invariant, and every complete dump is an order of its entries
    record Reached (t : Bool) (past : Past M) (s : State) : Type 0 where
      invariant : Invariant t s
      orders : (ds : Entries M) → Complete M ds past → Permᴰ (entries s) ds

    permitted_order : (es ds : Entries M) (x : Order M) → Permᴰ es ds → Permitted M ds x
        → Permᴰ es (registered M ds x)
    permitted_order es ds none d m = d
    permitted_order es ds (some o) d m = Permᴰ.trans d m.0

    reach : (is : Items M) (t : Bool) (past : Past M) (s : State) → Reached t past s → Proper M t past s is
        → Reached (cut_at_end M t s is) (past_after M past s is) (end_with M s is)
    reach [] t past s r p = r
    reach (call c ∷ is) t past s r p =
        let i = r.invariant in
        let l = entries s in
        let q = holds_after M Invariant L (Permᴰ l) c past i p.0 (Permᴰ.refl l) r.orders in
        reach is _ (event M s c ∷ past) (step s c).1
        (record {
          invariant = L.continues c i p.0;
          orders = λ ds d.
              subst⁻¹ (λ l. Permᴰ l ds) (keeps_entries M Invariant L c i p.0 (q ds d).0) (q ds d).1;
        })
        p.1
    reach (own_dump b ∷ is) t past s r p =
        let i : Invariant false s = subst (λ u. Invariant u s) p.0 r.invariant in
        let l = entries s in
        let q = holds_after M Invariant L (Permᴰ l) (dump b) past i tt (Permᴰ.refl l) r.orders in
        reach is false (event M s (dump b) ∷ past) (step s (dump b)).1
        (subst⁻¹ (Reached false (event M s (dump b) ∷ past)) (L.dump_leaves s b)
        (record { invariant = i; orders = λ ds d. (q ds d).1 }))
        p.1
    reach (rebuild ds x ∷ is) t past s r p =
        let i : Invariant false s = subst (λ u. Invariant u s) p.0 r.invariant in
        let o = permitted_order (entries s) ds x (r.orders ds p.1) p.2 in
        reach is false past (end M s (rebuilding M s (registered M ds x)))
        (subst⁻¹ (Reached false past) (L.rebuild_leaves i o)
        (record {
          invariant = L.reorders i o;
          orders = λ es d.
              subst⁻¹ (λ l. Permᴰ l es) (L.relists i o) (Permᴰ.trans (Permᴰ.symm o) (r.orders es d));
        }))
        p.3

    -- entries after calls of which none is a granted start: those registered stand behind
    after_since : (κ : Kind (Entry M)) (r : Outcome) (l : Entries M) → restarts M κ r ≡ false → entries_after M κ r l ≡ l ++ registered_by M κ r
    after_since starts granted l h = absurd (true≢false h)
    after_since starts refused l h = sym (append-nil l)
    after_since starts cut l h = sym (append-nil l)
    after_since (registers e) granted l h = refl
    after_since (registers e) refused l h = sym (append-nil l)
    after_since (registers e) cut l h = sym (append-nil l)
    after_since dumps r l h = sym (append-nil l)
    after_since keeps r l h = sym (append-nil l)

    entries_since : (cs : List Call) (t : Bool) (s : State) → Invariant t s → ProperHistory M t s cs → NoneRestarts M s cs
        → entries (end M s cs) ≡ entries s ++ registered_since M s cs
    entries_since [] t s i h n = sym (append-nil (entries s))
    entries_since (c ∷ cs) t s i h n =
        let e = registered_by M (kind c) (outcome_of M s c) in
        entries_since cs _ (step s c).1 (L.continues c i h.0) h.1 n.1
        ∙ ap (λ l. l ++ registered_since M (step s c).1 cs) (L.lists c i h.0 ∙ after_since (kind c) (outcome_of M s c) (entries s) n.0)
        ∙ append_assoc (entries s) e (registered_since M (step s c).1 cs)

    -- a rebuild in order from a dump of the entries as they stand leaves the state, so what follows stays proper
    rebuild_first : (is : Items M) (past : Past M) (s : State) → Invariant false s → Complete M (entries s) past
        → Proper M false past s is → Proper M false past s (rebuild (entries s) none ∷ is)
    rebuild_first is past s i d p =
        (refl, d, tt, subst⁻¹ (λ z. Proper M false past z is) (rebuild_same M Invariant L i) p)

    -- FROM A STATE THAT IS REACHED
    module _ (s : State) (start : Invariant false s) where
      pub reached : (is : Items M) → Proper M false [] s is → cut_at_end M false s is ≡ false → Invariant false (end_with M s is)
      reached is p u =
          let r = reach is false [] s (record { invariant = start; orders = λ ds d. absurd d }) p in
          subst (λ t. Invariant t (end_with M s is)) u r.invariant

      -- a dump of the history where it can be taken is complete, and holds the entries of the policy record
      pub history_dump : (xs : Items M) (b : Buffer M) → Proper M false [] s xs → cut_at_end M false s xs ≡ false → CanDump (end_with M s xs) b
          → Complete M (entries (end_with M s xs)) (past_after M [] s (xs ++ (call (dump b) ∷ [])))
      history_dump xs b p u room =
          subst⁻¹ (Complete M (entries (end_with M s xs))) (past_append xs (call (dump b) ∷ []) [] s)
          (own_dump_complete b (past_after M [] s xs) (end_with M s xs) (reached xs p u) room)

      -- THE ENTRIES AFTER A REBUILD, in order or not, and calls: in the rebuild's order, and behind them what was registered later
      pub entries_after_rebuild : (xs : Items M) (ds : Entries M) (x : Order M) (cs : List Call) → Proper M false [] s (xs ++ (rebuild ds x ∷ []))
          → cut_at_end M false s xs ≡ false → ProperHistory M false (end_with M s (xs ++ (rebuild ds x ∷ []))) cs
          → NoneRestarts M (end_with M s (xs ++ (rebuild ds x ∷ []))) cs
          → entries (end M (end_with M s (xs ++ (rebuild ds x ∷ []))) cs)
          ≡ registered M ds x ++ registered_since M (end_with M s (xs ++ (rebuild ds x ∷ []))) cs
      entries_after_rebuild xs ds x cs p u h n =
          let z = end_with M s xs in
          let r = reach xs false [] s (record { invariant = start; orders = λ ds d. absurd d }) (proper_left xs (rebuild ds x ∷ []) false [] s p) in
          let i : Invariant false z = subst (λ t. Invariant t z) u r.invariant in
          let q = proper_right xs (rebuild ds x ∷ []) false [] s p in
          let o = permitted_order (entries z) ds x (r.orders ds q.1) q.2 in
          let e : end_with M s (xs ++ (rebuild ds x ∷ [])) ≡ state_in (registered M ds x) z = end_with_append xs (rebuild ds x ∷ []) s ∙ L.rebuild_leaves i o in
          entries_since cs false _ (subst⁻¹ (Invariant false) e (L.reorders i o)) h n
          ∙ ap (λ l. l ++ registered_since M (end_with M s (xs ++ (rebuild ds x ∷ []))) cs) (ap entries e ∙ L.relists i o)

      -- an own dump into any buffer may be inserted at any place
      pub insert_dump : (xs ys : Items M) (b : Buffer M) → Proper M false [] s (xs ++ ys) → cut_at_end M false s xs ≡ false
          → Proper M false [] s (xs ++ (own_dump b ∷ ys))
      insert_dump xs ys b p u =
          let z = end_with M s xs in
          let past = past_after M [] s xs in
          let q = subst (λ t. Proper M t past z ys) u (proper_right xs ys false [] s p) in
          proper_append xs (own_dump b ∷ ys) false [] s (proper_left xs ys false [] s p) (
            u,
            subst⁻¹ (λ y. Proper M false (event M z (dump b) ∷ past) y ys) (L.dump_leaves z b)
                (proper_more ys false past _ z (past_own_dump b past z) q),
          )

      -- a rebuild in order from a complete dump of the entries as they stand may be inserted at any place
      pub insert_rebuild : (xs ys : Items M) → Proper M false [] s (xs ++ ys) → cut_at_end M false s xs ≡ false
          → Complete M (entries (end_with M s xs)) (past_after M [] s xs)
          → Proper M false [] s (xs ++ (rebuild (entries (end_with M s xs)) none ∷ ys))
      insert_rebuild xs ys p u d =
          let z = end_with M s xs in
          let past = past_after M [] s xs in
          let left = proper_left xs ys false [] s p in
          let q = subst (λ t. Proper M t past z ys) u (proper_right xs ys false [] s p) in
          proper_append xs (rebuild (entries z) none ∷ ys) false [] s left
          (subst⁻¹ (λ t. Proper M t past z (rebuild (entries z) none ∷ ys)) u (rebuild_first ys past z (reached xs left u) d q))

      -- and so may an own dump with room and the rebuild from it
      pub insert_dump_rebuild : (xs ys : Items M) (b : Buffer M) → Proper M false [] s (xs ++ ys) → cut_at_end M false s xs ≡ false
          → CanDump (end_with M s xs) b
          → Proper M false [] s (xs ++ (own_dump b ∷ rebuild (entries (end_with M s xs)) none ∷ ys))
      insert_dump_rebuild xs ys b p u room =
          let z = end_with M s xs in
          let past = past_after M [] s xs in
          let e = event M z (dump b) in
          let left = proper_left xs ys false [] s p in
          let i = reached xs left u in
          let q = subst (λ t. Proper M t past z ys) u (proper_right xs ys false [] s p) in
          proper_append xs (own_dump b ∷ rebuild (entries z) none ∷ ys) false [] s left (
            u,
            subst⁻¹ (λ y. Proper M false (e ∷ past) y (rebuild (entries z) none ∷ ys)) (L.dump_leaves z b)
                (rebuild_first ys (e ∷ past) z i (own_dump_complete b past z i room)
                (proper_more ys false past (e ∷ past) z (past_own_dump b past z) q)),
          )

      -- a rebuild from any complete dump, in any permitted order, may stand behind a list
      pub append_rebuild : (is : Items M) (ds : Entries M) (x : Order M) → Proper M false [] s is → cut_at_end M false s is ≡ false
          → Complete M ds (past_after M [] s is) → Permitted M ds x → Proper M false [] s (is ++ (rebuild ds x ∷ []))
      append_rebuild is ds x p u d m = proper_append is (rebuild ds x ∷ []) false [] s p (u, d, m, tt)

      -- an own dump with room serves a rebuild at any later moment, in any permitted order, unless the history outdates it
      pub dump_now_rebuild_later : (xs ys : Items M) (b : Buffer M) (x : Order M) → Proper M false [] s (xs ++ ys)
          → cut_at_end M false s xs ≡ false → CanDump (end_with M s xs) b → NoneOutdates M (end_with M s xs) ys
          → cut_at_end M false (end_with M s xs) ys ≡ false → Permitted M (entries (end_with M s xs)) x
          → Proper M false [] s ((xs ++ (own_dump b ∷ ys)) ++ (rebuild (entries (end_with M s xs)) x ∷ []))
      dump_now_rebuild_later xs ys b x p u room n v m =
          let z = end_with M s xs in
          let past = past_after M [] s xs in
          let still = L.dump_leaves z b in
          let d = own_dump_complete b past z (reached xs (proper_left xs ys false [] s p) u) room in
          append_rebuild (xs ++ (own_dump b ∷ ys)) (entries z) x (insert_dump xs ys b p u)
          (cut_append xs (own_dump b ∷ ys) false s ∙ ap (λ y. cut_at_end M false y ys) still ∙ v)
          (subst⁻¹ (Complete M (entries z)) (past_append xs (own_dump b ∷ ys) [] s)
          (stays_complete ys (entries z) (event M z (dump b) ∷ past) (step z (dump b)).1
          (subst⁻¹ (λ y. NoneOutdates M y ys) still n) d))
          m

      -- ONE REBUILD between two parts of a history, unless the first ends with a call that was cut
      pub one_rebuild_uncut : (cs₁ cs₂ : List Call) → ProperHistory M false s cs₁
          → cut_at_end M false s (map call cs₁) ≡ false → OneRebuild M s cs₁ cs₂
      one_rebuild_uncut cs₁ cs₂ h u =
          let z = end M s cs₁ in
          let r = rebuild_after M s cs₁ in
          let i : Invariant false z =
          subst (Invariant false) (end_calls cs₁ s) (reached (map call cs₁) (history_proper cs₁ false [] s h) u) in
          let same = rebuild_same M Invariant L i in
          record {
            succeeds = L.rebuild_granted i (Permᴰ.refl (entries z));
            same_answers =
                ap (λ y. answers M s cs₁ ++ answers M y cs₂) (end_append cs₁ r s ∙ same) ∙ sym (answers_append cs₁ cs₂ s);
            same_end =
                end_append cs₁ (r ++ cs₂) s ∙ end_append r cs₂ z ∙ ap (λ y. end M y cs₂) same ∙ sym (end_append cs₁ cs₂ s);
          }

      -- and, where no call is ever cut, of any two lists of calls
      pub one_rebuild : NeverCut M → (cs₁ cs₂ : List Call) → OneRebuild M s cs₁ cs₂
      one_rebuild never cs₁ cs₂ = one_rebuild_uncut cs₁ cs₂ (any_history never cs₁ s) (never_cut never (map call cs₁) s)
