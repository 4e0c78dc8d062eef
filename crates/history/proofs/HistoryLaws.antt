-- Demand 3 from a machine's laws. An invariant of the machine says which states are reached. All laws are of one state but
-- two, which say that a call cannot tell another order of the same entries of which the same ones are chosen.
-- The proof runs the history with its rebuilds beside the plain one: at each item the former's state is the latter's with
-- the entries in the order that stands, and every complete dump has the plain history's entries with the same choice.
use Rattle.std.specs.Prelude.{◌≡◌, refl, Bool, true, false, ◌⊎◌, ℕ}
use Rattle.std.proofs.Common.{sym, ◌∙◌, ap, ap₂, subst, true≢false, inl, inr, arith}
use Rattle.std.proofs.Math.Path.{subst⁻¹}
use mathlib.Core.List.Permᴰ
use mathlib.Core.List.{List, [], ◌∷◌, ◌++◌, Permᴰ}
use Rattle.std.proofs.Math.Option.{none, some}
use Rattle.lists.specs.Lists.{All, nil, more, flat, best, chosen}
use Rattle.lists.proofs.ListsLaws.{best_append, best_perm}
use Rattle.history.specs.History.{Outcome, Kind, Machine, Buffer, Entry, Entries, Items, Order}
use Rattle.history.specs.History.Outcome.{granted, refused, cut}
use Rattle.history.specs.History.Kind.{starts, registers, dumps, keeps}
use Rattle.history.specs.History.ItemOf.{call, own_dump, rebuild}
use Rattle.history.specs.History.{outcome_of, answers, end, AllGranted, rebuilding, registered, Event, Past}
use Rattle.history.specs.History.{answers_with, end_with, RebuildsSucceed, history, event, outdates, Complete}
use Rattle.history.specs.History.{Permitted, MayFollow, cut_after, ProperHistory, Proper, InOrder, state_by, answer_by}
use Rattle.history.specs.History.{entries_after, order_in, order_after, order_rebuilt, standing_order, answers_in_order, SameEntries}
use Rattle.history.specs.History.{AlwaysSameEntries, if_refused, struck, struck_calls, struck_answers, Demand3}

pub granted_refused : granted ≡ refused → ⊥
granted_refused h = let z : ◌≡◌ {A = ℕ} 0 1 = cc in omega arith

cut_refused : cut ≡ refused → ⊥
cut_refused h = let z : ◌≡◌ {A = ℕ} 0 1 = cc in omega arith

module _ (M : Machine) where
  open M use {State, Answer, Call, Variable, step, outcome, kind, dumped, formed, entries, state_in, answer_in}
  open M use {named, targets, rank, dump, CanDump}

  -- the same entries, of which the same one is chosen for every variable
  pub record SameChoice (es o : Entries M) : Type 0 where
    pub perm : Permᴰ es o
    pub choice : (v : Variable) → named v ≡ true → chosen rank (λ e. targets e v) es ≡ chosen rank (λ e. targets e v) o

  -- THE LAWS. `Invariant t s`: the state s is reached, and t tells whether the last call that was not refused was cut
  pub record Laws (Invariant : Bool → State → Type 0) : Type 0 where
    -- well-formed entries end to end come apart in one way
    pub unique : {ds es : Entries M} → All (λ e. formed e ≡ true) ds → All (λ e. formed e ≡ true) es
        → flat ds ≡ flat es → ds ≡ es
    -- a state has well-formed entries
    pub are_formed : {t : Bool} {s : State} → Invariant t s → All (λ e. formed e ≡ true) (entries s)
    -- the order in which they stand is the one that it has them in
    pub as_listed : {t : Bool} {s : State} → Invariant t s → state_in (entries s) s ≡ s
    -- of two orders the last stands
    pub ordered_again : {t : Bool} {s : State} {o x : Entries M} → Invariant t s → Permᴰ (entries s) x → Permᴰ x o
        → state_in o (state_in x s) ≡ state_in o s
    -- it may have them in any order
    pub reorders : {t : Bool} {s : State} {o : Entries M} → Invariant t s → Permᴰ (entries s) o
        → Invariant t (state_in o s)
    -- and lists them in that order
    pub relists : {t : Bool} {s : State} {o : Entries M} → Invariant t s → Permᴰ (entries s) o
        → entries (state_in o s) ≡ o
    -- a call leads to a state that is reached
    pub continues : {t : Bool} {s : State} (c : Call) → Invariant t s → MayFollow M t c
        → Invariant (cut_after M t (outcome_of M s c)) (step s c).1
    -- with the entries that its kind says
    pub lists : {t : Bool} {s : State} (c : Call) → Invariant t s → MayFollow M t c
        → entries (step s c).1 ≡ entries_after M (kind c) (outcome_of M s c) (entries s)
    -- in another order with the same choice it answers the same, but for what `answer_in` changes
    pub answers_same : {t : Bool} {s : State} {o : Entries M} (c : Call) → Invariant t s → MayFollow M t c
        → SameChoice (entries s) o → (step (state_in o s) c).0 ≡ answer_in c (entries s) o (step s c).0
    -- is granted, refused or cut alike
    pub outcome_in : (c : Call) (es o : Entries M) (a : Answer) → outcome (answer_in c es o a) ≡ outcome a
    -- and leaves the same, but for what `state_in` changes
    pub leaves_same : {t : Bool} {s : State} {o : Entries M} (c : Call) → Invariant t s → MayFollow M t c
        → SameChoice (entries s) o
        → (step (state_in o s) c).1 ≡ state_in (entries_after M (kind c) (outcome_of M s c) o) (step s c).1
    -- a refused call changes nothing
    pub refused_leaves : (s : State) (c : Call) → outcome_of M s c ≡ refused → (step s c).1 ≡ s
    -- a granted dump's bytes are the entries
    pub dump_holds : {t : Bool} {s : State} (c : Call) → Invariant t s → MayFollow M t c → kind c ≡ dumps
        → outcome_of M s c ≡ granted → flat (entries s) ≡ dumped (step s c).0
    -- a rebuild's own dump is a dump
    pub dump_kind : (b : Buffer M) → kind (dump b) ≡ dumps
    -- changes nothing
    pub dump_leaves : (s : State) (b : Buffer M) → (step s (dump b)).1 ≡ s
    -- and is granted where it can be taken
    pub dump_granted : {s : State} (b : Buffer M) → Invariant false s → CanDump s b → outcome_of M s (dump b) ≡ granted
    -- each call of a rebuild with the state's entries, in any order, is granted
    pub rebuild_granted : {s : State} {o : Entries M} → Invariant false s → Permᴰ (entries s) o
        → AllGranted M s (rebuilding M s o)
    -- and it leaves the state in that order
    pub rebuild_leaves : {s : State} {o : Entries M} → Invariant false s → Permᴰ (entries s) o
        → end M s (rebuilding M s o) ≡ state_in o s

  -- THE SAME CHOICE
  same_refl : (l : Entries M) → SameChoice l l
  same_refl l = record { perm = Permᴰ.refl l; choice = λ v n. refl }

  same_permitted : {es ds : Entries M} (x : Order M) → SameChoice es ds → Permitted M ds x → SameChoice es (registered M ds x)
  same_permitted none h p = h
  same_permitted (some o) h p = record {
    perm = Permᴰ.trans h.perm p.0;
    choice = λ v n. h.choice v n ∙ best_perm rank (λ e. targets e v) none p.0 (p.1 v n);
  }

  same_snoc : (es o : Entries M) (e : Entry M) → SameChoice es o → SameChoice (es ++ (e ∷ [])) (o ++ (e ∷ []))
  same_snoc es o e h = record {
    perm = Permᴰ.append_right (e ∷ []) h.perm;
    choice = λ v n.
        best_append rank (λ x. targets x v) none es (e ∷ [])
        ∙ ap (λ b. best rank (λ x. targets x v) b (e ∷ [])) (h.choice v n)
        ∙ sym (best_append rank (λ x. targets x v) none o (e ∷ []));
  }

  same_after : (κ : Kind (Entry M)) (r : Outcome) (es o : Entries M) → SameChoice es o
      → SameChoice (entries_after M κ r es) (entries_after M κ r o)
  same_after starts granted es o h = same_refl []
  same_after starts refused es o h = h
  same_after starts cut es o h = h
  same_after (registers e) granted es o h = same_snoc es o e h
  same_after (registers e) refused es o h = h
  same_after (registers e) cut es o h = h
  same_after dumps r es o h = h
  same_after keeps r es o h = h

  -- a call that outdates no dump keeps the entries
  after_same : (κ : Kind (Entry M)) (r : Outcome) (l : Entries M) → outdates M κ r ≡ false → entries_after M κ r l ≡ l
  after_same starts granted l h = absurd (true≢false h)
  after_same starts refused l h = refl
  after_same starts cut l h = refl
  after_same (registers e) granted l h = absurd (true≢false h)
  after_same (registers e) refused l h = refl
  after_same (registers e) cut l h = refl
  after_same dumps r l h = refl
  after_same keeps r l h = refl

  -- where more dumps are complete, more are after one more event
  pub complete_push : (e : Event M) (past past' : Past M) → ((ds : Entries M) → Complete M ds past → Complete M ds past')
      → (ds : Entries M) → Complete M ds (e ∷ past) → Complete M ds (e ∷ past')
  complete_push e past past' h ds (inl d) = inl d
  complete_push e past past' h ds (inr d) = inr (d.0, h ds d.1)

  -- STRUCK, by `refused_leaves` alone: the answers and the end of a list with rebuilds, and of a history alone
  module _ (leaves : (s : State) (c : Call) → outcome_of M s c ≡ refused → (step s c).1 ≡ s) where
    -- what a list answers and where it ends
    abbrev Runs : State → Items M → List Answer → State → Type 0
    Runs s is l z = (answers_with M s is ≡ l) × (end_with M s is ≡ z)

    strike : (s : State) (c : Call) (is : Items M) (l : List Answer) (z : State) (r : Outcome) → outcome_of M s c ≡ r
        → Runs (step s c).1 is l z → Runs s (if_refused r is (call c ∷ is)) (if_refused r l ((step s c).0 ∷ l)) z
    strike s c is l z granted e h = (ap (◌∷◌ (step s c).0) h.0, h.1)
    strike s c is l z refused e h = subst (λ y. Runs y is l z) (leaves s c e) h
    strike s c is l z cut e h = (ap (◌∷◌ (step s c).0) h.0, h.1)

    struck_same : (is : Items M) (s : State)
        → Runs s (struck M s is) (struck_answers M (answers_with M s is)) (end_with M s is)
    struck_same [] s = (refl, refl)
    struck_same (call c ∷ is) s = strike s c _ _ _ (outcome_of M s c) refl (struck_same is (step s c).1)
    struck_same (own_dump b ∷ is) s = struck_same is (step s (dump b)).1
    struck_same (rebuild ds x ∷ is) s = struck_same is (end M s (rebuilding M s (registered M ds x)))

    -- the same of a history alone
    abbrev RunsAlone : State → List Call → List Answer → State → Type 0
    RunsAlone s cs l z = (answers M s cs ≡ l) × (end M s cs ≡ z)

    strike_alone : (s : State) (c : Call) (cs : List Call) (l : List Answer) (z : State) (r : Outcome) → outcome_of M s c ≡ r
        → RunsAlone (step s c).1 cs l z → RunsAlone s (if_refused r cs (c ∷ cs)) (if_refused r l ((step s c).0 ∷ l)) z
    strike_alone s c cs l z granted e h = (ap (◌∷◌ (step s c).0) h.0, h.1)
    strike_alone s c cs l z refused e h = subst (λ y. RunsAlone y cs l z) (leaves s c e) h
    strike_alone s c cs l z cut e h = (ap (◌∷◌ (step s c).0) h.0, h.1)

    struck_alone : (cs : List Call) (s : State) → RunsAlone s (struck_calls M s cs) (struck_answers M (answers M s cs)) (end M s cs)
    struck_alone [] s = (refl, refl)
    struck_alone (c ∷ cs) s = strike_alone s c _ _ _ (outcome_of M s c) refl (struck_alone cs (step s c).1)

    -- a refused call is no complete dump and outdates none
    complete_refused : (s : State) (c : Call) (past : Past M) (ds : Entries M) → outcome_of M s c ≡ refused
        → Complete M ds (event M s c ∷ past) → Complete M ds past
    complete_refused s c past ds e (inl d) = absurd (granted_refused (sym d.is_granted ∙ e))
    complete_refused s c past ds e (inr d) = d.1

    struck_proper_lem : (is : Items M) (t : Bool) (past past' : Past M) (s : State)
        → ((ds : Entries M) → Complete M ds past → Complete M ds past')
        → Proper M t past s is → Proper M t past' s (struck M s is)
    struck_proper_lem [] t past past' s h p = tt
    struck_proper_lem (call c ∷ is) t past past' s h p =
        go (outcome_of M s c) refl p.1 (λ u old new. struck_proper_lem is u old new (step s c).1)
      where
        z : State
        z = (step s c).1

        go : (r : Outcome) → outcome_of M s c ≡ r → Proper M (cut_after M t r) (event M s c ∷ past) z is
            → ((u : Bool) (old new : Past M) → ((ds : Entries M) → Complete M ds old → Complete M ds new)
            → Proper M u old z is → Proper M u new z (struck M z is))
            → Proper M t past' s (if_refused r (struck M z is) (call c ∷ struck M z is))
        go granted e q ih = (p.0, rw e (ih false _ _ (complete_push (event M s c) past past' h) q))
        go refused e q ih =
            subst (λ y. Proper M t past' y (struck M z is)) (leaves s c e)
            (ih t (event M s c ∷ past) past' (λ ds d. h ds (complete_refused s c past ds e d)) q)
        go cut e q ih = (p.0, rw e (ih true _ _ (complete_push (event M s c) past past' h) q))
    struck_proper_lem (own_dump b ∷ is) t past past' s h p =
        let e = event M s (dump b) in
        (p.0, struck_proper_lem is false (e ∷ past) (e ∷ past') (step s (dump b)).1 (complete_push e past past' h) p.1)
    struck_proper_lem (rebuild ds x ∷ is) t past past' s h p =
        let z = end M s (rebuilding M s (registered M ds x)) in
        (p.0, h ds p.1, p.2, struck_proper_lem is false past past' z h p.3)

  -- no answer that is left is a refusal
  none_refused : (l : List Answer) → All (λ a. outcome a ≡ refused → ⊥) (struck_answers M l)
  none_refused [] = nil
  none_refused (a ∷ l) = go (outcome a) refl (none_refused l)
    where
      go : (r : Outcome) → outcome a ≡ r → All (λ a. outcome a ≡ refused → ⊥) (struck_answers M l)
          → All (λ a. outcome a ≡ refused → ⊥) (if_refused r (struck_answers M l) (a ∷ struck_answers M l))
      go granted e h = more (λ r. granted_refused (sym e ∙ r)) h
      go refused e h = h
      go cut e h = more (λ r. cut_refused (sym e ∙ r)) h

  module _ (Invariant : Bool → State → Type 0) (L : Laws Invariant) where
    -- COMPLETE DUMPS: one that is complete after a call is the state's entries or was complete before, and the call outdates
    -- none
    complete_cases : {t : Bool} {s : State} (c : Call) (ds : Entries M) (past : Past M) → Invariant t s → MayFollow M t c
        → Complete M ds (event M s c ∷ past)
        → (outdates M (kind c) (outcome_of M s c) ≡ false) × ((ds ≡ entries s) ⊎ Complete M ds past)
    complete_cases {s = s} c ds past i f (inl d) =
        let shown = L.dump_holds c i f d.is_dump d.is_granted in (
          ap (λ κ. outdates M κ (outcome_of M s c)) d.is_dump,
          inl (L.unique d.are_formed (L.are_formed i) (d.are_dumped ∙ sym shown)),
        )
    complete_cases c ds past i f (inr d) = (d.0, inr d.1)

    -- so what holds of the state's entries and of every complete dump still does
    pub holds_after : {t : Bool} {s : State} (P : Entries M → Type 0) (c : Call) (past : Past M)
        → Invariant t s → MayFollow M t c → P (entries s) → ((ds : Entries M) → Complete M ds past → P ds)
        → (ds : Entries M) → Complete M ds (event M s c ∷ past) → (outdates M (kind c) (outcome_of M s c) ≡ false) × P ds
    holds_after {s = s} P c past i f p h ds d = let q = complete_cases c ds past i f d in (q.0, go q.1)
      where
        go : (ds ≡ entries s) ⊎ Complete M ds past → P ds
        go (inl e) = subst⁻¹ P e p
        go (inr d) = h ds d

    pub keeps_entries : {t : Bool} {s : State} (c : Call) → Invariant t s → MayFollow M t c
        → outdates M (kind c) (outcome_of M s c) ≡ false → entries (step s c).1 ≡ entries s
    keeps_entries {s = s} c i f h = L.lists c i f ∙ after_same (kind c) (outcome_of M s c) (entries s) h

    -- IN ORDER: a rebuild in the order that stands leaves the very same state
    pub rebuild_same : {s : State} → Invariant false s → end M s (rebuilding M s (entries s)) ≡ s
    rebuild_same {s} i =
        L.rebuild_leaves i (Permᴰ.refl (entries s)) ∙ L.as_listed i

    -- ANOTHER ORDER: the state s of the plain history, and the state `state_by w s` of the one with rebuilds
    abbrev Stands : Order M → State → Type 0
    Stands none s = Unit
    Stands (some o) s = SameChoice (entries s) o

    invariant_by : {t : Bool} {s : State} (w : Order M) → Invariant t s → Stands w s → Invariant t (state_by M w s)
    invariant_by none i g = i
    invariant_by (some o) i g = L.reorders i g.perm

    same_by : {t : Bool} {s : State} (w : Order M) → Invariant t s → Stands w s
        → SameChoice (entries s) (entries (state_by M w s))
    same_by {s = s} none i g = same_refl (entries s)
    same_by {s = s} (some o) i g = subst⁻¹ (SameChoice (entries s)) (L.relists i g.perm) g

    entries_by : (s : State) (w : Order M) → Stands w s → SameEntries M w s
    entries_by s none g = tt
    entries_by s (some o) g = g.perm

    -- what a call answers there
    answers_by : {t : Bool} {s : State} (w : Order M) (c : Call) → Invariant t s → MayFollow M t c → Stands w s
        → (step (state_by M w s) c).0 ≡ answer_by M c (entries s) w (step s c).0
    answers_by none c i f g = refl
    answers_by (some o) c i f g = L.answers_same c i f g

    outcome_answer : (c : Call) (es : Entries M) (w : Order M) (a : Answer) → outcome (answer_by M c es w a) ≡ outcome a
    outcome_answer c es none a = refl
    outcome_answer c es (some o) a = L.outcome_in c es o a

    outcome_by_lem : {t : Bool} {s : State} (w : Order M) (c : Call) → Invariant t s → MayFollow M t c → Stands w s
        → outcome_of M (state_by M w s) c ≡ outcome_of M s c
    outcome_by_lem {s = s} w c i f g =
        ap outcome (answers_by w c i f g) ∙ outcome_answer c (entries s) w (step s c).0

    -- and what it leaves
    order_in_lem : {t : Bool} (κ : Kind (Entry M)) (r : Outcome) (l o : Entries M) {z : State} → Invariant t z
        → entries z ≡ entries_after M κ r l → state_in (entries_after M κ r o) z ≡ state_by M (order_in M κ r o) z
    order_in_lem starts granted l o {z} i e = ap (λ x. state_in x z) (sym e) ∙ L.as_listed i
    order_in_lem starts refused l o i e = refl
    order_in_lem starts cut l o i e = refl
    order_in_lem (registers d) r l o i e = refl
    order_in_lem dumps r l o i e = refl
    order_in_lem keeps r l o i e = refl

    leaves_by : {t : Bool} {s : State} (w : Order M) (c : Call) → Invariant t s → MayFollow M t c → Stands w s
        → (step (state_by M w s) c).1 ≡ state_by M (order_after M (kind c) (outcome_of M s c) w) (step s c).1
    leaves_by none c i f g = refl
    leaves_by {s = s} (some o) c i f g = L.leaves_same c i f g
        ∙ order_in_lem (kind c) (outcome_of M s c) (entries s) o (L.continues c i f) (L.lists c i f)

    stands_in : (κ : Kind (Entry M)) (r : Outcome) (o : Entries M) (z : State)
        → SameChoice (entries z) (entries_after M κ r o) → Stands (order_in M κ r o) z
    stands_in starts granted o z h = tt
    stands_in starts refused o z h = h
    stands_in starts cut o z h = h
    stands_in (registers e) r o z h = h
    stands_in dumps r o z h = h
    stands_in keeps r o z h = h

    stands_by : {t : Bool} {s : State} (w : Order M) (c : Call) → Invariant t s → MayFollow M t c → Stands w s
        → Stands (order_after M (kind c) (outcome_of M s c) w) (step s c).1
    stands_by none c i f g = tt
    stands_by {s = s} (some o) c i f g =
        let r = outcome_of M s c in
        stands_in (kind c) r o (step s c).1
        (subst⁻¹ (λ l. SameChoice l (entries_after M (kind c) r o)) (L.lists c i f) (same_after (kind c) r (entries s) o g))

    -- a rebuild in the order o forgets the order before it
    rebuilt_by : {s : State} (w : Order M) (o : Entries M) → Invariant false s → Stands w s → SameChoice (entries s) o
        → end M (state_by M w s) (rebuilding M (state_by M w s) o) ≡ state_in o s
    rebuilt_by none o i g h = L.rebuild_leaves i h.perm
    rebuilt_by {s} (some x) o i g h =
        L.rebuild_leaves (L.reorders i g.perm) (subst⁻¹ (λ l. Permᴰ l o) (L.relists i g.perm) d)
        ∙ L.ordered_again i g.perm d
      where
        d : Permᴰ x o
        d = Permᴰ.trans (Permᴰ.symm g.perm) h.perm

    -- what is known of a complete dump: where no other order stands it has the plain history's entries in their order
    abbrev Known : Order M → State → Entries M → Type 0
    Known none s ds = ds ≡ entries s
    Known (some o) s ds = SameChoice (entries s) ds

    known_same : (w : Order M) (s : State) (ds : Entries M) → Known w s ds → SameChoice (entries s) ds
    known_same none s ds e = subst⁻¹ (SameChoice (entries s)) e (same_refl (entries s))
    known_same (some o) s ds h = h

    known_by : {t : Bool} {s : State} (w : Order M) → Invariant t s → Stands w s → Known w s (entries (state_by M w s))
    known_by none i g = refl
    known_by (some o) i g = same_by (some o) i g

    known_after : (κ : Kind (Entry M)) (r : Outcome) (w : Order M) (s z : State) (ds : Entries M) → outdates M κ r ≡ false
        → entries z ≡ entries s → Known w s ds → Known (order_after M κ r w) z ds
    known_after κ r none s z ds n e k = k ∙ sym e
    known_after starts granted (some o) s z ds n e k = absurd (true≢false n)
    known_after starts refused (some o) s z ds n e k = subst⁻¹ (λ l. SameChoice l ds) e k
    known_after starts cut (some o) s z ds n e k = subst⁻¹ (λ l. SameChoice l ds) e k
    known_after (registers d) r (some o) s z ds n e k = subst⁻¹ (λ l. SameChoice l ds) e k
    known_after dumps r (some o) s z ds n e k = subst⁻¹ (λ l. SameChoice l ds) e k
    known_after keeps r (some o) s z ds n e k = subst⁻¹ (λ l. SameChoice l ds) e k

    -- after a rebuild from the dump ds in the order x
    known_rebuilt : (w : Order M) (s : State) (ds : Entries M) (x : Order M) (es : Entries M) → Known w s es
        → Known (order_rebuilt M w ds x) s es
    known_rebuilt w s ds (some o) es k = known_same w s es k
    known_rebuilt none s ds none es k = k
    known_rebuilt (some o) s ds none es k = k

    stands_rebuilt : (w : Order M) (s : State) (ds : Entries M) (x : Order M) → SameChoice (entries s) (registered M ds x)
        → Stands (order_rebuilt M w ds x) s
    stands_rebuilt w s ds (some o) m = m
    stands_rebuilt none s ds none m = tt
    stands_rebuilt (some o) s ds none m = m

    state_rebuilt : {t : Bool} {s : State} (w : Order M) (ds : Entries M) (x : Order M) → Invariant t s → Known w s ds
        → state_in (registered M ds x) s ≡ state_by M (order_rebuilt M w ds x) s
    state_rebuilt w ds (some o) i k = refl
    state_rebuilt {s = s} none ds none i k =
        ap (λ l. state_in l s) k ∙ L.as_listed i
    state_rebuilt (some o) ds none i k = refl

    record Result (w : Order M) (t : Bool) (s s' : State) (is : Items M) : Type 0 where
      proper_history : ProperHistory M t s (history M is)
      succeeds : RebuildsSucceed M s' is
      answered : answers_with M s' is ≡ answers_in_order M w s is
      ended : end_with M s' is ≡ state_by M (standing_order M w s is) (end M s (history M is))
      listed : AlwaysSameEntries M w s is
      strikes : history M (struck M s' is) ≡ struck_calls M s (history M is)

    history_struck : (r : Outcome) (c : Call) (is : Items M)
        → history M (if_refused r is (call c ∷ is)) ≡ if_refused r (history M is) (c ∷ history M is)
    history_struck granted c is = refl
    history_struck refused c is = refl
    history_struck cut c is = refl

    follow : (is : Items M) (w : Order M) (t : Bool) (s s' : State) (past : Past M)
        → Invariant t s → Stands w s → s' ≡ state_by M w s
        → ((ds : Entries M) → Complete M ds past → Known w s ds) → Proper M t past s' is → Result w t s s' is
    follow [] w t s s' past i g e h p =
        record { proper_history = tt; succeeds = tt; answered = refl; ended = e; listed = entries_by s w g; strikes = refl }
    follow (call c ∷ is) w t s s' past i g e h p =
        let f = p.0 in
        let out : outcome_of M s' c ≡ outcome_of M s c = ap (λ z. outcome_of M z c) e ∙ outcome_by_lem w c i f g in
        let i' : Invariant t s' = subst⁻¹ (Invariant t) e (invariant_by w i g) in
        let k = subst⁻¹ (λ z. Known w s (entries z)) e (known_by w i g) in
        let q = holds_after (Known w s) c past i' f k h in
        let r = follow is (order_after M (kind c) (outcome_of M s c) w) (cut_after M t (outcome_of M s c)) (step s c).1
        (step s' c).1 (event M s' c ∷ past) (L.continues c i f) (stands_by w c i f g)
        (ap (λ z. (step z c).1) e ∙ leaves_by w c i f g)
        (λ ds d.
        let n = ap (outdates M (kind c)) (sym out) ∙ (q ds d).0 in
        known_after (kind c) (outcome_of M s c) w s (step s c).1 ds n (keeps_entries c i f n) (q ds d).1)
        (subst (λ u. Proper M (cut_after M t u) (event M s' c ∷ past) (step s' c).1 is) out p.1) in
        record {
          proper_history = (f, r.proper_history);
          succeeds = r.succeeds;
          answered = ap₂ ◌∷◌ (ap (λ z. (step z c).0) e ∙ answers_by w c i f g) r.answered;
          ended = r.ended;
          listed = (entries_by s w g, r.listed);
          strikes =
              history_struck (outcome_of M s' c) c (struck M (step s' c).1 is)
              ∙ ap₂ (λ u l. if_refused u l (c ∷ l)) out r.strikes;
        }
    follow (own_dump b ∷ is) w t s s' past i g e h p =
        let j : Invariant false s = subst (λ u. Invariant u s) p.0 i in
        let i' : Invariant false s' = subst⁻¹ (Invariant false) e (invariant_by w j g) in
        let k = subst⁻¹ (λ z. Known w s (entries z)) e (known_by w j g) in
        let q = holds_after (Known w s) (dump b) past i' tt k h in
        let r = follow is w false s (step s' (dump b)).1 (event M s' (dump b) ∷ past) j g (L.dump_leaves s' b ∙ e)
        (λ ds d. (q ds d).1) p.1 in
        record {
          proper_history = subst⁻¹ (λ u. ProperHistory M u s (history M is)) p.0 r.proper_history;
          succeeds = (L.dump_granted b i', r.succeeds);
          answered = r.answered;
          ended = r.ended;
          listed = r.listed;
          strikes = r.strikes;
        }
    follow (rebuild ds x ∷ is) w t s s' past i g e h p =
        let j : Invariant false s = subst (λ u. Invariant u s) p.0 i in
        let i' : Invariant false s' = subst⁻¹ (Invariant false) e (invariant_by w j g) in
        let k = subst⁻¹ (λ z. SameChoice (entries s) (entries z)) e (same_by w j g) in
        let o = registered M ds x in
        let m : SameChoice (entries s) o = same_permitted x (known_same w s ds (h ds p.1)) p.2 in
        let r = follow is (order_rebuilt M w ds x) false s (end M s' (rebuilding M s' o)) past j (stands_rebuilt w s ds x m)
        (ap (λ z. end M z (rebuilding M z o)) e ∙ rebuilt_by w o j g m ∙ state_rebuilt w ds x j (h ds p.1))
        (λ es d. known_rebuilt w s ds x es (h es d)) p.3 in
        record {
          proper_history = subst⁻¹ (λ u. ProperHistory M u s (history M is)) p.0 r.proper_history;
          succeeds = (L.rebuild_granted i' (Permᴰ.trans (Permᴰ.symm k.perm) m.perm), r.succeeds);
          answered = r.answered;
          ended = r.ended;
          listed = (entries_by s w g, r.listed);
          strikes = r.strikes;
        }

    -- IN ORDER no other order ever stands
    in_order : (is : Items M) (s : State) → InOrder M is
        → (answers_in_order M none s is ≡ answers M s (history M is)) × (standing_order M none s is ≡ none)
    in_order [] s o = (refl, refl)
    in_order (call c ∷ is) s o = let r = in_order is (step s c).1 o in (ap (◌∷◌ (step s c).0) r.0, r.1)
    in_order (own_dump b ∷ is) s o = in_order is s o
    in_order (rebuild ds none ∷ is) s o = in_order is s o
    in_order (rebuild ds (some x) ∷ is) s o = absurd o

    -- DEMAND 3, of every proper list from a state that is reached
    pub demand_3 : (s : State) → Invariant false s → (is : Items M) → Proper M false [] s is → Demand3 M s is
    demand_3 s i is p =
        let r = follow is none false s s [] i tt refl (λ ds d. absurd d) p in
        record {
          succeed = r.succeeds;
          same_answers = r.answered;
          same_end = r.ended;
          same_entries = r.listed;
          exact_answers = λ o. r.answered ∙ (in_order is s o).0;
          exact_end = λ o. r.ended ∙ ap (λ w. state_by M w (end M s (history M is))) (in_order is s o).1;
          struck_proper = struck_proper_lem L.refused_leaves is false [] [] s (λ ds d. d) p;
          struck_history = r.strikes;
          struck_none_refused = subst⁻¹ (All (λ a. outcome a ≡ refused → ⊥)) (struck_same L.refused_leaves is s).0
              (none_refused (answers_with M s is));
          struck_same_answers = (struck_same L.refused_leaves is s).0;
          struck_same_end = (struck_same L.refused_leaves is s).1;
          proper_history = r.proper_history;
          plain_struck_answers = (struck_alone L.refused_leaves (history M is) s).0;
          plain_struck_end = (struck_alone L.refused_leaves (history M is) s).1;
        }
