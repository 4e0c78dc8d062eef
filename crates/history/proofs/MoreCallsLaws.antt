-- A machine with more calls has the laws of demand 3 if the machine has them and each of the others makes a call of it or none (`more_laws`), and so inherits the claim, which
-- contains the other: each list of the machine below is one of its lists (`own_proper`, `own_answers`, `own_ends`). A list of its calls ends where the calls that it makes end (`end_made`). Assumes nothing.
use Rattle.std.specs.Prelude.{◌≡◌, refl, List, [], ◌∷◌, ◌++◌, map, Bool, true, false, ℕ}
use Rattle.std.proofs.Common.{sym, ◌∙◌, ap, subst, inl, inr, arith}
use Rattle.std.proofs.Math.Path.{subst⁻¹}
use Rattle.std.proofs.lemmas.Bool.{false≢true}
use Rattle.std.proofs.Math.Option.{Option, none, some}
use Rattle.lists.specs.Lists.{flat}
use Rattle.history.specs.History.{Kind, Machine, ItemOf, Buffer, Entry, Entries, Items, Order, Past, outcome_of, end, AllGranted, rebuilding, registered, event, Complete, Permitted, Proper, MayFollow, cut_after, entries_after, answers_with, end_with}
use Rattle.history.specs.History.ItemOf.{call, own_dump, rebuild}
use Rattle.history.specs.History.Outcome.{granted, refused}
use Rattle.history.specs.History.Kind.{dumps, keeps}
use Rattle.history.proofs.HistoryLaws.{SameChoice, Laws}
use Rattle.history.specs.StandingOrder.{NoneRestarts, restarts}
use Rattle.history.specs.MoreCalls.{CallOr, own, more, made, step_of, kind_by, answer_in_by, starts_by, with_more, GivenBy, Makes, behind_made, made_calls}

module _ (M : Machine) (More : Type 0) (makes : More → Option M.Call) (moreStep : M.State → More → M.Answer × M.State) (Invariant : Bool → M.State → Type 0) where
  open M use {Symbol, State, Answer, Call, dump, step, outcome, kind, dumped, entries, state_in, answer_in, starts_after_cut, restart, register, closing}

  abbrev W : Machine
  W = with_more M More makes moreStep

  abbrev By : State → Answer × State → Option Call → Type 0
  By = GivenBy M

  -- the call that one makes
  abbrev made_by : CallOr Call More → Option Call
  made_by = made M More makes

  abbrev give : State → CallOr Call More → Answer × State
  give = step_of M More makes moreStep

  abbrev owned : Call → CallOr Call More
  owned = own

  abbrev ours : List Call → List (CallOr Call More)
  ours = map own

  same_choice : {es o : Entries M} → SameChoice W es o → SameChoice M es o
  same_choice l = record { perm = l.perm; choice = l.choice }

  module _ (laws : Laws M Invariant) (others : Makes M More makes moreStep Invariant) where
    by : (s : State) (c : CallOr Call More) → By s (give s c) (made_by c)
    by s (own c) = refl
    by s (more x) = others.is s x

    -- the call that it makes, if it makes one, may follow what may be cut
    abbrev Follows : Bool → Option Call → Type 0
    Follows true d = starts_by M d ≡ true
    Follows false d = Unit

    follows : (t : Bool) (c : Call) → Follows t (some c) → MayFollow M t c
    follows true c f = f
    follows false c f = tt

    may_follow_lem : (t : Bool) (c : CallOr Call More) → MayFollow W t c → Follows t (made_by c)
    may_follow_lem true c f = f
    may_follow_lem false c f = tt

    -- ---- each law, of what a call gives that makes the call d, or none

    continues_by : {t : Bool} {s : State} (d : Option Call) (y : Answer × State) → By s y d → Invariant t s → Follows t d
        → Invariant (cut_after M t (outcome y.0)) y.1
    continues_by {t} {s} none y g w f = rw (g.0, g.1) w
    continues_by {t} {s} (some c) y g w f = subst⁻¹ (λ z. Invariant (cut_after M t (outcome z.0)) z.1) g (laws.continues c w (follows t c f))

    lists_by : {t : Bool} {s : State} (d : Option Call) (y : Answer × State) → By s y d → Invariant t s → Follows t d
        → entries y.1 ≡ entries_after M (kind_by M d) (outcome y.0) (entries s)
    lists_by {t} {s} none y g w f = ap entries g.1
    lists_by {t} {s} (some c) y g w f =
        subst⁻¹ (λ z. entries z.1 ≡ entries_after M (kind c) (outcome z.0) (entries s)) g (laws.lists c w (follows t c f))

    refused_by : (s : State) (d : Option Call) (y : Answer × State) → By s y d → outcome y.0 ≡ refused → y.1 ≡ s
    refused_by s none y g h = g.1
    refused_by s (some c) y g h = ap (λ z. z.1) g ∙ laws.refused_leaves s c (ap (λ z. outcome z.0) (sym g) ∙ h)

    keeps_dumps : ◌≡◌ {A = Kind (Entry M)} keeps dumps → ⊥
    keeps_dumps h = let z : ◌≡◌ {A = ℕ} 0 1 = cc in omega arith

    dump_by : {t : Bool} {s : State} (d : Option Call) (y : Answer × State) → By s y d → Invariant t s → Follows t d → kind_by M d ≡ dumps
        → outcome y.0 ≡ granted → flat (entries s) ≡ dumped y.0
    dump_by {t} {s} none y g w f k h = absurd (keeps_dumps k)
    dump_by {t} {s} (some c) y g w f k h =
        subst⁻¹ (λ z. flat (entries s) ≡ dumped z.0) g (laws.dump_holds c w (follows t c f) k (ap (λ z. outcome z.0) (sym g) ∙ h))

    outcome_by_lem : (d : Option Call) (es o : Entries M) (a : Answer) → outcome (answer_in_by M d es o a) ≡ outcome a
    outcome_by_lem none es o a = refl
    outcome_by_lem (some c) es o a = laws.outcome_in c es o a

    -- the same call in two orders, y in the one and z in the other
    answers_by : {t : Bool} {s : State} {o : Entries M} (d : Option Call) (y z : Answer × State) → By s y d → By (state_in o s) z d → (d ≡ none → z.0 ≡ y.0)
        → Invariant t s → Follows t d → SameChoice M (entries s) o → z.0 ≡ answer_in_by M d (entries s) o y.0
    answers_by {t} {s} {o} none y z g h e w f l = e refl
    answers_by {t} {s} {o} (some c) y z g h e w f l =
        ap (λ x. x.0) h ∙ laws.answers_same c w (follows t c f) l ∙ ap (λ x. answer_in c (entries s) o x.0) (sym g)

    leaves_by : {t : Bool} {s : State} {o : Entries M} (d : Option Call) (y z : Answer × State) → By s y d → By (state_in o s) z d
        → Invariant t s → Follows t d → SameChoice M (entries s) o → z.1 ≡ state_in (entries_after M (kind_by M d) (outcome y.0) o) y.1
    leaves_by {t} {s} {o} none y z g h w f l = h.1 ∙ ap (state_in o) (sym g.1)
    leaves_by {t} {s} {o} (some c) y z g h w f l =
        ap (λ x. x.1) h ∙ laws.leaves_same c w (follows t c f) l ∙ ap (λ x. state_in (entries_after M (kind c) (outcome x.0) o) x.1) (sym g)

    -- one that makes none answers the same in every order; no start is among them
    others_same : {t : Bool} {s : State} {o : Entries M} (c : CallOr Call More) → Invariant t s → Follows t (made_by c) → SameChoice M (entries s) o
        → made_by c ≡ none → (give (state_in o s) c).0 ≡ (give s c).0
    others_same {t} {s} {o} (own c) w f l e = let z : ◌≡◌ {A = ℕ} 0 1 = cc in absurd (omega arith)
    others_same {t = false} (more x) w f l e = others.same x e w l.perm
    others_same {t = true} (more x) w f l e = absurd (false≢true (ap (starts_by M) (sym e) ∙ f))

    -- ---- the machine's own calls, one after the other

    end_own : (cs : List Call) (s : State) → end W s (ours cs) ≡ end M s cs
    end_own [] s = refl
    end_own (c ∷ cs) s = end_own cs (step s c).1

    granted_own : (cs : List Call) (s : State) → AllGranted M s cs → AllGranted W s (ours cs)
    granted_own [] s g = tt
    granted_own (c ∷ cs) s g = (g.0, granted_own cs (step s c).1 g.1)

    -- a rebuild makes the calls that it made
    registers_own : (o : Entries M) (cs : List Call) → ours (map register o ++ cs) ≡ map (λ e. owned (register e)) o ++ ours cs
    registers_own [] cs = refl
    registers_own (e ∷ o) cs = ap (λ l. owned (register e) ∷ l) (registers_own o cs)

    rebuilding_own : (s : State) (o : Entries M) → ours (rebuilding M s o) ≡ rebuilding W s o
    rebuilding_own s o = ap (λ l. owned (restart s) ∷ l) (registers_own o (closing s))

    -- THE LAWS
    pub more_laws : Laws W Invariant
    more_laws = record {
      unique = λ {ds} {es} p q h. laws.unique p q h;
      are_formed = λ {t} {s} w. laws.are_formed w;
      as_listed = λ {t} {s} w. laws.as_listed w;
      ordered_again = λ {t} {s} {o} {x} w e d. laws.ordered_again w e d;
      reorders = λ {t} {s} {o} w d. laws.reorders w d;
      relists = λ {t} {s} {o} w d. laws.relists w d;
      continues = λ {t} {s} c w f. continues_by (made_by c) _ (by s c) w (may_follow_lem t c f);
      lists = λ {t} {s} c w f. lists_by (made_by c) _ (by s c) w (may_follow_lem t c f);
      answers_same = λ {t} {s} {o} c w f l.
          answers_by (made_by c) _ _ (by s c) (by (state_in o s) c) (others_same c w (may_follow_lem t c f) (same_choice l)) w (may_follow_lem t c f) (same_choice l);
      outcome_in = λ c es o a. outcome_by_lem (made_by c) es o a;
      leaves_same = λ {t} {s} {o} c w f l. leaves_by (made_by c) _ _ (by s c) (by (state_in o s) c) w (may_follow_lem t c f) (same_choice l);
      refused_leaves = λ s c h. refused_by s (made_by c) _ (by s c) h;
      dump_holds = λ {t} {s} c w f k h. dump_by (made_by c) _ (by s c) w (may_follow_lem t c f) k h;
      dump_kind = λ b. laws.dump_kind b;
      dump_leaves = λ s b. laws.dump_leaves s b;
      dump_granted = λ {s} b w h. laws.dump_granted b w h;
      rebuild_granted = λ {s} {o} w d. subst (AllGranted W s) (rebuilding_own s o) (granted_own (rebuilding M s o) s (laws.rebuild_granted w d));
      rebuild_leaves = λ {s} {o} w d. ap (end W s) (sym (rebuilding_own s o)) ∙ end_own (rebuilding M s o) s ∙ laws.rebuild_leaves w d;
    }

    -- ---- a list of calls, by those that it makes

    end_behind : (d : Option Call) (y : Answer × State) (s : State) (cs : List Call) → By s y d → end M y.1 cs ≡ end M s (behind_made M d cs)
    end_behind none y s cs g = ap (λ z. end M z cs) g.1
    end_behind (some c) y s cs g = ap (λ z. end M z.1 cs) g

    -- IT ENDS WHERE THEY END
    pub end_made : (cs : List (CallOr Call More)) (s : State) → end W s cs ≡ end M s (made_calls M More makes cs)
    end_made [] s = refl
    end_made (c ∷ cs) s =
        end_made cs (give s c).1
        ∙ end_behind (made_by c) (give s c) s (made_calls M More makes cs) (by s c)

    restarts_behind : (d : Option Call) (y : Answer × State) (s : State) (cs : List Call) → By s y d → restarts M (kind_by M d) (outcome y.0) ≡ false
        → NoneRestarts M y.1 cs → NoneRestarts M s (behind_made M d cs)
    restarts_behind none y s cs g h n = subst (λ z. NoneRestarts M z cs) g.1 n
    restarts_behind (some c) y s cs g h n =
        (subst (λ z. restarts M (kind c) (outcome z.0) ≡ false) g h, subst (λ z. NoneRestarts M z.1 cs) g n)

    -- and where it has no granted start, neither have they
    pub none_restarts_made : (cs : List (CallOr Call More)) (s : State) → NoneRestarts W s cs → NoneRestarts M s (made_calls M More makes cs)
    none_restarts_made [] s n = tt
    none_restarts_made (c ∷ cs) s n =
        restarts_behind (made_by c) (give s c) s (made_calls M More makes cs) (by s c) n.0
        (none_restarts_made cs (give s c).1 n.1)

    -- ---- a list of the machine below, as one of this machine

    abbrev own_item : ItemOf Call Symbol → ItemOf (CallOr Call More) Symbol
    own_item (call c) = call (owned c)
    own_item (own_dump b) = own_dump b
    own_item (rebuild ds x) = rebuild ds x

    abbrev pub own_items : Items M → Items W
    own_items = map own_item

    abbrev own_past : Past M → Past W
    own_past = map (λ e. record { made = owned e.made; got = e.got })

    rebuilt_own : (s : State) (o : Entries M) → end W s (rebuilding W s o) ≡ end M s (rebuilding M s o)
    rebuilt_own s o = ap (end W s) (sym (rebuilding_own s o)) ∙ end_own (rebuilding M s o) s

    -- it gets the same answers and ends in the same state
    pub own_answers : (is : Items M) (s : State) → answers_with W s (own_items is) ≡ answers_with M s is
    own_answers [] s = refl
    own_answers (call c ∷ is) s = ap (λ l. (step s c).0 ∷ l) (own_answers is (step s c).1)
    own_answers (own_dump b ∷ is) s = own_answers is (step s (dump b)).1
    own_answers (rebuild ds x ∷ is) s = ap (λ z. answers_with W z (own_items is)) (rebuilt_own s (registered M ds x)) ∙ own_answers is (end M s (rebuilding M s (registered M ds x)))

    pub own_ends : (is : Items M) (s : State) → end_with W s (own_items is) ≡ end_with M s is
    own_ends [] s = refl
    own_ends (call c ∷ is) s = own_ends is (step s c).1
    own_ends (own_dump b ∷ is) s = own_ends is (step s (dump b)).1
    own_ends (rebuild ds x ∷ is) s = ap (λ z. end_with W z (own_items is)) (rebuilt_own s (registered M ds x)) ∙ own_ends is (end M s (rebuilding M s (registered M ds x)))

    own_complete : (ds : Entries M) (past : Past M) → Complete M ds past → Complete W ds (own_past past)
    own_complete ds [] d = d
    own_complete ds (e ∷ past) (inl d) = inl (record { is_dump = d.is_dump; is_granted = d.is_granted; are_formed = d.are_formed; are_dumped = d.are_dumped })
    own_complete ds (e ∷ past) (inr d) = inr (d.0, own_complete ds past d.1)

    own_permitted : (ds : Entries M) (x : Order M) → Permitted M ds x → Permitted W ds x
    own_permitted ds none p = p
    own_permitted ds (some o) p = p

    own_follow : (t : Bool) (c : Call) → MayFollow M t c → MayFollow W t (own c)
    own_follow true c f = f
    own_follow false c f = tt

    -- EVERY LIST THAT THE CLAIM IS ABOUT BELOW IS ONE THAT IT IS ABOUT HERE, with an own dump granted where it was
    pub own_proper : (is : Items M) (t : Bool) (past : Past M) (s : State) → Proper M t past s is → Proper W t (own_past past) s (own_items is)
    own_proper [] t past s p = p
    own_proper (call c ∷ is) t past s p = (own_follow t c p.0, own_proper is (cut_after M t (outcome_of M s c)) (event M s c ∷ past) (step s c).1 p.1)
    own_proper (own_dump b ∷ is) t past s p = (p.0, own_proper is false (event M s (dump b) ∷ past) (step s (dump b)).1 p.1)
    own_proper (rebuild ds x ∷ is) t past s p = (
      p.0,
      own_complete ds past p.1,
      own_permitted ds x p.2,
      subst⁻¹ (λ z. Proper W false (own_past past) z (own_items is)) (rebuilt_own s (registered M ds x)) (own_proper is false past (end M s (rebuilding M s (registered M ds x))) p.3),
    )

    pub own_dumps : (s : State) (b : Buffer M) → W.CanDump s b ≡ M.CanDump s b
    own_dumps s b = refl
