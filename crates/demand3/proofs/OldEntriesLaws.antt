-- Laws of the entries of earlier editions: those without '#' in the trigger's name are valid here, and how they register. Assumes nothing.
use Rattle.std.specs.Prelude.{ℕ, ◌≤◌, ◌≡◌, refl, List, [], ◌∷◌, ◌++◌, map, Bool, true, false, not, ◌||◌, cond, length}
use Rattle.std.proofs.Common.{sym, ap, ◌∙◌, subst, append_assoc, append-nil, arith, length-append}
use Rattle.std.proofs.Math.Path.{subst⁻¹}
use Rattle.std.proofs.lemmas.Bool.{false≢true, not-true}
use Rattle.limits.specs.Limits.{max_entries, policy_bytes}
use Rattle.lists.specs.Lists.{All, nil, more}
use Rattle.slices.specs.Test.{◌and◌}
use Rattle.slices.proofs.TestLaws.{and_left, and_right, and_intro}
use Rattle.slices.specs.Bytes.{Bytes}
use Rattle.slices.specs.Chunks.{flat, contains, distinct}
use Rattle.entry.specs.Entry.{well_formed, same_target}
use Rattle.entry.specs.FirstEdition.{first_well_formed, sign_in_trigger}
use Rattle.entry.proofs.FirstEditionLaws.{since_first}
use Rattle.policy.proofs.PolicyLaws.{WellFormed, EntriesUnder, Entries, entries_policy}
use Rattle.status.specs.declared.Status.TheVariants.{InvalidParameter}
use Rattle.rules.specs.Engine.{State, Answer, only_status, register_status, step}
use Rattle.rules.specs.Engine.Call.{register}
use Rattle.history.specs.History.{answers, end}
use Rattle.demand3.specs.Machine.{machine}
use Rattle.demand3.proofs.OrderLaws.{entries_left}
use Rattle.demand3.proofs.MachineLaws.{with_entries, register_granted}
use Rattle.demand3.specs.OldEntries.{Earlier, first, larger, answer_to, without_signs}

-- ---- those without '#' in the trigger's name

-- an old entry is well formed today exactly if its trigger's name has no '#'
module _ (e : Bytes) (w : first_well_formed e ≡ true) where
  pub formed_since : well_formed e ≡ not (sign_in_trigger e)
  unfolding ◌and◌
  formed_since = since_first e ∙ rw w

abbrev pub Formed : List Bytes → Type 0
Formed es = All (λ e. first_well_formed e ≡ true) es

-- by the first entry
module _ (P : List Bytes → Type 0) (e : Bytes) (l : List Bytes) where
  by_sign : (sign_in_trigger e ≡ true → P l) → (sign_in_trigger e ≡ false → P (e ∷ l)) → P (cond (sign_in_trigger e) l (e ∷ l))
  by_sign f g = go (sign_in_trigger e) refl
    where
      go : (b : Bool) → sign_in_trigger e ≡ b → P (cond b l (e ∷ l))
      go true q = f q
      go false q = g q

pub without_append : (xs ys : List Bytes) → without_signs (xs ++ ys) ≡ without_signs xs ++ without_signs ys
without_append [] ys = refl
without_append (x ∷ xs) ys = rw (without_append xs ys) (go (sign_in_trigger x))
  where
    go : (b : Bool) → cond b (without_signs xs ++ without_signs ys) (x ∷ (without_signs xs ++ without_signs ys)) ≡ cond b (without_signs xs) (x ∷ without_signs xs) ++ without_signs ys
    go true = refl
    go false = refl

without_formed : (es : List Bytes) → Formed es → All WellFormed (without_signs es)
without_formed [] nil = nil
without_formed (e ∷ es) (more w a) =
    by_sign (All WellFormed) e (without_signs es) (λ q. without_formed es a) (λ q. more (formed_since e w ∙ ap not q) (without_formed es a))

without_few : (es : List Bytes) → length (without_signs es) ≤ length es
without_few [] = omega arith
without_few (e ∷ es) = by_sign (λ l. length l ≤ length (e ∷ es)) e (without_signs es) (λ q. omega (arith, without_few es)) (λ q. omega (arith, without_few es))

without_room : (es : List Bytes) → length (flat (without_signs es)) ≤ length (flat es)
unfolding flat
without_room [] = omega arith
without_room (e ∷ es) =
    by_sign (λ l. length (flat l) ≤ length (flat (e ∷ es))) e (without_signs es)
    (λ q. omega (arith, length-append e (flat es), without_room es))
    (λ q. omega (arith, length-append e (flat es), length-append e (flat (without_signs es)), without_room es))

neither : (a b : Bool) → (a || b) ≡ false → (a ≡ false) × (b ≡ false)
neither true b h = absurd (false≢true (sym h))
neither false b h = (refl, h)

without_missing : (p : Bytes → Bool) (es : List Bytes) → contains p es ≡ false → contains p (without_signs es) ≡ false
unfolding contains
without_missing p [] h = h
without_missing p (e ∷ es) h =
    let k = neither (p e) (contains p es) h in
    let m = without_missing p es k.1 in
    by_sign (λ l. contains p l ≡ false) e (without_signs es) (λ q. m) (λ q. rw k.0 m)

without_apart : (es : List Bytes) → distinct same_target es ≡ true → distinct same_target (without_signs es) ≡ true
unfolding distinct
without_apart [] h = h
without_apart (e ∷ es) h =
    let k = without_apart es (and_right _ _ h) in
    by_sign (λ l. distinct same_target l ≡ true) e (without_signs es) (λ q. k)
    (λ q. and_intro _ _ (ap not (without_missing (same_target e) es (not-true _ (and_left _ _ h)))) k)

-- within today's limits
limits_within : {most bytes : ℕ} → Earlier most bytes → (most ≤ max_entries) × (bytes ≤ policy_bytes)
limits_within first = (omega arith, omega arith)
limits_within larger = (omega arith, omega arith)

pub without_entries : {most bytes : ℕ} (es : List Bytes) → Earlier most bytes → EntriesUnder first_well_formed most bytes es → Entries (without_signs es)
without_entries es k a =
    let l = limits_within k in
    record {
      formed = without_formed es a.formed;
      few = omega (arith, l, without_few es, a.few);
      room = omega (arith, l, without_room es, a.room);
      apart = without_apart es a.apart;
    }

-- where no trigger's name has a '#', that is all
pub without_all : (es : List Bytes) → All (λ e. sign_in_trigger e ≡ false) es → without_signs es ≡ es
without_all [] nil = refl
without_all (e ∷ es) (more q a) = rw (q, without_all es a)

-- ---- how they register

-- the registrations of es lead from t to z, and answer as E7 says
pub record Registered (t : State) (es : List Bytes) (z : State) : Type 0 where
  pub answered : answers machine t (map register es) ≡ map answer_to es
  pub ends : end machine t (map register es) ≡ z

registered_cons : (t : State) (e : Bytes) (y : State) (es : List Bytes) (z : State) → step t (register e) ≡ (answer_to e, y) → Registered y es z → Registered t (e ∷ es) z
registered_cons t e y es z q r =
    record {
      answered = ap (λ (p : Answer × State). p.0 ∷ answers machine p.1 (map register es)) q ∙ ap (λ (l : List Answer). answer_to e ∷ l) r.answered;
      ends = ap (λ (p : Answer × State). end machine p.1 (map register es)) q ∙ r.ends;
    }

-- with the entries xs in an engine that is not locked and has not exited a malformed one
pub register_refused : (k : State) (xs : List Bytes) (e : Bytes) → k.switches.locked ≡ false → k.switches.exited ≡ false → Entries xs → well_formed e ≡ false
    → step (with_entries k xs) (register e) ≡ (only_status InvalidParameter, with_entries k xs)
unfolding step register_status
register_refused k xs e u x a w = rw (entries_policy xs a, x, u, w)

-- '#' in the trigger's name is 2 and leaves everything as it was; the others stand behind those before them
pub registers : (k : State) (u : k.switches.locked ≡ false) (x : k.switches.exited ≡ false) (xs ys : List Bytes) → Formed ys → Entries (xs ++ without_signs ys)
    → Registered (with_entries k xs) ys (with_entries k (xs ++ without_signs ys))
registers k u x xs [] nil a = record { answered = refl; ends = rw (append-nil xs) }
registers k u x xs (y ∷ ys) (more w f) a = go (sign_in_trigger y) refl a (λ b. registers k u x xs ys f b) (λ b. registers k u x (xs ++ (y ∷ [])) ys f b)
  where
    go : (b : Bool) → sign_in_trigger y ≡ b → Entries (xs ++ cond b (without_signs ys) (y ∷ without_signs ys))
        → (Entries (xs ++ without_signs ys) → Registered (with_entries k xs) ys (with_entries k (xs ++ without_signs ys)))
        → (Entries ((xs ++ (y ∷ [])) ++ without_signs ys) → Registered (with_entries k (xs ++ (y ∷ []))) ys (with_entries k ((xs ++ (y ∷ [])) ++ without_signs ys)))
        → Registered (with_entries k xs) (y ∷ ys) (with_entries k (xs ++ cond b (without_signs ys) (y ∷ without_signs ys)))
    go true q c same behind =
        registered_cons (with_entries k xs) y (with_entries k xs) ys (with_entries k (xs ++ without_signs ys))
        (rw q (register_refused k xs y u x (entries_left xs (without_signs ys) c) (formed_since y w ∙ ap not q)))
        (same c)
    go false q c same behind =
        let j : (xs ++ (y ∷ [])) ++ without_signs ys ≡ xs ++ (y ∷ without_signs ys) = append_assoc xs (y ∷ []) (without_signs ys) in
        registered_cons (with_entries k xs) y (with_entries k (xs ++ (y ∷ []))) ys (with_entries k (xs ++ (y ∷ without_signs ys)))
        (rw q (register_granted k xs y (without_signs ys) u x c))
        (subst (λ (l : List Bytes). Registered (with_entries k (xs ++ (y ∷ []))) ys (with_entries k l)) j (behind (subst⁻¹ Entries j c)))
