-- Each test of the rules holds exactly if its proposition in Grounds.antt does: bits, names, targets, the choice, requests.
-- Assumes nothing.
use Rattle.std.specs.Prelude.{ℕ, zero, suc, ◌+◌, ◌/◌, ◌%◌, ◌≤◌, ◌<◌, min, ◌≡◌, refl, List, [], ◌∷◌, Bool, true, false, not, ◌||◌, cond, ◌⊎◌, ◌↔◌, length, get_or, eqb, leb, ltb}
use Rattle.std.proofs.Common.{sym, ap, ap₂, subst, ◌∙◌, true≢false, inl, inr, arith, eq-eqb, eqb-true, le-leb, leb-true, lt-ltb, ltb-true}
use Rattle.std.proofs.Math.Path.{subst⁻¹}
use Rattle.std.proofs.Math.Bool.{or-true}
use Rattle.std.proofs.lemmas.Bool.{false≢true, eqb-false}
use Rattle.std.proofs.Math.Option.{some}
use Rattle.std.proofs.Math.Nat.{min-le_left, zero-min}
use Rattle.std.proofs.Math.Arith.{bin_ind}
use Rattle.std.specs.Int.Bits.{bit_and, and_step}
use Rattle.limits.specs.Limits.{max_name_bytes, whole_namespace_rank}
use Rattle.lists.specs.Lists.{nil, more, Among}
use Rattle.lists.proofs.ListsLaws as choice
use Rattle.lists.proofs.ListsLaws.{all_among, among_all}
use Rattle.slices.specs.Test.{◌and◌}
use Rattle.slices.proofs.TestLaws.{and_left, and_right, and_intro}
use Rattle.slices.specs.Bytes.{Bytes, pairwise}
use Rattle.slices.proofs.BytesLaws.{same_eq, same_of}
use Rattle.names.specs.Name.{Variable, units, each, no_zero, name_length, is_name, named, unit_matches, number_sign, wildcards, one_if}
use Rattle.names.proofs.NameLaws.{units_length, units_at, hex_digits_lem}
use Rattle.entry.specs.Entry.{namespace_of, name_is_empty, name_of, targets, rank}
use Rattle.policy.specs.Choice.{chosen, place_of}
use Rattle.policy.proofs.PlaceLaws.{chosen_place}
use Rattle.store.specs.Record.{has_nv, has_bs, has_rt, has_append}
use Rattle.rules.specs.Set.{Request, is_empty, is_deletion, unsupported_bit, needs_bs, needs_runtime, is_empty_append}
use Rattle.rules.specs.Engine.{State}
use Rattle.rules.specs.Grounds.{Not, Bit, NV, BS, RT, Append, known_bits, Name, Named, UnitMatches, Matches, Targets, Signs, Ranks, IsChosen, Exited, Deletion, EmptyAppend}

-- ---- a test and its proposition

abbrev pub Tells : Bool → Type 0 → Type 0
Tells b P = (b ≡ true) ↔ P

pub tells_not : (b : Bool) {P : Type 0} → Tells b P → Tells (not b) (Not P)
tells_not true t = ((λ e. absurd (false≢true e)), λ n. absurd (n (t.0 refl)))
tells_not false t = ((λ e p. false≢true (t.1 p)), λ n. refl)

pub tells_and : (a b : Bool) {P Q : Type 0} → Tells a P → Tells b Q → Tells (a and b) (P × Q)
tells_and a b t u = ((λ e. (t.0 (and_left a b e), u.0 (and_right a b e))), λ h. and_intro a b (t.1 h.0) (u.1 h.1))

pub tells_or : (a b : Bool) {P Q : Type 0} → Tells a P → Tells b Q → Tells (a || b) (P ⊎ Q)
tells_or a b {P} {Q} t u = (go a t, back)
  where
    go : (a : Bool) → Tells a P → (a || b) ≡ true → P ⊎ Q
    go true t e = inl (t.0 refl)
    go false t e = inr (u.0 e)

    back : P ⊎ Q → (a || b) ≡ true
    back (inl p) = rw (t.1 p)
    back (inr q) = rw (u.1 q) (or-true a)

-- which of two tests counts is a test itself
tells_cond : (s a b : Bool) {S P Q : Type 0} → Tells s S → Tells a P → Tells b Q → Tells (cond s a b) ((S × P) ⊎ (Not S × Q))
tells_cond true a b {S} {P} {Q} t u v = ((λ e. inl (t.0 refl, u.0 e)), back)
  where
    back : (S × P) ⊎ (Not S × Q) → a ≡ true
    back (inl h) = u.1 h.1
    back (inr h) = absurd (h.0 (t.0 refl))
tells_cond false a b {S} {P} {Q} t u v = ((λ e. inr ((λ h. false≢true (t.1 h)), v.0 e)), back)
  where
    back : (S × P) ⊎ (Not S × Q) → b ≡ true
    back (inl h) = absurd (false≢true (t.1 h.0))
    back (inr h) = v.1 h.1

-- one of two tests fails
pub tells_nand : (a b : Bool) {P Q : Type 0} → Tells (not a) P → Tells (not b) Q → Tells (not (a and b)) (P ⊎ Q)
unfolding ◌and◌
tells_nand true b {P} {Q} t u = ((λ e. inr (u.0 e)), back)
  where
    back : P ⊎ Q → not b ≡ true
    back (inl p) = absurd (false≢true (t.1 p))
    back (inr q) = u.1 q
tells_nand false b t u = ((λ e. inl (t.0 refl)), λ h. refl)

pub tells_eq : (m n : ℕ) → Tells (eqb m n) (m ≡ n)
tells_eq m n = (eqb-true m n, eq-eqb m n)

pub tells_le : (m n : ℕ) → Tells (leb m n) (m ≤ n)
tells_le m n = (leb-true m n, le-leb m n)

pub tells_lt : (m n : ℕ) → Tells (ltb m n) (m < n)
tells_lt m n = (ltb-true m n, lt-ltb m n)

pub tells_more : (m n : ℕ) → Tells (not (leb m n)) (n < m)
tells_more m n = let t = tells_not _ (tells_le m n) in ((λ e. let h = t.0 e in omega arith), λ h. t.1 (λ k. omega arith))

pub tells_same : (l m : Bytes) → Tells (pairwise eqb l m) (l ≡ m)
tells_same l m = (same_eq l m, same_of l m)

-- a test that fails, and a proposition that fails
pub tells_off : (b : Bool) {P : Type 0} → Tells b P → b ≡ false → Not P
tells_off b t e p = true≢false (sym (t.1 p) ∙ e)

pub off_tells : (b : Bool) {P : Type 0} → Tells b P → Not P → b ≡ false
off_tells true t n = absurd (n (t.0 refl))
off_tells false t n = refl

-- ---- bits

digit : (x : ℕ) → (x % 2 ≡ 0) ⊎ (x % 2 ≡ 1)
digit x = go (eqb (x % 2) 1) refl
  where
    go : (b : Bool) → eqb (x % 2) 1 ≡ b → (x % 2 ≡ 0) ⊎ (x % 2 ≡ 1)
    go true e = inr (eqb-true (x % 2) 1 e)
    go false e = let d = eqb-false (x % 2) 1 e in inl (omega arith)

low_bit : (a b : ℕ) → bit_and a b % 2 ≡ min (a % 2) (b % 2)
low_bit a b = let e = and_step a b in let m = min-le_left (a % 2) (b % 2) in omega arith

high_bits : (a b : ℕ) → bit_and a b / 2 ≡ bit_and (a / 2) (b / 2)
high_bits a b = let e = and_step a b in let m = min-le_left (a % 2) (b % 2) in omega arith

pub bit_both : (i a b : ℕ) → Bit i (bit_and a b) → Bit i a × Bit i b
bit_both zero a b h = go (digit a) (digit b)
  where
    m : min (a % 2) (b % 2) ≡ 1
    m = sym (low_bit a b) ∙ h

    go : (a % 2 ≡ 0) ⊎ (a % 2 ≡ 1) → (b % 2 ≡ 0) ⊎ (b % 2 ≡ 1) → Bit 0 a × Bit 0 b
    go (inl x) y = absurd (let z : ◌≡◌ {A = ℕ} 0 1 = sym (ap (λ d. min d (b % 2)) x ∙ zero-min (b % 2)) ∙ m in omega arith)
    go (inr x) (inl y) = absurd (let z : ◌≡◌ {A = ℕ} 0 1 = sym (ap₂ min x y) ∙ m in omega arith)
    go (inr x) (inr y) = (x, y)
bit_both (suc i) a b h = bit_both i (a / 2) (b / 2) (subst (Bit i) (high_bits a b) h)

pub bit_join : (i a b : ℕ) → Bit i a → Bit i b → Bit i (bit_and a b)
bit_join zero a b x y = low_bit a b ∙ ap₂ min x y
bit_join (suc i) a b x y = subst⁻¹ (Bit i) (high_bits a b) (bit_join i (a / 2) (b / 2) x y)

pub bit_zero : (i : ℕ) → Not (Bit i 0)
bit_zero zero h = omega arith
bit_zero (suc i) h = bit_zero i h

-- every bit of a is in b, or one is not
covered : (a b : ℕ) → (bit_and a b ≡ a) ⊎ ((i : ℕ) × Bit i a × Not (Bit i b))
covered = bin_ind (λ a. (b : ℕ) → (bit_and a b ≡ a) ⊎ ((i : ℕ) × Bit i a × Not (Bit i b))) (λ b. inl refl) next
  where
    next : (a : ℕ) → ((b : ℕ) → (bit_and (a / 2) b ≡ a / 2) ⊎ ((i : ℕ) × Bit i (a / 2) × Not (Bit i b)))
        → (b : ℕ) → (bit_and a b ≡ a) ⊎ ((i : ℕ) × Bit i a × Not (Bit i b))
    next a ih b = go (ih (b / 2)) (digit a) (digit b)
      where
        go : (bit_and (a / 2) (b / 2) ≡ a / 2) ⊎ ((i : ℕ) × Bit i (a / 2) × Not (Bit i (b / 2))) → (a % 2 ≡ 0) ⊎ (a % 2 ≡ 1) → (b % 2 ≡ 0) ⊎ (b % 2 ≡ 1)
            → (bit_and a b ≡ a) ⊎ ((i : ℕ) × Bit i a × Not (Bit i b))
        go (inr w) x y = inr (suc w.0, w.1, w.2)
        go (inl e) (inl x) y = let s = and_step a b in let m : min (a % 2) (b % 2) ≡ 0 = ap (λ d. min d (b % 2)) x ∙ zero-min (b % 2) in inl (omega arith)
        go (inl e) (inr x) (inl y) = inr (0, x, λ z. omega arith)
        go (inl e) (inr x) (inr y) = let s = and_step a b in let m : min (a % 2) (b % 2) ≡ 1 = ap₂ min x y in inl (omega arith)

-- no bit is in both, or one is
disjoint : (a b : ℕ) → (bit_and a b ≡ 0) ⊎ ((i : ℕ) × Bit i a × Bit i b)
disjoint = bin_ind (λ a. (b : ℕ) → (bit_and a b ≡ 0) ⊎ ((i : ℕ) × Bit i a × Bit i b)) (λ b. inl refl) next
  where
    next : (a : ℕ) → ((b : ℕ) → (bit_and (a / 2) b ≡ 0) ⊎ ((i : ℕ) × Bit i (a / 2) × Bit i b))
        → (b : ℕ) → (bit_and a b ≡ 0) ⊎ ((i : ℕ) × Bit i a × Bit i b)
    next a ih b = go (ih (b / 2)) (digit a) (digit b)
      where
        go : (bit_and (a / 2) (b / 2) ≡ 0) ⊎ ((i : ℕ) × Bit i (a / 2) × Bit i (b / 2)) → (a % 2 ≡ 0) ⊎ (a % 2 ≡ 1) → (b % 2 ≡ 0) ⊎ (b % 2 ≡ 1)
            → (bit_and a b ≡ 0) ⊎ ((i : ℕ) × Bit i a × Bit i b)
        go (inr w) x y = inr (suc w.0, w.1, w.2)
        go (inl e) (inl x) y = let s = and_step a b in let m : min (a % 2) (b % 2) ≡ 0 = ap (λ d. min d (b % 2)) x ∙ zero-min (b % 2) in inl (omega arith)
        go (inl e) (inr x) (inl y) = let s = and_step a b in let m : min (a % 2) (b % 2) ≡ 0 = ap₂ min x y in inl (omega arith)
        go (inl e) (inr x) (inr y) = inr (0, x, y)

-- a bit of m that is not in a: `must & a != must`
pub tells_missing : (m a : ℕ) → Tells (not (eqb (bit_and m a) m)) ((i : ℕ) × Bit i m × Not (Bit i a))
tells_missing m a = (to, back)
  where
    to : not (eqb (bit_and m a) m) ≡ true → (i : ℕ) × Bit i m × Not (Bit i a)
    to e = go (covered m a)
      where
        go : (bit_and m a ≡ m) ⊎ ((i : ℕ) × Bit i m × Not (Bit i a)) → (i : ℕ) × Bit i m × Not (Bit i a)
        go (inl h) = absurd (false≢true (sym (ap not (eq-eqb (bit_and m a) m h)) ∙ e))
        go (inr w) = w

    back : (i : ℕ) × Bit i m × Not (Bit i a) → not (eqb (bit_and m a) m) ≡ true
    back w = (tells_not _ (tells_eq (bit_and m a) m)).1 (λ h. w.2 (bit_both w.0 m a (subst⁻¹ (Bit w.0) h w.1)).1)

-- a bit of c that is in a: `cant & a != 0`
pub tells_prohibited : (c a : ℕ) → Tells (not (eqb (bit_and c a) 0)) ((i : ℕ) × Bit i c × Bit i a)
tells_prohibited c a = (to, back)
  where
    to : not (eqb (bit_and c a) 0) ≡ true → (i : ℕ) × Bit i c × Bit i a
    to e = go (disjoint c a)
      where
        go : (bit_and c a ≡ 0) ⊎ ((i : ℕ) × Bit i c × Bit i a) → (i : ℕ) × Bit i c × Bit i a
        go (inl h) = absurd (false≢true (sym (ap not (eq-eqb (bit_and c a) 0 h)) ∙ e))
        go (inr w) = w

    back : (i : ℕ) × Bit i c × Bit i a → not (eqb (bit_and c a) 0) ≡ true
    back w = (tells_not _ (tells_eq (bit_and c a) 0)).1 (λ h. bit_zero w.0 (subst (Bit w.0) h (bit_join w.0 c a w.1 w.2)))

-- the bits of 0x47
known : (i : ℕ) → Bit i 0x47 → Among i known_bits
known zero h = inl refl
known (suc zero) h = inr (inl refl)
known (suc (suc zero)) h = inr (inr (inl refl))
known (suc (suc (suc zero))) h = absurd (omega arith)
known (suc (suc (suc (suc zero)))) h = absurd (omega arith)
known (suc (suc (suc (suc (suc zero))))) h = absurd (omega arith)
known (suc (suc (suc (suc (suc (suc zero)))))) h = inr (inr (inr (inl refl)))
known (suc (suc (suc (suc (suc (suc (suc i))))))) h = absurd (bit_zero i h)

pub tells_unsupported : (a : ℕ) → Tells (unsupported_bit a) ((i : ℕ) × Bit i a × Not (Among i known_bits))
unfolding unsupported_bit
tells_unsupported a =
    let t = tells_missing a 0x47 in (
      (λ e. let w = t.0 e in (w.0, w.1, λ k. w.2 (all_among {P = λ i. Bit i 0x47} known_bits (more refl (more refl (more refl (more refl nil)))) w.0 k))),
      λ w. t.1 (w.0, w.1, λ b. w.2 (known w.0 b)),
    )

-- the attributes
pub tells_nv : (a : ℕ) → Tells (has_nv a) (NV a)
tells_nv a = tells_eq (a % 2) 1

pub tells_bs : (a : ℕ) → Tells (has_bs a) (BS a)
tells_bs a = tells_eq (a / 2 % 2) 1

pub tells_rt : (a : ℕ) → Tells (has_rt a) (RT a)
tells_rt a = let e : a / 4 ≡ a / 2 / 2 = omega arith in rw e (tells_eq (a / 2 / 2 % 2) 1)

pub tells_append : (a : ℕ) → Tells (has_append a) (Append a)
tells_append a = let e : a / 64 ≡ a / 2 / 2 / 2 / 2 / 2 / 2 = omega arith in rw e (tells_eq (a / 2 / 2 / 2 / 2 / 2 / 2 % 2) 1)

-- ---- requests

pub tells_empty : (l : Bytes) → Tells (is_empty l) (l ≡ [])
unfolding is_empty
tells_empty [] = ((λ e. refl), λ e. refl)
tells_empty (b ∷ l) = ((λ e. absurd (false≢true e)), λ e. absurd (let z : suc (length l) ≡ 0 = ap length e in omega arith))

pub tells_deletion : (r : Request) → Tells (is_deletion r.attributes r.payload) (Deletion r)
unfolding is_deletion
tells_deletion r =
    tells_and _ _ (tells_not _ (tells_append r.attributes))
    (tells_or _ _ (tells_empty r.payload) (tells_not _ (tells_or _ _ (tells_bs r.attributes) (tells_rt r.attributes))))

pub tells_nothing : (r : Request) → Tells (is_empty_append r.attributes r.payload) (EmptyAppend r)
unfolding is_empty_append
tells_nothing r = tells_and _ _ (tells_append r.attributes) (tells_empty r.payload)

pub tells_needs_bs : (a : ℕ) → Tells (needs_bs a) ((RT a ⊎ Append a) × Not (BS a))
unfolding needs_bs
tells_needs_bs a = tells_and _ _ (tells_or _ _ (tells_rt a) (tells_append a)) (tells_not _ (tells_bs a))

pub tells_runtime : (s : State) (r : Request) → Tells (needs_runtime s.switches.exited r.attributes r.payload)
    (Exited s × (Not (Deletion r) × Not (NV r.attributes × (BS r.attributes × RT r.attributes))))
unfolding needs_runtime
tells_runtime s r =
    let a = r.attributes in
    tells_and _ _ ((λ e. e), λ e. e)
    (tells_and _ _ (tells_not _ (tells_deletion r)) (tells_not _ (tells_and _ _ (tells_nv a) (tells_and _ _ (tells_bs a) (tells_rt a)))))

-- ---- names

no_zero-at : (us : List ℕ) → no_zero us ≡ true → (k : ℕ) → k < length us → Not (get_or us k 0 ≡ 0)
unfolding each
no_zero-at [] e k h z = omega arith
no_zero-at (u ∷ us) e zero h z = (tells_not _ (tells_eq u 0)).0 (and_left _ _ e) z
no_zero-at (u ∷ us) e (suc k) h z = no_zero-at us (and_right (not (eqb u 0)) (no_zero us) e) k (omega arith) z

at-no_zero : (us : List ℕ) → ((k : ℕ) → k < length us → Not (get_or us k 0 ≡ 0)) → no_zero us ≡ true
unfolding each
at-no_zero [] f = refl
at-no_zero (u ∷ us) f =
    and_intro _ _ ((tells_not _ (tells_eq u 0)).1 (f 0 (omega arith))) (at-no_zero us (λ k h. f (suc k) (omega arith)))

pub tells_name : (s : Bytes) → Tells (is_name s) (Name s)
unfolding is_name
tells_name s = (to, back)
  where
    to : (name_length (length s) and no_zero (units s)) ≡ true → Name s
    to e =
        let l = and_left (name_length (length s)) (no_zero (units s)) e in
        let even = eqb-true (length s % 2) 0 (and_left _ _ l) in
        let l₁ = and_right (eqb (length s % 2) 0) _ l in
        let two = leb-true 2 (length s) (and_left _ _ l₁) in
        let most = leb-true (length s) max_name_bytes (and_right (leb 2 (length s)) _ l₁) in
        record {
          count = length s / 2;
          whole = omega arith;
          some = omega arith;
          most = omega arith;
          nonzero = λ k h z. no_zero-at (units s) (and_right (name_length (length s)) _ e) k (omega (arith, units_length s)) (units_at s k h ∙ z);
        }

    back : Name s → (name_length (length s) and no_zero (units s)) ≡ true
    back n =
        let w = n.whole in
        let l = n.some in
        let m = n.most in
        and_intro _ _
        (and_intro _ _ (eq-eqb (length s % 2) 0 (omega arith)) (and_intro _ _ (le-leb 2 (length s) (omega arith)) (le-leb (length s) max_name_bytes (omega arith))))
        (at-no_zero (units s) (λ k h z.
        let u = units_length s in
        n.nonzero k (omega arith) (sym (units_at s k (omega arith)) ∙ z)))

pub tells_named : (v : Variable) → Tells (named v) (Named v)
unfolding named
tells_named v =
    let t = tells_and _ _ (tells_eq (length v.namespace) 16) (tells_name v.name) in
    ((λ e. record { namespace = (t.0 e).0; name = (t.0 e).1 }), λ n. t.1 (n.namespace, n.name))

-- ---- targets and the choice

tells_unit : (p u : ℕ) → Tells (unit_matches p u) (UnitMatches p u)
unfolding unit_matches
tells_unit p u = tells_cond (eqb p number_sign) _ _ (tells_eq p number_sign) (hex_digits_lem u) (tells_eq p u)

tells_matches : (ps us : List ℕ) → Tells (pairwise unit_matches ps us) (Matches ps us)
unfolding pairwise
tells_matches [] [] = ((λ e. tt), λ t. refl)
tells_matches [] (u ∷ us) = ((λ e. absurd (false≢true e)), λ t. absurd t)
tells_matches (p ∷ ps) [] = ((λ e. absurd (false≢true e)), λ t. absurd t)
tells_matches (p ∷ ps) (u ∷ us) = tells_and _ _ (tells_unit p u) (tells_matches ps us)

pub tells_targets : (e : Bytes) (v : Variable) → Tells (targets e v) (Targets e v)
unfolding targets
tells_targets e v =
    tells_and _ _ (tells_same (namespace_of e) v.namespace)
    (tells_or _ _ (tells_eq _ _) (tells_matches (units (name_of e)) (units v.name)))

-- the number of '#', and the rank
wildcards_signs : (us : List ℕ) → Signs us (wildcards us)
unfolding wildcards
wildcards_signs [] = Signs.none
wildcards_signs (u ∷ us) = go (eqb u number_sign) refl (wildcards_signs us)
  where
    go : (b : Bool) → eqb u number_sign ≡ b → Signs us (wildcards us) → Signs (u ∷ us) (one_if b + wildcards us)
    go true e h = subst (λ k. Signs (u ∷ us) k) one (subst⁻¹ (λ x. Signs (x ∷ us) (suc (wildcards us))) (eqb-true u number_sign e) (Signs.sign h))
      where
        one : suc (wildcards us) ≡ 1 + wildcards us
        one = omega arith
    go false e h = subst (λ k. Signs (u ∷ us) k) none (Signs.other (tells_off _ (tells_eq u number_sign) e) h)
      where
        none : wildcards us ≡ 0 + wildcards us
        none = omega arith

signs_one : (us : List ℕ) (m n : ℕ) → Signs us m → Signs us n → m ≡ n
signs_one us m n Signs.none Signs.none = refl
signs_one us m n (Signs.sign {us = vs} {n = x} h) (Signs.sign {n = y} k) = ap suc (signs_one vs x y h k)
signs_one us m n (Signs.sign h) (Signs.other e k) = absurd (e refl)
signs_one us m n (Signs.other e h) (Signs.sign k) = absurd (e refl)
signs_one us m n (Signs.other {us = vs} {n = x} e h) (Signs.other {n = y} f k) = signs_one vs x y h k

rank_ranks : (e : Bytes) → Ranks e (rank e)
unfolding rank
rank_ranks e = go (name_is_empty e) refl
  where
    go : (b : Bool) → name_is_empty e ≡ b → Ranks e (cond b whole_namespace_rank (wildcards (units (name_of e))))
    go true h = Ranks.whole (eqb-true _ _ h)
    go false h = Ranks.named (tells_off _ (tells_eq _ _) h) (wildcards_signs (units (name_of e)))

pub tells_rank : (e : Bytes) (n : ℕ) → (rank e ≡ n) ↔ Ranks e n
tells_rank e n = ((λ h. subst (Ranks e) h (rank_ranks e)), one (rank e) n (rank_ranks e))
  where
    one : (m n : ℕ) → Ranks e m → Ranks e n → m ≡ n
    one m n (Ranks.whole h) (Ranks.whole k) = refl
    one m n (Ranks.whole h) (Ranks.named k s) = absurd (k h)
    one m n (Ranks.named h s) (Ranks.whole k) = absurd (h k)
    one m n (Ranks.named {n = x} h s) (Ranks.named {n = y} k t) = signs_one (units (name_of e)) x y s t

-- the chosen entry
pub chosen_is : (es : List Bytes) (v : Variable) (e : Bytes) → chosen es v ≡ some e → IsChosen es v e
unfolding chosen
chosen_is es v e h =
    let c = choice.chosen_some rank (λ f. targets f v) es e h in
    record {
      before = c.before;
      after = c.after;
      place = c.place;
      target = (tells_targets e v).0 c.target;
      lowest = λ f m n k t x y.
          let p = (tells_rank e m).1 x in
          let q = (tells_rank f n).1 y in
          let l = all_among es c.lowest f k ((tells_targets f v).1 t) in omega arith;
      first = λ f m n k t x y.
          let p = (tells_rank e m).1 x in
          let q = (tells_rank f n).1 y in
          let l = all_among c.before c.first f k ((tells_targets f v).1 t) in omega arith;
    }

-- the other way round
abbrev choice_is : (es : List Bytes) (v : Variable) (e : Bytes) → IsChosen es v e → choice.Chosen rank (λ f. targets f v) es e
choice_is es v e c = record {
  before = c.before;
  after = c.after;
  place = c.place;
  target = (tells_targets e v).1 c.target;
  lowest = among_all es (λ f k t. c.lowest f (rank e) (rank f) k ((tells_targets f v).0 t) (rank_ranks e) (rank_ranks f));
  first = among_all c.before (λ f k t. c.first f (rank e) (rank f) k ((tells_targets f v).0 t) (rank_ranks e) (rank_ranks f));
}

pub is_chosen : (es : List Bytes) (v : Variable) (e : Bytes) → IsChosen es v e → chosen es v ≡ some e
unfolding chosen
is_chosen es v e c = choice.some_chosen rank (λ f. targets f v) es e (choice_is es v e c)

-- and it stands behind those before it
pub is_placed : (es : List Bytes) (v : Variable) (e : Bytes) (c : IsChosen es v e) → place_of es e ≡ length c.before
is_placed es v e c = chosen_place v e es (choice_is es v e c)
