-- The computed report of a set and the one of Effects.antt agree: the computed one is one of them, and there is no other. Assumes nothing.
use Prim.Native.Nat.{ℕ, zero, suc, ◌+◌, ◌/◌, ◌%◌, ◌≤◌}
use Rattle.std.specs.Prelude.{◌≡◌, Some, None, List, Bool, ◌&&◌, cond, length}
use Rattle.std.proofs.Math.Path.{refl, subst, subst⁻¹}
use Rattle.std.proofs.Common.{sym, ap, ap₂, ◌∙◌, inl, inr}
use Rattle.std.proofs.Math.Bool.{true, false}
use Rattle.std.proofs.lemmas.Bool.{false≢true}
use Rattle.std.proofs.Math.Option.{some}
use native.Mathlib.Omega.{arith}
use Rattle.lists.proofs.ListsLaws.{Less, less}
use Rattle.slices.specs.Bytes.{Bytes}
use Rattle.entry.specs.Entry.{attributes_must_have, attributes_cant_have, rank}
use Rattle.policy.specs.Policy.{entries_of}
use Rattle.policy.specs.Choice.{chosen, place_of}
use Rattle.bits.specs.Bits.{is_set, how_many, least, is_missing, is_prohibited, missing_bits, prohibited_bits, lowest_bit}
use Rattle.bits.proofs.BitsLaws.{many_last, least_most, least_under, least_passes}
use Rattle.status.specs.declared.Status.{Status}
use Rattle.rules.specs.declared.Ground.{Ground}
use Rattle.rules.specs.declared.Ground.TheVariants.{SizeGround, AttributeGround, LockGround}
use Rattle.rules.specs.Decision.{Decision}
use Rattle.rules.specs.Decision.{Refuse, Block, Delete, Keep, Store}
use Rattle.rules.specs.declared.Report.{Report}
use Rattle.rules.specs.Set.{Request}
use Rattle.rules.proofs.DecisionLaws.{blocked_by}
use Rattle.rules.specs.Report.{report_of, report_for, decision_report}
use Rattle.rules.specs.Engine.{State, set_decision, status, set_report}
use Rattle.rules.specs.Engine.Call.{set}
use Rattle.rules.specs.Grounds.{Bit, Enforced, FirstAt}
use Rattle.rules.specs.Effects.{Count, Lowest, Missing, Prohibited, Offending, Speaks, Reports}
use Rattle.rules.specs.Effects.Count.{no, this, other}
use Rattle.rules.specs.Effects.Reports.{silent, by_size, by_attributes, by_lock}
use Rattle.rules.proofs.ConditionLaws.{Tells, tells_not, tells_or, tells_eq, tells_off, tells_rank, is_placed}
use Rattle.rules.proofs.FoundLaws.{entries_read, valid_entries}
use Rattle.rules.proofs.SetGroundsLaws.{EndsAt, set_ends, enforced_entry, entry_enforced}
use Rattle.rules.proofs.GroundsLaws.{one_place}
use Rattle.rules.proofs.ReportLaws.{GroundGiven, ground_given}

-- ---- bits, counts and the lowest

tells_set : (i a : ℕ) → Tells (is_set a i) (Bit i a)
unfolding is_set
tells_set zero a = tells_eq (a % 2) 1
tells_set (suc i) a = tells_set i (a / 2)

tells_both : (a b : Bool) {P Q : Type 0} → Tells a P → Tells b Q → Tells (a && b) (P × Q)
tells_both true b t u = ((λ e. (t.0 refl, u.0 e)), λ h. u.1 h.1)
tells_both false b t u = ((λ e. absurd (false≢true e)), λ h. absurd (false≢true (t.1 h.0)))

module _ (p : ℕ → Bool) (P : ℕ → Type 0) (t : (i : ℕ) → Tells (p i) (P i)) where
  counted : (k : ℕ) → Count P k (how_many p k)
  unfolding how_many
  counted zero = no
  counted (suc k) = subst⁻¹ (Count P (suc k)) (many_last k p) (go (p k) refl (counted k))
    where
      go : (b : Bool) → p k ≡ b → Count P k (how_many p k) → Count P (suc k) (cond {A = ℕ} b 1 0 + how_many p k)
      go true e c = let m : suc (how_many p k) ≡ 1 + how_many p k = omega arith in subst (Count P (suc k)) m (this ((t k).0 e) c)
      go false e c = let m : how_many p k ≡ 0 + how_many p k = omega arith in subst (Count P (suc k)) m (other (tells_off (p k) (t k) e) c)

  lowest : (k : ℕ) → Lowest P k (least p k)
  lowest k = record { most = least_most k p; is = λ l. (t _).0 (least_passes k p l); below = λ j l. tells_off (p j) (t j) (least_under k p j l) }

one_count : (P : ℕ → Type 0) (k m n : ℕ) → Count P k m → Count P k n → m ≡ n
one_count P zero m n no no = refl
one_count P (suc k) m n (this {n = x} h c) (this {n = y} j d) = ap suc (one_count P k x y c d)
one_count P (suc k) m n (this h c) (other j d) = absurd (j h)
one_count P (suc k) m n (other h c) (this j d) = absurd (h j)
one_count P (suc k) m n (other h c) (other j d) = one_count P k m n c d

one_lowest : (P : ℕ → Type 0) (k i j : ℕ) → Lowest P k i → Lowest P k j → i ≡ j
one_lowest P k i j a b = go (less i j) (less j i)
  where
    go : Less i j → Less j i → i ≡ j
    go (inl h) l = absurd (let m = h.0 in let n = b.most in b.below i m (a.is (omega arith)))
    go (inr h) (inl l) = absurd (let m = l.0 in let n = a.most in a.below j m (b.is (omega arith)))
    go (inr h) (inr l) = let x = h.0 in let y = l.0 in omega arith

-- ---- the entry that speaks

module _ (s : State) (r : Request) where
  abbrev entries : List Bytes
  entries = entries_of s.policy

  -- it stands behind as many as its place says
  behind : (e : Bytes) (w : Enforced s r e) → place_of entries e ≡ length w.choice.before
  behind e w =
      sym (ap (λ l. place_of l e) (entries_read s w.entries w.listed))
      ∙ is_placed w.entries r.variable e w.choice

  -- of a ground that is given
  abbrev speaks : (g : Ground) (w : GroundGiven s r g) → Speaks s r (place_of entries w.entry) (rank w.entry)
  speaks g w =
      let f = entry_enforced s r (valid_entries s w.policy) w.entry (rw w.enabled w.choice) in
      record { entry = w.entry; enforced = f; place = sym (behind w.entry f); ranks = (tells_rank w.entry (rank w.entry)).0 refl }

  some_one : (a b : Bytes) → some a ≡ some b → a ≡ b
  some_one a b e = cc

  -- there is one alone
  one_entry : {j k m n : ℕ} (a : Speaks s r j m) (b : Speaks s r k n) → a.entry ≡ b.entry
  one_entry a b = some_one a.entry b.entry (sym (enforced_entry s r a.entry a.enforced) ∙ enforced_entry s r b.entry b.enforced)

  place_is : {k n : ℕ} (a : Speaks s r k n) → k ≡ place_of entries a.entry
  place_is a = sym a.place ∙ sym (behind a.entry a.enforced)

  rank_is : {k n : ℕ} (a : Speaks s r k n) → n ≡ rank a.entry
  rank_is {n = n} a = sym ((tells_rank a.entry n).1 a.ranks)

  one_place_of : {j k m n : ℕ} (a : Speaks s r j m) (b : Speaks s r k n) → j ≡ k
  one_place_of a b = place_is a ∙ ap (place_of entries) (one_entry a b) ∙ sym (place_is b)

  one_rank : {j k m n : ℕ} (a : Speaks s r j m) (b : Speaks s r k n) → m ≡ n
  one_rank a b = rank_is a ∙ ap rank (one_entry a b) ∙ sym (rank_is b)

  -- ---- the computed report

  tells_missing : (e : Bytes) (i : ℕ) → Tells (is_missing (attributes_must_have e) r.attributes i) (Missing e r i)
  tells_missing e i = tells_both _ _ (tells_set i (attributes_must_have e)) (tells_not _ (tells_set i r.attributes))

  tells_prohibited : (e : Bytes) (i : ℕ) → Tells (is_prohibited (attributes_cant_have e) r.attributes i) (Prohibited e r i)
  tells_prohibited e i = tells_both _ _ (tells_set i (attributes_cant_have e)) (tells_set i r.attributes)

  spoken_reports : {n : Status} (g : Ground) (w : GroundGiven s r g) (at : ℕ) → FirstAt s (set r) at n → EndsAt (Some g) at → Reports s r n (report_for (Some g) (place_of entries w.entry) w.entry r.attributes)
  unfolding report_for missing_bits prohibited_bits lowest_bit
  spoken_reports {n} SizeGround w at f e = by_size (subst (λ k. FirstAt s (set r) k n) e f) (speaks SizeGround w)
  spoken_reports {n} AttributeGround w at f e =
      by_attributes (subst (λ k. FirstAt s (set r) k n) e f) (speaks AttributeGround w)
      (counted _ (Missing w.entry r) (tells_missing w.entry) 32)
      (counted _ (Prohibited w.entry r) (tells_prohibited w.entry) 32)
      (lowest _ (Offending w.entry r) (λ i. tells_or _ _ (tells_missing w.entry i) (tells_prohibited w.entry i)) 32)
  spoken_reports {n} LockGround w at f e = by_lock (subst (λ k. FirstAt s (set r) k n) e f) (speaks LockGround w)

  -- the computed report is one of them
  pub report_reports : Reports s r (status s (set r)) (set_report s r)
  report_reports = let f = set_ends s r in go (set_decision s r) refl f.place f.at f.ends
    where
      go : (d : Decision) → set_decision s r ≡ d → (at : ℕ) → FirstAt s (set r) at (status s (set r)) → EndsAt (blocked_by d) at
          → Reports s r (status s (set r)) (decision_report d entries (chosen entries r.variable) r.attributes)
      go (Refuse n) q at f e = silent at f e
      go (Block g) q at f e = let w = ground_given s r g q in rw w.choice (spoken_reports g w at f e)
      go Delete q at f e = silent at f e
      go Keep q at f e = silent at f e
      go Store q at f e = silent at f e

  -- ---- and the only one

  one_spoken : {n m : Status} (at : ℕ) → FirstAt s (set r) at n → EndsAt None at → (p : ℕ) → 41 ≤ p → p ≤ 43 → FirstAt s (set r) p m → ⊥
  one_spoken {n} {m} at f e p l h g = e (subst⁻¹ (λ k. (41 ≤ k) × (k ≤ 43)) (one_place s (set r) at p n m f g) (l, h))

  differ : {n m : Status} (j k : ℕ) → FirstAt s (set r) j n → FirstAt s (set r) k m → (j ≡ k → ⊥) → ⊥
  differ {n} {m} j k f g d = d (one_place s (set r) j k n m f g)

  same_spoken : (g : Ground) {j k m n : ℕ} → Speaks s r j m → Speaks s r k n → report_of (Some g) j m 0 0 0 ≡ report_of (Some g) k n 0 0 0
  same_spoken g a b = ap₂ (λ x y. report_of (Some g) x y 0 0 0) (one_place_of a b) (one_rank a b)

  same_attributes : {j k m n x₁ x₂ y₁ y₂ z₁ z₂ : ℕ} (a : Speaks s r j m) (b : Speaks s r k n)
      → Count (Missing a.entry r) 32 x₁ → Count (Prohibited a.entry r) 32 y₁ → Lowest (Offending a.entry r) 32 z₁
      → Count (Missing b.entry r) 32 x₂ → Count (Prohibited b.entry r) 32 y₂ → Lowest (Offending b.entry r) 32 z₂
      → report_of (Some AttributeGround) j m x₁ y₁ z₁ ≡ report_of (Some AttributeGround) k n x₂ y₂ z₂
  same_attributes {k = k} {n = n} {x₁ = x₁} {x₂ = x₂} {y₁ = y₁} {y₂ = y₂} {z₁ = z₁} {z₂ = z₂} a b c d l c' d' l' =
      let e = sym (one_entry a b) in
      ap₂ (λ x y. report_of (Some AttributeGround) x y x₁ y₁ z₁) (one_place_of a b) (one_rank a b)
      ∙ ap₂ (λ x y. report_of (Some AttributeGround) k n x y z₁)
      (one_count (Missing a.entry r) 32 x₁ x₂ c (subst (λ x. Count (Missing x r) 32 x₂) e c'))
      (one_count (Prohibited a.entry r) 32 y₁ y₂ d (subst (λ x. Count (Prohibited x r) 32 y₂) e d'))
      ∙ ap (λ z. report_of (Some AttributeGround) k n x₂ y₂ z) (one_lowest (Offending a.entry r) 32 z₁ z₂ l (subst (λ x. Lowest (Offending x r) 32 z₂) e l'))

  pub one_report : {n m : Status} (p q : Report) → Reports s r n p → Reports s r m q → p ≡ q
  one_report p q (silent j f e) (silent k g h) = refl
  one_report p q (silent j f e) (by_size g b) = absurd (one_spoken j f e 41 (omega arith) (omega arith) g)
  one_report p q (silent j f e) (by_attributes g b x y z) = absurd (one_spoken j f e 42 (omega arith) (omega arith) g)
  one_report p q (silent j f e) (by_lock g b) = absurd (one_spoken j f e 43 (omega arith) (omega arith) g)
  one_report p q (by_size f a) (silent k g h) = absurd (one_spoken k g h 41 (omega arith) (omega arith) f)
  one_report p q (by_size f a) (by_size g b) = same_spoken SizeGround a b
  one_report p q (by_size f a) (by_attributes g b x y z) = absurd (differ 41 42 f g (λ e. omega arith))
  one_report p q (by_size f a) (by_lock g b) = absurd (differ 41 43 f g (λ e. omega arith))
  one_report p q (by_attributes f a x y z) (silent k g h) = absurd (one_spoken k g h 42 (omega arith) (omega arith) f)
  one_report p q (by_attributes f a x y z) (by_size g b) = absurd (differ 42 41 f g (λ e. omega arith))
  one_report p q (by_attributes f a x y z) (by_attributes g b u v w) = same_attributes a b x y z u v w
  one_report p q (by_attributes f a x y z) (by_lock g b) = absurd (differ 42 43 f g (λ e. omega arith))
  one_report p q (by_lock f a) (silent k g h) = absurd (one_spoken k g h 43 (omega arith) (omega arith) f)
  one_report p q (by_lock f a) (by_size g b) = absurd (differ 43 41 f g (λ e. omega arith))
  one_report p q (by_lock f a) (by_attributes g b x y z) = absurd (differ 43 42 f g (λ e. omega arith))
  one_report p q (by_lock f a) (by_lock g b) = same_spoken LockGround a b
