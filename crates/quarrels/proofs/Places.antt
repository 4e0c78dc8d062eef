-- Places of a dump that quarrel: they are in one group, and what was noted of them agrees. And the search over pairs of places as it goes on: `Clear` is what is
-- known where it has come to a pair, with one law for each way on. Assumes nothing.
use Prim.Native.Nat.{ℕ, zero, suc, ◌+◌, ◌-◌, ◌≤◌, ◌<◌}
use mathlib.Core.Path.{◌≡◌, refl, sym, ap, ap₂, subst⁻¹, ◌∙◌}
use mathlib.Core.List.{List, [], ◌∷◌}
use mathlib.Core.Bool.{true, false}
use Rattle.std.specs.Prelude.{Some, None}
use mathlib.Core.Logic.{inl, inr}
use native.Mathlib.Omega.{arith}
use lib.ListN.{length, get_or}
use lib.Bits.{bit_and, bit_xor}
use lib.Dec.{eqb}
use borrow.Author.Tests.{eq-eqb, eqb-false}
use Rattle.limits.specs.Limits.{max_entries}
use Rattle.lists.specs.Lists.{All, nil, more}
use Rattle.lists.proofs.ListsLaws.{Less, less, all_left, all_right}
use Rattle.slices.proofs.TestLaws.{forced_off}
use Rattle.slices.specs.Bytes.{Bytes, AreBytes}
use Rattle.slices.proofs.PartLaws.{bytes_part}
use Rattle.slices.specs.Chunks.{flat}
use Rattle.names.proofs.TailLaws.{InBytes}
use Rattle.patterns.specs.Signs.{has_sign}
use Rattle.patterns.specs.Common.{same_signs}
use Rattle.patterns.specs.Literals.{literal_mask_of, literals_of}
use Rattle.entry.specs.Entry.{offset_to_name, name_of}
use Rattle.policy.specs.Policy.{entries_of}
use Rattle.policy.specs.Dump.{dump_valid}
use Rattle.policy.proofs.DumpLaws.{dump_flat, dump_entries}
use Rattle.quarrels.specs.Pairs.{pair}
use Rattle.quarrels.proofs.PairsLaws.{Before, no_pair_exactly, first_found}
use Rattle.quarrels.specs.Quarrel.{quarrel_at, pair_of}
use Rattle.quarrels.proofs.QuarrelLaws.{at, all_at, formed_at, apart_at}
use Rattle.quarrels.proofs.PlainLaws.{dump_plain}
use Rattle.quarrels.specs.Group.{groups, group_of, group_at, InGroup, Next, Chains, Others, front, tails_at, Noted, differing, Skipped, stay, on}
use Rattle.quarrels.proofs.Tests.{Distinct, grouped, one_group, tails_agree, fronts_agree, literals_none, signs_differ}

-- ---- bytes
are_bytes_lem : (l : Bytes) → ((k : ℕ) → get_or l k 0 < 256) → AreBytes l
are_bytes_lem [] h = nil
are_bytes_lem (b ∷ l) h = more (h 0) (are_bytes_lem l (λ k. h (suc k)))

in_bytes : (l : Bytes) → AreBytes l → InBytes l
in_bytes [] a k h = absurd (omega arith)
in_bytes (b ∷ l) (more p a) zero h = p
in_bytes (b ∷ l) (more p a) (suc k) h = in_bytes l a k (omega arith)

bytes_flat : (es : List Bytes) → AreBytes (flat es) → All AreBytes es
unfolding flat
bytes_flat [] a = nil
bytes_flat (e ∷ es) a = more (all_left e (flat es) a) (bytes_flat es (all_right e (flat es) a))

name_bytes : (e : Bytes) → AreBytes e → InBytes (name_of e)
unfolding name_of
name_bytes e a = in_bytes _ (bytes_part (offset_to_name e) (length e - 2) e a)

-- no pair before i, j quarrels
abbrev pub Clear : List Bytes → ℕ → ℕ → Type 0
Clear es i j = (x y : ℕ) → x < y → y < length es → Before x y i j → quarrel_at es x y ≡ false

-- so it is where the search is at a place of the group of i, or has come to the end of its chain
pub record Walks (es : List Bytes) (i j : ℕ) : Type 0 where
  pub inside : j < length es → InGroup es i j
  pub clear : Clear es i j

module _ (d : Bytes) (v : dump_valid d ≡ true) (b : (k : ℕ) → get_or d k 0 < 256) where
  abbrev es : List Bytes
  es = entries_of d

  abbrev n : ℕ
  n = length es

  bytes_at : (k : ℕ) → k < n → InBytes (name_of (at es k))
  bytes_at k h = name_bytes (at es k) (all_at es (bytes_flat es (subst⁻¹ AreBytes (dump_flat d v) (are_bytes_lem d b))) k h)

  -- two places that quarrel
  module _ (i j : ℕ) (o : i < j) (w : j < n) (q : quarrel_at es i j ≡ true) where
    both : Distinct (at es i) (at es j)
    both =
        record {
          first = formed_at es (dump_entries d v) i (omega arith);
          second = formed_at es (dump_entries d v) j w;
          first_bytes = bytes_at i (omega arith);
          second_bytes = bytes_at j w;
          apart = apart_at es (dump_entries d v) i j o w;
        }

    in_a_group : group_at es i < groups
    in_a_group = grouped (at es i) (at es j) both q

    in_one_group : group_at es j ≡ group_at es i
    in_one_group = one_group (at es i) (at es j) both q

    last_units : bit_and (literals_of (name_of (at es i))) (literal_mask_of (name_of (at es j))) ≡ bit_and (literals_of (name_of (at es j))) (literal_mask_of (name_of (at es i)))
    last_units = tails_agree (at es i) (at es j) both q

    first_units : bit_and (literals_of (front (name_of (at es i)))) (literal_mask_of (front (name_of (at es j)))) ≡ bit_and (literals_of (front (name_of (at es j)))) (literal_mask_of (front (name_of (at es i))))
    first_units = fronts_agree (at es i) (at es j) both q

    other_signs : same_signs (name_of (at es i)) (name_of (at es j)) ≡ true → ⊥
    other_signs = signs_differ (at es i) (at es j) both q

  -- where no unit of the dump is '#' no two do
  pub none_signed : has_sign d ≡ false → None ≡ pair_of es
  unfolding group_of
  none_signed z =
      sym ((no_pair_exactly (quarrel_at es) n).1 (λ i j o w. forced_off (quarrel_at es i j) (λ q.
      let g = in_a_group i j o w q in
      let e = rw (eq-eqb _ 0 (dump_plain d v z i (omega arith))) at g in absurd (omega arith))))

  -- what was noted of two places of one group differs: they do not quarrel
  module _ (masks shown : List ℕ) (i j : ℕ) (m : Noted literal_mask_of es masks 0) (s : Noted literals_of es shown 0) (g : InGroup es i j) where
    before : i < n
    before = omega (arith, g.order, g.within)

    grouped_too : group_at es j < groups
    grouped_too = omega (arith, g.grouped, g.one)

    pub fronts_differ : eqb (bit_and (get_or shown i 0) (get_or masks j 0)) (bit_and (get_or shown j 0) (get_or masks i 0)) ≡ false → false ≡ quarrel_at es i j
    fronts_differ h =
        sym (forced_off (quarrel_at es i j) (λ q. absurd (eqb-false _ _ h
        (ap₂ bit_and (s.fronts i (omega arith) before g.grouped) (m.fronts j (omega arith) g.within grouped_too) ∙ first_units i j g.order g.within q
        ∙ sym (ap₂ bit_and (s.fronts j (omega arith) g.within grouped_too) (m.fronts i (omega arith) before g.grouped))))))

    -- the same by the bits that differ
    bits_differ : (differing masks shown (get_or shown i 0) (get_or masks i 0) j ≡ 0 → ⊥) → quarrel_at es i j ≡ false
    bits_differ h =
        forced_off (quarrel_at es i j) (λ q. absurd (h
        (ap₂ bit_and (ap₂ bit_and (ap₂ bit_xor (s.fronts j (omega arith) g.within grouped_too) (s.fronts i (omega arith) before g.grouped)) (m.fronts j (omega arith) g.within grouped_too))
        (m.fronts i (omega arith) before g.grouped) ∙ literals_none (front (name_of (at es i))) (front (name_of (at es j))) (first_units i j g.order g.within q))))

    pub tails_differ : eqb (bit_and (get_or shown (tails_at + i) 0) (get_or masks (tails_at + j) 0)) (bit_and (get_or shown (tails_at + j) 0) (get_or masks (tails_at + i) 0)) ≡ false
        → false ≡ quarrel_at es i j
    tails_differ h =
        sym (forced_off (quarrel_at es i j) (λ q. absurd (eqb-false _ _ h
        (ap₂ bit_and (s.tails i (omega arith) before g.grouped) (m.tails j (omega arith) g.within grouped_too) ∙ last_units i j g.order g.within q
        ∙ sym (ap₂ bit_and (s.tails j (omega arith) g.within grouped_too) (m.tails i (omega arith) before g.grouped))))))

  -- ---- the search
  pub clear_start : Clear es 0 0
  clear_start x y o w (inl l) = absurd (omega arith)
  clear_start x y o w (inr l) = let k = l.1 in absurd (omega arith)

  -- all pairs of i were met
  pub clear_row : (i j : ℕ) → n ≤ j → Clear es i j → Clear es (i + 1) 0
  clear_row i j h c x y o w (inl l) = go (less x i)
    where
      go : Less x i → quarrel_at es x y ≡ false
      go (inl k) = c x y o w (inl k.0)
      go (inr k) = let e : x ≡ i = omega (arith, k.0) in let z : y < j = omega arith in c x y o w (inr (e, z))
  clear_row i j h c x y o w (inr l) = let k = l.1 in absurd (omega arith)

  -- the pairs of i up to j follow those before it
  clear_to : (i j : ℕ) → Clear es i 0 → ((y : ℕ) → i < y → y < n → y < j → quarrel_at es i y ≡ false) → Clear es i j
  clear_to i j k f x y o w (inl l) = k x y o w (inl l)
  clear_to i j k f x y o w (inr l) =
      let e : x ≡ i = l.0 in
      ap (λ m. quarrel_at es m y) e ∙ f y (omega arith) w l.1

  -- a place that is not of the group of i does not quarrel with it
  unlike : (i y : ℕ) → i < y → y < n → (group_at es i < groups → group_at es y ≡ group_at es i → ⊥) → quarrel_at es i y ≡ false
  unlike i y o w g = forced_off (quarrel_at es i y) (λ q. absurd (g (in_a_group i y o w q) (in_one_group i y o w q)))

  -- from a place to the first of its group with '#' elsewhere none quarrels with it
  pub walk_start : (first : List ℕ) (i : ℕ) {t : ℕ} → Others es first 0 → t ≡ get_or first i 0 → i < n → Clear es i 0 → Walks es i t
  walk_start first i c e h k = rw e (go (less (group_at es i) groups))
    where
      go : Less (group_at es i) groups → Walks es i (get_or first i 0)
      go (inl g) =
          record {
            inside = λ l. let a = c.there i (omega arith) h g.0 l in record { order = a.0; within = l; grouped = g.0; one = a.1 };
            clear = clear_to i _ k (λ y o w l. forced_off (quarrel_at es i y) (λ q. absurd (other_signs i y o w q (c.alike i y (omega arith) o w l g.0 (in_one_group i y o w q)))));
          }
      go (inr g) =
          let t = c.single i (omega arith) h g.0 in
          record { inside = λ l. absurd (omega arith); clear = clear_to i _ k (λ y o w l. unlike i y o w (λ x e. let z = g.0 in omega arith)) }

  module _ (next : List ℕ) (c : Chains (group_at es) n next 0) (i : ℕ) where
    module _ (j : ℕ) (l : j < n) (w : Walks es i j) where
      own : InGroup es i j
      own = w.inside l

      after : Next (group_at es) n j (get_or next j 0)
      after = c.linked j (omega arith) l (omega (arith, own.grouped, own.one))

      pub walk_step : {t : ℕ} → t ≡ get_or next j 0 → quarrel_at es i j ≡ false → Walks es i t
      walk_step e q =
          rw e
          (record {
            inside = λ k. let a = after.alike k in record { order = omega (arith, own.order, a.0); within = k; grouped = own.grouped; one = a.1 ∙ own.one };
            clear = clear_to i _ (λ x y o w' p. w.clear x y o w' (first p)) (λ y o w' p. behind y o w' p (less y j) (less j y));
          })
        where
          first : {x y : ℕ} → Before x y i 0 → Before x y i j
          first (inl p) = inl p
          first (inr p) = let z = p.1 in absurd (omega arith)

          behind : (y : ℕ) → i < y → y < n → y < get_or next j 0 → Less y j → Less j y → quarrel_at es i y ≡ false
          behind y o w' p (inl a) _ = w.clear i y o w' (inr (refl, a.0))
          behind y o w' p (inr a) (inr b) = let e : y ≡ j = omega (arith, a.0, b.0) in ap (quarrel_at es i) e ∙ q
          behind y o w' p (inr a) (inl b) = unlike i y o w' (λ x e. after.alone y b.0 w' p (e ∙ sym own.one))

    -- past the end of the dump there is nothing more to meet
    walk_end : (j : ℕ) → n ≤ j → j < get_or next j 0 → Walks es i j → Walks es i (get_or next j 0)
    walk_end j h l w = record { inside = λ k. absurd (omega arith); clear = λ x y o u p. w.clear x y o u (nearer y u p) }
      where
        nearer : {x : ℕ} (y : ℕ) → y < n → Before x y i (get_or next j 0) → Before x y i j
        nearer y u (inl p) = inl p
        nearer y u (inr p) = inr (p.0, omega arith)

    -- places in whose first units what counts differs are passed by
    module _ (masks shown : List ℕ) (m : Noted literal_mask_of es masks 0) (s : Noted literals_of es shown 0) where
      walk_past : (j : ℕ) → j < max_entries → (differing masks shown (get_or shown i 0) (get_or masks i 0) j ≡ 0 → ⊥) → Walks es i j → Less j n → Walks es i (get_or next j 0)
      walk_past j u d w (inl l) = walk_step j l.0 w refl (bits_differ masks shown i j m s (w.inside l.0) d)
      walk_past j u d w (inr h) = walk_end j h.0 (c.rises j u).0 w

      pub walk_skip : {from r : ℕ} → Skipped next masks shown (get_or shown i 0) (get_or masks i 0) from r → Walks es i from → Walks es i r
      walk_skip stay w = w
      walk_skip (on {j} p u d) w = walk_past j u d (walk_skip p w) (less j n)

  -- the pair found
  pub found_here : (i j : ℕ) → j < n → Walks es i j → quarrel_at es i j ≡ true → Some (pair i j) ≡ pair_of es
  found_here i j l w q = sym (first_found (quarrel_at es) n i j (w.inside l).order l q w.clear)

  pub found_none : (i : ℕ) → n ≤ i → Clear es i 0 → None ≡ pair_of es
  found_none i h c = sym ((no_pair_exactly (quarrel_at es) n).1 (λ x y o w. c x y o w (inl (omega arith))))
