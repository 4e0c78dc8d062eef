-- A reader says that all is good, or where the first bad entry begins, exactly where the rule in propositions does: `all_good_exactly`, `first_bad_exactly`. Of all bytes one
-- of both holds (`good_or_bad`), and an entry is bad exactly for one of the reasons (`none_follows_exactly`). Assumes nothing.
use Rattle.std.specs.Prelude.{ℕ, zero, suc, ◌+◌, ◌≤◌, ◌<◌, ◌≡◌, refl, List, [], ◌∷◌, ◌++◌, Bool, true, false, ◌⊎◌, ◌↔◌, length, take, drop}
use Rattle.std.proofs.Common.{sym, ap, subst, ◌∙◌, append-nil, true≢false, inl, inr, arith, length-append, take-append-drop, take_at, drop_at, ne_eqb}
use Rattle.std.proofs.lemmas.Bool.{false≢true, eqb-false}
use Rattle.limits.specs.Limits.{max_entries, policy_bytes}
use Rattle.lists.proofs.ListsLaws.{Less, less}
use Rattle.slices.proofs.TestLaws.{forced_off}
use Rattle.slices.specs.Bytes.{Bytes}
use Rattle.slices.specs.Chunks.{flat, contains}
use Rattle.entry.specs.Entry.{same_target}
use Rattle.entry.proofs.EntryLaws.{sized}
use Rattle.policy.specs.Policy.{entry_length}
use Rattle.policy.proofs.PolicyLaws.{Entries, entry_length-begins, entries_append}
use Rattle.reader.specs.Reading.{may_follow, good_of, good_bytes, behind, ended, verdict_of}
use Rattle.reader.proofs.ReadingLaws.{Follows, follows_is, follows_entries, entries_follow, first_refused, refused_first, entry_whole, good_entries, good_split, good_lengths, good_behind, good_end, entries_read, whole_flat, flat_whole, Ends, ends, not_whole, decided_is, is_decided, decided_ended, past_ended}
use Rattle.reader.specs.Bad.{Stands, AllGood, BeginsWith, NoneFollows, FirstBad, HasEnded, past, met, Reason, malformed, repeated, too_many, too_long}

-- ---- the well-formed entry that the bytes begin with: there is at most one
begins : (n : ℕ) (p : Bytes) → entry_length p ≡ n → 0 < n → BeginsWith (take n p) p
begins n p e h = record { formed = (entry_length-begins n p e h).formed; behind = drop n p; split = sym (take-append-drop n p) }

module _ (e p : Bytes) (b : BeginsWith e p) where
  begins_length : entry_length p ≡ length e
  begins_length = ap entry_length b.split ∙ entry_whole e b.behind b.formed

  begins_some : 0 < length e
  begins_some = omega (arith, (sized e b.formed).least)

  begins_take : take (length e) p ≡ e
  begins_take = ap (take (length e)) b.split ∙ take_at e b.behind (length e) refl

begins_one : (e f p : Bytes) → BeginsWith e p → BeginsWith f p → e ≡ f
begins_one e f p b c =
    sym (begins_take e p b) ∙ ap (λ (n : ℕ). take n p) (sym (begins_length e p b) ∙ begins_length f p c) ∙ begins_take f p c

-- ---- what a reader finds good, in propositions
good_none : (d : Bytes) → NoneFollows (good_of d) (behind d)
good_none d e b a =
    let j = refused_first (good_of d) (behind d) (good_end d) (length e) (begins_length e (behind d) b) (begins_some e (behind d) b) in
    false≢true (sym j ∙ ap (may_follow (good_of d)) (begins_take e (behind d) b) ∙ entries_follow (good_of d) e [] a)

stands_good : (d : Bytes) (es : List Bytes) (rest : Bytes) → Stands es d rest → NoneFollows es rest → good_of d ≡ es
stands_good d es rest s h =
    ap good_of s.split ∙ good_behind es rest s.entries ∙ ap (λ (l : List Bytes). es ++ l) (first_refused es rest (entry_length rest) refl off) ∙ append-nil es
  where
    off : 0 < entry_length rest → may_follow es (take (entry_length rest) rest) ≡ false
    off k =
        let b = begins (entry_length rest) rest refl k in
        forced_off (may_follow es (take (entry_length rest) rest)) (λ j. absurd (h _ b (follows_entries es _ s.entries b.formed j)))

-- ALL IS GOOD
pub all_good_exactly : (d : Bytes) (es : List Bytes) → (((verdict_of d).whole ≡ true) × ((verdict_of d).entries ≡ length es) × ((verdict_of d).bytes ≡ length d) × (good_of d ≡ es)) ↔ AllGood d es
unfolding verdict_of
all_good_exactly d es = (
  (λ h. record { entries = subst Entries h.3 (good_entries d); split = sym (whole_flat d h.0) ∙ ap flat h.3 ∙ sym (append-nil (flat es)) }),
  λ s.
      let f : d ≡ flat es = s.split ∙ append-nil (flat es) in
      let g : good_of d ≡ es = ap good_of f ∙ entries_read es s.entries in
      (flat_whole d (ap flat g ∙ sym f), ap length g, ap length (ap flat g ∙ sym f), g),
)

-- THE FIRST BAD ENTRY
bad_here : (d : Bytes) → (verdict_of d).whole ≡ false → FirstBad d (good_of d) (good_bytes d)
unfolding verdict_of
bad_here d w = record {
  rest = behind d;
  stands = record { entries = good_entries d; split = good_split d };
  place = refl;
  some = λ z. eqb-false (good_bytes d) (length d) w (omega (arith, good_lengths d, ap length z));
  bad = good_none d;
}

no_bytes : (p : Bytes) → length p ≡ 0 → p ≡ []
no_bytes [] e = refl
no_bytes (b ∷ p) e = absurd (omega arith)

bad_not_whole : (d : Bytes) (es : List Bytes) (at : ℕ) → FirstBad d es at → good_of d ≡ es → (verdict_of d).whole ≡ false
unfolding verdict_of
bad_not_whole d es at b g =
    ne_eqb (good_bytes d) (length d)
    (λ q. b.some (no_bytes b.rest (omega (arith, ap length b.stands.split ∙ length-append (flat es) b.rest, ap (λ (l : List Bytes). length (flat l)) g))))

pub first_bad_exactly : (d : Bytes) (es : List Bytes) (at : ℕ) → (((verdict_of d).whole ≡ false) × ((verdict_of d).entries ≡ length es) × ((verdict_of d).bytes ≡ at) × (good_of d ≡ es)) ↔ FirstBad d es at
unfolding verdict_of
first_bad_exactly d es at = (
  (λ h. subst (λ (l : List Bytes). FirstBad d l at) h.3 (subst (FirstBad d (good_of d)) h.2 (bad_here d h.0))),
  λ b.
      let g = stands_good d es b.rest b.stands b.bad in
      (bad_not_whole d es at b g, ap length g, ap (λ (l : List Bytes). length (flat l)) g ∙ sym b.place, g),
)

all_good : (d : Bytes) → (verdict_of d).whole ≡ true → AllGood d (good_of d)
all_good d w = record { entries = good_entries d; split = sym (whole_flat d w) ∙ sym (append-nil (flat (good_of d))) }

-- one of both, and not both
pub good_or_bad : (d : Bytes) → AllGood d (good_of d) ⊎ FirstBad d (good_of d) (good_bytes d)
good_or_bad d = go (verdict_of d).whole refl
  where
    go : (b : Bool) → (verdict_of d).whole ≡ b → AllGood d (good_of d) ⊎ FirstBad d (good_of d) (good_bytes d)
    go true w = inl (all_good d w)
    go false w = inr (bad_here d w)

pub not_both : (d : Bytes) (es fs : List Bytes) (at : ℕ) → AllGood d es → FirstBad d fs at → ⊥
not_both d es fs at s b = true≢false (sym ((all_good_exactly d es).1 s).0 ∙ ((first_bad_exactly d fs at).1 b).0)

-- THE READING HAS ENDED
pub ended_exactly : (d : Bytes) → ended d ≡ true ↔ HasEnded d
unfolding verdict_of bad_here
ended_exactly d = ((λ e. over e (ends d e)), back)
  where
    over : ended d ≡ true → Ends d → HasEnded d
    over e (inl l) = past l
    over e (inr c) = let k = decided_is (behind d) c in met (good_of d) (good_bytes d) (bad_here d (not_whole d e)) k.header k.size

    back : HasEnded d → ended d ≡ true
    back (past l) = past_ended d l
    back (met es at b h s) =
        let g = stands_good d es b.rest b.stands b.bad in
        let q : behind d ≡ b.rest =
        ap (λ (l : List Bytes). drop (length (flat l)) d) g ∙ ap (drop (length (flat es))) b.stands.split ∙ drop_at (flat es) b.rest (length (flat es)) refl in
        decided_ended d (rw q (is_decided b.rest (record { header = h; size = s })))

-- ---- why an entry is bad
module _ (es : List Bytes) (rest : Bytes) (a : Entries es) where
  none_reason : NoneFollows es rest → Reason es rest
  none_reason h = go (entry_length rest) refl
    where
      room : (e : Bytes) → BeginsWith e rest → length es < max_entries → length (flat es) + length e ≤ policy_bytes → (b : Bool) → contains (same_target e) es ≡ b → Reason es rest
      room e w n l true t = repeated e w t
      room e w n l false t = absurd (h e w (entries_append es e a w.formed t n l))

      few : (e : Bytes) → BeginsWith e rest → Less (length es) max_entries → Less policy_bytes (length (flat es) + length e) → Reason es rest
      few e w (inr n) l = too_many e w (omega (arith, n.0, a.few))
      few e w (inl n) (inl l) = too_long e w l.0
      few e w (inl n) (inr l) = room e w n.0 l.0 (contains (same_target e) es) refl

      go : (n : ℕ) → entry_length rest ≡ n → Reason es rest
      go zero q = malformed (λ e w. omega (arith, begins_length e rest w, begins_some e rest w))
      go (suc n) q = few (take (suc n) rest) (begins (suc n) rest q (omega arith)) (less (length es) max_entries) (less policy_bytes (length (flat es) + length (take (suc n) rest)))

  reason_none : Reason es rest → NoneFollows es rest
  reason_none r e w k = go (follows_is es e (entries_follow es e [] k)) r
    where
      go : Follows es e → Reason es rest → ⊥
      go j (malformed h) = h e w
      go j (repeated f v t) = true≢false (sym t ∙ ap (λ (c : Bytes). contains (same_target c) es) (begins_one f e rest v w) ∙ j.apart)
      go j (too_many f v n) = omega (arith, j.few)
      go j (too_long f v l) = omega (arith, j.room, ap length (begins_one f e rest v w))

  -- NO ENTRY FOLLOWS exactly for one of the reasons
  pub none_follows_exactly : NoneFollows es rest ↔ Reason es rest
  none_follows_exactly = (none_reason, reason_none)

pub bad_reason : {d : Bytes} {es : List Bytes} {at : ℕ} (b : FirstBad d es at) → Reason es b.rest
bad_reason {es = es} b = none_reason es b.rest b.stands.entries b.bad
