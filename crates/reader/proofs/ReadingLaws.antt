-- Laws of what a reader says of bytes. The good entries are the first bytes and could stand in a valid record (`good_front`, `good_entries`). With more bytes behind they stay
-- good (`good_more`), and no other is good where the reading has ended (`ended_stays`). Nothing else is there exactly if the bytes are a dump (`whole_dump`). Assumes nothing.
use Prim.Native.Nat.{ℕ, zero, suc, ◌+◌, ◌≤◌, ◌<◌}
use Rattle.std.proofs.Math.Path.{◌≡◌, refl, sym}
use Rattle.std.proofs.Common.{ap, ◌∙◌, arith, take-append-drop, take_all, take_at, drop_at, length-take-le}
use mathlib.Core.List.{List, [], ◌∷◌, ◌++◌, append_assoc, append-nil, append_cancel_left}
use Rattle.std.specs.Prelude.{Bool, ◌||◌, ◌⊎◌, ◌↔◌, take, drop, eqb, leb, ltb}
use Rattle.std.proofs.Math.Bool.{true, false, cond, or-true}
use Rattle.std.proofs.lemmas.Bool.{false≢true}
use Rattle.std.proofs.Math.Logic.{inl, inr}
use Rattle.std.proofs.Math.ListN.{length, length-append}
use Rattle.std.proofs.Math.Seq.{take-append_seam, take-append-le}
use Rattle.std.proofs.lemmas.List.{drop-append-le}
use borrow.Author.Tests.{eq-eqb, ne_eqb, le-leb, lt-ltb, eqb-true, leb-true, ltb-true, not-true}
use Rattle.limits.specs.Limits.{size_at, entry_header, max_entry_bytes, max_entries, policy_bytes}
use Rattle.lists.specs.Lists.{All, nil, more}
use Rattle.lists.proofs.ListsLaws.{all_here, Less, less}
use Rattle.slices.proofs.TestLaws.{and_left, and_right, and_intro, or_cases, forced_off}
use Rattle.slices.specs.Bytes.{Bytes, le16}
use Rattle.slices.proofs.NumberLaws.{le16_take}
use Rattle.slices.specs.Chunks.{flat, contains, distinct}
use Rattle.slices.proofs.ChunksLaws.{flat_append, flat_chunks}
use Rattle.slices.proofs.ItemsLaws.{distinct_repeated}
use Rattle.entry.specs.Entry.{size_field, well_formed, same_target}
use Rattle.entry.proofs.EntryLaws.{sized, well_formed_header, same_target-sym}
use Rattle.policy.specs.Policy.{length_by, entry_length, entries_of, sizes_sum}
use Rattle.policy.proofs.PolicyLaws.{WellFormed, Entries, entry_length-begins, entry_length-within, items_by, entries_of-stop, entries_of-step, entries_of-formed, entries_append}
use Rattle.policy.specs.Dump.{dump_valid}
use Rattle.policy.proofs.DumpLaws.{dump_flat, dump_entries, entries_of-flat, entries_dump}
use Rattle.reader.specs.Reading.{may_follow, good_from, good_of, good_bytes, behind, decided, ended, verdict_of}

-- ---- an entry that may stand behind others
pub entries_follow : (es : List Bytes) (e : Bytes) (l : List Bytes) → Entries (es ++ (e ∷ l)) → may_follow es e ≡ true
unfolding may_follow flat
entries_follow es e l a =
    let n = simp length-append at a.few in
    let m = simp (flat_append, length-append) at a.room in
    let c = forced_off (contains (same_target e) es) (λ t. sym (distinct_repeated same_target same_target-sym es e l t) ∙ a.apart) in
    and_intro _ _ (lt-ltb (length es) max_entries (omega arith)) (and_intro _ _ (le-leb (length (flat es) + length e) policy_bytes (omega arith)) (rw c))

pub record Follows (es : List Bytes) (e : Bytes) : Type 0 where
  pub few : length es < max_entries
  pub room : length (flat es) + length e ≤ policy_bytes
  pub apart : contains (same_target e) es ≡ false

pub follows_is : (es : List Bytes) (e : Bytes) → may_follow es e ≡ true → Follows es e
unfolding may_follow
follows_is es e j =
    let k = and_right _ _ j in
    record {
      few = ltb-true (length es) max_entries (and_left _ _ j);
      room = leb-true (length (flat es) + length e) policy_bytes (and_left _ _ k);
      apart = not-true (contains (same_target e) es) (and_right _ _ k);
    }

pub follows_entries : (es : List Bytes) (e : Bytes) → Entries es → WellFormed e → may_follow es e ≡ true → Entries (es ++ (e ∷ []))
follows_entries es e a w j =
    let k = follows_is es e j in
    entries_append es e a w k.apart k.few k.room

-- ---- of entries behind others those up to the first that may not stand there
pub good_from-entries : (es l : List Bytes) → Entries es → All WellFormed l → Entries (es ++ good_from es l)
unfolding good_from
good_from-entries es [] a nil = rw (append-nil es) a
good_from-entries es (e ∷ l) a (more w f) = go (may_follow es e) refl (λ k. good_from-entries (es ++ (e ∷ [])) l k f)
  where
    go : (b : Bool) → may_follow es e ≡ b → (Entries (es ++ (e ∷ [])) → Entries ((es ++ (e ∷ [])) ++ good_from (es ++ (e ∷ [])) l))
        → Entries (es ++ cond b (e ∷ good_from (es ++ (e ∷ [])) l) [])
    go true j ih = rw append_assoc at (ih (follows_entries es e a w j))
    go false j ih = rw (append-nil es) a

-- they are the first, and what is behind them
good_from-first : (es l : List Bytes) → good_from es l ++ drop (length (good_from es l)) l ≡ l
unfolding good_from
good_from-first es [] = refl
good_from-first es (e ∷ l) = go (may_follow es e) (good_from (es ++ (e ∷ [])) l) (good_from-first (es ++ (e ∷ [])) l)
  where
    go : (b : Bool) (g : List Bytes) → g ++ drop (length g) l ≡ l → cond b (e ∷ g) [] ++ drop (length (cond b (e ∷ g) [])) (e ∷ l) ≡ e ∷ l
    go true g ih = ap (λ (m : List Bytes). e ∷ m) ih
    go false g ih = refl

-- where all may stand there, all are good, and then those behind
pub good_from-all : (es l : List Bytes) → Entries (es ++ l) → (m : List Bytes) → good_from es (l ++ m) ≡ l ++ good_from (es ++ l) m
unfolding good_from
good_from-all es [] a m = rw (append-nil es)
good_from-all es (e ∷ l) a m =
    let s = append_assoc es (e ∷ []) l in
    rw (entries_follow es e l a)
    (ap (λ (n : List Bytes). e ∷ n) (good_from-all (es ++ (e ∷ [])) l (rw s a) m ∙ rw s))

-- none is good where the first may not stand there
module _ (es : List Bytes) (p : Bytes) where
  pub first_refused : (n : ℕ) → entry_length p ≡ n → (0 < n → may_follow es (take n p) ≡ false) → good_from es (entries_of p) ≡ []
  unfolding good_from
  first_refused zero e h = rw (entries_of-stop p e)
  first_refused (suc n) e h = rw (entries_of-step (suc n) p e (omega arith), h (omega arith))

  pub refused_first : good_from es (entries_of p) ≡ [] → (n : ℕ) → entry_length p ≡ n → 0 < n → may_follow es (take n p) ≡ false
  unfolding good_from
  refused_first h n e k = go (may_follow es (take n p)) (sym (ap (good_from es) (entries_of-step n p e k)) ∙ h)
    where
      go : (b : Bool) → cond b (take n p ∷ good_from (es ++ (take n p ∷ [])) (entries_of (drop n p))) [] ≡ [] → b ≡ false
      go true q = let z : ◌≡◌ {A = ℕ} 0 1 = cc in absurd (omega arith)
      go false q = refl

-- ---- well-formed entries before other bytes
pub entry_whole : (e m : Bytes) → WellFormed e → entry_length (e ++ m) ≡ length e
entry_whole e m w = (all_here (items_by well_formed well_formed_header (e ∷ []) (more w nil))).whole m

entries_of-front : (es : List Bytes) (m : Bytes) → All WellFormed es → entries_of (flat es ++ m) ≡ es ++ entries_of m
unfolding flat
entries_of-front [] m nil = refl
entries_of-front (e ∷ es) m (more w a) =
    ap entries_of (append_assoc e (flat es) m)
    ∙ entries_of-step (length e) (e ++ (flat es ++ m)) (entry_whole e (flat es ++ m) w) (omega (arith, (sized e w).least))
    ∙ rw (take_at e (flat es ++ m) (length e) refl, drop_at e (flat es ++ m) (length e) refl, entries_of-front es m a)

-- an entry that does not reach into the bytes behind is an entry without them
entry_front : (p x : Bytes) (n : ℕ) → entry_length (p ++ x) ≡ n → 0 < n → n ≤ length p → entry_length p ≡ n
entry_front p x n e h k =
    let w : WellFormed (take n p) = rw (take-append-le n p x k) at (entry_length-begins n (p ++ x) e h).formed in
    ap entry_length (sym (take-append-drop n p)) ∙ entry_whole (take n p) (drop n p) w ∙ length-take-le n p k

-- ---- the good entries
none_entries : Entries []
unfolding flat distinct
none_entries = record { formed = nil; few = omega arith; room = omega arith; apart = refl }

pub good_entries : (d : Bytes) → Entries (good_of d)
unfolding good_of
good_entries d = good_from-entries [] (entries_of d) none_entries (entries_of-formed d)

pub good_few : (d : Bytes) → length (good_of d) ≤ max_entries
good_few d = (good_entries d).few

pub good_room : (d : Bytes) → good_bytes d ≤ policy_bytes
good_room d = (good_entries d).room

-- they are the first bytes
pub good_front : (d : Bytes) → take (good_bytes d) d ≡ flat (good_of d)
unfolding good_of
good_front d =
    let l = entries_of d in
    let g = good_from [] l in
    let r = flat (drop (length g) l) in
    let z = drop (sizes_sum d) d in
    let e : flat l ≡ flat g ++ r = ap flat (sym (good_from-first [] l)) ∙ flat_append g (drop (length g) l) in
    let s : d ≡ flat g ++ (r ++ z) = sym (take-append-drop (sizes_sum d) d) ∙ ap (λ (b : Bytes). b ++ z) (sym (flat_chunks entry_length entry_length-within d) ∙ e) ∙ append_assoc (flat g) r z in
    ap (take (length (flat g))) s ∙ take-append_seam (flat g) (r ++ z)

pub good_split : (d : Bytes) → d ≡ flat (good_of d) ++ behind d
good_split d = sym (take-append-drop (good_bytes d) d) ∙ ap (λ (b : Bytes). b ++ behind d) (good_front d)

pub good_lengths : (d : Bytes) → length d ≡ good_bytes d + length (behind d)
good_lengths d = ap length (good_split d) ∙ length-append (flat (good_of d)) (behind d)

pub good_within : (d : Bytes) → good_bytes d ≤ length d
good_within d = omega (arith, good_lengths d)

-- ---- more bytes behind
pub good_behind : (es : List Bytes) (m : Bytes) → Entries es → good_of (flat es ++ m) ≡ es ++ good_from es (entries_of m)
unfolding good_of
good_behind es m a = ap (good_from []) (entries_of-front es m a.formed) ∙ good_from-all [] es a (entries_of m)

-- WHAT IS GOOD STAYS GOOD, and the rest is judged behind it
pub good_more : (d q : Bytes) → good_of (d ++ q) ≡ good_of d ++ good_from (good_of d) (entries_of (behind d ++ q))
good_more d q =
    ap good_of (ap (λ (b : Bytes). b ++ q) (good_split d) ∙ append_assoc (flat (good_of d)) (behind d) q)
    ∙ good_behind (good_of d) (behind d ++ q) (good_entries d)

-- and behind them no other is
pub good_end : (d : Bytes) → good_from (good_of d) (entries_of (behind d)) ≡ []
good_end d =
    append_cancel_left (good_of d) (good_from (good_of d) (entries_of (behind d))) []
    (sym (good_behind (good_of d) (behind d) (good_entries d)) ∙ ap good_of (sym (good_split d)) ∙ sym (append-nil (good_of d)))

-- the same entries are good where one that reaches into the bytes behind is past the limit
module _ (d x : Bytes) where
  good_same : ((n : ℕ) → entry_length (behind d ++ x) ≡ n → length (behind d) < n → policy_bytes < good_bytes d + n) → good_of (d ++ x) ≡ good_of d
  good_same h = good_more d x ∙ ap (λ (l : List Bytes). good_of d ++ l) (first_refused (good_of d) (behind d ++ x) n refl (λ k. go k (less (length (behind d)) n))) ∙ append-nil (good_of d)
    where
      n : ℕ
      n = entry_length (behind d ++ x)

      go : 0 < n → Less (length (behind d)) n → may_follow (good_of d) (take n (behind d ++ x)) ≡ false
      go k (inl l) =
          let m : length (take n (behind d ++ x)) ≡ n = length-take-le n (behind d ++ x) (entry_length-within (behind d ++ x)) in
          forced_off (may_follow (good_of d) (take n (behind d ++ x))) (λ j. absurd (omega (arith, m, h n refl l.0, (follows_is (good_of d) (take n (behind d ++ x)) j).room)))
      go k (inr l) =
          rw (take-append-le n (behind d) x l.0)
          (refused_first (good_of d) (behind d) (good_end d) n (entry_front (behind d) x n refl k l.0) k)

  pub good_past : policy_bytes ≤ length d → good_of (d ++ x) ≡ good_of d
  good_past h = good_same (λ n e l. omega (arith, good_lengths d))

-- ---- it is decided what the bytes begin with
pub record Decided (p : Bytes) : Type 0 where
  pub header : entry_header ≤ length p
  pub size : (size_field p ≤ length p) ⊎ (max_entry_bytes < size_field p)

pub decided_is : (p : Bytes) → decided p ≡ true → Decided p
unfolding decided
decided_is p c =
    record { header = leb-true entry_header (length p) (and_left _ _ c); size = go (or_cases (leb (size_field p) (length p)) (ltb max_entry_bytes (size_field p)) (and_right _ _ c)) }
  where
    go : (leb (size_field p) (length p) ≡ true) ⊎ (ltb max_entry_bytes (size_field p) ≡ true) → (size_field p ≤ length p) ⊎ (max_entry_bytes < size_field p)
    go (inl k) = inl (leb-true (size_field p) (length p) k)
    go (inr k) = inr (ltb-true max_entry_bytes (size_field p) k)

pub is_decided : (p : Bytes) → Decided p → decided p ≡ true
unfolding decided
is_decided p c = and_intro _ _ (le-leb _ _ c.header) (go c.size)
  where
    go : (size_field p ≤ length p) ⊎ (max_entry_bytes < size_field p) → (leb (size_field p) (length p) || ltb max_entry_bytes (size_field p)) ≡ true
    go (inl k) = rw (le-leb (size_field p) (length p) k)
    go (inr k) = rw (lt-ltb max_entry_bytes (size_field p) k) (or-true (leb (size_field p) (length p)))

pub undecided_none : (p : Bytes) → decided p ≡ false → entry_length p ≡ 0
undecided_none p c = go (entry_length p) refl
  where
    go : (n : ℕ) → entry_length p ≡ n → n ≡ 0
    go zero e = refl
    go (suc n) e =
        let b = entry_length-begins (suc n) p e (omega arith) in
        absurd (false≢true (sym c ∙ is_decided p (record { header = omega (arith, b.least, b.within); size = inl (omega (arith, b.field, b.within)) })))

pub undecided_entries : (p : Bytes) → decided p ≡ false → entries_of p ≡ []
undecided_entries p c = entries_of-stop p (undecided_none p c)

-- no entry has a Size over the most
oversized_none : (p : Bytes) → max_entry_bytes < size_field p → entry_length p ≡ 0
oversized_none p h = go (entry_length p) refl
  where
    go : (n : ℕ) → entry_length p ≡ n → n ≡ 0
    go zero e = refl
    go (suc n) e = let b = entry_length-begins (suc n) p e (omega arith) in absurd (omega (arith, b.field, b.most))

module _ (p x : Bytes) (c : decided p ≡ true) where
  size_more : size_field (p ++ x) ≡ size_field p
  size_more = sym (le16_take (length p) (p ++ x) size_at (omega (arith, (decided_is p c).header))) ∙ ap (λ (l : Bytes). le16 l size_at) (take-append_seam p x)

  pub decided_more : decided (p ++ x) ≡ true
  decided_more =
      let k = decided_is p c in
      is_decided (p ++ x) (record { header = rw length-append (omega (arith, k.header)); size = go k.size })
    where
      go : (size_field p ≤ length p) ⊎ (max_entry_bytes < size_field p) → (size_field (p ++ x) ≤ length (p ++ x)) ⊎ (max_entry_bytes < size_field (p ++ x))
      go (inl k) = inl (rw (size_more, length-append) (omega arith))
      go (inr k) = inr (rw size_more k)

  pub decided_length : entry_length (p ++ x) ≡ entry_length p
  unfolding length_by
  decided_length = go (decided_is p c).size
    where
      go : (size_field p ≤ length p) ⊎ (max_entry_bytes < size_field p) → entry_length (p ++ x) ≡ entry_length p
      go (inl k) =
          let l : size_field p ≤ length (p ++ x) = rw length-append (omega arith) in
          rw (size_more, le-leb (size_field p) (length p) k, le-leb (size_field p) (length (p ++ x)) l, take-append-le (size_field p) p x k)
      go (inr k) = oversized_none (p ++ x) (rw size_more k) ∙ sym (oversized_none p k)

pub decided_ended : (d : Bytes) → decided (behind d) ≡ true → ended d ≡ true
unfolding ended
decided_ended d c = rw c (or-true (ltb policy_bytes (length d)))

pub past_ended : (d : Bytes) → policy_bytes < length d → ended d ≡ true
unfolding ended
past_ended d l = rw (lt-ltb policy_bytes (length d) l)

-- ---- no bytes behind change which entries are good
abbrev pub Ends : Bytes → Type 0
Ends d = (policy_bytes < length d) ⊎ (decided (behind d) ≡ true)

module _ (d : Bytes) (e : ended d ≡ true) where
  pub ends : Ends d
  unfolding ended
  ends = go (or_cases (ltb policy_bytes (length d)) (decided (behind d)) e)
    where
      go : (ltb policy_bytes (length d) ≡ true) ⊎ (decided (behind d) ≡ true) → Ends d
      go (inl h) = inl (ltb-true policy_bytes (length d) h)
      go (inr c) = inr c

  -- and a bad one is among them
  pub ended_bad : good_bytes d < length d
  ended_bad = go ends
    where
      go : Ends d → good_bytes d < length d
      go (inl h) = omega (arith, good_room d)
      go (inr c) = omega (arith, good_lengths d, (decided_is (behind d) c).header)

  pub not_whole : eqb (good_bytes d) (length d) ≡ false
  not_whole = ne_eqb (good_bytes d) (length d) (λ q. omega (arith, ended_bad))

module _ (d x : Bytes) (e : ended d ≡ true) where
  pub ended_stays : good_of (d ++ x) ≡ good_of d
  ended_stays = go (ends d e)
    where
      go : Ends d → good_of (d ++ x) ≡ good_of d
      go (inl h) = good_past d x (omega arith)
      go (inr c) = good_same d x (λ n k l. absurd (omega (arith, decided_length (behind d) x c, entry_length-within (behind d))))

  ended_behind : behind (d ++ x) ≡ behind d ++ x
  ended_behind = ap (λ (l : List Bytes). drop (length (flat l)) (d ++ x)) ended_stays ∙ drop-append-le (good_bytes d) d x (good_within d)

  pub ended_more : ended (d ++ x) ≡ true
  unfolding ended
  ended_more = go (ends d e)
    where
      go : Ends d → (ltb policy_bytes (length (d ++ x)) || decided (behind (d ++ x))) ≡ true
      go (inl h) = rw (lt-ltb policy_bytes (length (d ++ x)) (rw length-append (omega arith)))
      go (inr c) = rw (ended_behind, decided_more (behind d) x c) (or-true (ltb policy_bytes (length (d ++ x))))

  pub ended_verdict : verdict_of (d ++ x) ≡ verdict_of d
  unfolding verdict_of
  ended_verdict = rw (not_whole (d ++ x) ended_more, not_whole d e, ended_more, e, ended_stays)

-- what was found good is found good with any bytes behind
pub good_grows : (d x : Bytes) → (l : List Bytes) × (good_of (d ++ x) ≡ good_of d ++ l)
good_grows d x = (good_from (good_of d) (entries_of (behind d ++ x)), good_more d x)

-- ---- against the rule of dumps (RULES.md, 10.11)
-- the bytes of entries that a valid record could hold are read as these
pub entries_read : (es : List Bytes) → Entries es → good_of (flat es) ≡ es
unfolding good_of good_from
entries_read es a =
    ap (good_from []) (entries_of-flat es a.formed ∙ sym (append-nil es)) ∙ good_from-all [] es a [] ∙ append-nil es

pub dump_good : (d : Bytes) → dump_valid d ≡ true → good_of d ≡ entries_of d
dump_good d v = ap good_of (sym (dump_flat d v)) ∙ entries_read (entries_of d) (dump_entries d v)

-- nothing but good entries
pub whole_flat : (d : Bytes) → (verdict_of d).whole ≡ true → flat (good_of d) ≡ d
unfolding verdict_of
whole_flat d w = sym (good_front d) ∙ take_all (good_bytes d) d (omega (arith, eqb-true (good_bytes d) (length d) w))

pub flat_whole : (d : Bytes) → flat (good_of d) ≡ d → (verdict_of d).whole ≡ true
unfolding verdict_of
flat_whole d e = eq-eqb (good_bytes d) (length d) (ap length e)

-- A DUMP IS WHAT IS READ AS WHOLE
pub whole_dump : (d : Bytes) → (verdict_of d).whole ≡ true ↔ dump_valid d ≡ true
whole_dump d = (
  (λ w. rw (whole_flat d w) at (entries_dump (good_of d) (good_entries d))),
  λ v. flat_whole d (ap flat (dump_good d v) ∙ dump_flat d v),
)
