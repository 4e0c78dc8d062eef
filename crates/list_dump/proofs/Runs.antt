-- The lines of entries that arrive in pieces are those of the entries read at once. Assumes nothing.
use Rattle.std.specs.Prelude.{ℕ, ◌+◌, ◌≤◌, ◌<◌, ◌≡◌, refl, Option, Some, None, List, [], ◌∷◌, ◌++◌, map, Bool, true, false, not, length, take, Result, Ok, Err, MatchResult, OnOk, IfErr, IsErrAnd, IfSome}
use Rattle.std.proofs.Common.{sym, ap, ◌∙◌, arith, append_assoc, append-nil, length-append, drop_at, inl, inr, subst, length-take-le, le-leb}
use Rattle.std.proofs.Math.Seq.{drop-length}
use Rattle.std.specs.Io.{ReadsAtMost}
use Rattle.std.specs.Io.KnownBytes.{Appends, Consumes, ReadConsumes, Keeps, IsAtEnd}
use Rattle.lists.specs.Lists.{All, nil, more}
use Rattle.lists.proofs.ListsLaws.{all_right}
use Rattle.limits.specs.Limits.{policy_bytes, max_piece}
use Rattle.slices.proofs.TestLaws.{and_intro}
use Rattle.slices.specs.Bytes.{Bytes}
use Rattle.slices.specs.Chunks.{flat, chunks, chunks_from}
use Rattle.slices.proofs.ChunksLaws.{flat_append, flat_one}
use Rattle.policy.proofs.PolicyLaws.{WellFormed}
use Rattle.reader.specs.declared.Verdict.{Verdict}
use Rattle.reader.specs.declared.Listing.{Listing}
use Rattle.reader.specs.Reading.{good_of, good_from, ended, verdict_of, listed}
use Rattle.reader.proofs.ReadingLaws.{good_entries, good_grows, past_ended, ended_stays, ended_verdict}
use Rattle.reader.proofs.ListingLaws.{listing_none, listing_entry}
use Rattle.reader.specs.Reader.{reader_bytes, is_piece, fresh, fed, after_feed, verdict_in, listing_in}
use Rattle.reader.specs.Pieces.{HandsOut, end, next}
use Rattle.reader.specs.HasRead.{HasRead}
use Rattle.reader.proofs.HasReadLaws.{fresh_read, fed_read, read_verdict, read_listing}
use Rattle.list_dump.specs.Lines.{entry_line, closing_line}
use Rattle.list_dump.specs.Runs.{listing_lines, entry_lines, dump_lines, Took, IsDone, AfterTurn, OnInput}
use Rattle.list_dump.specs.declared.Failure.{Failure}
use Rattle.list_dump.specs.declared.Failure.TheVariants.{Input, Output}

-- ---- known bytes
appends_none : (c : Option Bytes) → Appends c c []
appends_none None = tt
appends_none (Some x) = sym (append-nil x)

appends_more : (a b c : Option Bytes) (s t : Bytes) → Appends a b s → Appends b c t → Appends a c (s ++ t)
appends_more None b c s t p q = tt
appends_more (Some x) None c s t p q = absurd p
appends_more (Some x) (Some y) None s t p q = absurd q
appends_more (Some x) (Some y) (Some z) s t p q = q ∙ rw p (append_assoc x s t)

consumes_none : (c : Option Bytes) → Consumes c c []
consumes_none None = tt
consumes_none (Some x) = refl

consumes_more : (a b c : Option Bytes) (s t : Bytes) → Consumes a b s → Consumes b c t → Consumes a c (s ++ t)
consumes_more None b c s t p q = tt
consumes_more (Some x) None c s t p q = absurd p
consumes_more (Some x) (Some y) None s t p q = absurd q
consumes_more (Some x) (Some y) (Some z) s t p q = p ∙ rw q (sym (append_assoc s t z))

-- ---- lines
lines_more : (i : ℕ) (es fs : List Bytes) → listing_lines i (map listed (es ++ fs)) ≡ listing_lines i (map listed es) ++ listing_lines (i + length es) (map listed fs)
unfolding listing_lines
lines_more i [] fs = let e : i + 0 ≡ i = omega arith in rw e refl
lines_more i (e ∷ es) fs =
    let k : i + 1 + length es ≡ i + length (e ∷ es) = omega arith in
    rw (lines_more (i + 1) es fs, k) (sym (append_assoc (entry_line i (listed e)) (listing_lines (i + 1) (map listed es)) (listing_lines (i + length (e ∷ es)) (map listed fs))))

-- ---- the entries that a reader hands out from the end of the first ones, es, on
pub handed : {r d : Bytes} → HasRead r d → (es ms : List Bytes) → All WellFormed ms → good_of d ≡ es ++ ms → HandsOut r (length (flat es)) (map listed ms)
unfolding flat
handed {r} {d} h es [] nil e = end (read_listing h (length (flat es)) ∙ rw (e, append-nil es, drop-length (flat es)) listing_none)
handed {r} {d} h es (m ∷ ms) (more w a) e =
    let k : listing_in r (length (flat es)) ≡ Some (listed m) =
    read_listing h (length (flat es)) ∙ rw (e, flat_append es (m ∷ ms), drop_at (flat es) (m ++ flat ms) (length (flat es)) refl) (listing_entry m (flat ms) w) in
    next k (rw (flat_append es (m ∷ []), flat_one, length-append) at (handed h (es ++ (m ∷ [])) ms a (rw (append_assoc es (m ∷ []) ms) e)))

-- ---- while the lines of the entries ls are written: up to the entry i, which begins at byte at
pub record Listed (r : Bytes) (ls : List Listing) (index : ℕ) (output₀ : Option Bytes) (i at : ℕ) (output : Option Bytes) : Type 0 where
  pub ahead : List Listing
  pub hands : HandsOut r at ahead
  pub text : Bytes
  pub written : Appends output₀ output text
  pub lines : listing_lines index ls ≡ text ++ listing_lines i ahead

pub listed_start : (r : Bytes) (ls : List Listing) (index at : ℕ) (c : Option Bytes) → HandsOut r at ls → Listed r ls index c index at c
listed_start r ls index at c h = record { ahead = ls; hands = h; text = []; written = appends_none c; lines = refl }

ahead_entry : {r : Bytes} {at : ℕ} (ls : List Listing) (l : Listing) → HandsOut r at ls → listing_in r at ≡ Some l → (ms : List Listing) × (ls ≡ l ∷ ms) × HandsOut r (at + l.size) ms
ahead_entry [] l (end e) q = absurd (let z : ◌≡◌ {A = Option Listing} None (Some l) = sym e ∙ q in cc)
ahead_entry {r} {at} (m ∷ ms) l (next e h) q =
    let z : ◌≡◌ {A = Option Listing} (Some m) (Some l) = sym e ∙ q in
    let w : m ≡ l = cc in
    (ms, ap (λ (x : Listing). x ∷ ms) w, subst (λ (n : ℕ). HandsOut r (at + n) ms) (ap (λ (x : Listing). x.size) w) h)

ahead_none : {r : Bytes} {at : ℕ} (ls : List Listing) → HandsOut r at ls → listing_in r at ≡ None → ls ≡ []
ahead_none [] (end e) q = refl
ahead_none (l ∷ ms) (next e h) q = absurd (let z : ◌≡◌ {A = Option Listing} None (Some l) = sym q ∙ e in cc)

pub listed_next : {r : Bytes} {ls : List Listing} {index i at : ℕ} {a b : Option Bytes} (l : Listing) (c : Option Bytes) → Listed r ls index a i at b → listing_in r at ≡ Some l
    → Appends b c (entry_line i l) → Listed r ls index a (i + 1) (at + l.size) c
unfolding listing_lines
listed_next {r} {ls} {index} {i} {at} {a} {b} l c h q w =
    let n = ahead_entry h.ahead l h.hands q in
    record {
      ahead = n.0;
      hands = n.2;
      text = h.text ++ entry_line i l;
      written = appends_more a b c h.text (entry_line i l) h.written w;
      lines = h.lines ∙ ap (λ (m : List Listing). h.text ++ listing_lines i m) n.1 ∙ sym (append_assoc h.text (entry_line i l) (listing_lines (i + 1) n.0));
    }

pub listed_all : {r : Bytes} {ls : List Listing} {index i at : ℕ} {a b : Option Bytes} → Listed r ls index a i at b → listing_in r at ≡ None → Appends a b (listing_lines index ls)
unfolding listing_lines
listed_all {r} {ls} {index} {i} {at} {a} {b} h q =
    let e : listing_lines index ls ≡ h.text = h.lines ∙ ap (λ (m : List Listing). h.text ++ listing_lines i m) (ahead_none h.ahead h.hands q) ∙ append-nil h.text in
    rw e h.written

-- ---- pieces
pub took_none : {r d : Bytes} (x y c : Option Bytes) → HasRead r d → Consumes x y [] → Took d [] x y c c r
unfolding listing_lines
took_none {r} {d} x y c h e = record { consumed = e; reads = rw (append-nil d) h; since = []; are_good = rw (append-nil d, append-nil (good_of d)) refl; written = appends_none c }

pub took_more : {d p q r s : Bytes} (x y z a b c : Option Bytes) → Took d p x y a b r → Took (d ++ p) q y z b c s → Took d (p ++ q) x z a c s
took_more {d} {p} {q} {r} {s} x y z a b c t u =
    let k : length (good_of (d ++ p)) ≡ length (good_of d) + length t.since = rw t.are_good (length-append (good_of d) t.since) in
    record {
      consumed = consumes_more x y z p q t.consumed u.consumed;
      reads = rw (append_assoc d p q) at u.reads;
      since = t.since ++ u.since;
      are_good = ap good_of (sym (append_assoc d p q)) ∙ u.are_good ∙ rw t.are_good (append_assoc (good_of d) t.since u.since);
      written = rw (lines_more (length (good_of d)) t.since u.since, ← k) (appends_more a b c _ _ t.written u.written);
    }

-- ---- the whole
good_of-none : good_of [] ≡ []
unfolding good_of good_from chunks chunks_from
good_of-none = refl

-- the lines of the entries among the first bytes, and the last line by the reader of these
first_lines : {p r : Bytes} (x y a b c : Option Bytes) → Took [] p x y a b r → Appends b c (closing_line (verdict_in r))
    → Appends a c (listing_lines 0 (map listed (good_of p)) ++ closing_line (verdict_of p))
first_lines {p} {r} x y a b c t w =
    let g : good_of p ≡ t.since = rw good_of-none at t.are_good in
    let k : length (good_of []) ≡ 0 = rw good_of-none refl in
    rw (g, ← k) (appends_more a b c _ _ t.written (rw (read_verdict t.reads) at w))

pub whole : {p r : Bytes} (d : Bytes) (y a b c : Option Bytes) → Took [] p (Some d) y a b r → IsDone p y → Appends b c (closing_line (verdict_in r)) → Appends a c (dump_lines d)
unfolding dump_lines
whole {p} {r} d None a b c t e w = absurd t.consumed
whole {p} {r} d (Some y) a b c t e w = go e
  where
    s : Appends a c (listing_lines 0 (map listed (good_of p)) ++ closing_line (verdict_of p))
    s = first_lines (Some d) (Some y) a b c t w

    go : IsDone p (Some y) → Appends a c (listing_lines 0 (map listed (good_of d)) ++ closing_line (verdict_of d))
    go (inl f) = let q : d ≡ p = t.consumed ∙ rw f (append-nil p) in rw q s
    go (inr f) = rw (t.consumed, ended_stays p y f, ended_verdict p y f) s

-- ---- what the reader says
-- that the reading has ended
pub says_ended : {v : Verdict} {r d : Bytes} → HasRead r d → v ≡ verdict_in r → v.ended ≡ true → ended d ≡ true
unfolding verdict_of
says_ended {v} {r} {d} h e o = let q : v ≡ verdict_of d = e ∙ read_verdict h in rw q at o

-- ---- a turn
-- what was read, where a result was made of the number of bytes
pub was_read : {E : Type 0} (F : Type 0) (x : Result ℕ E) (n : ℕ) (old new : Option Bytes) (b : Bytes) → MatchResult x (λ v. ◌≡◌ {A = Result ℕ F} (Ok n) (Ok v)) (λ _. ⊥)
    → ReadsAtMost x b → ReadConsumes old new x b → (n ≤ length b) × Consumes old new (take n b) × (n ≡ 0 → 0 < length b → IsAtEnd new)
was_read F (Ok v) n old new b m h k =
    let w : v ≡ n = let z = sym m in cc in
    let j : Consumes old new (take n b) × (n ≡ 0 → 0 < length b → IsAtEnd new) = rw w at k in
    (rw w at h.0, j.0, j.1)
was_read F (Err d) n old new b m h k = absurd m

-- what was written, likewise
pub was_written : {T E : Type 0} {P : Type 0} (F : Type 0) (x : Result T E) (n : T) → MatchResult x (λ v. ◌≡◌ {A = Result T F} (Ok n) (Ok v)) (λ _. ⊥) → OnOk x P → P
was_written F (Ok v) n m p = p
was_written F (Err d) n m p = absurd m

pub end_took : {r d : Bytes} (b : Bytes) (n : ℕ) (x y c : Option Bytes) → HasRead r d → n ≡ 0 → Consumes x y (take n b) → Took d [] x y c c r
end_took {r} {d} b n x y c h e k = took_none x y c h (rw e at k)

pub piece_took : {r s d : Bytes} {v : Verdict} (b : Bytes) (n : ℕ) (x y a c : Option Bytes) → HasRead r d → v ≡ verdict_in r → (n ≡ 0 → ⊥) → n ≤ length b → length b ≤ max_piece
    → Consumes x y (take n b) → s ≡ after_feed r (take n b) → ((ls : List Listing) → HandsOut s v.bytes ls → Appends a c (listing_lines v.entries ls))
    → Took d (take n b) x y a c s × (0 < length (take n b))
unfolding after_feed verdict_of
piece_took {r} {s} {d} {v} b n x y a c h e z l m k f w =
    let q : length (take n b) ≡ n = length-take-le n b l in
    let p : 0 < length (take n b) = omega (arith, z) in
    let t : is_piece (take n b) ≡ true = and_intro _ _ (le-leb 1 (length (take n b)) p) (le-leb (length (take n b)) max_piece (omega arith)) in
    let u : s ≡ fed r (take n b) = f ∙ rw t refl in
    let i : HasRead s (d ++ take n b) = rw u (fed_read h (take n b)) in
    let g = good_grows d (take n b) in
    let j : v ≡ verdict_of d = e ∙ read_verdict h in
    let o : (ls : List Listing) → HandsOut s (length (flat (good_of d))) ls → Appends a c (listing_lines (length (good_of d)) ls) = rw j at w in
    let formed : All WellFormed (good_of d ++ g.0) = rw g.1 at (good_entries (d ++ take n b)).formed in
    (record { consumed = k; reads = i; since = g.0; are_good = g.1; written = o (map listed g.0) (handed i (good_of d) g.0 (all_right (good_of d) g.0 formed) g.1) }, p)

-- ---- turns, one behind the other
pub took_start : {r d : Bytes} (x c : Option Bytes) → HasRead r d → Took d [] x x c c r × (0 ≤ length {A = ℕ} [])
took_start x c h = (took_none x x c h (consumes_none x), omega arith)

-- what the answer of a turn says, where e is whether the reading has ended
pub after_turn : (d p : Bytes) (input : Option Bytes) (e : Bool) → 0 < length p → (e ≡ true → ended (d ++ p) ≡ true) → AfterTurn (not e) d p input
after_turn d p input true h f = inr (f refl)
after_turn d p input false h f = h

pub took_end : {d p q r s : Bytes} {t : Bool} (x y z a b c : Option Bytes) → Took d p x y a b r → Took (d ++ p) q y z b c s → AfterTurn t (d ++ p) q z → t ≡ false
    → Took d (p ++ q) x z a c s × IsDone (d ++ (p ++ q)) z
took_end {d} {p} {q} x y z a b c i j k e =
    let f : IsDone (d ++ p ++ q) z = rw e at k in
    (took_more x y z a b c i j, rw (append_assoc d p q) at f)

pub took_on : {d p q r s : Bytes} {t : Bool} (x y z a b c : Option Bytes) (n : ℕ) → Took d p x y a b r → n ≤ length p → Took (d ++ p) q y z b c s → AfterTurn t (d ++ p) q z → t ≡ true
    → Took d (p ++ q) x z a c s × (n + 1 ≤ length (p ++ q))
took_on {d} {p} {q} x y z a b c n i l j k e =
    let f : 0 < length q = rw e at k in
    (took_more x y z a b c i j, rw (length-append p q) (omega arith))

pub done_past : (d p : Bytes) (y : Option Bytes) → policy_bytes < length p → IsDone (d ++ p) y
done_past d p y h = inr (past_ended (d ++ p) (rw (length-append d p) (omega arith)))

-- ---- from the start to the last line
pub started : {s : Bytes} (r : Bytes) → s ≡ fresh r → length r ≡ reader_bytes → HasRead s []
started r e n = rw e (fresh_read r n)

pub all_listed : {p r : Bytes} {v : Verdict} (x y a b c : Option Bytes) → Took [] p x y a b r → IsDone p y → v ≡ verdict_in r → Appends b c (closing_line v)
    → IfSome x (λ d. Appends a c (dump_lines d))
all_listed None y a b c t e q w = tt
all_listed (Some d) y a b c t e q w = whole d y a b c t e (rw q at w)

-- ---- where a read failed
-- an error is handed on as it is
pub same_error : {T : Type 0} (P : Failure → Type 0) (x : Result T Failure) (f : Failure) → IsErrAnd x (λ e. e ≡ f) → P f → IfErr x P
same_error P (Ok v) f h p = tt
same_error P (Err e) f h p = subst P (sym h) p

pub on_input : {A B : Type 0} (f : Failure) → OnInput f A → (A → B) → OnInput f B
on_input (Input e) a g = g a
on_input (Output e) a g = tt

pub at_input : {A : Type 0} (f : Failure) → A → OnInput f A
at_input (Input e) a = a
at_input (Output e) a = tt

keeps_none : (x y : Option Bytes) → Keeps x y → Consumes x y []
keeps_none None y k = tt
keeps_none (Some x) None k = absurd k
keeps_none (Some x) (Some y) k = sym k

pub took_nothing : {E F : Type 0} {r d : Bytes} (Q : E → Type 0) (x : Result ℕ E) (f : F) (old new c : Option Bytes) (b : Bytes) → MatchResult x (λ v. ◌≡◌ {A = Result ℕ F} (Err f) (Ok v)) Q
    → ReadConsumes old new x b → HasRead r d → Took d [] old new c c r
took_nothing Q (Ok v) f old new c b m k h = absurd (let z = m in cc)
took_nothing Q (Err e) f old new c b m k h = took_none old new c h (keeps_none old new k)

pub some_listed : {p r : Bytes} (x y a b : Option Bytes) → Took [] p x y a b r → Appends a b (entry_lines p)
some_listed {p} {r} x y a b t =
    let g : good_of p ≡ t.since = rw good_of-none at t.are_good in
    let k : length (good_of []) ≡ 0 = rw good_of-none refl in
    rw (g, ← k) t.written
