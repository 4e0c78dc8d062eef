-- Laws of the policy record. A valid record and its list of entries determine each other: `policy_entries`, `entries_policy`,
-- `entries_of-pack`. Assumes nothing.
use Rattle.std.specs.Prelude.{ℕ, zero, suc, ◌+◌, ◌≤◌, ◌<◌, ◌≡◌, List, [], ◌∷◌, ◌++◌, Bool, get_or, drop, replicate, leb}
use Rattle.std.proofs.Math.Path.{refl, sym, ap}
use Rattle.std.proofs.Common.{◌∙◌, arith, length-take-le}
use Rattle.std.proofs.Math.Bool.{true, false, cond}
use Rattle.std.proofs.Math.ListN.{length, take, length-append}
use Rattle.std.proofs.Math.Seq.{take_at}
use borrow.Author.Tests.{eq-eqb, le-leb, eqb-true, leb-true}
use Rattle.limits.specs.Limits.{size_at, entry_header, max_entry_bytes, max_entries, policy_bytes}
use Rattle.lists.specs.Lists.{All, nil, more}
use Rattle.lists.proofs.ListsLaws.{all_append, all_map}
use Rattle.slices.specs.Test.{◌and◌}
use Rattle.slices.proofs.TestLaws.{and_left, and_right, and_intro}
use Rattle.slices.specs.Bytes.{Bytes, le16, padded}
use Rattle.slices.proofs.NumberLaws.{le16_take}
use Rattle.slices.specs.Chunks.{flat, chunks, packed, contains, distinct}
use Rattle.slices.proofs.ChunksLaws.{
  IsItem,
  flat_append,
  flat_one,
  length_packed,
  length_chunks,
  chunks_stop,
  chunks_step,
  by_chunks,
  used_within,
  packed_chunks,
  chunks_packed,
  free_packed,
}
use Rattle.slices.proofs.ItemsLaws.{distinct_append}
use Rattle.entry.specs.Entry.{size_field, header_ok, well_formed, same_target}
use Rattle.entry.proofs.EntryLaws.{sized, header_least, header_stated, well_formed_header, same_target-sym, same_target-alike}
use Rattle.policy.specs.declared.Extent.{Extent}
use Rattle.std.specs.Prelude.{Some, None}
use Rattle.std.specs.Bool.{then_some}
use Rattle.std.proofs.lemmas.Option.{same_Some, none-some}
use Rattle.policy.specs.Policy.{length_by, entry_length, entries_of, sizes_sum, pack_policy, valid_within, policy_valid, check_within, policy_check, extent_of}

-- no byte of a list of zeros is another
get_d-zeros : (k i : ℕ) → ◌≡◌ {A = ℕ} (get_or (replicate k 0) i 0) 0
get_d-zeros zero i = refl
get_d-zeros (suc k) zero = refl
get_d-zeros (suc k) (suc i) = get_d-zeros k i

cond_same : (t : Bool) (n : ℕ) → cond t n n ≡ n
cond_same true n = refl
cond_same false n = refl

size_zeros : (k : ℕ) → size_field (replicate k 0) ≡ 0
unfolding le16
size_zeros k = simp get_d-zeros

-- ---- entries by any rule of what is well formed
module _ (ok : Bytes → Bool) where
  -- the entry that a list of bytes begins with
  pub record Starts (p : Bytes) (n : ℕ) : Type 0 where
    pub field : size_field p ≡ n
    pub within : n ≤ length p
    pub formed : ok (take n p) ≡ true

  pub length_by-starts : (n : ℕ) (p : Bytes) → length_by ok p ≡ n → 0 < n → Starts p n
  unfolding length_by
  length_by-starts n p e h = go (leb (size_field p) (length p) and ok (take (size_field p) p)) refl e
    where
      go : (t : Bool) → (leb (size_field p) (length p) and ok (take (size_field p) p)) ≡ t → cond t (size_field p) 0 ≡ n → Starts p n
      go true q f =
          let b : Starts p (size_field p) = record { field = refl; within = leb-true (size_field p) (length p) (and_left _ _ q); formed = and_right _ _ q } in
          rw f at b
      go false q f = absurd (omega arith)

  pub length_by-within : (p : Bytes) → length_by ok p ≤ length p
  length_by-within p = go (length_by ok p) refl
    where
      go : (n : ℕ) → length_by ok p ≡ n → n ≤ length p
      go zero e = omega arith
      go (suc n) e = (length_by-starts (suc n) p e (omega arith)).within

  pub chunks_formed : (p : Bytes) → All (λ e. ok e ≡ true) (chunks (length_by ok) p)
  chunks_formed = by_chunks (length_by ok) length_by-within (λ p. All (λ e. ok e ≡ true) (chunks (length_by ok) p))
      (λ p e. rw (chunks_stop (length_by ok) p e) nil)
      (λ p n e h k ih. rw (chunks_step (length_by ok) length_by-within n p e h) (more (length_by-starts n p e h).formed ih))

  -- no entry begins with zeros
  length_by-zeros : (k : ℕ) → length_by ok (replicate k 0) ≡ 0
  unfolding length_by
  length_by-zeros k = rw (size_zeros k) (cond_same (leb 0 (length (replicate {A = ℕ} k 0)) and ok (take 0 (replicate k 0))) 0)

  -- the same by a rule that asks for a whole header and for the length in Size
  module _ (whole : (e : Bytes) → ok e ≡ true → header_ok e ≡ true) where
    -- a well-formed entry before any other bytes
    length_by-entry : (e m : Bytes) → ok e ≡ true → length_by ok (e ++ m) ≡ length e
    unfolding length_by ◌and◌
    length_by-entry e m w =
        let h = whole e w in
        let t : take (length e) (e ++ m) ≡ e = take_at e m (length e) refl in
        let f : size_field (e ++ m) ≡ length e =
        sym (le16_take (length e) (e ++ m) size_at (omega (arith, header_least e h))) ∙ ap (λ (l : Bytes). le16 l size_at) t ∙ header_stated e h in
        let k : length e ≤ length (e ++ m) = rw length-append (omega arith) in
        rw (f, le-leb (length e) (length (e ++ m)) k, t, w)

    entry_item : (e : Bytes) → ok e ≡ true → IsItem (length_by ok) length_by-within e
    entry_item e w = record { some = omega (arith, header_least e (whole e w)); whole = λ m. length_by-entry e m w }

    pub items_by : (es : List Bytes) → All (λ e. ok e ≡ true) es → All (IsItem (length_by ok) length_by-within) es
    items_by es a = all_map entry_item es a

    -- from entries to a record and back
    pub chunks_pack : (bytes : ℕ) (es : List Bytes) → All (λ e. ok e ≡ true) es → chunks (length_by ok) (packed bytes 0 es) ≡ es
    chunks_pack bytes es a = chunks_packed (length_by ok) length_by-within 0 length_by-zeros bytes es (items_by es a)

    -- well-formed entries end to end come apart in one way
    pub flat_unique : {ds es : List Bytes} → All (λ e. ok e ≡ true) ds → All (λ e. ok e ≡ true) es → flat ds ≡ flat es → ds ≡ es
    unfolding packed
    flat_unique {ds} {es} p q h =
        sym (chunks_pack 0 ds p) ∙ ap (λ (l : Bytes). chunks (length_by ok) (padded 0 0 l)) h ∙ chunks_pack 0 es q

-- ---- the entries of a record
abbrev pub WellFormed : Bytes → Type 0
WellFormed e = well_formed e ≡ true

-- where an entry begins, what it says and where it ends
pub record Begins (p : Bytes) (n : ℕ) : Type 0 where
  pub field : size_field p ≡ n
  pub within : n ≤ length p
  pub formed : well_formed (take n p) ≡ true
  pub least : entry_header ≤ n
  pub most : n ≤ max_entry_bytes

pub entry_length-begins : (n : ℕ) (p : Bytes) → entry_length p ≡ n → 0 < n → Begins p n
entry_length-begins n p e h =
    let b = length_by-starts well_formed n p e h in
    let z = sized (take n p) b.formed in
    let k : length (take n p) ≡ n = length-take-le n p b.within in
    record { field = b.field; within = b.within; formed = b.formed; least = omega (arith, z.least); most = omega (arith, z.most) }

pub entry_length-within : (p : Bytes) → entry_length p ≤ length p
entry_length-within = length_by-within well_formed

-- no entry is shorter than its header
pub entry_length-short : (p : Bytes) → length p < entry_header → entry_length p ≡ 0
entry_length-short p h = go (entry_length p) refl
  where
    go : (n : ℕ) → entry_length p ≡ n → n ≡ 0
    go zero e = refl
    go (suc n) e = let b = entry_length-begins (suc n) p e (omega arith) in absurd (omega (arith, b.least, b.within))

pub entries_of-stop : (p : Bytes) → entry_length p ≡ 0 → entries_of p ≡ []
entries_of-stop p e = chunks_stop entry_length p e

pub entries_of-step : (n : ℕ) (p : Bytes) → entry_length p ≡ n → 0 < n → entries_of p ≡ take n p ∷ entries_of (drop n p)
entries_of-step n p e h = chunks_step entry_length entry_length-within n p e h

pub entries_of-formed : (p : Bytes) → All WellFormed (entries_of p)
entries_of-formed = chunks_formed well_formed

pub sizes_sum-flat : (p : Bytes) → sizes_sum p ≡ length (flat (entries_of p))
sizes_sum-flat p = sym (length_chunks entry_length p)

pub sizes_sum-within : (p : Bytes) → sizes_sum p ≤ length p
sizes_sum-within p = used_within entry_length entry_length-within p

-- from entries to a record and back
pub entries_of-pack : (es : List Bytes) → All WellFormed es → entries_of (pack_policy es) ≡ es
entries_of-pack = chunks_pack well_formed well_formed_header policy_bytes

-- ---- a valid record, by the rule and under the limits of an edition and by today's
pub record EntriesUnder (ok : Bytes → Bool) (most bytes : ℕ) (es : List Bytes) : Type 0 where
  pub formed : All (λ e. ok e ≡ true) es
  pub few : length es ≤ most
  pub room : length (flat es) ≤ bytes
  pub apart : distinct same_target es ≡ true

abbrev pub Entries : List Bytes → Type 0
Entries es = EntriesUnder well_formed max_entries policy_bytes es

-- what packs to p: entries as a valid record has them
pub record PacksUnder (ok : Bytes → Bool) (most bytes : ℕ) (es : List Bytes) (p : Bytes) : Type 0 where
  pub entries : EntriesUnder ok most bytes es
  pub packs : packed bytes 0 es ≡ p

abbrev pub Packs : List Bytes → Bytes → Type 0
Packs es p = PacksUnder well_formed max_entries policy_bytes es p

module _ (ok : Bytes → Bool) (most bytes : ℕ) (p : Bytes) (v : valid_within ok most bytes p ≡ true) where
  valid_length : length p ≡ bytes
  unfolding valid_within
  valid_length = eqb-true (length p) bytes (and_left _ _ v)

  -- a valid record is that of its own entries
  pub valid_packs : PacksUnder ok most bytes (chunks (length_by ok) p) p
  unfolding valid_within
  valid_packs =
      let v₁ = and_right _ _ v in
      let v₂ = and_right _ _ v₁ in
      record {
        entries = record {
          formed = chunks_formed ok p;
          few = leb-true (length (chunks (length_by ok) p)) most (and_left _ _ v₁);
          room = omega (arith, length_chunks (length_by ok) p, used_within (length_by ok) (length_by-within ok) p, valid_length);
          apart = and_right _ _ v₂;
        };
        packs = ap (λ (n : ℕ). packed n 0 (chunks (length_by ok) p)) (sym valid_length) ∙ packed_chunks (length_by ok) (length_by-within ok) 0 p (and_left _ _ v₂);
      }

pub policy_valid-length : (p : Bytes) → policy_valid p ≡ true → length p ≡ policy_bytes
policy_valid-length = valid_length well_formed max_entries policy_bytes

pub policy_entries : (p : Bytes) → policy_valid p ≡ true → Packs (entries_of p) p
policy_entries = valid_packs well_formed max_entries policy_bytes

pub pack-entries_of : (p : Bytes) → policy_valid p ≡ true → pack_policy (entries_of p) ≡ p
pack-entries_of p v = (policy_entries p v).packs

-- a record of such entries is valid
pub entries_policy : (es : List Bytes) → Entries es → policy_valid (pack_policy es) ≡ true
unfolding valid_within
entries_policy es a =
    let l : length (pack_policy es) ≡ policy_bytes = length_packed policy_bytes 0 es a.room in
    let q = entries_of-pack es a.formed in
    and_intro _ _ (eq-eqb _ _ l)
    (and_intro _ _ (rw q (le-leb _ _ a.few))
    (and_intro _ _ (free_packed entry_length (length_by-within well_formed) 0 (length_by-zeros well_formed) policy_bytes es (items_by well_formed well_formed_header es a.formed)) (rw q a.apart)))

pub packs_policy : (es : List Bytes) (p : Bytes) → Packs es p → policy_valid p ≡ true
packs_policy es p k = rw k.packs at (entries_policy es k.entries)

-- and no other list packs to it
pub packs_only : (es : List Bytes) (p : Bytes) → Packs es p → entries_of p ≡ es
packs_only es p k = rw k.packs at (entries_of-pack es k.entries.formed)

-- what the check's answer tells, under any limit of bytes and of a policy record
pub record CheckedWithin (bytes : ℕ) (p : Bytes) (count total : ℕ) : Type 0 where
  pub valid : valid_within well_formed max_entries bytes p ≡ true
  pub counted : count ≡ length (entries_of p)
  pub summed : total ≡ sizes_sum p

abbrev pub Checked : Bytes → ℕ → ℕ → Type 0
Checked p count total = CheckedWithin policy_bytes p count total

-- what was answered after a test tells the test
pub then_tells : {A : Type 0} (b : Bool) (x y : A) → then_some b x ≡ Some y → (b ≡ true) × (x ≡ y)
then_tells true x y e = (refl, same_Some x y e)
then_tells false x y e = absurd (none-some y e)

pub then_denies : {A : Type 0} (b : Bool) (x : A) → then_some b x ≡ None → b ≡ false
then_denies true x e = absurd (none-some x (sym e))
then_denies false x e = refl

pub within_valid : (bytes : ℕ) (p : Bytes) (x : Extent) → check_within bytes p ≡ Some x → CheckedWithin bytes p x.count x.used
unfolding check_within
within_valid bytes p x e =
    let k = then_tells _ (extent_of p) x e in
    record { valid = k.0; counted = ap (λ (y : Extent). y.count) (sym k.1); summed = ap (λ (y : Extent). y.used) (sym k.1) }

pub within_invalid : (bytes : ℕ) (p : Bytes) → check_within bytes p ≡ None → valid_within well_formed max_entries bytes p ≡ false
unfolding check_within
within_invalid bytes p e = then_denies _ (extent_of p) e

pub check_valid : (p : Bytes) (x : Extent) → policy_check p ≡ Some x → Checked p x.count x.used
check_valid = within_valid policy_bytes

pub check_invalid : (p : Bytes) → policy_check p ≡ None → policy_valid p ≡ false
check_invalid = within_invalid policy_bytes

-- ---- one entry more
pub entries_append : (es : List Bytes) (e : Bytes) → Entries es → WellFormed e → contains (same_target e) es ≡ false → length es < max_entries
    → length (flat es) + length e ≤ policy_bytes → Entries (es ++ (e ∷ []))
entries_append es e a w c h r =
    record {
      formed = all_append es (e ∷ []) a.formed (more w nil);
      few = rw length-append (omega arith);
      room = rw (flat_append es (e ∷ []), flat_one, length-append) r;
      apart = distinct_append same_target same_target-sym same_target-alike e es c a.apart;
    }

-- a valid record with a new entry behind the others is valid
pub policy_append : (p e : Bytes) → policy_valid p ≡ true → WellFormed e → contains (same_target e) (entries_of p) ≡ false → length (entries_of p) < max_entries
    → sizes_sum p + length e ≤ policy_bytes → policy_valid (pack_policy (entries_of p ++ (e ∷ []))) ≡ true
policy_append p e v w c h r =
    entries_policy (entries_of p ++ (e ∷ [])) (entries_append (entries_of p) e (policy_entries p v).entries w c h (omega (arith, sizes_sum-flat p)))
