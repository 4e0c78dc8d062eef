-- A walk over what is known to be records. Assumes nothing.
use Prim.Native.Nat.{ℕ, zero, suc, ◌+◌, ◌-◌, ◌≤◌, ◌<◌}
use mathlib.Core.Path.{◌≡◌, refl, sym, ap, ◌∙◌}
use mathlib.Core.List.{[], ◌∷◌, ◌++◌}
use mathlib.Core.Bool.{Bool, true, false}
use native.Mathlib.Omega.{arith}
use native.Mathlib.Nat.{le_refl}
use lib.ListN.{length, take, drop, length-take, length-drop}
use lib.Seq.{take-take}
use Rattle.limits.specs.Limits.{max_payload}
use Rattle.slices.proofs.TestLaws.{and_left, forced_off}
use Rattle.slices.specs.Bytes.{Bytes, le16, le32, part}
use Rattle.slices.proofs.NumberLaws.{le32_take, le32_drop}
use Rattle.slices.proofs.PartLaws.{part_rest, length_part}
use Rattle.slices.proofs.ChunksLaws.{used_stop, used_step, used_again, at_within}
use Rattle.names.specs.Name.{Variable, is_terminated}
use Rattle.names.proofs.NameLaws.{is_name-length, is_terminated-name, is_terminated-zeros}
use Rattle.store.specs.Record.{name_size, data_size, record_size, body_ok, record_length, name_of, is_of}
use Rattle.store.proofs.RecordLaws.{record_length-within, begins, begins_fits, header_sizes}
use Rattle.store.proofs.VariableLaws.{is_of-name}
use Rattle.store.specs.Parts.{HeaderFits}
use Rattle.store.specs.Store.{end_of}

-- the record of m bytes at an index before the end
pub record Here (non_volatile : Bool) (at m : ℕ) (s : Bytes) : Type 0 where
  pub is : record_length non_volatile (drop at s) ≡ m
  pub some : 0 < m
  pub long : 36 ≤ length s - at
  pub next : at + m ≤ length s
  pub step : end_of non_volatile s ≡ at + m + end_of non_volatile (drop (at + m) s)
  pub name : name_size (drop at s) ≤ 130
  pub most : data_size (drop at s) ≤ max_payload
  pub whole : record_size (name_size (drop at s)) (data_size (drop at s)) ≡ m
  pub fits : HeaderFits (take m (drop at s))
  pub body : body_ok (take m (drop at s)) ≡ true

module _ (non_volatile : Bool) where
  pub here : (at : ℕ) (s : Bytes) → at ≤ length s → end_of non_volatile s ≡ at + end_of non_volatile (drop at s) → at < end_of non_volatile s
      → Here non_volatile at (record_size (name_size (drop at s)) (data_size (drop at s))) s
  here at s h q k = go (record_length non_volatile (drop at s)) refl
    where
      go : (m : ℕ) → record_length non_volatile (drop at s) ≡ m → Here non_volatile at (record_size (name_size (drop at s)) (data_size (drop at s))) s
      go zero e = absurd (let z = used_stop (record_length non_volatile) (drop at s) e in omega arith)
      go (suc m) e =
          let b = begins non_volatile (suc m) (drop at s) e (omega arith) in
          let z = header_sizes non_volatile (drop at s) b.header in
          let l = rw length-drop at b.within in
          let i = b.is in
          rw i (record {
            is = e;
            some = omega arith;
            long = omega arith;
            next = at_within (record_length non_volatile) (record_length-within non_volatile) at (suc m) s e h;
            step = used_again (record_length non_volatile) (record_length-within non_volatile) at (suc m) s e (omega arith) q;
            name = z.high;
            most = z.most;
            whole = i;
            fits = begins_fits non_volatile (suc m) (drop at s) b;
            body = b.body;
          })

  -- at the end no record begins
  pub ended : (at : ℕ) (s : Bytes) → end_of non_volatile s ≡ at + end_of non_volatile (drop at s) → end_of non_volatile s ≤ at → record_length non_volatile (drop at s) ≡ 0
  ended at s q h = go (record_length non_volatile (drop at s)) refl
    where
      go : (m : ℕ) → record_length non_volatile (drop at s) ≡ m → record_length non_volatile (drop at s) ≡ 0
      go zero e = e
      go (suc m) e = absurd (let z = used_step (record_length non_volatile) (record_length-within non_volatile) (suc m) (drop at s) e (omega arith) in omega arith)

-- ---- the first four bytes of a name tell it from most others
-- a zero unit behind them reads as what is past the end
four_closed : (u : Bytes) → 2 ≤ length u → le32 (u ++ (0 ∷ 0 ∷ [])) 0 ≡ le32 u 0
unfolding le32 le16
four_closed [] h = absurd (omega arith)
four_closed (a ∷ []) h = absurd (omega arith)
four_closed (a ∷ b ∷ []) h = refl
four_closed (a ∷ b ∷ c ∷ []) h = refl
four_closed (a ∷ b ∷ c ∷ d ∷ u) h = refl

four_terminated : (t : Bytes) → is_terminated t ≡ true → le32 t 0 ≡ le32 (take (length t - 2) t) 0
four_terminated t e =
    ap (λ (u : Bytes). le32 u 0) (is_terminated-zeros t e) ∙ four_closed (take (length t - 2) t) (is_name-length (take (length t - 2) t) (is_terminated-name t e)).0

four_name : (r : Bytes) → HeaderFits r → body_ok r ≡ true → le32 r 32 ≡ le32 (name_of r) 0
unfolding body_ok name_of
four_name r f b =
    let t : Bytes = part 32 (32 + name_size r) r in
    let l : length t ≡ 32 + name_size r - 32 = length_part 32 (32 + name_size r) r (omega (arith, f.fits)) in
    let k : length t - 2 ≡ 30 + name_size r - 32 = omega arith in
    sym (le32_drop 32 r 0) ∙ sym (le32_take (32 + name_size r - 32) (drop 32 r) 0 (omega (arith, f.low)))
    ∙ four_terminated t (and_left _ _ b)
    ∙ ap (λ (n : ℕ). le32 (take n t) 0) k ∙ ap (λ (u : Bytes). le32 u 0) (take-take (30 + name_size r - 32) (32 + name_size r - 32) (drop 32 r) (omega arith))

pub other_first : (v : Variable) (r : Bytes) → HeaderFits r → body_ok r ≡ true → (le32 r 32 ≡ le32 v.name 0 → ⊥) → is_of v r ≡ false
other_first v r f b h = forced_off (is_of v r) (λ t. absurd (h (four_name r f b ∙ ap (λ (u : Bytes). le32 u 0) (is_of-name v r t))))

-- ---- as the code has it
pub resized : {z m : ℕ} (non_volatile : Bool) (at : ℕ) (s : Bytes) → z ≡ m → Here non_volatile at m s → Here non_volatile at z s
resized non_volatile at s e w = rw e w

pub rest_at : (at : ℕ) (s : Bytes) → part at (length s) s ≡ drop at s
rest_at at s = part_rest at (length s) s (le_refl (length s))

pub length_here : (non_volatile : Bool) (at m : ℕ) (s : Bytes) → Here non_volatile at m s → m ≡ length (take m (part at (length s) s))
length_here non_volatile at m s w = rw (rest_at at s, length-take, length-drop) (omega (arith, w.next))
