-- The bytes that the calls write, and what they are answered, on plain values. Assumes nothing.
use Prim.Native.Nat.{ℕ, ◌+◌, ◌≤◌, zero-le}
use mathlib.Core.Path.{◌≡◌, refl, sym, ap, ◌∙◌}
use mathlib.Core.List.{[], ◌∷◌, ◌++◌, append-nil, append_assoc}
use mathlib.Core.Bool.{Bool, true, false, not, cond}
use native.Mathlib.Omega.{arith}
use lib.Dec.{eqb, leb}
use borrow.Author.Tests.{not-true, not-false}
use lib.ListN.{length, take, length-append, drop_of_length-le}
use Rattle.limits.specs.Limits.{entry_version}
use Rattle.slices.specs.Test.{◌and◌}
use Rattle.slices.proofs.TestLaws.{and_left}
use Rattle.slices.specs.Chunks.{flat}
use Rattle.slices.specs.Bytes.{Bytes, le16_bytes, le32_bytes, overwrite}
use Rattle.slices.proofs.OverwriteLaws.{overwrite_next, take_front, length_overwrite}
use Rattle.names.specs.Name.{Variable, is_name, named, units, wildcards}
use Rattle.names.proofs.NameLaws.{is_name-length}
use Rattle.entry.specs.Encoding.{encode_entry, encode_numbers, encode_lock, offset_for, size_for, terminated}
use Rattle.policy.specs.Policy.{policy_valid, entries_of}
use Rattle.status.specs.declared.Status.{Status}
use Rattle.status.specs.declared.Status.TheVariants.{Success, InvalidParameter, Unsupported, BufferTooSmall, VolumeCorrupted}
use Rattle.switches.specs.declared.Switches.{Switches}
use Rattle.status.specs.Status.{status_number}
use Rattle.rules.specs.Engine.{State, Answer, state_of, only_status, dump_status, status, step}
use Rattle.rules.specs.Engine.Call.{register, dump}
use Rattle.rules.proofs.EngineLaws.{step_status}
use Rattle.rules.specs.Grounds.{Not}
use Rattle.engine.specs.declared.DumpAnswer.{DumpAnswer}
use Rattle.engine.specs.Answers.{dump_answer}
use Rattle.rules.specs.Phases.{flag_entry, lock_entry, lockable, lock_step}

-- the header of an entry, field by field
abbrev pub header_bytes : ℕ → ℕ → Bytes → Bytes → Bytes
header_bytes size offset namespace rest = le32_bytes entry_version ++ (le16_bytes size ++ (le16_bytes offset ++ (namespace ++ rest)))

pub header_writes : {t₁ t₂ t₃ t₄ t₅ : Bytes} (s namespace rest : Bytes) (size offset : ℕ) → length namespace ≡ 16
    → t₁ ≡ overwrite s 0 (0 ∷ 0 ∷ 1 ∷ 0 ∷ []) → t₂ ≡ overwrite t₁ 4 (le16_bytes size) → t₃ ≡ overwrite t₂ 6 (le16_bytes offset) → t₄ ≡ overwrite t₃ 8 namespace
    → t₅ ≡ overwrite t₄ 24 rest → t₅ ≡ overwrite s 0 (header_bytes size offset namespace rest)
unfolding le16_bytes le32_bytes
header_writes s namespace rest size offset n q₁ q₂ q₃ q₄ q₅ =
    let h : Bytes = 0 ∷ 0 ∷ 1 ∷ 0 ∷ [] in
    let e₁ = q₂ ∙ overwrite_next s 0 4 h (le16_bytes size) q₁ refl zero-le in
    let e₂ = q₃ ∙ overwrite_next s 0 6 (h ++ le16_bytes size) (le16_bytes offset) e₁ refl zero-le in
    let e₃ = q₄ ∙ overwrite_next s 0 8 (h ++ le16_bytes size ++ le16_bytes offset) namespace e₂ refl zero-le in
    q₅ ∙ overwrite_next s 0 24 (h ++ le16_bytes size ++ le16_bytes offset ++ namespace) rest e₃ (simp n) zero-le

-- ---- the policy of a namespace of flags

-- from MinSize to the reserved bytes
abbrev pub flag_rest : Bytes
flag_rest = 1 ∷ 0 ∷ 0 ∷ 0 ∷ 1 ∷ 0 ∷ 0 ∷ 0 ∷ 6 ∷ 0 ∷ 0 ∷ 0 ∷ 1 ∷ 0 ∷ 0 ∷ 0 ∷ 2 ∷ 0 ∷ 0 ∷ 0 ∷ []

flag_bytes_lem : (namespace : Bytes) → header_bytes 44 44 namespace flag_rest ≡ flag_entry namespace
unfolding flag_entry encode_entry encode_numbers encode_lock size_for offset_for le16_bytes le32_bytes
flag_bytes_lem namespace = refl

-- a buffer of 44 bytes
pub flag_writes : {t : Bytes} (z namespace : Bytes) → length z ≡ 44 → length namespace ≡ 16 → t ≡ overwrite z 0 (header_bytes 44 44 namespace flag_rest) → t ≡ flag_entry namespace
unfolding overwrite le16_bytes le32_bytes
flag_writes z namespace n m q =
    let k : length (header_bytes 44 44 namespace flag_rest) ≡ 44 = rw (length-append namespace flag_rest, m) in
    q ∙ rw (k, drop_of_length-le z {i = 44} (omega (arith, n))) (append-nil _) ∙ flag_bytes_lem namespace

-- ---- the older lock

abbrev pub lock_rest : Bytes
lock_rest = 0 ∷ 0 ∷ 0 ∷ 0 ∷ 255 ∷ 255 ∷ 255 ∷ 255 ∷ 0 ∷ 0 ∷ 0 ∷ 0 ∷ 0 ∷ 0 ∷ 0 ∷ 0 ∷ 3 ∷ 0 ∷ 0 ∷ 0 ∷ []

abbrev pub lock_trigger : Bytes
lock_trigger = 1 ∷ 0 ∷ 0x45 ∷ 0 ∷ 0x4F ∷ 0 ∷ 0x44 ∷ 0 ∷ 0 ∷ 0 ∷ []

gather : (a b c d e f : Bytes) → ((((a ++ b) ++ c) ++ d) ++ e) ++ f ≡ a ++ (b ++ ((c ++ d) ++ (e ++ f)))
gather a b c d e f =
    append_assoc (((a ++ b) ++ c) ++ d) e f ∙ append_assoc ((a ++ b) ++ c) d (e ++ f) ∙ append_assoc (a ++ b) c (d ++ (e ++ f)) ∙ append_assoc a b (c ++ (d ++ (e ++ f)))
    ∙ ap (λ (x : Bytes). a ++ (b ++ x)) (sym (append_assoc c d (e ++ f)))

terminated_some : (n : Bytes) → 2 ≤ length n → terminated n ≡ n ++ (0 ∷ 0 ∷ [])
terminated_some [] h = absurd (omega (arith, h))
terminated_some (b ∷ l) h = refl

module _ (phase : Bytes) (v : Variable) (p : length phase ≡ 16) (m : 2 ≤ length v.name) where
  lock_offset : 44 + length (phase ++ lock_trigger) ≡ 70
  lock_offset = rw (length-append phase lock_trigger, p)

  lock_size : 44 + length (phase ++ lock_trigger) + length (terminated v.name) ≡ 70 + length v.name + 2
  lock_size = rw (lock_offset, terminated_some v.name m, length-append v.name (0 ∷ 0 ∷ [])) (omega arith)

  pub lock_bytes_lem : lock_entry phase v
      ≡ header_bytes (70 + length v.name + 2) 70 v.namespace (lock_rest ++ ((phase ++ lock_trigger) ++ (v.name ++ (0 ∷ 0 ∷ []))))
  unfolding lock_entry encode_entry encode_numbers encode_lock size_for offset_for le16_bytes le32_bytes
  lock_bytes_lem = rw (lock_size, lock_offset, terminated_some v.name m)

  pub lock_writes : {t₁ t₂ t₃ t₄ t₅ : Bytes} (s : Bytes) → length v.namespace ≡ 16
      → t₁ ≡ overwrite s 0 (header_bytes (70 + length v.name + 2) 70 v.namespace lock_rest) → t₂ ≡ overwrite t₁ 44 phase → t₃ ≡ overwrite t₂ 60 lock_trigger
      → t₄ ≡ overwrite t₃ 70 v.name → t₅ ≡ overwrite t₄ (70 + length v.name) (0 ∷ 0 ∷ []) → t₅ ≡ overwrite s 0 (lock_entry phase v)
  unfolding le16_bytes le32_bytes
  lock_writes s n q₁ q₂ q₃ q₄ q₅ =
      let h : Bytes = header_bytes (70 + length v.name + 2) 70 v.namespace lock_rest in
      let e₁ = q₂ ∙ overwrite_next s 0 44 h phase q₁ (simp (length-append, n)) zero-le in
      let e₂ = q₃ ∙ overwrite_next s 0 60 (h ++ phase) lock_trigger e₁ (simp (length-append, n, p)) zero-le in
      let e₃ = q₄ ∙ overwrite_next s 0 70 ((h ++ phase) ++ lock_trigger) v.name e₂ (simp (length-append, n, p)) zero-le in
      let e₄ = q₅ ∙ overwrite_next s 0 (70 + length v.name) (((h ++ phase) ++ lock_trigger) ++ v.name) (0 ∷ 0 ∷ []) e₃ (simp (length-append, n, p) (omega arith)) zero-le in
      e₄ ∙ ap (overwrite s 0) (ap (λ (x : Bytes). le32_bytes entry_version ++ (le16_bytes (70 + length v.name + 2) ++ (le16_bytes 70 ++ x))) (gather v.namespace lock_rest phase lock_trigger v.name (0 ∷ 0 ∷ [])) ∙ sym lock_bytes_lem)

  pub length_lock : length v.namespace ≡ 16 → length (lock_entry phase v) ≡ 70 + length v.name + 2
  unfolding le16_bytes le32_bytes
  length_lock n = ap length lock_bytes_lem ∙ simp (length-append, n, p) (omega arith)

-- ---- the answers

-- a name to lock, of a namespace of 16 bytes
pub lockable_is : (namespace name : Bytes) → length namespace ≡ 16 → (is_name name and eqb (wildcards (units name)) 0) ≡ lockable (record { namespace = namespace; name = name })
unfolding lockable named ◌and◌
lockable_is namespace name n = rw n

-- a dump into no room is answered 10 exactly where the record is not valid
dump_corrupted : (p x d : Bool) → cond p (cond x Unsupported (cond d Success BufferTooSmall)) VolumeCorrupted ≡ VolumeCorrupted → p ≡ false
dump_corrupted true true d h = absurd (omega (arith, ap status_number h))
dump_corrupted true false true h = absurd (omega (arith, ap status_number h))
dump_corrupted true false false h = absurd (omega (arith, ap status_number h))
dump_corrupted false x d h = refl

module _ (policy buffer after : Bytes) (w : Switches) (r : DumpAnswer) (e : step (state_of [] [] policy w) (dump buffer) ≡ (dump_answer r after, state_of [] [] policy w)) where
  dump_status_lem : status (state_of [] [] policy w) (dump buffer) ≡ r.status
  dump_status_lem = sym (step_status (state_of [] [] policy w) (dump buffer)) ∙ ap (λ (x : Answer × State). x.0.status) e

  pub corrupted_name : r.status ≡ VolumeCorrupted → VolumeCorrupted ≡ cond (policy_valid policy) InvalidParameter VolumeCorrupted
  unfolding dump_status
  corrupted_name h = rw (dump_corrupted (policy_valid policy) w.exited (leb (length (flat (entries_of policy))) (length buffer)) (dump_status_lem ∙ h))

  pub refused_name : Not (r.status ≡ VolumeCorrupted) → InvalidParameter ≡ cond (policy_valid policy) InvalidParameter VolumeCorrupted
  refused_name h = go (policy_valid policy) refl
    where
      go : (p : Bool) → policy_valid policy ≡ p → InvalidParameter ≡ cond p InvalidParameter VolumeCorrupted
      go true q = refl
      go false q = absurd (h (sym dump_status_lem ∙ rw q))

-- a name that is none to lock
pub lock_refused : {t : Bool} {n : Status} (s : State) (phase : Bytes) (v : Variable) → t ≡ lockable v → not t ≡ true → n ≡ cond (policy_valid s.policy) InvalidParameter VolumeCorrupted
    → lock_step s phase v ≡ (only_status n, s)
unfolding lock_step
lock_refused {t} s phase v q h e = rw (sym q ∙ not-true t h, e)

-- and one that is
pub lock_registers : {t : Bool} {e : Bytes} (s : State) (phase : Bytes) (v : Variable) {x : Answer × State} → t ≡ lockable v → not t ≡ false → e ≡ lock_entry phase v
    → step s (register e) ≡ x → lock_step s phase v ≡ x
unfolding lock_step
lock_registers {t} s phase v q h k e = rw (sym q ∙ not-false t h, ← k) e

-- a name to lock has 2 to 128 bytes
pub lockable_length : {t : Bool} (name : Bytes) → t ≡ (is_name name and eqb (wildcards (units name)) 0) → not t ≡ false → (2 ≤ length name) × (length name ≤ 128)
lockable_length {t} name e h = is_name-length name (and_left _ _ (sym e ∙ not-false t h))

-- the entry in a buffer of 200 bytes, whose first bytes are it
module _ (phase : Bytes) (v : Variable) (z t : Bytes) (p : length phase ≡ 16) (n : length v.namespace ≡ 16) (m : 2 ≤ length v.name) (small : length v.name ≤ 128)
    (l : length z ≡ 200) (q : t ≡ overwrite z 0 (lock_entry phase v)) where
  pub lock_fits : 70 + length v.name + 2 ≤ length t
  lock_fits = omega (arith, ap length q, length_lock phase v p m n, length_overwrite z 0 (lock_entry phase v) (omega (arith, length_lock phase v p m n)))

  pub lock_cut : take (70 + length v.name + 2) t ≡ lock_entry phase v
  lock_cut = ap (take (70 + length v.name + 2)) q ∙ take_front z (lock_entry phase v) (70 + length v.name + 2) (length_lock phase v p m n)

  pub lock_cut_length : 70 + length v.name + 2 ≡ length (take (70 + length v.name + 2) t)
  lock_cut_length = sym (ap length lock_cut ∙ length_lock phase v p m n)
