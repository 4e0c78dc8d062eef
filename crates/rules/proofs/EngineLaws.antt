-- What holds of every call from every state. Assumes nothing.
use Rattle.std.specs.Prelude.{ℕ, ◌≡◌, refl, Bool, true, false, not, cond, length, eqb, leb}
use Rattle.std.proofs.Common.{sym, ap, subst, ◌∙◌, arith, ne_eqb}
use Rattle.std.proofs.Math.Path.{subst⁻¹}
use Rattle.std.proofs.Math.Option.{some, none}
use Rattle.limits.specs.Limits.{policy_bytes, max_store}
use Rattle.slices.specs.Test.{◌and◌}
use Rattle.slices.proofs.TestLaws.{and_no}
use Rattle.slices.specs.Bytes.{Bytes}
use Rattle.policy.specs.Policy.{policy_valid}
use Rattle.policy.proofs.PolicyLaws.{policy_valid-length}
use Rattle.stores.specs.Pair.{sound, sound_alone}
use Rattle.status.specs.declared.Status.{Status}
use Rattle.status.specs.declared.Status.TheVariants.{Success, VolumeCorrupted}
use Rattle.status.specs.Status.{is_success, status_number}
use Rattle.status.proofs.StatusLaws.{success_only}
use Rattle.rules.specs.Set.{Request}
use Rattle.rules.specs.Engine.{State, Call, Answer, Parts, parts, uses, power_on_status, restart_status, status, only_status, with_report, set_report, report_on, given, refusal, answer, effect, step}
use Rattle.rules.specs.Engine.Call.{power_on, restart, register, dump, lock, disable, exit, query, read, set, settled}

-- ---- a policy record of another length than the limit

abbrev OtherLength : Bytes → Type 0
OtherLength p = length p ≡ policy_bytes → ⊥

power_on_length : (s : State) → OtherLength s.policy → power_on_status s.nv s.vol s.policy ≡ VolumeCorrupted
unfolding power_on_status
power_on_length s h = rw (ne_eqb (length s.policy) policy_bytes h, and_no (leb (length s.vol) max_store), and_no (sound_alone s.nv))

restart_length : (s : State) → OtherLength s.policy → restart_status s.nv s.vol s.policy ≡ VolumeCorrupted
unfolding restart_status
restart_length s h = rw (ne_eqb (length s.policy) policy_bytes h, and_no (sound s.nv s.vol))

other_length : (p : Bytes) → OtherLength p → policy_valid p ≡ false
other_length p h = go (policy_valid p) refl
  where
    go : (b : Bool) → policy_valid p ≡ b → b ≡ false
    go true e = absurd (h (policy_valid-length p e))
    go false e = refl

not_none : {A : Type 0} {a : A} → some a ≡ none → ⊥
not_none h = let z : ◌≡◌ {A = ℕ} 0 1 = cc in omega arith

-- ---- the rows

abbrev pub OnlyIf : Bool → Type 0 → Type 0
OnlyIf true P = P
OnlyIf false P = Unit

-- these parts of s and t are equal
pub record SameParts (p : Parts) (s t : State) : Type 0 where
  pub nv : OnlyIf p.nv (s.nv ≡ t.nv)
  pub vol : OnlyIf p.vol (s.vol ≡ t.vol)
  pub policy : OnlyIf p.policy (s.policy ≡ t.policy)
  pub switches : OnlyIf p.switches (s.switches ≡ t.switches)

-- t has of s every part that is not written
abbrev pub Kept : Parts → State → State → Type 0
Kept w s t = SameParts (parts (not w.nv) (not w.vol) (not w.policy) (not w.switches)) t s

-- what holds of each call by its row: what it gives has the status 0; it keeps what it does not write; its answer depends on what it is lent;
-- if it is lent a policy record, one of another length is 10, and one that is not valid too, but of a start, which hands switches back; if it is lent the
-- stores and is no start, stores that are not sound are 10
record ByRow (s : State) (c : Call) : Type 0 where
  done : (given s c).status ≡ Success
  keeps : Kept (uses c).writes s (effect s c)
  lent : (t : State) → SameParts (uses c).lent s t → (step s c).0 ≡ (step t c).0
  length10 : OtherLength s.policy → OnlyIf (uses c).lent.policy (status s c ≡ VolumeCorrupted)
  invalid10 : (uses c).hands_back ≡ none → policy_valid s.policy ≡ false → OnlyIf (uses c).lent.policy (status s c ≡ VolumeCorrupted)
  unsound10 : (uses c).hands_back ≡ none → sound s.nv s.vol ≡ false → OnlyIf (uses c).lent.nv (status s c ≡ VolumeCorrupted)

by_row : (s : State) (c : Call) → ByRow s c
unfolding step ◌and◌
by_row s (power_on allowed) = record { done = refl; keeps = record { nv = refl; vol = tt; policy = tt; switches = tt }; lent = λ t e. rw (e.nv, e.vol, e.policy); length10 = power_on_length s; invalid10 = λ n. absurd (not_none n); unsound10 = λ n. absurd (not_none n) }
by_row s (restart allowed) = record { done = refl; keeps = record { nv = refl; vol = refl; policy = tt; switches = tt }; lent = λ t e. rw (e.nv, e.vol, e.policy); length10 = restart_length s; invalid10 = λ n. absurd (not_none n); unsound10 = λ n. absurd (not_none n) }
by_row s (register x) = record { done = refl; keeps = record { nv = refl; vol = refl; policy = tt; switches = refl }; lent = λ t e. rw (e.policy, e.switches); length10 = λ h. rw (other_length s.policy h); invalid10 = λ n v. rw v; unsound10 = λ n v. tt }
by_row s (dump buffer) = record { done = refl; keeps = record { nv = refl; vol = refl; policy = refl; switches = refl }; lent = λ t e. rw (e.policy, e.switches); length10 = λ h. rw (other_length s.policy h); invalid10 = λ n v. rw v; unsound10 = λ n v. tt }
by_row s lock = record { done = refl; keeps = record { nv = refl; vol = refl; policy = refl; switches = tt }; lent = λ t e. rw e.switches; length10 = λ h. tt; invalid10 = λ n v. tt; unsound10 = λ n v. tt }
by_row s disable = record { done = refl; keeps = record { nv = refl; vol = refl; policy = refl; switches = tt }; lent = λ t e. rw e.switches; length10 = λ h. tt; invalid10 = λ n v. tt; unsound10 = λ n v. tt }
by_row s exit = record { done = refl; keeps = record { nv = refl; vol = refl; policy = refl; switches = tt }; lent = λ t e. rw e.switches; length10 = λ h. tt; invalid10 = λ n v. tt; unsound10 = λ n v. tt }
by_row s query = record { done = refl; keeps = record { nv = refl; vol = refl; policy = refl; switches = refl }; lent = λ t e. rw e.switches; length10 = λ h. tt; invalid10 = λ n v. tt; unsound10 = λ n v. tt }
by_row s (read v) = record { done = refl; keeps = record { nv = refl; vol = refl; policy = refl; switches = refl }; lent = λ t e. rw (e.nv, e.vol, e.switches); length10 = λ h. tt; invalid10 = λ n v. tt; unsound10 = λ n v. rw v }
by_row s (set r) = record { done = refl; keeps = record { nv = tt; vol = tt; policy = refl; switches = refl }; lent = λ t e. rw (e.nv, e.vol, e.policy, e.switches); length10 = λ h. rw (other_length s.policy h, and_no (sound s.nv s.vol)); invalid10 = λ n v. rw (v, and_no (sound s.nv s.vol)); unsound10 = λ n v. rw v }
by_row s (settled v) = record { done = refl; keeps = record { nv = refl; vol = refl; policy = refl; switches = refl }; lent = λ t e. rw (e.nv, e.vol, e.policy); length10 = λ h. rw (other_length s.policy h, and_no (sound s.nv s.vol)); invalid10 = λ n v. rw (v, and_no (sound s.nv s.vol)); unsound10 = λ n v. rw v }

-- ---- the status, and a refusal

-- the answer's status is the status
pub answer_status : (s : State) (c : Call) (n : Status) → (answer s c n).status ≡ n
answer_status s c n = go (is_success n) refl
  where
    go : (b : Bool) → is_success n ≡ b → (cond b (given s c) (refusal s c n)).status ≡ n
    go true h = (by_row s c).done ∙ sym (success_only n h)
    go false h = refl

pub step_status : (s : State) (c : Call) → (step s c).0.status ≡ status s c
unfolding step
step_status s c = answer_status s c (status s c)

-- where 0 has nothing beside it and a refusal neither, the answer is the status alone
pub answer_alone : (s : State) (c : Call) (n : Status) → given s c ≡ only_status Success → refusal s c n ≡ only_status n → answer s c n ≡ only_status n
answer_alone s c n g r = go (is_success n) refl
  where
    go : (b : Bool) → is_success n ≡ b → cond b (given s c) (refusal s c n) ≡ only_status n
    go true h = g ∙ ap only_status (sym (success_only n h))
    go false h = r

-- a set answers its status and its report
pub answer_reported : (s : State) (r : Request) (n : Status) → answer s (set r) n ≡ with_report n (set_report s r)
answer_reported s r n = go (is_success n) refl
  where
    go : (b : Bool) → is_success n ≡ b → cond b (given s (set r)) (refusal s (set r) n) ≡ with_report n (set_report s r)
    go true h = ap (λ m. with_report m (set_report s r)) (sym (success_only n h))
    go false h = refl

-- A REFUSED CALL CHANGES NOTHING, whatever the state and the call
pub refused_changes_nothing : (s : State) (c : Call) → is_success (step s c).0.status ≡ false → (step s c).1 ≡ s
unfolding step
refused_changes_nothing s c h = ap (λ b. cond b (effect s c) s) (ap is_success (sym (answer_status s c (status s c))) ∙ h)

-- a call that answers 0 has its effect
pub granted_effect : (s : State) (c : Call) → is_success (step s c).0.status ≡ true → (step s c).1 ≡ effect s c
unfolding step
granted_effect s c h = ap (λ b. cond b (effect s c) s) (ap is_success (sym (answer_status s c (status s c))) ∙ h)

-- and a call that does not answers as its row says
refused_answer_lem : (s : State) (c : Call) → is_success (step s c).0.status ≡ false → (step s c).0 ≡ refusal s c (status s c)
unfolding step
refused_answer_lem s c h = ap (λ b. cond b (given s c) (refusal s c (status s c))) (ap is_success (sym (answer_status s c (status s c))) ∙ h)

-- NO NUMBER BUT ZERO BESIDE A REFUSAL, except a dump's length beside 5; a dump's buffer is as it was, a power-on or restart hands back
-- the refused switches, a set has its report, and nothing else is there
pub record BesideRefusal (s : State) (c : Call) (a : Answer) : Type 0 where
  pub number : eqb (status_number a.status) 5 ≡ false → a.number ≡ 0
  pub bytes : a.bytes ≡ (uses c).refused_bytes
  pub switches : a.switches ≡ (uses c).hands_back
  pub report : a.report ≡ report_on s (uses c).reports

pub beside_refusal : (s : State) (c : Call) → is_success (step s c).0.status ≡ false → BesideRefusal s c (step s c).0
beside_refusal s c h =
    subst⁻¹ (BesideRefusal s c) (refused_answer_lem s c h) (record { number = λ m. rw m (go (uses c).tells_needed); bytes = refl; switches = refl; report = refl })
  where
    go : (b : Bool) → cond {A = ℕ} b 0 0 ≡ 0
    go true = refl
    go false = refl

-- ---- what is lent and what is kept

-- A CALL'S ANSWER DEPENDS ON THE PARTS THAT IT IS LENT ALONE, and so only those can get it 10
pub answers_by_lent : (s t : State) (c : Call) → SameParts (uses c).lent s t → (step s c).0 ≡ (step t c).0
answers_by_lent s t c e = (by_row s c).lent t e

only_if : (b : Bool) (P : Type 0) → P → OnlyIf b P
only_if true P p = p
only_if false P p = tt

same_parts : (p : Parts) (s : State) → SameParts p s s
same_parts p s =
    record {
      nv = only_if p.nv (s.nv ≡ s.nv) refl;
      vol = only_if p.vol (s.vol ≡ s.vol) refl;
      policy = only_if p.policy (s.policy ≡ s.policy) refl;
      switches = only_if p.switches (s.switches ≡ s.switches) refl;
    }

-- EACH CALL KEEPS WHAT IT DOES NOT WRITE, done or refused
pub kept : (s : State) (c : Call) → Kept (uses c).writes s (step s c).1
kept s c = go (is_success (step s c).0.status) refl
  where
    go : (b : Bool) → is_success (step s c).0.status ≡ b → Kept (uses c).writes s (step s c).1
    go true h = subst⁻¹ (Kept (uses c).writes s) (granted_effect s c h) (by_row s c).keeps
    go false h = subst⁻¹ (Kept (uses c).writes s) (refused_changes_nothing s c h) (same_parts _ s)

-- WHICH CALLS WRITE A STORE: a power-on, a set, and no other
pub data StoreWriter : Call → Type 0 where
  powers_on : (allowed : Bool) → StoreWriter (power_on allowed)
  sets : (r : Request) → StoreWriter (set r)
  no_writer : {c : Call} → (uses c).writes.nv ≡ false → (uses c).writes.vol ≡ false → StoreWriter c

pub store_writer : (c : Call) → StoreWriter c
store_writer (power_on allowed) = powers_on allowed
store_writer (restart allowed) = no_writer refl refl
store_writer (register e) = no_writer refl refl
store_writer (dump buffer) = no_writer refl refl
store_writer lock = no_writer refl refl
store_writer disable = no_writer refl refl
store_writer exit = no_writer refl refl
store_writer query = no_writer refl refl
store_writer (read v) = no_writer refl refl
store_writer (set r) = sets r
store_writer (settled v) = no_writer refl refl

-- A POLICY RECORD OF ANOTHER LENGTH IS 10 IN EVERY CALL THAT IS LENT ONE, whatever else is wrong
pub other_length_corrupted : (s : State) (c : Call) → (uses c).lent.policy ≡ true → (length s.policy ≡ policy_bytes → ⊥)
    → (step s c).0.status ≡ VolumeCorrupted
other_length_corrupted s c l h = step_status s c ∙ subst (λ b. OnlyIf b (status s c ≡ VolumeCorrupted)) l ((by_row s c).length10 h)

-- ONE THAT IS NOT VALID IS 10 TOO, in every call that is lent one and is no start
pub invalid_corrupted : (s : State) (c : Call) → (uses c).lent.policy ≡ true → (uses c).hands_back ≡ none → policy_valid s.policy ≡ false
    → (step s c).0.status ≡ VolumeCorrupted
invalid_corrupted s c l n v = step_status s c ∙ subst (λ b. OnlyIf b (status s c ≡ VolumeCorrupted)) l ((by_row s c).invalid10 n v)

-- AND STORES THAT ARE NOT SOUND ARE 10, whatever else is wrong, in every call that is lent them and is no start
pub unsound_corrupted : (s : State) (c : Call) → (uses c).lent.nv ≡ true → (uses c).hands_back ≡ none → sound s.nv s.vol ≡ false
    → (step s c).0.status ≡ VolumeCorrupted
unsound_corrupted s c l n v = step_status s c ∙ subst (λ b. OnlyIf b (status s c ≡ VolumeCorrupted)) l ((by_row s c).unsound10 n v)
