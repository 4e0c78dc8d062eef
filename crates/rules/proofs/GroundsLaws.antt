-- The computed status and the grounds of Grounds.antt agree, both ways, for every state and call. Assumes nothing.
use Rattle.std.specs.Prelude.{ℕ, suc, ◌+◌, ◌<◌, ◌≡◌, List, [], ◌∷◌, Bool, false, not, cond, ◌⊎◌, ◌↔◌, eqb, leb, ltb}
use Rattle.std.proofs.Math.Path.{refl}
use Rattle.std.proofs.Common.{sym, ap, ap₂, subst, ◌∙◌, true≢false, inl, inr, arith, lit<}
use Rattle.std.proofs.Math.Bool.{true}
use Rattle.std.proofs.lemmas.Bool.{false≢true, not-true, not-false}
use Rattle.std.proofs.Math.ListN.{length}
use Rattle.limits.specs.Limits.{max_entries, policy_bytes, max_store}
use Rattle.lists.specs.Lists.{Among}
use Rattle.lists.proofs.ListsLaws.{Less, less}
use Rattle.slices.specs.Test.{◌and◌}
use Rattle.slices.proofs.TestLaws.{forced_off}
use Rattle.slices.specs.Bytes.{Bytes}
use Rattle.slices.specs.Chunks.{flat, contains}
use Rattle.names.specs.Name.{Variable, named}
use Rattle.stores.specs.Pair.{sound, sound_alone, lookup}
use Rattle.entry.specs.Entry.{size_field, well_formed, same_target}
use Rattle.entry.proofs.EntryLaws.{sized, same_target-same, same_target-of}
use Rattle.policy.specs.Policy.{entries_of, policy_valid}
use Rattle.status.specs.declared.Status.{Status}
use Rattle.status.specs.declared.Status.TheVariants.{Success, InvalidParameter, Unsupported, BufferTooSmall, WriteProtected, OutOfResources, VolumeCorrupted, NotFound, AlreadyStarted}
use Rattle.status.specs.Status.{is_success}
use Rattle.status.proofs.StatusLaws.{success_only}
use Rattle.rules.specs.Set.{Request, exists, shown}
use Rattle.rules.specs.Engine.{State, Call, power_on_status, restart_status, register_status, dump_status, read_status, settled_status, status, step}
use Rattle.rules.proofs.EngineLaws.{step_status}
use Rattle.rules.specs.Engine.Call.{power_on, restart, register, dump, lock, disable, exit, query, read, set, settled}
use Rattle.rules.specs.Grounds.{Not, HasEntries, sum_of_sizes, SoundStores, Absent, Hidden, Applies, FirstAt, Answers, Refused}
use Rattle.rules.specs.Grounds.Applies.{power_on_unsound, power_on_volatile_too_long, power_on_bad_record, power_on_done, restart_unsound, restart_bad_record, restart_done}
use Rattle.rules.specs.Grounds.Applies.{register_bad_record, register_exited, register_locked, register_malformed, register_repeated, register_too_many, register_too_long, register_done, dump_bad_record, dump_exited, dump_short, dump_done}
use Rattle.rules.specs.Grounds.Applies.{lock_exited, lock_locked, lock_done, disable_exited, disable_disabled, disable_locked, disable_not_allowed, disable_done, exit_exited, exit_done, query_done, read_unsound, read_bad_name, read_absent, read_hidden, read_done}
use Rattle.rules.proofs.ConditionLaws.{tells_not, tells_eq, tells_le, tells_more, tells_off, tells_named}
use Rattle.store.proofs.DistinctLaws.{among_contains}
use Rattle.rules.proofs.FoundLaws.{tells_sound, tells_alone, sum_of_sizes_lem, valid_entries, entries_read, tells_entries, tells_unseen, contains_among}
use Rattle.rules.specs.Grounds.Applies.{set_unsound, set_bad_record, set_bad_name, set_long_payload, set_unknown_bit, set_runtime_without_bs, set_append_without_bs, set_not_runtime, set_too_short, set_too_long, set_bit_missing, set_bit_prohibited, set_locked}
use Rattle.rules.specs.Grounds.Applies.{set_absent, set_hidden, set_volatile, set_deleted, set_other_attributes, set_empty_append, set_append_too_long, set_no_room_nv, set_no_room_vol, set_done, settled_unsound, settled_bad_record, settled_bad_name, settled_done}
use Rattle.rules.proofs.SetGroundsLaws.{set_answers}
use Rattle.rules.proofs.OrderedLaws.{Row, row, first_of, NoneBefore, Grounds, last, ◌then◌, NoGrounds, first_answers}

-- ---- power-on and restart

power_on_chain : (a b c : Bool) → cond (a and b and c) Success VolumeCorrupted
    ≡ first_of (row 0 (not a) VolumeCorrupted ∷ row 0 (not b) VolumeCorrupted ∷ row 0 (not c) VolumeCorrupted ∷ row 1 true Success ∷ [])
unfolding ◌and◌
power_on_chain false b c = refl
power_on_chain true false c = refl
power_on_chain true true false = refl
power_on_chain true true true = refl

module _ (s : State) (allowed : Bool) where
  abbrev power_on_rows : List Row
  power_on_rows =
      row 0 (not (sound_alone s.nv)) VolumeCorrupted ∷ row 0 (not (leb (length s.vol) max_store)) VolumeCorrupted
      ∷ row 0 (not (eqb (length s.policy) policy_bytes)) VolumeCorrupted ∷ row 1 true Success ∷ []

  power_on_grounds : Grounds s (power_on allowed) power_on_rows power_on_rows
  power_on_grounds =
      (λ n t. power_on_unsound ((tells_not _ (tells_alone s.nv)).0 t))
      then (λ n t. power_on_volatile_too_long ((tells_more (length s.vol) max_store).0 t))
      then (λ n t. power_on_bad_record ((tells_not _ (tells_eq (length s.policy) policy_bytes)).0 t))
      then (λ n t. power_on_done)
      then last

  no_power_on : NoGrounds s (power_on allowed) power_on_rows
  no_power_on p n k m l (power_on_unsound h) = tells_off _ (tells_not _ (tells_alone s.nv)) (n 0 l) h
  no_power_on p n k m l (power_on_volatile_too_long h) = tells_off _ (tells_not _ (tells_le (length s.vol) max_store)) (n 1 l) (λ g. omega arith)
  no_power_on p n k m l (power_on_bad_record h) = tells_off _ (tells_not _ (tells_eq (length s.policy) policy_bytes)) (n 2 l) h
  no_power_on p n k m l power_on_done = true≢false (n 3 l)

  power_on_answers : Answers s (power_on allowed) (status s (power_on allowed))
  unfolding power_on_status ◌and◌
  power_on_answers =
      first_answers s (power_on allowed) power_on_rows refl refl (power_on_chain (sound_alone s.nv) (leb (length s.vol) max_store) (eqb (length s.policy) policy_bytes)) power_on_grounds no_power_on

restart_chain : (a b : Bool) → cond (a and b) Success VolumeCorrupted ≡ first_of (row 0 (not a) VolumeCorrupted ∷ row 0 (not b) VolumeCorrupted ∷ row 1 true Success ∷ [])
unfolding ◌and◌
restart_chain false b = refl
restart_chain true false = refl
restart_chain true true = refl

module _ (s : State) (allowed : Bool) where
  abbrev restart_rows : List Row
  restart_rows = row 0 (not (sound s.nv s.vol)) VolumeCorrupted ∷ row 0 (not (eqb (length s.policy) policy_bytes)) VolumeCorrupted ∷ row 1 true Success ∷ []

  restart_grounds : Grounds s (restart allowed) restart_rows restart_rows
  restart_grounds =
      (λ n t. restart_unsound ((tells_not _ (tells_sound s.nv s.vol)).0 t))
      then (λ n t. restart_bad_record ((tells_not _ (tells_eq (length s.policy) policy_bytes)).0 t))
      then (λ n t. restart_done)
      then last

  no_restart : NoGrounds s (restart allowed) restart_rows
  no_restart p n k m l (restart_unsound h) = tells_off _ (tells_not _ (tells_sound s.nv s.vol)) (n 0 l) h
  no_restart p n k m l (restart_bad_record h) = tells_off _ (tells_not _ (tells_eq (length s.policy) policy_bytes)) (n 1 l) h
  no_restart p n k m l restart_done = true≢false (n 2 l)

  restart_answers : Answers s (restart allowed) (status s (restart allowed))
  unfolding restart_status ◌and◌
  restart_answers =
      first_answers s (restart allowed) restart_rows refl refl (restart_chain (sound s.nv s.vol) (eqb (length s.policy) policy_bytes)) restart_grounds no_restart

-- ---- register

register_chain : (v x l w r a b : Bool)
    → cond v (cond x Unsupported (cond l WriteProtected (cond (not w) InvalidParameter (cond r AlreadyStarted (cond (a and b) Success OutOfResources))))) VolumeCorrupted
    ≡ first_of (row 0 (not v) VolumeCorrupted ∷ row 1 x Unsupported ∷ row 2 l WriteProtected ∷ row 3 (not w) InvalidParameter ∷ row 4 r AlreadyStarted
    ∷ row 5 (not a) OutOfResources ∷ row 5 (not b) OutOfResources ∷ row 6 true Success ∷ [])
unfolding ◌and◌
register_chain false x l w r a b = refl
register_chain true true l w r a b = refl
register_chain true false true w r a b = refl
register_chain true false false false r a b = refl
register_chain true false false true true a b = refl
register_chain true false false true false false b = refl
register_chain true false false true false true false = refl
register_chain true false false true false true true = refl

module _ (s : State) (e : Bytes) where
  abbrev es : List Bytes
  es = entries_of s.policy

  abbrev register_rows : List Row
  register_rows =
      row 0 (not (policy_valid s.policy)) VolumeCorrupted ∷ row 1 s.switches.exited Unsupported ∷ row 2 s.switches.locked WriteProtected
      ∷ row 3 (not (well_formed e)) InvalidParameter ∷ row 4 (contains (same_target e) es) AlreadyStarted
      ∷ row 5 (not (leb (suc (length es)) max_entries)) OutOfResources
      ∷ row 5 (not (leb (length (flat es) + length e) policy_bytes)) OutOfResources ∷ row 6 true Success ∷ []

  -- the record is valid, and the entry well formed, where the tests before have failed
  module _ (p : ℕ) (n : NoneBefore register_rows p) where
    register_listed : 0 < p → HasEntries s es
    register_listed l = valid_entries s (not-false _ (n 0 l))

    register_formed : 3 < p → well_formed e ≡ true
    register_formed l = not-false _ (n 3 l)

    register_sum : 3 < p → length (flat es) + length e ≡ sum_of_sizes es + size_field e
    register_sum l = ap₂ ◌+◌ (sum_of_sizes_lem s) (sym (sized e (register_formed l)).stated)

  register_grounds : Grounds s (register e) register_rows register_rows
  register_grounds =
      (λ n t. register_bad_record (λ x k. (tells_not _ (tells_entries s)).0 t (x, k)))
      then (λ n t. register_exited t)
      then (λ n t. register_locked t)
      then (λ n t. register_malformed (λ h. false≢true (sym (not-true _ t) ∙ h)))
      then (λ n t.
      let w = contains_among (same_target e) es t in
      let q = same_target-same e w.0 w.2 in
      register_repeated es w.0 (register_listed 4 n (lit< tt)) w.1 q.namespace q.name)
      then (λ n t.
      let h = (tells_not _ (tells_le (suc (length es)) max_entries)).0 t in
      register_too_many es (register_listed 5 n (lit< tt)) (omega arith))
      then (λ n t.
      let h = (tells_not _ (tells_le (length (flat es) + length e) policy_bytes)).0 t in
      register_too_long {e = e} es (register_listed 5 n (lit< tt)) (let q = register_sum 5 n (lit< tt) in omega arith))
      then (λ n t. register_done)
      then last

  no_register : NoGrounds s (register e) register_rows
  no_register p n k m l (register_bad_record h) = h es (register_listed p n l)
  no_register p n k m l (register_exited h) = true≢false (sym h ∙ n 1 l)
  no_register p n k m l (register_locked h) = true≢false (sym h ∙ n 2 l)
  no_register p n k m l (register_malformed h) = h (register_formed p n l)
  no_register p n k m l (register_repeated xs f w j g i) =
      let o = subst (Among f) (entries_read s xs w) j in
      true≢false (sym (among_contains (same_target e) es f o (same_target-of e f (record { namespace = g; name = i }))) ∙ n 4 l)
  no_register p n k m l (register_too_many xs w h) =
      let o = ap length (entries_read s xs w) in
      tells_off _ (tells_not _ (tells_le (suc (length es)) max_entries)) (n 5 l) (λ g. omega arith)
  no_register p n k m l (register_too_long xs w h) =
      let o = ap sum_of_sizes (entries_read s xs w) in
      let q = register_sum p n (omega arith) in
      tells_off _ (tells_not _ (tells_le (length (flat es) + length e) policy_bytes)) (n 6 l) (λ g. omega arith)
  no_register p n k m l register_done = true≢false (n 7 l)

  register_answers : Answers s (register e) (status s (register e))
  unfolding register_status ◌and◌
  register_answers =
      first_answers s (register e) register_rows refl refl
      (register_chain (policy_valid s.policy) s.switches.exited s.switches.locked (well_formed e) (contains (same_target e) es) (leb (suc (length es)) max_entries) (leb (length (flat es) + length e) policy_bytes))
      register_grounds no_register

-- ---- dump

dump_chain : (v x f : Bool) → cond v (cond x Unsupported (cond f Success BufferTooSmall)) VolumeCorrupted
    ≡ first_of (row 0 (not v) VolumeCorrupted ∷ row 1 x Unsupported ∷ row 2 (not f) BufferTooSmall ∷ row 3 true Success ∷ [])
dump_chain false x f = refl
dump_chain true true f = refl
dump_chain true false false = refl
dump_chain true false true = refl

module _ (s : State) (buffer : Bytes) where
  abbrev listed : List Bytes
  listed = entries_of s.policy

  abbrev dump_rows : List Row
  dump_rows =
      row 0 (not (policy_valid s.policy)) VolumeCorrupted ∷ row 1 s.switches.exited Unsupported
      ∷ row 2 (not (leb (length (flat listed)) (length buffer))) BufferTooSmall ∷ row 3 true Success ∷ []

  dump_listed : (p : ℕ) → NoneBefore dump_rows p → 0 < p → HasEntries s listed
  dump_listed p n l = valid_entries s (not-false _ (n 0 l))

  dump_grounds : Grounds s (dump buffer) dump_rows dump_rows
  dump_grounds =
      (λ n t. dump_bad_record (λ x k. (tells_not _ (tells_entries s)).0 t (x, k)))
      then (λ n t. dump_exited t)
      then (λ n t.
      let h = (tells_not _ (tells_le (length (flat listed)) (length buffer))).0 t in
      dump_short {buffer = buffer} listed (dump_listed 2 n (lit< tt)) (let q = sum_of_sizes_lem s in omega arith))
      then (λ n t. dump_done)
      then last

  no_dump_lem : NoGrounds s (dump buffer) dump_rows
  no_dump_lem p n k m l (dump_bad_record h) = h listed (dump_listed p n l)
  no_dump_lem p n k m l (dump_exited h) = true≢false (sym h ∙ n 1 l)
  no_dump_lem p n k m l (dump_short xs w h) =
      let o = ap sum_of_sizes (entries_read s xs w) in
      let q = sum_of_sizes_lem s in
      tells_off _ (tells_not _ (tells_le (length (flat listed)) (length buffer))) (n 2 l) (λ g. omega arith)
  no_dump_lem p n k m l dump_done = true≢false (n 3 l)

  dump_answers : Answers s (dump buffer) (status s (dump buffer))
  unfolding dump_status ◌and◌
  dump_answers = first_answers s (dump buffer) dump_rows refl refl (dump_chain (policy_valid s.policy) s.switches.exited (leb (length (flat listed)) (length buffer))) dump_grounds no_dump_lem

-- ---- lock, disable, exit, query

disable_chain : (x e l a : Bool) → cond x Unsupported (cond e (cond l WriteProtected (cond a Success WriteProtected)) AlreadyStarted)
    ≡ first_of (row 0 x Unsupported ∷ row 1 (not e) AlreadyStarted ∷ row 2 l WriteProtected ∷ row 2 (not a) WriteProtected ∷ row 3 true Success ∷ [])
disable_chain true e l a = refl
disable_chain false false l a = refl
disable_chain false true true a = refl
disable_chain false true false false = refl
disable_chain false true false true = refl

module _ (s : State) where
  abbrev lock_rows : List Row
  lock_rows = row 0 s.switches.exited Unsupported ∷ row 1 s.switches.locked WriteProtected ∷ row 2 true Success ∷ []

  no_lock : NoGrounds s lock lock_rows
  no_lock p n k m l (lock_exited h) = true≢false (sym h ∙ n 0 l)
  no_lock p n k m l (lock_locked h) = true≢false (sym h ∙ n 1 l)
  no_lock p n k m l lock_done = true≢false (n 2 l)

  lock_answers : Answers s lock (status s lock)
  unfolding ◌and◌
  lock_answers = first_answers s lock lock_rows refl refl refl ((λ n t. lock_exited t) then (λ n t. lock_locked t) then (λ n t. lock_done) then last) no_lock

  abbrev exit_rows : List Row
  exit_rows = row 0 s.switches.exited Unsupported ∷ row 1 true Success ∷ []

  no_exit : NoGrounds s exit exit_rows
  no_exit p n k m l (exit_exited h) = true≢false (sym h ∙ n 0 l)
  no_exit p n k m l exit_done = true≢false (n 1 l)

  exit_answers : Answers s exit (status s exit)
  unfolding ◌and◌
  exit_answers = first_answers s exit exit_rows refl refl refl ((λ n t. exit_exited t) then (λ n t. exit_done) then last) no_exit

  abbrev disable_rows : List Row
  disable_rows =
      row 0 s.switches.exited Unsupported ∷ row 1 (not s.switches.enabled) AlreadyStarted ∷ row 2 s.switches.locked WriteProtected
      ∷ row 2 (not s.switches.disabling_allowed) WriteProtected ∷ row 3 true Success ∷ []

  disable_grounds : Grounds s disable disable_rows disable_rows
  disable_grounds =
      (λ n t. disable_exited t)
      then (λ n t. disable_disabled (not-true _ t))
      then (λ n t. disable_locked t)
      then (λ n t. disable_not_allowed (not-true _ t))
      then (λ n t. disable_done)
      then last

  no_disable : NoGrounds s disable disable_rows
  no_disable p n k m l (disable_exited h) = true≢false (sym h ∙ n 0 l)
  no_disable p n k m l (disable_disabled h) = true≢false (sym (not-false _ (n 1 l)) ∙ h)
  no_disable p n k m l (disable_locked h) = true≢false (sym h ∙ n 2 l)
  no_disable p n k m l (disable_not_allowed h) = true≢false (sym (not-false _ (n 3 l)) ∙ h)
  no_disable p n k m l disable_done = true≢false (n 4 l)

  disable_answers : Answers s disable (status s disable)
  unfolding ◌and◌
  disable_answers =
      first_answers s disable disable_rows refl refl
      (disable_chain s.switches.exited s.switches.enabled s.switches.locked s.switches.disabling_allowed) disable_grounds no_disable

  no_query : NoGrounds s query (row 0 true Success ∷ [])
  no_query p n k m l query_done = true≢false (n 0 l)

  query_answers : Answers s query (status s query)
  unfolding ◌and◌
  query_answers = first_answers s query (row 0 true Success ∷ []) refl refl refl ((λ n t. query_done) then last) no_query

-- ---- read

read_chain : (s n x : Bool) → cond s (cond n (cond x Success NotFound) InvalidParameter) VolumeCorrupted
    ≡ first_of (row 0 (not s) VolumeCorrupted ∷ row 1 (not n) InvalidParameter ∷ row 2 (not x) NotFound ∷ row 3 true Success ∷ [])
read_chain false n x = refl
read_chain true false x = refl
read_chain true true false = refl
read_chain true true true = refl

module _ (s : State) (v : Variable) where
  abbrev read_rows : List Row
  read_rows =
      row 0 (not (sound s.nv s.vol)) VolumeCorrupted ∷ row 1 (not (named v)) InvalidParameter
      ∷ row 2 (not (exists (shown s.switches.exited (lookup s.nv s.vol v)))) NotFound ∷ row 3 true Success ∷ []

  read_sound : (p : ℕ) → NoneBefore read_rows p → 0 < p → SoundStores s.nv s.vol
  read_sound p n l = (tells_sound s.nv s.vol).0 (not-false _ (n 0 l))

  unseen_ground : Absent s v ⊎ ((q : Bytes) × Hidden s v q) → Applies s (read v) 2 NotFound
  unseen_ground (inl h) = read_absent h
  unseen_ground (inr h) = read_hidden h.0 h.1

  read_grounds : Grounds s (read v) read_rows read_rows
  read_grounds =
      (λ n t. read_unsound ((tells_not _ (tells_sound s.nv s.vol)).0 t))
      then (λ n t. read_bad_name ((tells_not _ (tells_named v)).0 t))
      then (λ n t. unseen_ground ((tells_unseen s v (read_sound 2 n (lit< tt))).0 t))
      then (λ n t. read_done)
      then last

  no_read : NoGrounds s (read v) read_rows
  no_read p n k m l (read_unsound h) = h (read_sound p n l)
  no_read p n k m l (read_bad_name h) = tells_off _ (tells_not _ (tells_named v)) (n 1 l) h
  no_read p n k m l (read_absent h) = tells_off _ (tells_unseen s v (read_sound p n (omega arith))) (n 2 l) (inl h)
  no_read p n k m l (read_hidden q h) = tells_off _ (tells_unseen s v (read_sound p n (omega arith))) (n 2 l) (inr (q, h))
  no_read p n k m l read_done = true≢false (n 3 l)

  read_answers : Answers s (read v) (status s (read v))
  unfolding read_status ◌and◌
  read_answers = first_answers s (read v) read_rows refl refl (read_chain (sound s.nv s.vol) (named v) (exists (shown s.switches.exited (lookup s.nv s.vol v)))) read_grounds no_read

-- ---- settled

settled_chain : (s p n : Bool) → cond (s and p) (cond n Success InvalidParameter) VolumeCorrupted
    ≡ first_of (row 0 (not s) VolumeCorrupted ∷ row 0 (not p) VolumeCorrupted ∷ row 1 (not n) InvalidParameter ∷ row 2 true Success ∷ [])
unfolding ◌and◌
settled_chain false p n = refl
settled_chain true false n = refl
settled_chain true true false = refl
settled_chain true true true = refl

module _ (s : State) (v : Variable) where
  abbrev settled_rows : List Row
  settled_rows =
      row 0 (not (sound s.nv s.vol)) VolumeCorrupted ∷ row 0 (not (policy_valid s.policy)) VolumeCorrupted
      ∷ row 1 (not (named v)) InvalidParameter ∷ row 2 true Success ∷ []

  settled_grounds : Grounds s (settled v) settled_rows settled_rows
  settled_grounds =
      (λ n t. settled_unsound ((tells_not _ (tells_sound s.nv s.vol)).0 t))
      then (λ n t. settled_bad_record (λ x k. (tells_not _ (tells_entries s)).0 t (x, k)))
      then (λ n t. settled_bad_name ((tells_not _ (tells_named v)).0 t))
      then (λ n t. settled_done)
      then last

  no_settled : NoGrounds s (settled v) settled_rows
  no_settled p n k m l (settled_unsound h) = tells_off _ (tells_not _ (tells_sound s.nv s.vol)) (n 0 l) h
  no_settled p n k m l (settled_bad_record h) = h (entries_of s.policy) (valid_entries s (not-false _ (n 1 l)))
  no_settled p n k m l (settled_bad_name h) = tells_off _ (tells_not _ (tells_named v)) (n 2 l) h
  no_settled p n k m l settled_done = true≢false (n 3 l)

  settled_answers : Answers s (settled v) (status s (settled v))
  unfolding settled_status ◌and◌
  settled_answers = first_answers s (settled v) settled_rows refl refl (settled_chain (sound s.nv s.vol) (policy_valid s.policy) (named v)) settled_grounds no_settled

-- ---- THE AGREEMENT

-- the computed status is an answer, so there is at least one
pub status_answers : (s : State) (c : Call) → Answers s c (status s c)
status_answers s (power_on allowed) = power_on_answers s allowed
status_answers s (restart allowed) = restart_answers s allowed
status_answers s (register e) = register_answers s e
status_answers s (dump buffer) = dump_answers s buffer
status_answers s lock = lock_answers s
status_answers s disable = disable_answers s
status_answers s exit = exit_answers s
status_answers s query = query_answers s
status_answers s (read v) = read_answers s v
status_answers s (set r) = set_answers s r
status_answers s (settled v) = settled_answers s v

-- the status that the grounds at a place give
abbrev gives : Call → ℕ → Status
gives (power_on allowed) k = cond (ltb k 1) VolumeCorrupted Success
gives (restart allowed) k = cond (ltb k 1) VolumeCorrupted Success
gives (register e) k =
    cond (ltb k 1) VolumeCorrupted (cond (ltb k 2) Unsupported (cond (ltb k 3) WriteProtected (cond (ltb k 4) InvalidParameter (cond (ltb k 5) AlreadyStarted
    (cond (ltb k 6) OutOfResources Success)))))
gives (dump buffer) k = cond (ltb k 1) VolumeCorrupted (cond (ltb k 2) Unsupported (cond (ltb k 3) BufferTooSmall Success))
gives lock k = cond (ltb k 1) Unsupported (cond (ltb k 2) WriteProtected Success)
gives disable k = cond (ltb k 1) Unsupported (cond (ltb k 2) AlreadyStarted (cond (ltb k 3) WriteProtected Success))
gives exit k = cond (ltb k 1) Unsupported Success
gives query k = Success
gives (read v) k = cond (ltb k 1) VolumeCorrupted (cond (ltb k 2) InvalidParameter (cond (ltb k 3) NotFound Success))
gives (set r) k =
    cond (ltb k 10) VolumeCorrupted (cond (ltb k 20) InvalidParameter (cond (ltb k 30) Unsupported (cond (ltb k 43) InvalidParameter
    (cond (ltb k 51) WriteProtected (cond (ltb k 52) NotFound (cond (ltb k 53) WriteProtected (cond (ltb k 60) Success (cond (ltb k 70) InvalidParameter (cond (ltb k 80) Success
    (cond (ltb k 100) OutOfResources Success))))))))))
gives (settled v) k = cond (ltb k 1) VolumeCorrupted (cond (ltb k 2) InvalidParameter Success)

at_place : (s : State) (c : Call) (k : ℕ) (n : Status) → Applies s c k n → n ≡ gives c k
at_place s c k n (power_on_unsound h) = refl
at_place s c k n (power_on_volatile_too_long h) = refl
at_place s c k n (power_on_bad_record h) = refl
at_place s c k n power_on_done = refl
at_place s c k n (restart_unsound h) = refl
at_place s c k n (restart_bad_record h) = refl
at_place s c k n restart_done = refl
at_place s c k n (register_bad_record h) = refl
at_place s c k n (register_exited h) = refl
at_place s c k n (register_locked h) = refl
at_place s c k n (register_malformed h) = refl
at_place s c k n (register_repeated es f w j g i) = refl
at_place s c k n (register_too_many es w h) = refl
at_place s c k n (register_too_long es w h) = refl
at_place s c k n register_done = refl
at_place s c k n (dump_bad_record h) = refl
at_place s c k n (dump_exited h) = refl
at_place s c k n (dump_short es w h) = refl
at_place s c k n dump_done = refl
at_place s c k n (lock_exited h) = refl
at_place s c k n (lock_locked h) = refl
at_place s c k n lock_done = refl
at_place s c k n (disable_exited h) = refl
at_place s c k n (disable_disabled h) = refl
at_place s c k n (disable_locked h) = refl
at_place s c k n (disable_not_allowed h) = refl
at_place s c k n disable_done = refl
at_place s c k n (exit_exited h) = refl
at_place s c k n exit_done = refl
at_place s c k n query_done = refl
at_place s c k n (read_unsound h) = refl
at_place s c k n (read_bad_name h) = refl
at_place s c k n (read_absent h) = refl
at_place s c k n (read_hidden q h) = refl
at_place s c k n read_done = refl
at_place s c k n (set_unsound h) = refl
at_place s c k n (set_bad_record h) = refl
at_place s c k n (set_bad_name h) = refl
at_place s c k n (set_long_payload h) = refl
at_place s c k n (set_unknown_bit i b h) = refl
at_place s c k n (set_runtime_without_bs h i) = refl
at_place s c k n (set_append_without_bs h i) = refl
at_place s c k n (set_not_runtime x d h) = refl
at_place s c k n (set_too_short e p w d a h) = refl
at_place s c k n (set_too_long e p w d a h) = refl
at_place s c k n (set_bit_missing e i w d h j) = refl
at_place s c k n (set_bit_prohibited e i w d h j) = refl
at_place s c k n (set_locked e w h) = refl
at_place s c k n (set_absent d h) = refl
at_place s c k n (set_hidden q d h) = refl
at_place s c k n (set_volatile q d x f h) = refl
at_place s c k n (set_deleted d) = refl
at_place s c k n (set_other_attributes q f h) = refl
at_place s c k n (set_empty_append h) = refl
at_place s c k n (set_append_too_long q h f i) = refl
at_place s c k n (set_no_room_nv rs qs h j t i) = refl
at_place s c k n (set_no_room_vol rs qs h j t i) = refl
at_place s c k n set_done = refl
at_place s c k n (settled_unsound h) = refl
at_place s c k n (settled_bad_record h) = refl
at_place s c k n (settled_bad_name h) = refl
at_place s c k n settled_done = refl

-- two that are first stand at one place
pub one_place : (s : State) (c : Call) (j k : ℕ) (n m : Status) → FirstAt s c j n → FirstAt s c k m → j ≡ k
one_place s c j k n m a b = go (less j k) (less k j)
  where
    go : Less j k → Less k j → j ≡ k
    go (inl h) l = absurd (b.first j n h.0 a.applies)
    go (inr h) (inl l) = absurd (a.first k m l.0 b.applies)
    go (inr h) (inr l) = let x = h.0 in let y = l.0 in omega arith

-- AT MOST ONE ANSWER: grounds at one place give one status
pub one_answer : (s : State) (c : Call) (n m : Status) → Answers s c n → Answers s c m → n ≡ m
one_answer s c n m a b =
    at_place s c a.place n a.at.applies
    ∙ ap (gives c) (one_place s c a.place b.place n m a.at b.at)
    ∙ sym (at_place s c b.place m b.at.applies)

-- THE STATUS IS n EXACTLY IF n IS THE FIRST THAT APPLIES, whatever the state and the call
pub status_exactly : (s : State) (c : Call) (n : Status) → ((step s c).0.status ≡ n) ↔ Answers s c n
status_exactly s c n = (
  (λ e. subst (Answers s c) (sym (step_status s c) ∙ e) (status_answers s c)),
  λ a. step_status s c ∙ one_answer s c (status s c) n (status_answers s c) a,
)

pub refused_test : (n : Status) → Not (n ≡ Success) → is_success n ≡ false
refused_test n o = forced_off (is_success n) (λ t. absurd (o (success_only n t)))

-- A CALL IS REFUSED EXACTLY WHEN THE RULES GIVE A GROUND FOR IT: the first that applies gives a status other than 0
pub refused_exactly : (s : State) (c : Call) → (is_success (step s c).0.status ≡ false) ↔ Refused s c
refused_exactly s c = (
  (λ h. record {
    gives = (step s c).0.status;
    answers = (status_exactly s c (step s c).0.status).0 refl;
    other = λ e. true≢false (sym (ap is_success e) ∙ h);
  }),
  λ r. ap is_success ((status_exactly s c r.gives).1 r.answers) ∙ refused_test r.gives r.other,
)

-- and so a set: create, rewrite, append and deletion alike
pub a_write_is_refused_exactly_when_the_rules_give_a_ground : (s : State) (r : Request) → (is_success (step s (set r)).0.status ≡ false) ↔ Refused s (set r)
a_write_is_refused_exactly_when_the_rules_give_a_ground s r = refused_exactly s (set r)
