-- AN ENGINE WHOSE DUMP HAS NO QUARREL CAN BE REBUILT IN EVERY ORDER (RULES.md, 10.11 and 12.4), and one whose dump has a quarrel in no other than the dump's.
-- Assumes nothing but that the power-on answered 0.
use Rattle.std.specs.Prelude.{ℕ, ◌≡◌, refl, Bool, true, false, ◌↔◌, take, Some, None, Ok, Err}
use Rattle.std.proofs.Common.{sym, ap, subst, ◌∙◌}
use Rattle.std.proofs.Math.Path.{subst⁻¹}
use mathlib.Core.List.{List, [], ◌∷◌, ◌++◌, map, append_assoc, append-nil, Permᴰ}
use Rattle.std.proofs.lemmas.Bool.{false≢true}
use Rattle.std.proofs.Math.Option.{none, some}
use Rattle.lists.specs.Lists.{All}
use Rattle.slices.specs.Bytes.{Bytes, AreBytes}
use Rattle.slices.specs.Chunks.{flat}
use Rattle.policy.specs.Policy.{entries_of, policy_valid}
use Rattle.policy.proofs.PolicyLaws.{WellFormed, Entries, policy_entries}
use Rattle.policy.specs.Dump.{dump_valid}
use Rattle.policy.proofs.DumpLaws.{entries_of-flat, entries_dump}
use Rattle.quarrels.specs.Quarrel.{Verdict, first_quarrel, quarrels_of}
use Rattle.quarrels.proofs.QuarrelLaws.{no_dump_exactly, none_exactly}
use Rattle.status.specs.Status.{is_success}
use Rattle.rules.specs.Engine as rules
use Rattle.rules.specs.Engine.{State, Answer, Call}
use Rattle.rules.specs.Engine.Call.{power_on, dump}
use Rattle.rules.proofs.EngineLaws.{step_status}
use Rattle.rules.proofs.StateLaws.{passed, power_on_sound}
use Rattle.history.specs.History.{Items, Order, Past, Complete, DumpOf, Unambiguous, Permitted, Proper, end_with, registered}
use Rattle.history.specs.History.ItemOf.{call, own_dump, rebuild}
use Rattle.history.proofs.AnyMoment as moment
use Rattle.demand3.specs.Machine.{outcome_by, CanDumpInto, machine}
use Rattle.demand3.proofs.MachineLaws.{Reached, laws, never_cut, dump_holds_lem}
use Rattle.demand3.proofs.UnambiguousLaws.{UnambiguousInBytes, unambiguous}
use Rattle.demand3.specs.Demand3.{powered_on, ProperFrom, entries_at, past_at}
use Rattle.demand3.specs.AnyOrder as claim
use Rattle.demand3.specs.AnyOrder.{Checks, handed_out}
use Rattle.demand3.proofs.WhereRebuilds as list
use Rattle.demand3.proofs.Demand3.{demand_3}

-- ---- WHAT THE CHECKER'S ANSWER SAYS OF OTHER ORDERS

-- none, of a dump, exactly if the condition on another order holds of its entries
pub no_quarrel_unambiguous : (d : Bytes) → dump_valid d ≡ true → quarrels_of d ≡ Ok None ↔ Unambiguous machine (entries_of d)
no_quarrel_unambiguous d v = (λ h. ((none_exactly d).0 h).1, λ u. (none_exactly d).1 (v, u))

-- and of bytes the variables that are bytes are enough, which are all that a caller can name
pub no_quarrel_in_bytes : (d : Bytes) → dump_valid d ≡ true → All AreBytes (entries_of d) → quarrels_of d ≡ Ok None ↔ UnambiguousInBytes (entries_of d)
no_quarrel_in_bytes d v b =
    let k = no_quarrel_unambiguous d v in
    ((λ h w n. k.0 h w n.taken), λ u. k.1 (unambiguous (entries_of d) b u))

-- of entries end to end, as a policy record could hold them
pub entries_checked : (ds : List Bytes) → Entries ds → Checks (flat ds) ds
entries_checked ds a =
    let e = entries_of-flat ds a.formed in
    let v = entries_dump ds a in
    record {
      entries = e;
      is_dump = λ h. false≢true (sym ((no_dump_exactly (flat ds)).0 h) ∙ v);
      exactly = subst (λ (l : List Bytes). quarrels_of (flat ds) ≡ Ok None ↔ Unambiguous machine l) e (no_quarrel_unambiguous (flat ds) v);
    }

-- in the buffer of a dump it finds the very entries that the dump has by 12.2
pub buffer_entries : (ds : List Bytes) (c : Call) (a : Answer) → DumpOf machine ds c a → entries_of (take a.number a.bytes) ≡ ds
buffer_entries ds c a d = ap entries_of (sym d.are_dumped) ∙ entries_of-flat ds d.are_formed

pub dump_checked : (s : State) (buffer : Bytes) → is_success (rules.step s (dump buffer)).0.status ≡ true
    → Checks (handed_out s buffer) (entries_of s.policy)
dump_checked s buffer h =
    let v = (passed (policy_valid s.policy) _ (ap is_success (sym (step_status s (dump buffer))) ∙ h)).0 in
    subst (λ (d : Bytes). Checks d (entries_of s.policy)) (dump_holds_lem s (dump buffer) refl (ap outcome_by h))
    (entries_checked (entries_of s.policy) (policy_entries s.policy v).entries)

-- ---- WHICH ORDERS ARE PERMITTED

-- the answer names a pair
abbrev is_found : Verdict → Bool
is_found (Err _) = false
is_found (Ok None) = false
is_found (Ok (Some _)) = true

-- then no other order of well-formed entries is
pub quarrel_no_order : (ds : List Bytes) → All WellFormed ds → (i j n : ℕ) → quarrels_of (flat ds) ≡ Ok (Some (first_quarrel i j n)) → (o : List Bytes)
    → Permitted machine ds (some o) → ⊥
quarrel_no_order ds a i j n h o m = go (dump_valid (flat ds)) refl
  where
    unlike : {v : Verdict} → quarrels_of (flat ds) ≡ v → is_found v ≡ true
    unlike e = ap is_found (sym e ∙ h)

    go : (b : Bool) → dump_valid (flat ds) ≡ b → ⊥
    go false v = false≢true (unlike ((no_dump_exactly (flat ds)).1 v))
    go true v = false≢true (unlike ((no_quarrel_unambiguous (flat ds) v).1 (subst⁻¹ (Unambiguous machine) (entries_of-flat ds a) m.1)))

-- ANOTHER ORDER IS PERMITTED EXACTLY IF THE CHECKER ANSWERS NONE
pub any_order_exactly : (ds o : List Bytes) → Entries ds → Permᴰ ds o → quarrels_of (flat ds) ≡ Ok None ↔ Permitted machine ds (some o)
any_order_exactly ds o a d = let k = (entries_checked ds a).exactly in (λ h. (d, k.0 h), λ m. k.1 m.1)

-- the last rebuild of a proper list is in a permitted order
rebuild_permitted : (is : Items machine) (ds : List Bytes) (x : Order machine) (t : Bool) (past : Past machine) (z : State)
    → Proper machine t past z (is ++ (rebuild ds x ∷ [])) → Permitted machine ds x
rebuild_permitted [] ds x t past z p = p.2
rebuild_permitted (call c ∷ is) ds x t past z p = rebuild_permitted is ds x _ _ _ p.1
rebuild_permitted (own_dump b ∷ is) ds x t past z p = rebuild_permitted is ds x _ _ _ p.1
rebuild_permitted (rebuild es y ∷ is) ds x t past z p = rebuild_permitted is ds x _ _ _ p.3

module _ (s : State) (allowed : Bool) (answered0 : is_success (rules.step s (power_on allowed)).0.status ≡ true) where
  abbrev begun : State
  begun = powered_on s allowed

  abbrev ProperHere : Items machine → Type 0
  ProperHere = ProperFrom s allowed answered0

  abbrev entries_here : Items machine → List Bytes
  entries_here = entries_at s allowed answered0

  -- where a proper list leads
  reached : (is : Items machine) → ProperHere is → Reached false (end_with machine begun is)
  reached is p =
      moment.reached machine Reached laws begun (record { uncut = refl; sound = power_on_sound s allowed answered0 }) is p
      (moment.never_cut machine never_cut is begun)

  -- the entries that a rebuild leaves, in the order in which it registers them
  rebuilt_entries : (is : Items machine) (ds : List Bytes) (x : Order machine) → ProperHere (is ++ (rebuild ds x ∷ []))
      → entries_here (is ++ (rebuild ds x ∷ [])) ≡ registered machine ds x
  rebuilt_entries is ds x p = list.entries_after_rebuild s allowed answered0 is ds x [] p tt ∙ append-nil (registered machine ds x)

  -- ---- A COMPLETE DUMP OF A HISTORY

  -- its entries are such as a policy record holds: they are what a rebuild in order leaves
  pub complete_entries : (is : Items machine) (ds : List Bytes) → ProperHere is → Complete machine ds (past_at s allowed answered0 is) → Entries ds
  complete_entries is ds p d =
      let q = list.append_rebuild s allowed answered0 is ds none p d tt in
      subst Entries (rebuilt_entries is ds none q) (policy_entries _ (reached (is ++ (rebuild ds none ∷ [])) q).sound.policy).entries

  -- and so the checker takes it as a dump, and answers none exactly if it may be rebuilt in another order
  pub complete_checked : (is : Items machine) (ds : List Bytes) → ProperHere is → Complete machine ds (past_at s allowed answered0 is) → Checks (flat ds) ds
  complete_checked is ds p d = entries_checked ds (complete_entries is ds p d)

  -- ---- EVERY ORDER

  abbrev RebuiltIn : List Bytes → Items machine → Type 0
  RebuiltIn = claim.RebuiltIn s allowed answered0

  rebuilt : (is : Items machine) (ds o : List Bytes) → ProperHere (is ++ (rebuild ds (some o) ∷ [])) → RebuiltIn o (is ++ (rebuild ds (some o) ∷ []))
  rebuilt is ds o p =
      let xs = is ++ (rebuild ds (some o) ∷ []) in
      let on : (cs : List Call) → ProperHere (xs ++ map call cs) = λ cs. list.append_calls s allowed answered0 xs cs p in
      record {
        proper = p;
        holds = demand_3 s allowed answered0 xs p;
        entries = rebuilt_entries is ds (some o) p;
        proper_on = on;
        holds_on = λ cs. demand_3 s allowed answered0 (xs ++ map call cs) (on cs);
      }

  -- A COMPLETE DUMP WITHOUT A QUARREL CAN BE REBUILT IN EVERY ORDER
  pub any_order : (is : Items machine) (ds : List Bytes) → ProperHere is → Complete machine ds (past_at s allowed answered0 is)
      → quarrels_of (flat ds) ≡ Ok None → (o : List Bytes) → Permᴰ ds o → RebuiltIn o (is ++ (rebuild ds (some o) ∷ []))
  any_order is ds p d h o m =
      rebuilt is ds o (list.append_rebuild s allowed answered0 is ds (some o) p d ((any_order_exactly ds o (complete_entries is ds p d) m).0 h))

  -- AND SO CAN AN ENGINE AT ANY MOMENT BEFORE EXIT, from an own dump into a buffer with room, if the checker answers none to its entries
  pub any_order_now : (xs : Items machine) (buffer : Bytes) → ProperHere xs → CanDumpInto (end_with machine begun xs) buffer
      → quarrels_of (flat (entries_here xs)) ≡ Ok None → (o : List Bytes) → Permᴰ (entries_here xs) o
      → RebuiltIn o (xs ++ (own_dump buffer ∷ rebuild (entries_here xs) (some o) ∷ []))
  any_order_now xs buffer p room h o m =
      let es = entries_here xs in
      let a = (policy_entries (end_with machine begun xs).policy (reached xs p).sound.policy).entries in
      subst (RebuiltIn o) (append_assoc xs (own_dump buffer ∷ []) (rebuild es (some o) ∷ []))
      (rebuilt (xs ++ (own_dump buffer ∷ [])) es o
      (list.dump_now_rebuild_later s allowed answered0 xs [] buffer (some o) (subst⁻¹ ProperHere (append-nil xs) p) room tt ((any_order_exactly es o a m).0 h)))

  -- or to the very bytes that this dump hands out
  pub any_order_asked : (xs : Items machine) (buffer : Bytes) → ProperHere xs → CanDumpInto (end_with machine begun xs) buffer
      → quarrels_of (handed_out (end_with machine begun xs) buffer) ≡ Ok None → (o : List Bytes) → Permᴰ (entries_here xs) o
      → RebuiltIn o (xs ++ (own_dump buffer ∷ rebuild (entries_here xs) (some o) ∷ []))
  any_order_asked xs buffer p room h =
      let z = end_with machine begun xs in
      any_order_now xs buffer p room (ap quarrels_of (dump_holds_lem z (dump buffer) refl (laws.dump_granted buffer (reached xs p) room)) ∙ h)

  -- A COMPLETE DUMP WITH A QUARREL CAN IN NO OTHER: no list with such a rebuild behind it is one that demand 3 is about
  pub quarrel_no_rebuild : (is : Items machine) (ds : List Bytes) → ProperHere is → Complete machine ds (past_at s allowed answered0 is)
      → (i j n : ℕ) → quarrels_of (flat ds) ≡ Ok (Some (first_quarrel i j n)) → (o : List Bytes) → ProperHere (is ++ (rebuild ds (some o) ∷ [])) → ⊥
  quarrel_no_rebuild is ds p d i j n h o q =
      quarrel_no_order ds (complete_entries is ds p d).formed i j n h o (rebuild_permitted is ds (some o) false [] begun q)
