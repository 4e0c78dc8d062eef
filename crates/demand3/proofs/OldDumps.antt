-- DUMPS OF EARLIER EDITIONS (RULES.md, 12.8): of the entries of each of their policy records, registered in order after a power-on that answered 0,
-- exactly those with '#' in the trigger's name are refused. Assumes nothing but that the power-on answered 0.
use Rattle.std.specs.Prelude.{ℕ, ◌≡◌, refl, List, [], ◌∷◌, ◌++◌, map, Bool, true, false, not, ◌↔◌, length}
use Rattle.std.proofs.Common.{sym, ap, subst, ◌∙◌, append-nil, arith, le-leb}
use Rattle.std.proofs.Math.Path.{subst⁻¹}
use Rattle.std.proofs.lemmas.Bool.{not-true}
use Rattle.limits.specs.Limits.{max_entries, policy_bytes}
use Rattle.limits.specs.FirstEdition.{first_max_entries, first_policy_bytes}
use Rattle.lists.specs.Lists.{All}
use Rattle.lists.proofs.ListsLaws.{all_left, all_right, all_here, all_map}
use Rattle.slices.proofs.TestLaws.{and_left, and_right}
use Rattle.slices.specs.Bytes.{Bytes}
use Rattle.slices.specs.Chunks.{flat, chunks}
use Rattle.entry.specs.FirstEdition.{first_well_formed, sign_in_trigger}
use Rattle.entry.proofs.FirstEditionLaws.{first_header, since_first}
use Rattle.policy.specs.Policy.{length_by, entries_of, pack_policy, valid_within, policy_valid}
use Rattle.policy.proofs.PolicyLaws.{WellFormed, Entries, valid_packs, packs_policy, packs_only, chunks_pack, flat_unique, policy_entries}
use Rattle.status.specs.Status.{is_success}
use Rattle.status.specs.declared.Status.TheVariants.{VolumeCorrupted}
use Rattle.rules.specs.Engine.{State, Call, Answer, state_of, uses, dump_status, effect, step}
use Rattle.rules.specs.Engine.Call.{power_on, register}
use Rattle.rules.specs.Grounds.{PolicyEntries}
use Rattle.rules.proofs.FoundLaws.{entries_packs, packs_entries}
use Rattle.rules.proofs.EngineLaws.{granted_effect, other_length_corrupted}
use Rattle.history.specs.History.{end}
use Rattle.demand3.specs.Machine.{machine}
use Rattle.demand3.proofs.MachineLaws.{with_entries, registers_run}
use Rattle.demand3.proofs.OrderLaws.{entries_left}
use Rattle.demand3.specs.Demand3.{powered_on}
use Rattle.demand3.specs.OldDumps.{Registrations, AllRegister, DumpsBack}
use Rattle.demand3.specs.OldEntries.{Earlier, first, larger, OldEntries, without_signs}
use Rattle.demand3.proofs.OldEntriesLaws.{Formed, formed_since, without_append, without_entries, without_all, register_refused, registers}

-- every record that an earlier edition took as valid has such entries
pub old_valid : (most bytes : ℕ) (p : Bytes) → valid_within first_well_formed most bytes p ≡ true → OldEntries most bytes p (chunks (length_by first_well_formed) p)
old_valid most bytes p v = packs_entries p (chunks (length_by first_well_formed) p) (valid_packs first_well_formed most bytes p v)

-- ---- what registering them does

dumps_back : (t : State) (es : List Bytes) → t.switches.exited ≡ false → PolicyEntries t.policy es → DumpsBack t es
unfolding step dump_status
dumps_back t es x w buffer room =
    let k = entries_packs t.policy es w in
    rw (packs_policy es t.policy k, x, packs_only es t.policy k, le-leb (length (flat es)) (length buffer) room)

-- an engine without entries that is not locked and has not exited
module _ (k : State) (u : k.switches.locked ≡ false) (x : k.switches.exited ≡ false) (es : List Bytes) (formed : Formed es) (valid : Entries (without_signs es)) where
  module _ (xs ys : List Bytes) (q : es ≡ xs ++ ys) where
    part_valid : Entries (without_signs xs)
    part_valid = entries_left (without_signs xs) (without_signs ys) (subst Entries (ap without_signs q ∙ without_append xs ys) valid)

    part_keeps : end machine (with_entries k []) (map register xs) ≡ with_entries k (without_signs xs)
    part_keeps = (registers k u x [] xs (all_left xs ys (subst Formed q formed)) part_valid).ends

  registrations : Registrations (with_entries k []) es
  registrations =
      record {
        answered = (registers k u x [] es formed valid).answered;
        untouched = λ xs e ys q h.
            let w : first_well_formed e ≡ true = all_here (all_right xs (e ∷ ys) (subst Formed q formed)) in
            subst⁻¹ (λ (z : State). (step z (register e)).1 ≡ z) (part_keeps xs (e ∷ ys) q)
            (ap (λ (p : Answer × State). p.1) (register_refused k (without_signs xs) e u x (part_valid xs (e ∷ ys) q) (formed_since e w ∙ ap not h)));
        holds = λ xs ys q.
            subst⁻¹ (λ (z : State). PolicyEntries z.policy (without_signs xs)) (part_keeps xs ys q)
            (packs_entries (pack_policy (without_signs xs)) (without_signs xs) (record { entries = part_valid xs ys q; packs = refl }));
        keeps = part_keeps;
      }

module _ (s : State) (allowed : Bool) (answered0 : is_success (step s (power_on allowed)).0.status ≡ true) where
  not_exited : {z : State} {p : Bytes} → z ≡ state_of (powered_on s allowed).nv (powered_on s allowed).vol p (powered_on s allowed).switches → z.switches.exited ≡ false
  not_exited e = ap (λ (t : State). t.switches.exited) e ∙ ap (λ (t : State). t.switches.exited) (granted_effect s (power_on allowed) answered0)

  module _ (most bytes : ℕ) (edition : Earlier most bytes) (old : Bytes) (es : List Bytes) (held : OldEntries most bytes old es) where
    -- EXACTLY THE ENTRIES WITH '#' IN THE TRIGGER'S NAME ARE REFUSED
    pub old_dumps_register : Registrations (powered_on s allowed) es
    old_dumps_register =
        subst⁻¹ (λ (t : State). Registrations t es) (granted_effect s (power_on allowed) answered0)
        (registrations (effect s (power_on allowed)) refl refl es held.formed (without_entries es edition (entries_packs old es held).entries))

    -- A DUMP HANDS OUT THE OTHERS, BYTE FOR BYTE
    pub old_dumps_come_back : DumpsBack (end machine (powered_on s allowed) (map register es)) (without_signs es)
    old_dumps_come_back = dumps_back (end machine (powered_on s allowed) (map register es)) (without_signs es)
        (not_exited (old_dumps_register.keeps es [] (sym (append-nil es)))) (old_dumps_register.holds es [] (sym (append-nil es)))

    -- IF NO TRIGGER'S NAME HAS A '#', ALL REGISTER, AND THE OLD DUMP COMES BACK
    module _ (none_has : All (λ e. sign_in_trigger e ≡ false) es) where
      pub old_dumps_whole : AllRegister (powered_on s allowed) es
      old_dumps_whole =
          let valid = subst Entries (without_all es none_has) (without_entries es edition (entries_packs old es held).entries) in
          let r = registers_run (effect s (power_on allowed)) [] es refl refl valid in
          subst⁻¹ (λ (t : State). AllRegister t es) (granted_effect s (power_on allowed) answered0)
          (record {
            granted = r.done;
            holds = subst⁻¹ (λ (z : State). PolicyEntries z.policy es) r.ends (packs_entries (pack_policy es) es (record { entries = valid; packs = refl }));
            keeps = r.ends;
          })

      pub old_dumps_whole_come_back : DumpsBack (end machine (powered_on s allowed) (map register es)) es
      old_dumps_whole_come_back = dumps_back (end machine (powered_on s allowed) (map register es)) es (not_exited old_dumps_whole.keeps) old_dumps_whole.holds

    -- however the bytes of the dump are cut into entries that were well formed, it is these that are registered
    pub old_dumps_cut : (ds : List Bytes) → All (λ e. first_well_formed e ≡ true) ds → flat ds ≡ flat es → Registrations (powered_on s allowed) ds
    old_dumps_cut ds f h =
        subst⁻¹ (λ (l : List Bytes). Registrations (powered_on s allowed) l) (flat_unique first_well_formed first_header f held.formed h) old_dumps_register

  -- THE SAME OF EACH RECORD THAT SUCH AN EDITION TOOK AS VALID, and so of the first edition's
  pub old_records_register : (most bytes : ℕ) → Earlier most bytes → (p : Bytes) → valid_within first_well_formed most bytes p ≡ true
      → Registrations (powered_on s allowed) (chunks (length_by first_well_formed) p)
  old_records_register most bytes edition p v = old_dumps_register most bytes edition p (chunks (length_by first_well_formed) p) (old_valid most bytes p v)

  pub first_records_register : (p : Bytes) → valid_within first_well_formed first_max_entries first_policy_bytes p ≡ true
      → Registrations (powered_on s allowed) (chunks (length_by first_well_formed) p)
  first_records_register = old_records_register first_max_entries first_policy_bytes first

-- ---- the old records themselves

-- A RECORD OF THE FIRST EDITION IS 10 in every call that is lent one
pub first_record_corrupted : (s : State) (c : Call) → (uses c).lent.policy ≡ true → length s.policy ≡ first_policy_bytes
    → (step s c).0.status ≡ VolumeCorrupted
first_record_corrupted s c l e = other_length_corrupted s c l (λ h. let z : first_policy_bytes ≡ policy_bytes = sym e ∙ h in omega arith)

-- A RECORD OF E5 OR E6 IS VALID EXACTLY IF NO TRIGGER'S NAME IN IT HAS A '#'
module _ (p : Bytes) (es : List Bytes) (held : OldEntries max_entries policy_bytes p es) where
  -- it holds no other list of entries that were well formed
  same_entries_lem : policy_valid p ≡ true → entries_of p ≡ es
  same_entries_lem v =
      let n = policy_entries p v in
      let f : Formed (entries_of p) = all_map (λ e w. and_left _ _ (sym (since_first e) ∙ w)) (entries_of p) n.entries.formed in
      sym (chunks_pack first_well_formed first_header policy_bytes (entries_of p) f)
      ∙ ap (chunks (length_by first_well_formed)) (n.packs ∙ sym (entries_packs p es held).packs)
      ∙ chunks_pack first_well_formed first_header policy_bytes es held.formed

  pub old_records : policy_valid p ≡ true ↔ All (λ e. sign_in_trigger e ≡ false) es
  old_records = (
    (λ v. all_map (λ e w. not-true _ (and_right _ _ (sym (since_first e) ∙ w))) es (subst (All WellFormed) (same_entries_lem v) (policy_entries p v).entries.formed)),
    (λ n.
        let k = entries_packs p es held in
        packs_policy es p (record { entries = subst Entries (without_all es n) (without_entries es larger k.entries); packs = k.packs })),
  )
