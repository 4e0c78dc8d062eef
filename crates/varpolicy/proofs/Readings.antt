-- What an exported read answers, by the engine's. Assumes nothing.
use Prim.Native.Nat.{ℕ, ◌+◌, ◌-◌}
use mathlib.Core.Path.{◌≡◌, sym, ap, ◌∙◌, subst, subst⁻¹}
use mathlib.Core.Bool.{cond}
use mathlib.Core.Option.{none}
use native.Mathlib.Omega.{arith}
use Rattle.slices.specs.Bytes.{Bytes, part}
use Rattle.names.specs.Name.{Variable}
use Rattle.switches.specs.declared.Switches.{Switches}
use Rattle.rules.specs.Engine.{State, state_of}
use Rattle.engine.specs.declared.Reading.{Reading}
use Rattle.engine.specs.Answers.{ReadStep}
use Rattle.varpolicy.specs.declared.Read.{Read}
use Rattle.varpolicy.specs.Exports.{numbered, numbered_of, read_of, NumberedRead}

read_numbered : (s : State) (v : Variable) (x : Reading) → ReadStep s v x → NumberedRead s v (read_of x)
read_numbered s v x h =
    let o = h.ordered in
    let w = h.within in
    let e : x.from + (x.to - x.from) ≡ x.to = omega arith in
    record {
      answers = ap numbered h.answers ∙ ap (λ (n : ℕ). (numbered_of (read_of x).status x.attributes (part x.from n (cond x.nonvolatile s.nv s.vol)) none, s)) (sym e);
      store = h.store;
      within = omega arith;
    }

-- the same of the engine's at switches u, which are those that the bytes say
pub read_exported : {u w : Switches} → u ≡ w → {r : Read} (nv vol : Bytes) (v : Variable) (x : Reading) → r ≡ read_of x
    → ((policy : Bytes) → ReadStep (state_of nv vol policy u) v x) → (policy : Bytes) → NumberedRead (state_of nv vol policy w) v r
read_exported {u} same {r} nv vol v x k h policy =
    subst (λ t. NumberedRead (state_of nv vol policy t) v r) same
    (subst⁻¹ (NumberedRead (state_of nv vol policy u) v) k (read_numbered (state_of nv vol policy u) v x (h policy)))
