-- Laws of what is told of the entry that bytes begin with: of none there is nothing (`listing_none`), of a well-formed one its fields (`listing_entry`), and bytes behind an
-- entry change nothing (`listing_more`). Assumes nothing.
use Rattle.std.specs.Prelude.{ℕ, zero, suc, ◌≡◌, refl, [], ◌++◌, length, take, drop, eqb, Some, None}
use Rattle.std.proofs.Common.{sym, ap, ◌∙◌, append_assoc, arith, take-append-drop, take_at, ne_eqb}
use Rattle.slices.specs.Bytes.{Bytes}
use Rattle.entry.proofs.EntryLaws.{sized}
use Rattle.policy.specs.Policy.{entry_length}
use Rattle.policy.proofs.PolicyLaws.{WellFormed, entry_length-short, entry_length-begins}
use Rattle.reader.specs.declared.Listing.{Listing}
use Rattle.reader.specs.Reading.{listed, listing}
use Rattle.reader.proofs.ReadingLaws.{entry_whole}

pub listing_none : listing [] ≡ None
unfolding listing
listing_none = rw (entry_length-short [] (omega arith))

pub listing_entry : (e m : Bytes) → WellFormed e → listing (e ++ m) ≡ Some (listed e)
unfolding listing
listing_entry e m w =
    let k : eqb (length e) 0 ≡ _ = ne_eqb (length e) 0 (λ q. omega (arith, (sized e w).least)) in
    rw (entry_whole e m w, k, take_at e m (length e) refl)

-- an entry is told of the bytes, and with any bytes behind them the same
pub listing_more : (p x : Bytes) (l : Listing) → listing p ≡ Some l → listing (p ++ x) ≡ Some l
unfolding listing
listing_more p x l h = go (entry_length p) refl
  where
    go : (n : ℕ) → entry_length p ≡ n → listing (p ++ x) ≡ Some l
    go zero e = absurd (let z : ◌≡◌ {A = ℕ} 0 1 = cc in omega arith)
    go (suc n) e =
        let w = (entry_length-begins (suc n) p e (omega arith)).formed in
        let t = take (suc n) p in
        let m = drop (suc n) p in
        ap listing (ap (λ (s : Bytes). s ++ x) (sym (take-append-drop (suc n) p)) ∙ append_assoc t m x)
        ∙ listing_entry t (m ++ x) w ∙ sym (listing_entry t m w) ∙ ap listing (take-append-drop (suc n) p) ∙ h
