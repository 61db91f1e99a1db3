-- Two answers, with the buffer after them, that the promise of a listing allows are one.
use Rattle.std.specs.Prelude.{◌≡◌, List, ℕ, length}
use Rattle.std.proofs.Common.{sym, ◌∙◌, arith}
use Rattle.std.proofs.Math.Logic.{by_cases}
use Rattle.std.proofs.Math.Decide.{dec_lt}
use Rattle.listing_text.specs.Text.{most_text}
use Rattle.listing_text.specs.Listing.{Listed}

pub listings_agree : (bs was : List ℕ) (n m : ℕ) (now then : List ℕ) → Listed bs was n now → Listed bs was m then → (n ≡ m) × (now ≡ then)
listings_agree bs was n m now then p q =
    by_cases (dec_lt (length was) most_text)
    (λ h. (p.none h ∙ sym (q.none h), p.kept h ∙ sym (q.kept h)))
    (λ h. (p.size (omega arith) ∙ sym (q.size (omega arith)), p.text (omega arith) ∙ sym (q.text (omega arith))))
