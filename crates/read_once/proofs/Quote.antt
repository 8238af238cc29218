-- The loop that looks for the closing quote: it is the search for the close in quotes, and finds where the quote shuts.
-- Assumes nothing.
use Rattle.std.specs.Prelude.{None, Some}
use mathlib.Core.Path.{◌≡◌, refl, sym, ◌∙◌}
use mathlib.Core.Bool.{true, false}
use mathlib.Core.List.{List}
use Prim.Native.Nat.{ℕ, ◌+◌}
use lib.ListN.{get_or, drop}
use Rattle.base_lists.proofs.More.{contra}
use Rattle.base_bytes.specs.Bytes.{is_quote}
use Rattle.block_grammar.specs.Computed.{shut_of}
use Rattle.block_tokens.specs.Inner.{shut_at}
use Rattle.block_tokens.proofs.Quotes as quotes
use Rattle.block_close.specs.Inner.{no_lf_first, Shuts}
use Rattle.block_close.proofs.Search as scans
use Rattle.read_once.specs.Inner.{QuoteEnds}

-- the loop began at i and stands before byte k
pub record Quoting (t : List ℕ) (q i k : ℕ) : Type 0 where
  pub shut : scans.Quoted t q i k
  pub find : quotes.Quotes q t (shut_at i (shut_of q (drop i t) false)) k

pub opened : (t : List ℕ) (q i : ℕ) → Quoting t q i i
opened t q i = record { shut = scans.opened t q i; find = quotes.start q t i }

nowhere : {t : List ℕ} {q i : ℕ} → Shuts t q i None → QuoteEnds t q i None
nowhere s = record { shuts = s; found = λ e h. contra true refl (cc) }

module _ {t : List ℕ} {q i k : ℕ} (inv : Quoting t q i k) where
  pub quote-ended : no_lf_first (drop k t) ≡ false → QuoteEnds t q i None
  quote-ended h = nowhere (scans.quote-ended inv.shut h)

  module _ (on : scans.On t k) where
    pub quote-cut : get_or t k 0 ≡ 92 → no_lf_first (drop (k + 1) t) ≡ false → QuoteEnds t q i None
    quote-cut e h = nowhere (scans.quote-cut inv.shut on e h)

    pub quote_pair : (get_or t k 0 ≡ q → ⊥) → get_or t k 0 ≡ 92 → scans.On t (k + 1) → Quoting t q i (k + 2)
    quote_pair n e o = record { shut = scans.quote_pair inv.shut on e o; find = quotes.pair inv.find on.there n e }

    pub quote_byte : (get_or t k 0 ≡ q → ⊥) → (get_or t k 0 ≡ 92 → ⊥) → Quoting t q i (k + 1)
    quote_byte n w = record { shut = scans.quote_byte inv.shut on n w; find = quotes.byte inv.find on.there n w }

    pub shut : is_quote q ≡ true → get_or t k 0 ≡ q → QuoteEnds t q i (Some k)
    shut h e =
        let z : Some k ≡ shut_at i (shut_of q (drop i t) false) = quotes.shut inv.find on.there e in
        record { shuts = scans.shut inv.shut on h e; found = λ x p. sym p ∙ z }
