-- "`open_quote_at_end`": the quote that is told as left open is the very one.
use Rattle.std.specs.Prelude.{◌≡◌, List, ℕ, ◌≤◌, ◌<◌, length, drop, get_or, None, Option, Some}
use Rattle.std.proofs.Math.Seq.{slice}
use Rattle.run_scanners.specs.Scanners.{open_quote_at_end}
use Rattle.run_stops.specs.Stops.{quote_left}

-- what is open behind the bytes from `from` up to `to`
abbrev pub open_up_to : List ℕ → ℕ → ℕ → Option ℕ
open_up_to s from to = open_quote_at_end (slice from to s)

-- the quote that stands at p is the one that the bytes from `from` on leave open: up to it none is open, and from it on it is, up to every place and to the end
pub record LeftOpen (s : List ℕ) (from p : ℕ) : Type 0 where
  pub behind : from ≤ p
  pub within : p < length s
  pub before : open_up_to s from p ≡ None
  pub stays : (to : ℕ) → p < to → to ≤ length s → open_up_to s from to ≡ Some (get_or s p 0)

-- where no place is told, none is open at the end
abbrev pub StandsAt : List ℕ → ℕ → Option ℕ → Type 0
StandsAt s from None = open_quote_at_end (drop from s) ≡ None
StandsAt s from (Some p) = LeftOpen s from p

abbrev pub TrueQuotes : Type 0
TrueQuotes = (s : List ℕ) (from : ℕ) → StandsAt s from (quote_left s from)

-- so it is told of one place at most
abbrev pub OnlyQuote : Type 0
OnlyQuote = (s : List ℕ) (from : ℕ) (x y : Option ℕ) → StandsAt s from x → StandsAt s from y → x ≡ y
