-- What the search's private functions promise.
use Rattle.std.specs.Prelude.{◌≡◌, Bool, not, List, ℕ, ◌+◌, ◌<◌, ◌≤◌, eqb, length, drop, None, Option, Some}
use Rattle.block_grammar.specs.Close.{uncovered}
use Rattle.block_grammar.specs.ComputedClose.{close_from, find_close}
use Rattle.base_lists.specs.Lists.{first_is}
use Rattle.base_bytes.specs.Bytes.{lf}

-- a byte that is no LF stands first
abbrev pub no_lf_first : List ℕ → Bool
no_lf_first s = first_is (λ b. not (eqb b lf)) s

-- the block's close, by the place where a quote closes
abbrev pub close_behind : List ℕ → Option ℕ → Option ℕ
close_behind s None = None
close_behind s (Some e) = find_close s (e + 1)

-- r, where the quote q closes from i on: the search in the quote finds what the search behind r does
pub record Shuts (s : List ℕ) (q i : ℕ) (r : Option ℕ) : Type 0 where
  pub same : close_behind s r ≡ close_from (drop i s) (uncovered (Some q)) i
  pub within : (e : ℕ) → r ≡ Some e → (i ≤ e) × (e < length s)
