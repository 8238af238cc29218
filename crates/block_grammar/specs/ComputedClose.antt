-- Where a block closes, by computing. The rules are `Closes` of Close; the two are proved to agree (proved_grammar/specs/Close).
use Rattle.std.specs.Prelude.{Bool, true, false, cond, List, [], ◌∷◌, ℕ, suc, eqb, drop, None, Option, Some}
use Rattle.base_bytes.specs.Bytes.{backslash, close_brace, lf}
use Rattle.block_grammar.specs.Close.{turned, fresh}
use Rattle.block_grammar.specs.declared.Scan.{Scan}

-- what a byte does: it closes the block, it is a line's end, or the search goes on
pub data Scanned : Type 0 where
  closed : Scanned
  broken : Scanned
  on : Scan → Scanned

abbrev pub going : Option ℕ → Bool → Scanned
going q e = Scanned.on (record { quote = q; escaped = e })

-- a byte that no backslash covers, by the quote that it stands in
abbrev pub bare_step : Option ℕ → ℕ → Scanned
bare_step (Some k) b = going (turned (Some k) b) false
bare_step None b = cond (eqb b close_brace) Scanned.closed (going (turned None b) false)

-- an LF stops the search also where a backslash or a quote covers it; a backslash covers the next byte in quotes and outside
unfoldable pub scan_step : Scan → ℕ → Scanned
scan_step st b =
    cond (eqb b lf) Scanned.broken
    (cond st.escaped (going st.quote false)
    (cond (eqb b backslash) (going st.quote true)
    (bare_step st.quote b)))

abbrev pub go_on : Scanned → ℕ → (Scan → Option ℕ) → Option ℕ
go_on Scanned.closed i rest = Some i
go_on Scanned.broken i rest = None
go_on (Scanned.on st) i rest = rest st

-- the search in the state st over a list whose first byte stands at i
unfoldable pub close_from : List ℕ → Scan → ℕ → Option ℕ
close_from [] st i = None
close_from (b ∷ s) st i = go_on (scan_step st b) i (λ v. close_from s v (suc i))

-- the search from `at` on
unfoldable pub find_close : List ℕ → ℕ → Option ℕ
find_close s at = close_from (drop at s) fresh at
