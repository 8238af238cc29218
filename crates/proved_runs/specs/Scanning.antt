-- The three scanners against their rules.
use Rattle.std.specs.Prelude.{ℕ, ◌+◌, ◌*◌, ◌≤◌, ◌≡◌, true, false, not, ◌&&◌, List, ◌++◌, ltb, length, None, Option, Some}
use Rattle.base_bytes.specs.Bytes.{backslash, open_brace}
use Rattle.text_utf8.specs.Utf8.{char_count}
use Rattle.proved_texts.specs.Utf8Rules.{Octets}
use Rattle.text_lines.specs.Trim.{trim}
use Rattle.text_tabs.specs.Columns.{indent_from, most}
use Rattle.proved_texts.specs.Tabs.{expand_from}
use Rattle.block_grammar.specs.Close.{uncovered, fresh}
use Rattle.block_grammar.specs.declared.Scan.{Scan}
use Rattle.block_payloads.specs.Payloads.{continues}
use Rattle.run_scanners.specs.declared.Held.{Held}
use Rattle.run_scanners.specs.Scanners.{in_quote, open_quote_at_end, last_open_brace, capped_at, hold_from, hold_start, is_held, holds_open}
use Rattle.proved_runs.specs.Rules.{none_bare, tabs_spaced, LastBrace, leads, is_sound}
use Rattle.run_joins.specs.Joins.{goes_on}

-- ---- "the last open brace's column"

-- what is found is the brace of the rules
abbrev pub BraceSound : Option ℕ → ℕ → List ℕ → ℕ → Type 0
BraceSound q start s n = last_open_brace q start s ≡ Some n → LastBrace (uncovered q) start s n

-- and the brace of the rules is found, so that there is one only
abbrev pub BraceComplete : Option ℕ → ℕ → List ℕ → ℕ → Type 0
BraceComplete q start s n = LastBrace (uncovered q) start s n → last_open_brace q start s ≡ Some n

-- nothing is found exactly where no `{` stands outside quotes
abbrev pub NoneFound : Option ℕ → ℕ → List ℕ → Type 0
NoneFound q start s = none_bare open_brace (uncovered q) s ≡ true → last_open_brace q start s ≡ None

abbrev pub NoneStands : Option ℕ → ℕ → List ℕ → Type 0
NoneStands q start s = last_open_brace q start s ≡ None → none_bare open_brace (uncovered q) s ≡ true

-- ---- "Columns count characters, not bytes."

-- a brace's column is the characters before it, with tabs written out as spaces
abbrev pub BraceCount : {st : Scan} {start : ℕ} {s : List ℕ} {n : ℕ} → LastBrace st start s n → Type 0
BraceCount {st} {start} {s} {n} l = n ≡ start + char_count (expand_from start (tabs_spaced st l.before))

-- the scanners look at the first byte of each character, and at no other
pub record ByCharacters (ks : List (List ℕ)) (s : List ℕ) : Type 0 where
  pub quote : open_quote_at_end s ≡ open_quote_at_end (leads ks)
  pub brace : (q : Option ℕ) (start : ℕ) → is_sound q ≡ true → last_open_brace q start s ≡ last_open_brace q start (leads ks)
  pub hold : holds_open s ≡ holds_open (leads ks)

-- in every text that is the characters ks, one behind the other (RFC 3629)
abbrev pub ScansByCharacters : Type 0
ScansByCharacters = (ks : List (List ℕ)) (s : List ℕ) → Octets ks s → ByCharacters ks s

-- ---- "Each later line must be indented beyond the last open brace's column, pass `valid_wrapped_attr_continuation`, and follow no open quote."

-- so it is by the true columns, where a 64-bit number holds four columns for each byte
abbrev pub LaterLine : Type 0
LaterLine = (brace : ℕ) (q : Option ℕ) (pad : ℕ) (l : List ℕ) → pad + 4 * length l ≤ most
    → goes_on brace q pad l ≡ (ltb brace (indent_from pad l) && (not (in_quote q) && continues (trim l)))

-- and behind a brace past all such numbers no line goes on
abbrev pub FarBrace : Type 0
FarBrace = (brace : ℕ) (q : Option ℕ) (pad : ℕ) (l : List ℕ) → most ≤ brace → goes_on brace q pad l ≡ false

-- the column that is handed out is the true one
abbrev pub BraceWhole : Type 0
BraceWhole = (q : Option ℕ) (start : ℕ) (s : List ℕ) → start + 4 * length s ≤ most → capped_at (last_open_brace q start s) ≡ last_open_brace q start s

-- ---- "after which the joined text holds no open block"

-- the scan that is carried from line to line is that of the joined text
abbrev pub ScanCarried : Type 0
ScanCarried = (a b : List ℕ) → holds_open (a ++ b) ≡ is_held (hold_from (hold_from hold_start a) b)

-- ---- "`open_quote_at_end` honours a backslash outside quotes; `last_open_brace_column` and `holds_open_attr_block` don't."

-- where none stands there, the quote that is left open is the same
abbrev pub QuotesAgree : Type 0
QuotesAgree = (s : List ℕ) → none_bare backslash fresh s ≡ true → (v : Held) → hold_from hold_start s ≡ Some v → v.scan.quote ≡ open_quote_at_end s
