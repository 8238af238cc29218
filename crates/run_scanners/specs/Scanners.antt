-- The three scanners of wrapped runs, each a left fold over the bytes. They are defined for any bytes; on UTF-8 text they go by characters: what
-- a character's first byte does, the character does, and its later bytes do nothing.
use Rattle.std.specs.Prelude.{Bool, true, false, cond, not, ◌&&◌, ◌||◌, ℕ, eqb, None, Option, Some}
use mathlib.Core.List.{List, [], ◌∷◌, foldl}
use Rattle.base_refusals.specs.Numbers.{Paper, passed_paper}
use Rattle.text_tabs.specs.Columns.{column_after, capped}
use Rattle.block_grammar.specs.Close.{uncovered, fresh, turned}
use Rattle.block_grammar.specs.declared.Scan.{Scan}
use Rattle.run_scanners.specs.declared.Seek.{Seek}
use Rattle.run_scanners.specs.declared.Held.{Held}
use Rattle.base_bytes.specs.Bytes.{backslash, close_brace, open_brace, space, tab}

-- ---- quotes

abbrev pub in_quote : Option ℕ → Bool
in_quote None = false
in_quote (Some k) = true

-- ".. where a backslash takes the next character with it": b is a backslash, in quotes or, if `outside` says so, anywhere
abbrev pub takes : Bool → Option ℕ → ℕ → Bool
takes outside q b = (in_quote q || outside) && eqb b backslash

unfoldable pub passed : Bool → Scan → ℕ → Scan
passed outside st b =
    cond st.escaped (uncovered st.quote)
    (cond (takes outside st.quote b) (record { quote = st.quote; escaped = true })
    (uncovered (turned st.quote b)))

-- a text, byte by byte
unfoldable pub scan_from : Bool → Scan → List ℕ → Scan
scan_from outside st s = foldl (passed outside) st s

-- "`open_quote_at_end` honours a backslash outside quotes; `last_open_brace_column` and `holds_open_attr_block` don't."
abbrev pub honoured : Bool
honoured = true

abbrev pub ignored : Bool
ignored = false

-- b is the byte c, and no quote and no backslash covers it
abbrev pub is_bare : Scan → ℕ → ℕ → Bool
is_bare st b c = cond st.escaped false (not (in_quote st.quote) && eqb b c)

-- ---- "and follow no open quote": the quote that is left open at the end

unfoldable pub open_quote_at_end : List ℕ → Option ℕ
open_quote_at_end s = (scan_from honoured fresh s).quote

-- on paper: the quote, or that there is none; before it, of a scan, 1 where a backslash covers the next byte
abbrev pub quote_paper : Option ℕ → Paper
quote_paper None = passed_paper []
quote_paper (Some k) = passed_paper (k ∷ [])

abbrev pub scan_paper : Scan → Paper
scan_paper st = passed_paper (cond st.escaped 1 0 ∷ (quote_paper st.quote).values)

-- ---- "the last open brace's column": that of the last `{` outside quotes

-- 000: in quotes a backslash and the character behind it are two columns, a tab too; so a tab that a backslash covers takes one column, as a space does
abbrev pub column_behind : Bool → ℕ → ℕ → ℕ
column_behind escaped c b = column_after c (cond (escaped && eqb b tab) space b)

unfoldable pub seek_step : Seek → ℕ → Seek
seek_step k b =
    record {
      scan = passed ignored k.scan b;
      column = column_behind k.scan.escaped k.column b;
      found = cond (is_bare k.scan b open_brace) (Some k.column) k.found;
    }

unfoldable pub seek_from : Seek → List ℕ → Seek
seek_from k s = foldl seek_step k s

-- the first byte stands in the quote q and in column `start`
abbrev pub seek_start : Option ℕ → ℕ → Seek
seek_start q start = record { scan = uncovered q; column = start; found = None }

unfoldable pub last_open_brace : Option ℕ → ℕ → List ℕ → Option ℕ
last_open_brace q start s = (seek_from (seek_start q start) s).found

-- what a `usize` can hold of it
abbrev pub capped_at : Option ℕ → Option ℕ
capped_at None = None
capped_at (Some c) = Some (capped c)

abbrev pub column_paper : Option ℕ → Paper
column_paper None = passed_paper []
column_paper (Some c) = passed_paper (c ∷ [])

-- ---- "the joined text holds no open block"

abbrev pub live : Scan → Bool → Option Held
live st i = Some (record { scan = st; inside = i })

-- a `{` in an open block and a `}` outside one end it for good: such text is no run of blocks
unfoldable pub held_step : Held → ℕ → Option Held
held_step h b =
    cond (is_bare h.scan b open_brace) (cond h.inside None (live h.scan true))
    (cond (is_bare h.scan b close_brace) (cond h.inside (live h.scan false) None)
    (live (passed ignored h.scan b) h.inside))

abbrev pub hold_step : Option Held → ℕ → Option Held
hold_step None b = None
hold_step (Some h) b = held_step h b

unfoldable pub hold_from : Option Held → List ℕ → Option Held
hold_from h s = foldl hold_step h s

abbrev pub hold_start : Option Held
hold_start = live fresh false

-- on paper: 1 where a block is open, 0 where none is, and the scan; nothing where the scan has stopped
abbrev pub hold_paper : Option Held → Paper
hold_paper None = passed_paper []
hold_paper (Some h) = passed_paper (cond h.inside 1 0 ∷ (scan_paper h.scan).values)

abbrev pub is_held : Option Held → Bool
is_held None = false
is_held (Some h) = h.inside

unfoldable pub holds_open : List ℕ → Bool
holds_open s = is_held (hold_from hold_start s)
