-- "Each later line must be indented beyond the last open brace's column, pass `valid_wrapped_attr_continuation`, and follow no open quote": which of these a line fails
-- that isn't joined, and where; and where a place of the joined text stands in the sheet.
use Rattle.std.specs.Prelude.{ℕ, zero, suc, ◌+◌, ◌-◌, Bool, cond, ◌&&◌, ◌||◌, List, [], ◌∷◌, eqb, leb, length, get_or, take, drop, Err, None, Ok, Option, Result, Some}
use Rattle.std.proofs.Math.Seq.{slice}
use Rattle.base_bytes.specs.declared.Mode.TheVariants.{Loose}
use Rattle.base_bytes.specs.Bytes.{close_brace}
use Rattle.base_refusals.specs.Numbers.{Paper, passed_paper}
use Rattle.text_lines.specs.Lines.{line_from, line_at}
use Rattle.text_lines.specs.Trim.{trim, trim_range, is_blank_line}
use Rattle.text_tabs.specs.Columns.{indent_columns, capped}
use Rattle.block_grammar.specs.Close.{fresh}
use Rattle.block_grammar.specs.Computed.{read_payload}
use Rattle.block_grammar.specs.declared.Scan.{Scan}
use Rattle.block_tokens.specs.Shown.{accepted, payload_tested}
use Rattle.block_payloads.specs.Payloads.{behind_last}
use Rattle.block_trimmed_line.specs.Fronts.{front_of}
use Rattle.run_scanners.specs.Scanners.{in_quote, honoured, passed, open_quote_at_end, last_open_brace, capped_at}
use Rattle.run_stops.specs.declared.Edge.{Edge}
use Rattle.run_stops.specs.declared.Stop.{Stop}
use Rattle.run_stops.specs.declared.Source.{Source}
use Rattle.run_stops.specs.declared.Why as whys
use Rattle.run_stops.specs.declared.Why.TheVariants as why

-- ---- the quote that is left open

-- where it stands: outside quotes each byte may be the one that opens it
abbrev pub kept_at : Option ℕ → ℕ → ℕ → ℕ
kept_at None at i = i
kept_at (Some q) at i = at

-- "`open_quote_at_end`", with the place: the list's first byte stands at i
unfoldable pub quote_from : Scan → ℕ → ℕ → List ℕ → Option ℕ
quote_from st at i [] = cond (in_quote st.quote) (Some at) None
quote_from st at i (b ∷ s) = quote_from (passed honoured st b) (kept_at st.quote at i) (suc i) s

unfoldable pub quote_left : List ℕ → ℕ → Option ℕ
quote_left s from = quote_from fresh from from (drop from s)

-- ---- what lines leave

-- "the last open brace's column"
abbrev pub brace_or : ℕ → Option ℕ → ℕ
brace_or brace None = brace
brace_or brace (Some c) = c

unfoldable pub edge_after : List ℕ → Edge → Edge
edge_after t e =
    record {
      at = (line_from t e.at).next;
      last = e.at;
      brace = brace_or e.brace (capped_at (last_open_brace None 0 (line_at t e.at)));
      quote = open_quote_at_end (trim (line_at t e.at));
    }

-- behind n lines more
unfoldable pub edge_past : List ℕ → ℕ → Edge → Edge
edge_past t zero e = e
edge_past t (suc n) e = edge_past t n (edge_after t e)

-- behind n lines, the first of which begins at `at`
unfoldable pub edge_of : List ℕ → ℕ → ℕ → Edge
edge_of t at n = edge_past t n (record { at = at; last = at; brace = 0; quote = None })

-- ---- why the line behind them isn't joined

-- no line, a blank one, or one that fails a test: "be indented beyond the last open brace's column", "pass `valid_wrapped_attr_continuation`"; but first of all "follow no
-- open quote"
unfoldable pub why_of : List ℕ → Edge → whys.Why
why_of t e =
    cond (in_quote e.quote) why.Quoted
    (cond (leb (length t) e.at) why.End
    (cond (is_blank_line (line_at t e.at)) why.Blank
    (cond (leb (capped (indent_columns (line_at t e.at))) e.brace) why.Left why.Entries)))

-- ---- where that is told

abbrev pub place_or : ℕ → Option ℕ → ℕ
place_or at None = at
place_or at (Some p) = p

-- at the quote that the line leaves open
unfoldable pub quote_place : List ℕ → ℕ → ℕ
quote_place t at = place_or at (quote_left (take (line_from t at).to t) at)

abbrev pub stops_at : Result (Unit {0}) ℕ → ℕ
stops_at (Ok _) = 0
stops_at (Err n) = n

-- 000 asks of a trimmed line that doesn't end in `}` that what stands behind its last `}{` is entries; it begins here, at the front where there is none
abbrev pub last_from : List ℕ → ℕ
last_from s = length s - length (behind_last s)

-- a `}` at n ends whole entries that begin at `from`, or at the line's front those of the lines above
unfoldable pub closes_at : List ℕ → ℕ → ℕ → Bool
closes_at s from n = eqb (get_or s n 0) close_brace && (eqb n 0 || accepted (read_payload Loose 0 (slice from n s)))

-- n, or behind such a `}`: text that begins there is what is wrong
abbrev pub past_close : List ℕ → ℕ → ℕ → ℕ
past_close s from n = cond (closes_at s from n) (suc n) n

-- where the bytes from `from` on stop being entries
abbrev pub entries_from : List ℕ → ℕ → ℕ
entries_from s from = past_close s from (from + stops_at (payload_tested Loose (drop from s)))

unfoldable pub entries_in : List ℕ → ℕ
entries_in s = entries_from s (last_from s)

unfoldable pub entries_place : List ℕ → ℕ → ℕ
entries_place t at = at + (trim_range (line_at t at)).from + entries_in (trim (line_at t at))

-- with the number of lines above it, and the column of the last open brace where that is the reason
abbrev pub stop_by : List ℕ → ℕ → ℕ → Edge → whys.Why → Stop
stop_by t at n e why.End = record { why = why.End; row = 0; place = at; brace = 0 }
stop_by t at n e why.Blank = record { why = why.Blank; row = n; place = e.at; brace = 0 }
stop_by t at n e why.Quoted = record { why = why.Quoted; row = n - 1; place = quote_place t e.last; brace = 0 }
stop_by t at n e why.Left = record { why = why.Left; row = n; place = e.at; brace = e.brace }
stop_by t at n e why.Entries = record { why = why.Entries; row = n; place = entries_place t e.at; brace = 0 }

-- why the line behind n lines, the first of which begins at `at`, isn't joined to them
unfoldable pub stop_at : List ℕ → ℕ → ℕ → Stop
stop_at t at n = stop_by t at n (edge_of t at n) (why_of t (edge_of t at n))

-- ---- "trimmed lines joined by one space": where the byte at k of them stands; that of the space behind a line is the line's end

unfoldable pub source_from : List ℕ → ℕ → ℕ → ℕ → ℕ → Source
source_from t zero row at k = record { row = row; place = at }
source_from t (suc n) row at k =
    cond (leb k ((front_of t at).to - (front_of t at).from)) (record { row = row; place = (front_of t at).from + k })
    (source_from t n (suc row) (front_of t at).next (k - suc ((front_of t at).to - (front_of t at).from)))

unfoldable pub source_of : List ℕ → ℕ → ℕ → ℕ → Source
source_of t at n k = source_from t n 0 at k

-- ---- on paper: which reason it is, and its numbers; document 01 has no number for it
abbrev pub why_no : whys.Why → ℕ
why_no why.End = 0
why_no why.Blank = 1
why_no why.Quoted = 2
why_no why.Left = 3
why_no why.Entries = 4

abbrev pub stop_paper : Stop → Paper
stop_paper s = passed_paper (why_no s.why ∷ s.row ∷ s.place ∷ s.brace ∷ [])
