-- "Each later line must be indented beyond the last open brace's column, pass `valid_wrapped_attr_continuation`, and follow no open quote": where a run is refused for a
-- line, the reason that is told of it holds, by what the lines joined before it leave.
use Rattle.std.specs.Prelude.{◌≡◌, true, false, List, ℕ, ◌≤◌, length, Err}
use Rattle.base_refusals.specs.declared.Refusal.TheVariants.{NoReading}
use Rattle.text_lines.specs.Lines.{line_at}
use Rattle.text_lines.specs.Trim.{trim, is_blank_line}
use Rattle.text_tabs.specs.Columns.{indent_columns, capped}
use Rattle.block_payloads.specs.Payloads.{continues}
use Rattle.run_scanners.specs.Scanners.{in_quote}
use Rattle.run_lines.specs.Runs.{run_at}
use Rattle.run_stops.specs.declared.Edge.{Edge}
use Rattle.run_stops.specs.declared.Why as whys
use Rattle.run_stops.specs.declared.Why.TheVariants as why
use Rattle.run_stops.specs.Stops.{edge_of, why_of}

abbrev pub Reason : List ℕ → Edge → whys.Why → Type 0
Reason t e why.End = length t ≤ e.at
Reason t e why.Blank = is_blank_line (line_at t e.at) ≡ true
Reason t e why.Quoted = in_quote e.quote ≡ true
Reason t e why.Left = capped (indent_columns (line_at t e.at)) ≤ e.brace
Reason t e why.Entries = continues (trim (line_at t e.at)) ≡ false

-- the run from the line at `at` on, with what its lines leave
abbrev pub TrueReasons : Type 0
TrueReasons = (t : List ℕ) (cap at : ℕ) → (run_at cap 0 t at).stop ≡ Err NoReading
    → Reason t (edge_of t at (run_at cap 0 t at).lines) (why_of t (edge_of t at (run_at cap 0 t at).lines))
