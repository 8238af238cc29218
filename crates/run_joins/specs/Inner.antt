-- The step of the state that code keeps, which no public promise cites.
use Rattle.std.specs.Prelude.{ℕ, List, eqb, None}
use Rattle.text_lines.specs.Trim.{trim}
use Rattle.text_tabs.specs.Columns.{capped}
use Rattle.run_scanners.specs.Scanners.{open_quote_at_end, last_open_brace, hold_from}
use Rattle.run_joins.specs.declared.State.{State}
use Rattle.run_joins.specs.Joins.{added, brace_after}

-- behind a line whose joining makes the text `len` bytes long
abbrev pub next_state : ℕ → State → ℕ → List ℕ → State
next_state len st pad l =
    record {
      len = len;
      brace = capped (brace_after st.brace st.base (last_open_brace None pad l));
      base = 0;
      quote = open_quote_at_end (trim l);
      hold = hold_from st.hold (added (eqb st.len 0) l);
    }
