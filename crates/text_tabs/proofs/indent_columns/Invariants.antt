use Rattle.text_tabs.specs.Columns.{indent_columns, capped}
use Rattle.text_tabs.proofs.Laws as laws
use Rattle.text_tabs.proofs.indent_columns.Given as goal

abbrev pub invariant-loop-b : goal.invariant-loop-b
invariant-loop-b l = laws.Indents l.s (capped (indent_columns l.s)) l.column l.b-index
