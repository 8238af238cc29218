use Rattle.text_tabs.specs.Columns.{indent_from, capped}
use Rattle.text_tabs.proofs.Laws as laws
use Rattle.run_joins.proofs.indent_from.Given as goal

abbrev pub invariant-loop-b : goal.invariant-loop-b
invariant-loop-b l = laws.Indents l.s (capped (indent_from l.c l.s)) l.column l.b-index
