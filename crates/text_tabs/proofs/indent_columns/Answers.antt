use mathlib.Core.Path.{refl, sym, ◌∙◌}
use native.Mathlib.Omega.{arith}
use Rattle.text_tabs.specs.Columns.{indent_columns}
use Rattle.text_tabs.proofs.Laws as laws
use Rattle.text_tabs.proofs.indent_columns.Goals as goal

pub loop-b-init : goal.loop-b-init
unfolding indent_columns
loop-b-init c = record { small = omega arith; rest = refl }

pub returns-then-not-is_indent : goal.returns-then-not-is_indent
returns-then-not-is_indent c = laws.indents_stop c.loop-b.invariant (omega arith) (sym c.is_indent.ensures ∙ c.if-not-is_indent.true)

pub loop-b-preserved : goal.loop-b-preserved
loop-b-preserved c = laws.indents_go c.loop-b.invariant (omega arith) (sym c.is_indent.ensures ∙ c.if-not-is_indent.false) c.column_after-column.ensures

pub returns : goal.returns
returns c = laws.indents_end c.loop-b.invariant (omega arith)
