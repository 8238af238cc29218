use mathlib.Core.Path.{ap}
use mathlib.Core.Bool.{not}
use mathlib.Core.Path.{refl, sym, ◌∙◌}
use native.Mathlib.Omega.{arith}
use borrow.Author.Tests.{not-true, not-false}
use Rattle.text_tabs.proofs.Laws as laws
use Rattle.run_joins.proofs.indent_from.Goals as goal

pub loop-b-init : goal.loop-b-init
loop-b-init c = record { small = omega arith; rest = refl }

pub returns-then-not-is_indent : goal.returns-then-not-is_indent
returns-then-not-is_indent c = laws.indents_stop (c.loop-b.invariant) (omega arith) (sym (c.is_indent.ensures) ∙ not-true _ ((ap not c.if-not-is_indent.true)))

pub loop-b-preserved : goal.loop-b-preserved
loop-b-preserved c = laws.indents_go (c.loop-b.invariant) (omega arith) (sym (c.is_indent.ensures) ∙ not-false _ ((ap not c.if-not-is_indent.false))) (c.column_after-column.ensures)

pub returns : goal.returns
returns c = laws.indents_end (c.loop-b.invariant) (omega arith)
