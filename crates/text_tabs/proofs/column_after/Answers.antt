use mathlib.Core.Path.{sym, ◌∙◌}
use native.Mathlib.Omega.{arith}
use borrow.Author.Tests.{eq-eqb, ne_eqb}
use Rattle.text_tabs.specs.Columns.{column_after}
use Rattle.text_tabs.proofs.Laws as laws
use borrow.Author.Rules.{rules}
use Rattle.text_tabs.proofs.column_after.Goals as goal

pub returns-then-b-eq9 : goal.returns-then-b-eq9
unfolding column_after
returns-then-b-eq9 c = rw (eq-eqb _ _ c.if-b-eq9.true) c.tab_stop.ensures

pub returns-then-is_tail : goal.returns-then-is_tail
unfolding column_after
returns-then-is_tail c = rw (ne_eqb _ _ c.if-b-eq9.false, sym c.is_tail.ensures ∙ c.if-is_tail.true) (sym (laws.capped_id _ (omega arith)))

pub returns-then-c-eq-MOST : goal.returns-then-c-eq-MOST
unfolding column_after
returns-then-c-eq-MOST c = rw (ne_eqb _ _ c.if-b-eq9.false, sym c.is_tail.ensures ∙ c.if-is_tail.false) (sym (laws.capped_top _ (omega (arith, c.if-c-eq-MOST.true))))

pub returns-else-c-eq-MOST : goal.returns-else-c-eq-MOST
unfolding column_after
returns-else-c-eq-MOST c = rw (ne_eqb _ _ c.if-b-eq9.false, sym c.is_tail.ensures ∙ c.if-is_tail.false) (laws.capped_is _ (omega arith) (omega (arith, c.if-c-eq-MOST.false)))
