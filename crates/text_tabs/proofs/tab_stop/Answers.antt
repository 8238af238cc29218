use mathlib.Core.Path.{sym}
use native.Mathlib.Omega.{arith}
use Rattle.text_tabs.specs.Columns.{tab_stop}
use Rattle.text_tabs.proofs.Laws as laws
use borrow.Author.Rules.{rules}
use Rattle.text_tabs.proofs.tab_stop.Goals as goal

pub returns-then-c : goal.returns-then-c
unfolding tab_stop
returns-then-c c = sym (laws.capped_top _ (omega (arith, c.if-c.true)))

pub returns : goal.returns
unfolding tab_stop
returns c = sym (laws.capped_id _ (omega (arith, c.if-c.false)))
