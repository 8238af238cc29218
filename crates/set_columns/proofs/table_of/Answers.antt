use Rattle.set_columns.proofs.Tables as laws
use mathlib.Core.Path.{◌∙◌}
use native.Mathlib.Omega.{arith}
use borrow.Author.Rules.{rules}
use Rattle.set_columns.proofs.table_of.Goals as goal

pub returns-then-count-gt-MOST : goal.returns-then-count-gt-MOST
returns-then-count-gt-MOST c = c.refuse.ensures ∙ laws.many _ _ c.find-a.ensures.value c.find-v.ensures.value c.find-w.ensures.value c.count_of.ensures c.count_of-2.ensures c.count_of-3.ensures c.greater.ensures c.greater-count.ensures (omega arith)

pub returns : goal.returns
returns c = laws.some_made _ _ c.find-a.ensures.value c.find-v.ensures.value c.find-w.ensures.value c.count_of.ensures c.count_of-2.ensures c.count_of-3.ensures c.greater.ensures c.greater-count.ensures (omega arith) c.columns_of-columns.ensures
