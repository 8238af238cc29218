use Rattle.set_columns.proofs.Tables as laws
use mathlib.Core.Path.{sym, ◌∙◌}
use borrow.Author.Tests.{not-true, not-false}
use borrow.Author.Rules.{rules}
use Rattle.set_columns.proofs.table_columns.Goals as goal

pub returns-then-not-table_ok : goal.returns-then-not-table_ok
returns-then-not-table_ok c = let r = laws.not_formed _ _ c.check_both.ensures.value c.in-Ok.is (sym c.table_ok.ensures ∙ c.if-not-table_ok.true) c.refuse-then-not-table_ok.ensures in record { value = r.0; outcome_value = r.1 }

pub returns-in-Err : goal.returns-in-Err
returns-in-Err c = let r = laws.by_check _ _ c.check_both.ensures.value c.in-Err.is c.refuse.ensures in record { value = r.0; outcome_value = r.1 }

pub returns-else-not-table_ok : goal.returns-else-not-table_ok
returns-else-not-table_ok c = let r = laws.formed _ _ c.check_both.ensures.value c.in-Ok.is (sym c.table_ok.ensures ∙ c.if-not-table_ok.false) c.table_of.ensures in record { value = r.0; outcome_value = r.1 }
