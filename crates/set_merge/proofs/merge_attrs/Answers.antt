use mathlib.Core.Path.{ap}
use mathlib.Core.Bool.{not}
use mathlib.Core.Path.{sym, ◌∙◌}
use borrow.Author.Tests.{not-true, not-false}
use Rattle.set_table.specs.Types.{two}
use Rattle.set_merge.proofs.Whole as whole
use Rattle.set_table.proofs.Numbers.{said}
use Rattle.set_merge.proofs.Numbers.{merge_no}
use borrow.Author.Rules.{rules}
use Rattle.set_merge.proofs.merge_attrs.Goals as goal

pub returns-then-not-table_ok : goal.returns-then-not-table_ok
returns-then-not-table_ok c = said (merge_no _ _ _) (whole.first_bad _ _ _ c.check_both.ensures.value c.in-Ok.is (sym c.table_ok.ensures ∙ c.if-not-table_ok.true) c.refusing-then-not-table_ok.ensures.value)

pub returns-then-not-table_ok-2 : goal.returns-then-not-table_ok-2
returns-then-not-table_ok-2 c =
    said (merge_no _ _ _) (whole.second_bad _ _ _ c.check_both.ensures.value c.in-Ok.is (sym c.table_ok.ensures ∙ not-false _
    (ap not c.if-not-table_ok.false)) (sym c.table_ok-in-Ok.ensures ∙ c.if-not-table_ok-2.true) c.refusing-then-not-table_ok-2.ensures.value)

pub cleaned-requires : goal.cleaned-requires
cleaned-requires c =
    whole.counts (two c.args.first.now c.args.second.now) _ (sym c.table_ok.ensures ∙ c.if-not-table_ok.false)

pub merge_rows-requires : goal.merge_rows-requires
merge_rows-requires c =
    (whole.held_clean (two c.args.first.now c.args.second.now) _ (sym c.table_ok.ensures ∙ c.if-not-table_ok.false) c.cleaned.ensures, whole.sound (two c.args.first.now c.args.second.now) _ (sym c.table_ok-in-Ok.ensures ∙ c.if-not-table_ok-2.false))

pub returns-in-Err : goal.returns-in-Err
returns-in-Err c = said (merge_no _ _ _) (whole.by_check _ _ _ c.check_both.ensures.value c.in-Err.is c.refusing.ensures.value)

pub returns-else-not-table_ok-2 : goal.returns-else-not-table_ok-2
returns-else-not-table_ok-2 c =
    said (merge_no _ _ _) (whole.both_good _ _ _ c.check_both.ensures.value c.in-Ok.is (sym c.table_ok.ensures ∙ c.if-not-table_ok.false) (sym
    c.table_ok-in-Ok.ensures ∙ c.if-not-table_ok-2.false) c.cleaned.ensures c.merge_rows.ensures)
