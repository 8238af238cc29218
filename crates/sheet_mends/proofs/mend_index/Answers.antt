use Rattle.std.proofs.lemmas.Result.{err_from_is_err_and}
use Rattle.text_checks.proofs.Texts.{text_short}
use Rattle.proved_index.proofs.Built.{sheet_in_range}
use Rattle.sheet_mends.proofs.Orders as orders
use borrow.Author.Rules.{rules}
use Rattle.sheet_mends.proofs.mend_index.Goals as goal

pub mend_checked-requires : goal.mend_checked-requires
mend_checked-requires c =
    let a = c.args in
    let t = orders.both_texts a.old.now a.new.now c.check_both.ensures.value c.in_ok-check_both.was in record { len_bound = (text_short a.old.now t.0, text_short a.new.now t.1); all_in = sheet_in_range a.old.now t.0 }

pub returns-in_err-check_both : goal.returns-in_err-check_both
returns-in_err-check_both c =
    let p = err_from_is_err_and c.from_residual.result c.from_residual.ensures.1 in
    rw (p.1, p.2)
    (let a = c.args in let r = orders.mend_refused a.old.now a.new.now a.a a.b a.index.now a.table.now a.out.now a.join.now c.check_both.ensures.value c.in_err-check_both.was in record { value = r.0; join_after = r.1.0; table_after = r.1.1.0; out_after = r.1.1.1.0; result_value = r.1.1.1.1 })

pub returns : goal.returns
returns c =
    let a = c.args in let r = orders.mend_passed a.old.now a.new.now a.a a.b a.index.now a.table.now a.out.now a.join.now c.check_both.ensures.value c.in_ok-check_both.was (c.mend_checked.ensures.value, (c.mend_checked.ensures.join_after, (c.mend_checked.ensures.table_after, c.mend_checked.ensures.out_after))) in record { value = r.0; join_after = r.1.0; table_after = r.1.1.0; out_after = r.1.1.1.0; result_value = r.1.1.1.1 }
