use Rattle.std.proofs.lemmas.Result.{err_from_is_err_and}
use mathlib.Core.Path.{sym}
use Rattle.text_checks.proofs.Texts.{text_short, passed}
use Rattle.sheet_index.proofs.Builds as laws
use borrow.Author.Rules.{rules}
use Rattle.sheet_index.proofs.build_index.Goals as goal

pub build_checked-requires : goal.build_checked-requires
build_checked-requires c = text_short _ (sym (passed _ c.check_text.ensures.value c.in_ok-check_text.was))

pub returns-in_err-check_text : goal.returns-in_err-check_text
returns-in_err-check_text c =
    let p = err_from_is_err_and c.from_residual.result c.from_residual.ensures.1 in
    rw (p.1, p.2)
    (let r = laws.builds_refused c.args.text.now c.args.join.now c.args.table.now c.args.out.now c.check_text.ensures.value c.in_err-check_text.was in record { value = r.0; join_after = r.1.0; table_after = r.1.1.0; out_after = r.1.1.1.0; result_value = r.1.1.1.1 })

pub returns : goal.returns
returns c = let r = laws.builds_passed c.args.text.now c.args.join.now c.args.table.now c.args.out.now c.check_text.ensures.value c.in_ok-check_text.was (c.build_checked.ensures.value, (c.build_checked.ensures.join_after, (c.build_checked.ensures.table_after, c.build_checked.ensures.out_after))) in record { value = r.0; join_after = r.1.0; table_after = r.1.1.0; out_after = r.1.1.1.0; result_value = r.1.1.1.1 }
