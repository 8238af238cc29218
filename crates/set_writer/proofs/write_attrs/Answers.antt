use Rattle.std.proofs.lemmas.Result.{err_from_is_err_and}
use mathlib.Core.Path.{◌≡◌, sym, ◌∙◌}
use borrow.Author.Tests.{not-true, not-false}
use lib.ListN.{length, length-map}
use Rattle.set_table.specs.Types.{two, max_slots}
use Rattle.set_writer.proofs.Given as given
use Rattle.set_writer.proofs.Numbers.{said, wrote_no}
use borrow.Author.Rules.{rules}
use Rattle.set_writer.proofs.write_attrs.Goals as goal

pub returns-then-not-table_ok : goal.returns-then-not-table_ok
returns-then-not-table_ok c =
    said (wrote_no _ _ _) (given.by_table (two c.args.first.now c.args.second.now) c.args.set c.args.out.now c.check_both.ensures.value c.in_ok-check_both.was (sym c.table_ok.ensures ∙ c.if-not-table_ok.true))

pub returns-then-set-eq0 : goal.returns-then-set-eq0
returns-then-set-eq0 c =
    said (wrote_no _ _ _) (given.by_none (two c.args.first.now c.args.second.now) c.args.set c.args.out.now c.check_both.ensures.value c.in_ok-check_both.was (sym c.table_ok.ensures ∙ c.if-not-table_ok.false) c.if-set-eq0.true)

pub returns-in_err-check_both : goal.returns-in_err-check_both
returns-in_err-check_both c =
    let p = err_from_is_err_and c.from_residual.result c.from_residual.ensures.1 in
    rw (p.1, p.2)
    (said (wrote_no _ _ _) (given.by_text (two c.args.first.now c.args.second.now) c.args.set c.args.out.now c.check_both.ensures.value c.in_err-check_both.was))

pub returns : goal.returns
returns c =
    let e : length c.args.set.order ≡ max_slots = c.well_formed.1.1.0.1.1.1.1.1.1.1.1.1.0.1.0.1 in
    said (wrote_no _ _ _) (given.passed (two c.args.first.now c.args.second.now) c.args.set c.args.out.now c.check_both.ensures.value c.in_ok-check_both.was (sym c.table_ok.ensures ∙ c.if-not-table_ok.false) e c.if-set-eq0.false c.write_set.ensures.value c.write_set.ensures.out_after)
