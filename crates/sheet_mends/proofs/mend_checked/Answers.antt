use mathlib.Core.Path.{sym, ◌∙◌}
use native.Mathlib.Omega.{arith}
use Rattle.sheet_mends.proofs.Orders as orders
use borrow.Author.Rules.{rules}
use Rattle.sheet_mends.proofs.mend_checked.Goals as goal

pub returns-then-join-lt-MAX_TEXT : goal.returns-then-join-lt-MAX_TEXT
returns-then-join-lt-MAX_TEXT c =
    let a = c.args in let r = orders.edit_join a.old.now a.new.now a.a a.b a.index.now a.table.now a.out.now a.join.now (omega (arith, c.if-join-lt-MAX_TEXT.true)) in record { value = r.0; join_after = r.1.0; table_after = r.1.1.0; out_after = r.1.1.1 }

pub mend_version-requires : goal.mend_version-requires
mend_version-requires c =
    let q = c.requires in record { len_bound = (q.len_bound.0, (q.len_bound.1, omega (arith, c.if-join-lt-MAX_TEXT.false))); all_in = q.all_in; are_again = (c.args.a, (c.args.b, sym c.lines_again.ensures.value ∙ c.in-Some.is)) }

pub returns-in-None : goal.returns-in-None
returns-in-None c =
    let a = c.args in let r = orders.edit_missing a.old.now a.new.now a.a a.b a.index.now a.table.now a.out.now a.join.now (omega (arith, c.if-join-lt-MAX_TEXT.false)) c.lines_again.ensures.value c.in-None.is in record { value = r.0; join_after = r.1.0; table_after = r.1.1.0; out_after = r.1.1.1 }

pub returns-in-Some : goal.returns-in-Some
returns-in-Some c =
    let a = c.args in let r = orders.edit_lines a.old.now a.new.now a.a a.b a.index.now a.table.now a.out.now a.join.now (omega (arith, c.if-join-lt-MAX_TEXT.false)) c.lines_again.ensures.value c.in-Some.is (c.mend_version.ensures.value, (c.mend_version.ensures.join_after, (c.mend_version.ensures.table_after, c.mend_version.ensures.out_after))) in record { value = r.0; join_after = r.1.0; table_after = r.1.1.0; out_after = r.1.1.1 }
