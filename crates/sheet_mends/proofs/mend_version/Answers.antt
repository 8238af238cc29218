use lib.Seq.{slice}
use Rattle.sheet_mends.proofs.Orders as orders
use borrow.Author.Rules.{rules}
use Rattle.sheet_mends.proofs.mend_version.Goals as goal

pub returns-then-is_other : goal.returns-then-is_other
returns-then-is_other c =
    let a = c.args in let r = orders.version_other a.old.now a.new.now a.index.now (slice a.p a.n a.new.now) a.table.now a.out.now a.join.now c.is_other.ensures c.if-is_other.true in record { value = r.0; join_after = r.1.0; table_after = r.1.1.0; out_after = r.1.1.1 }

pub returns : goal.returns
returns c =
    let a = c.args in let r = orders.version_own a.old.now a.new.now a.index.now (slice a.p a.n a.new.now) a.table.now a.out.now a.join.now c.is_other.ensures c.if-is_other.false (c.mend_lines.ensures.value, (c.mend_lines.ensures.join_after, (c.mend_lines.ensures.table_after, c.mend_lines.ensures.out_after))) in record { value = r.0; join_after = r.1.0; table_after = r.1.1.0; out_after = r.1.1.1 }
