use native.Mathlib.Omega.{arith}
use lib.Seq.{slice}
use Rattle.sheet_mends.proofs.Assembling as laws
use Rattle.sheet_mends.proofs.Orders as orders
use borrow.Author.Rules.{rules}
use Rattle.sheet_mends.proofs.mend_lines.Goals as goal

pub compare_old-seen-requires : goal.compare_old-seen-requires
compare_old-seen-requires c =
    let q = c.requires in record { len_bound = (q.len_bound.0, q.len_bound.1.1); old_parts = laws.parts_of _ _ _ _ _ q.are_again }

pub returns-then-not-seen : goal.returns-then-not-seen
returns-then-not-seen c =
    let a = c.args in
    let q = c.requires in
    let s = c.compare_old-seen in let r = orders.lines_other a.old.now a.new.now a.index.now (slice a.p a.n a.new.now) a.table.now a.out.now a.join.now (laws.good_is a.old.now a.new.now a.p a.e a.n a.index.now s.ensures.value) s.ensures.join_after c.if-not-seen.true in record { value = r.0; join_after = r.1.0; table_after = r.1.1.0; out_after = r.1.1.1 }

pub mend_seen-requires : goal.mend_seen-requires
mend_seen-requires c =
    let a = c.args in
    let q = c.requires in
    let s = c.compare_old-seen in
    laws.may_mend a.old.now a.new.now a.p a.e a.n a.index.now q.len_bound.0 q.all_in q.len_bound.1.0 q.are_again s.ensures.value s.ensures.records_le_max_text c.if-not-seen.false (omega (arith, q.len_bound.1.1, s.auto))

pub returns : goal.returns
returns c =
    let a = c.args in
    let q = c.requires in
    let s = c.compare_old-seen in
    let m = c.mend_seen.ensures in let r = orders.lines_own a.old.now a.new.now a.index.now (slice a.p a.n a.new.now) a.table.now a.out.now a.join.now (laws.good_is a.old.now a.new.now a.p a.e a.n a.index.now s.ensures.value) s.ensures.join_after c.if-not-seen.false (m.value, (m.table_after, m.out_after)) m.join_after in record { value = r.0; join_after = r.1.0; table_after = r.1.1.0; out_after = r.1.1.1 }
