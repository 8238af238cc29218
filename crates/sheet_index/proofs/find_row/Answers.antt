use Prim.Native.Nat.{◌-◌}
use native.Mathlib.Omega.{arith}
use Rattle.base_refusals.proofs.Said.{said}
use Rattle.sheet_index.specs.Finding.{look_paper}
use Rattle.sheet_index.proofs.Rows as laws
use borrow.Author.Rules.{rules}
use Rattle.sheet_index.proofs.find_row.Goals as goal

pub rows-init : goal.rows-init
rows-init c = laws.seeks_start _ _ _ _

pub returns-then-n-k : goal.returns-then-n-k
returns-then-n-k c = said look_paper (laws.row_paper _ _ _ _) (laws.seeks_many c.rows.invariant (omega (arith, c.if-n-k.true)))

pub overflow_sub-table : goal.overflow_sub-table
overflow_sub-table c = omega (arith, c.rows.invariant.within)

pub returns-then-table-i-lt5 : goal.returns-then-table-i-lt5
returns-then-table-i-lt5 c = said look_paper (laws.row_paper _ _ _ _) (laws.seeks_few c.rows.invariant (omega (arith, c.if-n-k.false)) (omega (arith, c.if-table-i-lt5.true)))

pub returns-then-has_id : goal.returns-then-has_id
returns-then-has_id c = said look_paper (laws.row_paper _ _ _ _) (laws.seeks_found c.rows.invariant (omega (arith, c.if-n-k.false)) (omega (arith, c.if-table-i-lt5.false)) c.has_id.ensures c.if-has_id.true)

pub overflow_add-k : goal.overflow_add-k
overflow_add-k c = omega (arith, c.if-n-k.false)

pub rows-preserved : goal.rows-preserved
rows-preserved c = laws.seeks_go c.rows.invariant (omega (arith, c.if-n-k.false)) (omega (arith, c.if-table-i-lt5.false)) c.has_id.ensures c.if-has_id.false
