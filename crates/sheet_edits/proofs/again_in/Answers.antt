use mathlib.Core.Path.{ap}
use mathlib.Core.Bool.{not}
use Rattle.sheet_edits.proofs.Walks as laws
use borrow.Author.Rules.{rules}
use native.Mathlib.Omega.{arith}
use Rattle.sheet_edits.proofs.again_in.Reads as reads
use Rattle.sheet_edits.proofs.again_in.Lts as lts
use Rattle.set_table.proofs.bytes_of.Reads as bytes-of-reads
use Rattle.sheet_edits.proofs.is_whole.Reads as is-whole-reads
use Rattle.sheet_edits.proofs.keeps_rest.Reads as keeps-rest-reads
use Rattle.sheet_edits.proofs.last_flat.Reads as last-flat-reads
use Rattle.sheet_edits.proofs.till_flat.Reads as till-flat-reads
use Rattle.sheet_edits.proofs.again_in.Goals as goal

-- src/lib.rt:157:9
pub keeps_rest-requires : goal.keeps_rest-requires
keeps_rest-requires c = c.requires

-- src/lib.rt:158:9
pub returns-then-not-keeps_rest : goal.returns-then-not-keeps_rest
returns-then-not-keeps_rest c = laws.not_again _ _ _ _ c.keeps_rest.ensures (ap not c.if-not-keeps_rest.true)

-- src/lib.rt:160:28
pub overflow_sub-end : goal.overflow_sub-end
overflow_sub-end c = omega (arith, c.requires)

-- src/lib.rt:160:15
pub overflow_sub-end-2 : goal.overflow_sub-end-2
overflow_sub-end-2 c = omega (arith, laws.again_room _ _ _ _ c.keeps_rest.ensures (ap not c.if-not-keeps_rest.false), c.requires)

-- src/lib.rt:164:25
pub overflow_add-result : goal.overflow_add-result
overflow_add-result c = omega (arith, laws.more_le c.args.old.now c.args.to c.bytes_of-2.ensures c.till_flat-more.ensures.1, c.requires)

-- src/lib.rt:164:36
pub overflow_add-result-2 : goal.overflow_add-result-2
overflow_add-result-2 c = omega (arith, laws.more_le c.args.old.now c.args.to c.bytes_of-2.ensures c.till_flat-more.ensures.1, laws.again_room _ _ _ _ c.keeps_rest.ensures (ap not c.if-not-keeps_rest.false), c.requires)

-- src/lib.rt:153:1
pub returns : goal.returns
returns c = laws.again_lines _ _ _ _ c.keeps_rest.ensures (ap not c.if-not-keeps_rest.false) c.bytes_of.ensures c.is_whole-fresh.ensures c.bytes_of-2.ensures c.till_flat-more.ensures.0 c.bytes_of-3.ensures c.last_flat-first.ensures
