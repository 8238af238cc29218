use mathlib.Core.Path.{ap}
use mathlib.Core.Bool.{not}
use native.Mathlib.Omega.{arith}
use Rattle.sheet_edits.proofs.Walks as laws
use borrow.Author.Rules.{rules}
use Rattle.sheet_edits.proofs.keeps_rest.Reads as reads
use Rattle.sheet_edits.proofs.keeps_rest.Lts as lts
use Rattle.base_lists.proofs.same_bytes.Reads as same-bytes-reads
use Rattle.set_table.proofs.bytes_of.Reads as bytes-of-reads
use Rattle.sheet_edits.proofs.keeps_rest.Goals as goal

-- src/lib.rt:57:9
pub returns-then-new-behind : goal.returns-then-new-behind
returns-then-new-behind c = laws.no_room _ _ _ _ (c.if-new-behind.true)

-- src/lib.rt:61:9
pub returns-then-end-from : goal.returns-then-end-from
returns-then-end-from c = laws.overlaps _ _ _ _ (omega arith) (c.if-end-from.true)

-- src/lib.rt:67:9
pub returns-then-not-same_bytes : goal.returns-then-not-same_bytes
returns-then-not-same_bytes c = laws.front_differs _ _ _ _ (omega arith) (omega arith) c.bytes_of.ensures c.bytes_of-2.ensures c.same_bytes.ensures (ap not c.if-not-same_bytes.true)

-- src/lib.rt:51:1
pub returns : goal.returns
returns c = laws.end_tells _ _ _ _ (omega arith) (omega arith) c.bytes_of.ensures c.bytes_of-2.ensures c.same_bytes.ensures (ap not c.if-not-same_bytes.false) c.bytes_of-3.ensures c.bytes_of-4.ensures c.same_bytes-2.ensures
