use borrow.Author.Rules.{rules}
use Rattle.sheet_stands.proofs.same_id.Reads as reads
use Rattle.sheet_stands.proofs.same_id.Lts as lts
use Rattle.base_lists.proofs.same_bytes.Reads as same-bytes-reads
use Rattle.text_escapes.proofs.same_unescaped.Reads as same-unescaped-reads
use Rattle.sheet_stands.proofs.same_id.Goals as goal

-- src/lib.rt:18:9
pub returns-then-quoted : goal.returns-then-quoted
returns-then-quoted c = rw c.if-quoted.true c.same_unescaped.ensures

-- src/lib.rt:14:1
pub returns : goal.returns
returns c = rw c.if-quoted.false c.same_bytes.ensures
