use native.Mathlib.Omega.{arith}
use Rattle.sheet_edits.proofs.Walks as laws
use borrow.Author.Rules.{rules}
use Rattle.sheet_edits.proofs.is_whole.Reads as reads
use Rattle.sheet_edits.proofs.is_whole.Lts as lts
use Rattle.sheet_edits.proofs.is_whole.Goals as goal

-- src/lib.rt:80:9
pub returns-then-text-eq0 : goal.returns-then-text-eq0
returns-then-text-eq0 c = laws.whole_empty _ (c.if-text-eq0.true)

-- src/lib.rt:76:1
pub returns : goal.returns
returns c = laws.whole_last _ (omega arith)
