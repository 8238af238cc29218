use mathlib.Core.Path.{ap}
use lib.Dec.{eqb}
use borrow.Author.Rules.{rules}
use Rattle.sheet_findings.proofs.is_clear.Reads as reads
use Rattle.sheet_findings.proofs.is_clear.Lts as lts
use Rattle.sheet_findings.proofs.kind_number.Reads as kind-number-reads
use Rattle.sheet_findings.proofs.is_clear.Goals as goal

-- src/lib.rt:303:1
pub returns : goal.returns
returns c = ap (λ n. eqb n 0) c.kind_number.ensures
