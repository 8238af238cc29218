use Rattle.base_refusals.specs.Numbers.{outcome_no}
use Rattle.base_refusals.proofs.Said.{said}
use Rattle.sheet_records.specs.Records.{index_version}
use Rattle.sheet_records.proofs.Lines as laws
use borrow.Author.Rules.{rules}
use Rattle.sheet_records.proofs.head_of.Goals as goal

pub returns-then-is_headed : goal.returns-then-is_headed
returns-then-is_headed c = said outcome_no (laws.head_no _) (laws.headed-passes index_version _ c.is_headed.ensures c.if-is_headed.true)

pub returns-then-is_numbered : goal.returns-then-is_numbered
returns-then-is_numbered c = said outcome_no (laws.head_no _) (laws.other_refused _ c.is_headed.ensures c.if-is_headed.false c.is_numbered.ensures c.if-is_numbered.true)

pub returns : goal.returns
returns c = said outcome_no (laws.head_no _) (laws.head_refused _ c.is_headed.ensures c.if-is_headed.false c.is_numbered.ensures c.if-is_numbered.false)
