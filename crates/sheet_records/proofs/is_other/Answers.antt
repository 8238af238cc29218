use mathlib.Core.Path.{◌∙◌}
use Rattle.sheet_records.proofs.Lines as laws
use borrow.Author.Rules.{rules}
use Rattle.sheet_records.proofs.is_other.Goals as goal

pub returns-then-is_headed : goal.returns-then-is_headed
returns-then-is_headed c = laws.headed_own _ c.is_headed.ensures c.if-is_headed.true

pub returns : goal.returns
returns c = laws.numbered_other _ c.is_headed.ensures c.if-is_headed.false c.is_numbered.ensures
