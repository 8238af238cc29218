use mathlib.Core.Path.{sym, ◌∙◌}
use Rattle.read_by_line.proofs.Starts as laws
use Rattle.set_table.proofs.Numbers.{said}
use Rattle.read_by_line.proofs.LineNumbers.{line_no}
use borrow.Author.Rules.{rules}
use Rattle.read_by_line.proofs.parse_standalone_attrs.Goals as goal

pub returns-in-Err : goal.returns-in-Err
returns-in-Err c = said (line_no _ _) (laws.alone_none _ _ (sym c.line_start.ensures.value ∙ c.in-Err.is) c.refusing.ensures.value)

pub returns-in-Ok : goal.returns-in-Ok
returns-in-Ok c = said (line_no _ _) (laws.alone_at _ _ (sym c.line_start.ensures.value ∙ c.in-Ok.is) c.read_line.ensures)
