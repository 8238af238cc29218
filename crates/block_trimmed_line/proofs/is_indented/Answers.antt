use mathlib.Core.Path.{◌∙◌}
use Rattle.block_trimmed_line.proofs.Trimmed as laws
use borrow.Author.Rules.{rules}
use Rattle.block_trimmed_line.proofs.is_indented.Goals as goal

pub returns-then-text-at : goal.returns-then-text-at
returns-then-text-at c = laws.no_indent _ _ c.if-text-at.true

pub returns : goal.returns
returns c = c.is_indent.ensures ∙ laws.indent_is _ _ c.if-text-at.false
