use borrow.Author.Rules.{rules}
use Rattle.text_lines.proofs.Lines as laws
use Rattle.text_lines.proofs.line_from.Goals as goal

-- `line_from`: no LF, an LF at once, an LF with a CR before it, an LF without. Assumes nothing.

pub returns-then-text-end : goal.returns-then-text-end
returns-then-text-end c = laws.from_open _ _ _ c.line_feed-end.ensures c.if-text-end.true

pub returns-then-at-end : goal.returns-then-at-end
returns-then-at-end c = laws.from_empty _ _ _ c.line_feed-end.ensures c.if-text-end.false c.if-at-end.true

pub returns-then-text-end-eq13 : goal.returns-then-text-end-eq13
returns-then-text-end-eq13 c = laws.from_cr _ _ _ c.line_feed-end.ensures c.if-text-end.false c.if-at-end.false c.if-text-end-eq13.true

pub returns : goal.returns
returns c = laws.from_lf _ _ _ c.line_feed-end.ensures c.if-text-end.false c.if-at-end.false c.if-text-end-eq13.false
