use Rattle.block_trimmed_line.proofs.Trimmed as laws
use borrow.Author.Rules.{rules}
use Rattle.block_trimmed_line.proofs.begins_open.Goals as goal

pub returns-then-line-eq0 : goal.returns-then-line-eq0
returns-then-line-eq0 c = laws.no_open c.args.line.now c.if-line-eq0.true

pub returns : goal.returns
returns c = laws.open_is c.args.line.now c.if-line-eq0.false
