use Rattle.block_trimmed_line.proofs.Trimmed as laws
use borrow.Author.Rules.{rules}
use Rattle.block_trimmed_line.proofs.ends_in_close.Goals as goal

pub returns-then-n-eq0 : goal.returns-then-n-eq0
returns-then-n-eq0 c = laws.no_close c.args.line.now c.if-n-eq0.true

pub returns : goal.returns
returns c = laws.close_is c.args.line.now c.if-n-eq0.false
