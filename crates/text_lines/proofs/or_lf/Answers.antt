use borrow.Author.Rules.{rules}
use Rattle.text_lines.proofs.or_lf.Goals as goal

pub returns : goal.returns
returns c = rw c.if-found.false
