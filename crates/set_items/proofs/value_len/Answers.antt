use borrow.Author.Rules.{rules}
use Rattle.set_items.proofs.value_len.Goals as goal

pub returns-then-quoted : goal.returns-then-quoted
returns-then-quoted c = rw c.if-quoted.true c.unescaped_len.ensures

pub returns : goal.returns
returns c = rw c.if-quoted.false
