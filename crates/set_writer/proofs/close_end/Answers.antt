use mathlib.Core.List.{[]}
use Rattle.set_writer.proofs.Items as items
use borrow.Author.Rules.{rules}
use Rattle.set_writer.proofs.close_end.Goals as goal

pub returns-then-at-eq0 : goal.returns-then-at-eq0
returns-then-at-eq0 c = (items.close_none [] _ (c.if-at-eq0.true)).0

pub returns : goal.returns
returns c = (items.close_some [] _ (c.if-at-eq0.false)).0
