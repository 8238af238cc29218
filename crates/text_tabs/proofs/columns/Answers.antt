use native.Mathlib.Omega.{arith}
use borrow.Author.Rules.{rules}
use Rattle.text_tabs.proofs.Laws.{columns_fold}
use Rattle.text_tabs.proofs.columns.Goals as goal

pub returns : goal.returns
returns c = rw (columns_fold c.args.c c.args.s.now (omega arith)) (search rules)
