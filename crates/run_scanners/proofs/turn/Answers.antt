use mathlib.Core.Path.{sym, ◌∙◌}
use borrow.Author.Tests.{eq-eqb, ne_eqb}
use Rattle.block_grammar.specs.Close.{turned}
use borrow.Author.Rules.{rules}
use Rattle.run_scanners.proofs.turn.Goals as goal

pub returns-then-is_quote : goal.returns-then-is_quote
unfolding turned
returns-then-is_quote c = rw (c.in-None.is, sym c.is_quote.ensures ∙ c.if-is_quote.true)

pub returns-then-b-k : goal.returns-then-b-k
unfolding turned
returns-then-b-k c = rw (c.in-Some.is, eq-eqb _ _ c.if-b-k.true)

pub returns-else-is_quote : goal.returns-else-is_quote
unfolding turned
returns-else-is_quote c = rw (c.in-None.is, sym c.is_quote.ensures ∙ c.if-is_quote.false)

pub returns-else-b-k : goal.returns-else-b-k
unfolding turned
returns-else-b-k c = rw (c.in-Some.is, ne_eqb _ _ c.if-b-k.false)
