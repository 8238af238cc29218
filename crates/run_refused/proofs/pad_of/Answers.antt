use borrow.Author.Tests.{eq-eqb, ne_eqb}
use native.Mathlib.Numerals.{add-one}
use borrow.Author.Rules.{rules}
use Rattle.run_refused.proofs.pad_of.Goals as goal

pub returns-then-n-eq0 : goal.returns-then-n-eq0
returns-then-n-eq0 c = rw (eq-eqb _ _ (c.if-n-eq0.true))

pub returns : goal.returns
returns c = rw (ne_eqb _ _ (c.if-n-eq0.false), c.larger.ensures, c.beyond-2.ensures, c.larger-least.ensures, c.beyond.ensures, add-one)
