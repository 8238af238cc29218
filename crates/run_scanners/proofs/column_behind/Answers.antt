use borrow.Author.Tests.{eq-eqb, ne_eqb, not-true, not-false}
use borrow.Author.Rules.{rules}
use Rattle.run_scanners.proofs.column_behind.Goals as goal

pub returns-then-not-escaped : goal.returns-then-not-escaped
returns-then-not-escaped c = rw (c.if-not-escaped.true) c.column_after.ensures

pub returns-then-b-eq9 : goal.returns-then-b-eq9
returns-then-b-eq9 c = rw (c.if-not-escaped.false, eq-eqb _ _ c.if-b-eq9.true) c.column_after-then-b-eq9.ensures

pub returns : goal.returns
returns c = rw (c.if-not-escaped.false, ne_eqb _ _ c.if-b-eq9.false) c.column_after-2.ensures
