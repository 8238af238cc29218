use native.Mathlib.Numerals.{add-one}
use borrow.Author.Rules.{rules}
use Rattle.sheet_records.proofs.row_of.Goals as goal

pub returns-then-given : goal.returns-then-given
returns-then-given c = rw (c.if-given.true, add-one)

pub returns : goal.returns
returns c = rw c.if-given.false
