use native.Mathlib.Omega.{arith}
use Rattle.sheet_report.proofs.Entries as entries
use borrow.Author.Rules.{rules}
use Rattle.sheet_report.proofs.may_begin.Goals as goal

pub returns-then-text-at : goal.returns-then-text-at
returns-then-text-at c = entries.begins_far c.args.text.now c.args.at c.args.line (omega (arith, c.if-text-at.true))

pub returns-then-line-eq0 : goal.returns-then-line-eq0
returns-then-line-eq0 c =
    entries.begins_none c.args.text.now c.args.at c.args.line c.if-line-eq0.true

pub returns-then-at-line : goal.returns-then-at-line
returns-then-at-line c = entries.begins-over c.args.text.now c.args.at c.args.line (omega (arith, c.if-at-line.true))

pub returns : goal.returns
returns c =
    entries.begins_is c.args.text.now c.args.at c.args.line (omega (arith, c.if-text-at.false)) c.if-line-eq0.false (omega (arith, c.if-at-line.false)) c.begins_line.ensures
