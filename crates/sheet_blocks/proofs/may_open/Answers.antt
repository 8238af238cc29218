use mathlib.Core.Path.{◌∙◌}
use Rattle.sheet_blocks.proofs.Tries as laws
use borrow.Author.Rules.{rules}
use Rattle.sheet_blocks.proofs.may_open.Goals as goal

pub returns-then-text-at : goal.returns-then-text-at
returns-then-text-at c = laws.opener_none _ _ c.if-text-at.true

pub returns-in-12 : goal.returns-in-12
returns-in-12 c = laws.opener_yes _ _ c.if-text-at.false c.in-12.is

pub returns-in-13 : goal.returns-in-13
returns-in-13 c = c.lacks_lf.ensures ∙ laws.opener_cr _ _ c.if-text-at.false c.in-13.is

pub returns-in_default : goal.returns-in_default
returns-in_default c = laws.opener_no _ _ c.if-text-at.false c.in_default.in_default-own.rest.0.1 c.in_default.in_default-own.rest.1
