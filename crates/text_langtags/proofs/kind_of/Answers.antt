use mathlib.Core.Path.{sym, ◌∙◌}
use native.Mathlib.Omega.{arith}
use Rattle.text_langtags.proofs.Keys as keys
use Rattle.text_langtags.proofs.Steps.{too_long_lem}
use borrow.Author.Rules.{rules}
use Rattle.text_langtags.proofs.kind_of.Goals as goal

pub returns-then-not-h : goal.returns-then-not-h
returns-then-not-h c = keys.kind_none c.args.h.size c.args.h.x c.args.h.digit c.args.h.letters c.args.h.digits c.args.h.alnum c.if-not-h.true

pub returns-in-1 : goal.returns-in-1
returns-in-1 c = c.either.ensures ∙ keys.kind_1 c.args.h.size c.args.h.x c.args.h.digit c.args.h.letters c.args.h.digits c.args.h.alnum c.if-not-h.false c.in-1.is

pub returns-in-2 : goal.returns-in-2
returns-in-2 c = c.either-in-2.ensures ∙ keys.kind_2 c.args.h.size c.args.h.x c.args.h.digit c.args.h.letters c.args.h.digits c.args.h.alnum c.if-not-h.false c.in-2.is

pub returns-in-3 : goal.returns-in-3
returns-in-3 c = c.either-in-3-2.ensures ∙ (rw c.either-in-3.ensures (keys.kind_3 c.args.h.size c.args.h.x c.args.h.digit c.args.h.letters c.args.h.digits c.args.h.alnum c.if-not-h.false c.in-3.is))

pub returns-in-4 : goal.returns-in-4
returns-in-4 c = c.either-in-4-2.ensures ∙ (rw c.either-in-4.ensures (keys.kind_4 c.args.h.size c.args.h.x c.args.h.digit c.args.h.letters c.args.h.digits c.args.h.alnum c.if-not-h.false c.in-4.is))

pub returns-in-5-to-8 : goal.returns-in-5-to-8
returns-in-5-to-8 c = c.either-in-5-to-8.ensures ∙ keys.kind_5 c.args.h.size c.args.h.x c.args.h.digit c.args.h.letters c.args.h.digits c.args.h.alnum c.if-not-h.false (omega arith) (omega arith)

pub returns-in_default : goal.returns-in_default
returns-in_default c = keys.kind_0 c.args.h.size c.args.h.x c.args.h.digit c.args.h.letters c.args.h.digits c.args.h.alnum c.if-not-h.false (omega arith)

pub returns-in_default-2 : goal.returns-in_default-2
returns-in_default-2 c = sym (too_long_lem c.args.h.size c.args.h.x c.args.h.digit c.args.h.letters c.args.h.digits c.args.h.alnum (omega arith))
