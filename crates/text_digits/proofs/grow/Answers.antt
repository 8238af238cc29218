use native.Mathlib.Omega.{arith}
use Rattle.text_digits.proofs.Steps as laws
use borrow.Author.Rules.{rules}
use Rattle.text_digits.proofs.grow.Goals as goal

pub returns-then-most-digit : goal.returns-then-most-digit
returns-then-most-digit c = laws.bounded_out _ _ (omega arith)

pub returns-then-most-digit-2 : goal.returns-then-most-digit-2
returns-then-most-digit-2 c = laws.bounded_out _ _ (laws.past (c.args.most) (c.args.digit) (c.args.n) (omega arith) (omega arith))

pub returns : goal.returns
returns c = laws.bounded_in _ _ (laws.fits (c.args.most) (c.args.digit) (c.args.n) (omega arith) (omega arith))
