use native.Mathlib.Omega.{arith}
use Rattle.sheet_records.proofs.Places as laws
use Rattle.sheet_records.proofs.is_digit.Goals as goal

pub returns-then-b-lt48 : goal.returns-then-b-lt48
returns-then-b-lt48 c = laws.digit_below _ (omega (arith, c.if-b-lt48.true))

pub returns : goal.returns
returns c = laws.digit_from _ (omega (arith, c.if-b-lt48.false))
