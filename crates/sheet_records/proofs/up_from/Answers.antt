use native.Mathlib.Omega.{arith}
use Rattle.sheet_records.proofs.Places as laws
use Rattle.sheet_records.proofs.up_from.Goals as goal

pub returns-then-n-least : goal.returns-then-n-least
returns-then-n-least c = laws.number_low _ _ _ (omega (arith, c.if-n-least.true))

pub returns : goal.returns
returns c = laws.number_up _ _ _ (omega (arith, c.if-n-least.false))
