use Rattle.sheet_tally.proofs.Counting as laws
use mathlib.Core.Path.{ap}
use borrow.Author.Rules.{rules}
use Rattle.sheet_tally.proofs.refused_sheet.Goals as goal

pub returns-then-n-eq1 : goal.returns-then-n-eq1
returns-then-n-eq1 c = ap (λ ns. record { numbers = ns }) (laws.sheet_one c.number-n.ensures c.one_sheet-t.ensures c.if-n-eq1.true)

pub returns-then-n-eq2 : goal.returns-then-n-eq2
returns-then-n-eq2 c = ap (λ ns. record { numbers = ns }) (laws.sheet_two c.number-n.ensures c.one_sheet-t.ensures c.if-n-eq1.false c.if-n-eq2.true)

pub returns : goal.returns
returns c = laws.sheet_none c.number-n.ensures c.one_sheet-t.ensures c.if-n-eq1.false c.if-n-eq2.false
