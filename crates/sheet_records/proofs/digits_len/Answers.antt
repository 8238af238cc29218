use native.Mathlib.Omega.{arith}
use Rattle.sheet_records.proofs.Lines as laws
use borrow.Author.Rules.{rules}
use Rattle.sheet_records.proofs.digits_len.Goals as goal

pub returns-then-n-lt10 : goal.returns-then-n-lt10
returns-then-n-lt10 c = laws.digits_are _ 1 (omega arith) (omega (arith, c.if-n-lt10.true)) (λ l. absurd (omega arith)) (omega arith)

pub returns-then-n-lt100 : goal.returns-then-n-lt100
returns-then-n-lt100 c = laws.digits_are _ 2 (omega arith) (omega (arith, c.if-n-lt100.true)) (λ l. omega (arith, c.if-n-lt10.false)) (omega arith)

pub returns-then-n-lt1000 : goal.returns-then-n-lt1000
returns-then-n-lt1000 c = laws.digits_are _ 3 (omega arith) (omega (arith, c.if-n-lt1000.true)) (λ l. omega (arith, c.if-n-lt100.false)) (omega arith)

pub returns-then-n-lt10000 : goal.returns-then-n-lt10000
returns-then-n-lt10000 c = laws.digits_are _ 4 (omega arith) (omega (arith, c.if-n-lt10000.true)) (λ l. omega (arith, c.if-n-lt1000.false)) (omega arith)

pub returns-then-n-lt100000 : goal.returns-then-n-lt100000
returns-then-n-lt100000 c = laws.digits_are _ 5 (omega arith) (omega (arith, c.if-n-lt100000.true)) (λ l. omega (arith, c.if-n-lt10000.false)) (omega arith)

pub returns : goal.returns
returns c = (c.put_decimal.ensures.value, laws.decimal_short c.put_decimal.ensures.value (omega arith))
