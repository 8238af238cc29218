use native.Mathlib.Omega.{arith}
use Rattle.sheet_records.proofs.Lines as laws
use borrow.Author.Rules.{rules}
use Rattle.sheet_records.proofs.numbers_size.Goals as goal

pub returns : goal.returns
returns c = let a = c.args in (omega (arith, laws.numbers_long a.line a.count a.offset, c.digits_len.ensures.0, c.digits_len-2.ensures.0, c.digits_len-3.ensures.0), omega (arith, c.digits_len.ensures.1, c.digits_len-2.ensures.1, c.digits_len-3.ensures.1))
