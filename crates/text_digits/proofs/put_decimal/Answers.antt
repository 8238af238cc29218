use Rattle.text_digits.proofs.Decimals.{written_is, written_long}
use borrow.Author.Rules.{rules}
use Rattle.text_digits.proofs.put_decimal.Goals as goal

pub returns : goal.returns
returns c = record { value = written_long c.args.n c.decimal-k.ensures.len c.decimal-k.ensures.digits; out_after = rw (written_is c.args.n c.decimal-k.ensures.len c.decimal-k.ensures.digits) at c.put_bytes.ensures }
