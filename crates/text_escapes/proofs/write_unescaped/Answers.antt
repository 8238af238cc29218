use native.Mathlib.Omega.{arith}
use Rattle.text_escapes.proofs.Laws as laws
use borrow.Author.Rules.{rules}
use Rattle.text_escapes.proofs.write_unescaped.Goals as goal

pub returns-then-buf-at : goal.returns-then-buf-at
returns-then-buf-at c = let r = laws.none_before _ _ _ (omega (arith, c.if-buf-at.true)) in record { value = r.0; buf_after = r.1.0; result_value = r.1.1 }

pub returns-then-buf-at-2 : goal.returns-then-buf-at-2
returns-then-buf-at-2 c = let r = laws.none_behind _ _ _ (omega (arith, c.if-buf-at.false)) (omega (arith, c.if-buf-at-2.true, c.unescaped_len.ensures)) in record { value = r.0; buf_after = r.1.0; result_value = r.1.1 }

pub returns : goal.returns
returns c = let r = laws.room _ _ _ (omega (arith, c.if-buf-at.false)) (omega (arith, c.if-buf-at-2.false, c.unescaped_len.ensures)) c.put_unescaped-to.ensures.value c.put_unescaped-to.ensures.buf_after in record { value = r.0; buf_after = r.1.0; result_value = r.1.1 }
