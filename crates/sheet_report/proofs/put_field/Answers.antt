use native.Mathlib.Omega.{arith}
use Rattle.sheet_report.proofs.Laying as laying
use borrow.Author.Rules.{rules}
use Rattle.sheet_report.proofs.put_field.Goals as goal

pub overflow_add-result : goal.overflow_add-result
overflow_add-result c = omega (arith, c.put_field-k.ensures.value)

pub returns : goal.returns
returns c = laying.put_so _ _ _ c.put_field-k.ensures.value c.put_field-k.ensures.out_after
