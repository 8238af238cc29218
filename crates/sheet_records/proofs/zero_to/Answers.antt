use mathlib.Core.Path.{sym, ◌∙◌}
use native.Mathlib.Omega.{arith}
use Rattle.sheet_records.proofs.Places as laws
use borrow.Author.Rules.{rules}
use Rattle.sheet_records.proofs.zero_to.Goals as goal

pub returns-then-index-next : goal.returns-then-index-next
returns-then-index-next c = c.up_from.ensures ∙ laws.numbers_end (laws.zero_starts _ _ _) (omega (arith, c.if-index-next.true))

pub returns-then-is_digit : goal.returns-then-is_digit
returns-then-is_digit c = laws.zero_bad _ _ _ (omega (arith, c.if-index-next.false)) (sym c.is_digit.ensures ∙ c.if-is_digit.true)

pub returns : goal.returns
returns c = c.up_from-2.ensures ∙ laws.numbers_stop (laws.zero_starts _ _ _) (omega (arith, c.if-index-next.false)) (sym c.is_digit.ensures ∙ c.if-is_digit.false)
