use mathlib.Core.Path.{sym, ◌∙◌}
use native.Mathlib.Omega.{arith}
use borrow.Author.Tests.{not-true, not-false}
use Rattle.sheet_records.proofs.Lines as laws
use borrow.Author.Rules.{rules}
use Rattle.sheet_records.proofs.is_numbered.Goals as goal

-- `is_numbered` reads what stands before the number, the number, and the LF. Assumes nothing.

pub returns-then-not-same_bytes : goal.returns-then-not-same_bytes
returns-then-not-same_bytes c = laws.numbered_no _ c.bytes_of-first.ensures c.same_bytes.ensures (c.if-not-same_bytes.true)

pub returns-then-index-p : goal.returns-then-index-p
returns-then-index-p c =
    laws.numbered_past _ c.bytes_of-first.ensures c.same_bytes.ensures (c.if-not-same_bytes.false) (sym c.field_at-number.ensures ∙ c.in-Some.is) (omega (arith, c.if-index-p.true))

pub returns-in-None : goal.returns-in-None
returns-in-None c =
    laws.numbered_bad _ c.bytes_of-first.ensures c.same_bytes.ensures (c.if-not-same_bytes.false) (sym c.field_at-number.ensures ∙ c.in-None.is)

pub returns-else-index-p : goal.returns-else-index-p
returns-else-index-p c =
    laws.numbered_byte _ c.bytes_of-first.ensures c.same_bytes.ensures (c.if-not-same_bytes.false) (sym c.field_at-number.ensures ∙ c.in-Some.is) (omega (arith, c.if-index-p.false))
