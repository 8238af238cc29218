use mathlib.Core.Path.{sym, ◌∙◌, ap}
use Rattle.set_marks.proofs.Values.{raw_value}
use borrow.Author.Rules.{rules}
use Rattle.set_keyed.proofs.value_is.Goals as goal

pub returns-then-is_quoted : goal.returns-then-is_quoted
returns-then-is_quoted c = rw (← raw_value, sym (c.is_quoted.ensures) ∙ c.if-is_quoted.true, ← c.raw_bytes-raw.ensures.0) (c.same_unescaped.ensures)

pub returns : goal.returns
returns c = rw (← raw_value, sym (c.is_quoted.ensures) ∙ c.if-is_quoted.false, ← c.raw_bytes-raw.ensures.0) (c.same_bytes.ensures)
