use mathlib.Core.Path.{sym, ◌∙◌}
use borrow.Author.Tests.{not-true, not-false}
use borrow.Author.Rules.{rules}
use Rattle.set_values.proofs.flat_range.Goals as goal

pub returns-then-not-range_ok : goal.returns-then-not-range_ok
returns-then-not-range_ok c = rw (sym c.range_ok.ensures ∙ c.if-not-range_ok.true)

pub returns : goal.returns
returns c = rw (sym c.range_ok.ensures ∙ c.if-not-range_ok.false, ← c.range_of.ensures) c.no_lf.ensures
