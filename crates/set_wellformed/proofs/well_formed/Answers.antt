use mathlib.Core.Path.{sym, ◌∙◌}
use borrow.Author.Tests.{not-true, not-false}
use Rattle.set_wellformed.specs.WellFormed.{well_formed}
use borrow.Author.Rules.{rules}
use Rattle.set_wellformed.proofs.well_formed.Goals as goal

pub returns-then-not-is_text : goal.returns-then-not-is_text
unfolding well_formed
returns-then-not-is_text c = rw (sym c.is_text.ensures ∙ c.if-not-is_text.true)

pub returns-then-not-is_text-2 : goal.returns-then-not-is_text-2
unfolding well_formed
returns-then-not-is_text-2 c = rw (sym c.is_text.ensures ∙ c.if-not-is_text.false, sym c.is_text-2.ensures ∙ c.if-not-is_text-2.true)

pub returns : goal.returns
unfolding well_formed
returns c = rw (sym c.is_text.ensures ∙ c.if-not-is_text.false, sym c.is_text-2.ensures ∙ c.if-not-is_text-2.false) c.table_ok.ensures
