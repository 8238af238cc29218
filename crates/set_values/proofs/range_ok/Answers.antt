use mathlib.Core.Path.{sym, ◌∙◌}
use borrow.Author.Tests.{not-true, not-false, le-leb, lt-leb}
use Rattle.set_values.specs.Values.{range_ok}
use borrow.Author.Rules.{rules}
use Rattle.set_values.proofs.range_ok.Goals as goal

pub returns-then-to-from : goal.returns-then-to-from
unfolding range_ok
returns-then-to-from c = rw (lt-leb _ _ c.if-to-from.true)

pub returns-then-not-is_char_boundary : goal.returns-then-not-is_char_boundary
unfolding range_ok
returns-then-not-is_char_boundary c = rw (le-leb _ _ c.if-to-from.false, ← c.text_of-text.ensures, sym c.is_char_boundary.ensures ∙ c.if-not-is_char_boundary.true)

pub returns : goal.returns
unfolding range_ok
returns c = rw (le-leb _ _ c.if-to-from.false, ← c.text_of-text.ensures, sym c.is_char_boundary.ensures ∙ c.if-not-is_char_boundary.false) c.is_char_boundary-2.ensures
