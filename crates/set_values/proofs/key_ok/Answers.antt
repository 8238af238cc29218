use mathlib.Core.Path.{sym, ◌∙◌}
use borrow.Author.Tests.{not-true, not-false}
use Rattle.set_values.proofs.Keys.{key_refused, key_passed}
use borrow.Author.Rules.{rules}
use Rattle.set_values.proofs.key_ok.Goals as goal

pub returns-then-not-name_ok : goal.returns-then-not-name_ok
returns-then-not-name_ok c = key_refused _ _ (sym c.name_ok.ensures ∙ c.if-not-name_ok.true)

pub returns : goal.returns
returns c = key_passed _ _ (sym c.name_ok.ensures ∙ c.if-not-name_ok.false) c.value_ok.ensures
