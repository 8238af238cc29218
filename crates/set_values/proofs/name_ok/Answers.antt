use mathlib.Core.Path.{sym, ◌∙◌}
use borrow.Author.Tests.{not-true, not-false}
use Rattle.set_table.specs.Types.{name_bytes}
use Rattle.set_values.specs.Values.{name_ok}
use Rattle.set_values.proofs.Keys.{lang_key}
use borrow.Author.Rules.{rules}
use Rattle.set_values.proofs.name_ok.Goals as goal

pub returns-then-not-range_ok : goal.returns-then-not-range_ok
unfolding name_ok
returns-then-not-range_ok c = rw (c.in-Range.is, sym c.range_ok.ensures ∙ c.if-not-range_ok.true)

pub returns-else-not-range_ok : goal.returns-else-not-range_ok
unfolding name_ok name_bytes
returns-else-not-range_ok c = rw (c.in-Range.is, sym c.range_ok.ensures ∙ c.if-not-range_ok.false, ← c.range_of.ensures) c.key_name.ensures

pub returns-in-Lang : goal.returns-in-Lang
unfolding name_ok name_bytes
returns-in-Lang c = rw c.in-Lang.is (sym lang_key)
