use mathlib.Core.Path.{sym, ◌∙◌}
use Rattle.sheet_valves.specs.Inner.{key_no}
use borrow.Author.Rules.{rules}
use Rattle.sheet_valves.proofs.key_no.Goals as goal

pub returns-then-is_named : goal.returns-then-is_named
unfolding key_no
returns-then-is_named c = rw (sym c.is_named.ensures ∙ c.if-is_named.true)

pub returns-then-is_named-2 : goal.returns-then-is_named-2
unfolding key_no
returns-then-is_named-2 c = rw (sym c.is_named.ensures ∙ c.if-is_named.false, sym c.is_named-2.ensures ∙ c.if-is_named-2.true)

pub returns-then-is_named-3 : goal.returns-then-is_named-3
unfolding key_no
returns-then-is_named-3 c = rw (sym c.is_named.ensures ∙ c.if-is_named.false, sym c.is_named-2.ensures ∙ c.if-is_named-2.false, sym c.is_named-3.ensures ∙ c.if-is_named-3.true)

pub returns : goal.returns
unfolding key_no
returns c = rw (sym c.is_named.ensures ∙ c.if-is_named.false, sym c.is_named-2.ensures ∙ c.if-is_named-2.false, sym c.is_named-3.ensures ∙ c.if-is_named-3.false)
