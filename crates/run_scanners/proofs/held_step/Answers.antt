use mathlib.Core.Path.{sym, ◌∙◌}
use Rattle.run_scanners.specs.Scanners.{held_step}
use borrow.Author.Rules.{rules}
use Rattle.run_scanners.proofs.held_step.Goals as goal

pub returns-then-inside : goal.returns-then-inside
unfolding held_step
returns-then-inside c = rw (sym c.is_bare.ensures ∙ c.if-is_bare.true, c.if-inside.true)

pub returns-then-is_bare : goal.returns-then-is_bare
unfolding held_step
returns-then-is_bare c = rw (sym c.is_bare.ensures ∙ c.if-is_bare.true, c.if-inside.false)

pub returns-then-inside-2 : goal.returns-then-inside-2
unfolding held_step
returns-then-inside-2 c = rw (sym c.is_bare.ensures ∙ c.if-is_bare.false, sym c.is_bare-2.ensures ∙ c.if-is_bare-2.true, c.if-inside-2.true)

pub returns-then-is_bare-2 : goal.returns-then-is_bare-2
unfolding held_step
returns-then-is_bare-2 c = rw (sym c.is_bare.ensures ∙ c.if-is_bare.false, sym c.is_bare-2.ensures ∙ c.if-is_bare-2.true, c.if-inside-2.false)

pub returns : goal.returns
unfolding held_step
returns c = rw (sym c.is_bare.ensures ∙ c.if-is_bare.false, sym c.is_bare-2.ensures ∙ c.if-is_bare-2.false, c.pass.ensures.value)
