use mathlib.Core.Path.{sym, ◌∙◌, ap}
use Rattle.run_scanners.specs.Scanners.{seek_step}
use borrow.Author.Rules.{rules}
use Rattle.run_scanners.proofs.seek_step.Goals as goal

pub returns-then-is_bare : goal.returns-then-is_bare
unfolding seek_step
returns-then-is_bare c = rw (sym c.is_bare.ensures ∙ c.if-is_bare.true, c.pass-scan.ensures.value, c.column_behind-column.ensures, ap (λ j. j.column) c.requires)

pub returns : goal.returns
unfolding seek_step
returns c = rw (sym c.is_bare.ensures ∙ c.if-is_bare.false, c.pass-scan.ensures.value, c.column_behind-column.ensures, ap (λ j. j.found) c.requires)
